-- `segment_index_binary` meets its contract: the segments that start at t or before it come first, and the library counts them; the last
-- of them is the one in which t lies. Assumes nothing.
use Rattle.std.proofs.Common.{rules}
use Rattle.std.specs.Float.Ieee.{le}
use Rattle.std.proofs.lemmas.List.Sorted.{IsPartitionPoint-from_clause}
use Rattle.graph_traj.proofs.Lookup.{starts-parted, some-start, last-start}
use Rattle.graph_traj.proofs.kernel.segment_index_binary.Goals as goal

pub overflow_sub-result : goal.overflow_sub-result
overflow_sub-result c =
    let parted = starts-parted c.args.t c.requires.0 in
    some-start c.args.t c.requires.0 c.requires.1 c.partition_point.ensures.bound
    (IsPartitionPoint-from_clause (λ x. le x c.args.t) _ _ c.partition_point.ensures.partitioned parted (λ a r q called. search rules))

pub returns : goal.returns
returns c =
    let parted = starts-parted c.args.t c.requires.0 in
    last-start c.args.t c.requires.0 c.requires.1 c.partition_point.ensures.bound
    (IsPartitionPoint-from_clause (λ x. le x c.args.t) _ _ c.partition_point.ensures.partitioned parted (λ a r q called. search rules))
