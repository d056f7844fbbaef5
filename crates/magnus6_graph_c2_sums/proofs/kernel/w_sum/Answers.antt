-- `magnus6_graph_c2_sums::kernel::w_sum` meets its contract: the closure forms the sum at each place. Assumes nothing.
use Rattle.std.proofs.Common.{◌*◌, rules, ◌∙◌, ap}
use Rattle.std.specs.Float.{binary64}
use Rattle.arithmetic.specs.Arithmetic.{ieee}
use Rattle.scratch.specs.Parts.{put}
use Rattle.magnus6_graph_parts.proofs.Omega6Walks.{twice_first_plus_of, twice-first-plus-walk}
use Rattle.magnus6_graph_c2_sums.proofs.kernel.w_sum.Goals as goal

pub returns : goal.returns
returns c =
    c.combine_within.ensures (twice_first_plus_of (ieee binary64)) (λ b3 c1 r called. search rules)
    ∙ ap (λ v. put (14 * c.args.n) v c.args.work.now) (twice-first-plus-walk (ieee binary64) _ _ _)
