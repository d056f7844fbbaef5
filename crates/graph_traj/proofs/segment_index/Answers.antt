-- `segment_index` meets its contract: where its checks accept, the breakpoints and the time are what the search asks. Assumes nothing.
use Rattle.std.specs.Prelude.{Err}
use Rattle.std.proofs.Common.{sym, ap, ◌∙◌}
use Rattle.std.proofs.lemmas.Result.{err_from_is_err_and}
use Rattle.graph_traj_breakpoints.proofs.LookupSound.{lookup-accepted}
use Rattle.graph_traj.proofs.LookupAnswer.{segment-given, segment-refused}
use Rattle.graph_traj.proofs.segment_index.Goals as goal

pub returns-in_err-check_lookup : goal.returns-in_err-check_lookup
returns-in_err-check_lookup c =
    let handed = err_from_is_err_and _ c.from_residual.ensures.1 in
    segment-refused (handed.1 ∙ ap Err handed.2) c.in_err-check_lookup.ensures

pub segment_index_binary-requires : goal.segment_index_binary-requires
segment_index_binary-requires c = (lookup-accepted _ _ _).0 (sym c.in_ok-check_lookup.ensures)

pub returns : goal.returns
returns c = segment-given c.in_ok-check_lookup.ensures c.segment_index_binary.ensures
