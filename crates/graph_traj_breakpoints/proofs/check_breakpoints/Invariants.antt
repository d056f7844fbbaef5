-- Every breakpoint before the turn's is finite and above its predecessor, and the turn's predecessor is at hand. Assumes nothing.
use Rattle.std.proofs.Common.{◌≡◌, length}
use Rattle.graph_checks.proofs.First.{Passed}
use Rattle.graph_traj_breakpoints.specs.LookupChecks.{not_rising_at}
use Rattle.graph_traj_breakpoints.proofs.Rising.{predecessor}
use Rattle.graph_traj_breakpoints.proofs.check_breakpoints.Given as goal

abbrev pub invariant-loop-x : goal.invariant-loop-x
invariant-loop-x l =
    Passed (not_rising_at l.breakpoints) (length l.breakpoints) l.x-index × (l.predecessor ≡ predecessor l.breakpoints l.x-index)
