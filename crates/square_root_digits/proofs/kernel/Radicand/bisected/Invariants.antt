-- The low end's product is below, the high end's is not, and the two stay apart. The interval halves, so the measure is its length.
use Rattle.std.proofs.Common.{◌+◌, ◌-◌, ◌*◌, ◌^◌, ◌≤◌, ◌<◌}
use Rattle.square_root_digits.proofs.kernel.Radicand.bisected.Given as goal

abbrev pub invariant-loop-high : goal.invariant-loop-high
invariant-loop-high l = record {
  apart : l.low < l.high;
  within : l.high ≤ 2 ^ 53;
  below : l.low * (l.low + 1) < l.self.digits * 2 ^ 52;
  above : l.self.digits * 2 ^ 52 ≤ l.high * (l.high + 1);
}

abbrev pub decreases-loop-high : goal.decreases-loop-high
decreases-loop-high l = l.high - l.low
