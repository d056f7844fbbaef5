-- Two bytes make the number.
use Rattle.std.proofs.Common.{ℕ, ◌+◌, ◌*◌, ◌∙◌, arith}
use mathlib.Core.Path.{ap₂}
use Rattle.little_endian.proofs.Joined.{two}
use Rattle.little_endian.proofs.kernel.word16.Goals as goal

pub returns : goal.returns
returns c = (ap₂ (λ (x y : ℕ). x + 256 * y) c.byte.ensures.0 c.byte-2.ensures.0 ∙ two _ _, omega arith)
