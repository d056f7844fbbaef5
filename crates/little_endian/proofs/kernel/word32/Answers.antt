-- Its low and its high half make the number.
use Rattle.std.proofs.Common.{ℕ, ◌+◌, ◌*◌, ◌∙◌, arith}
use mathlib.Core.Path.{ap₂}
use Rattle.little_endian.proofs.Joined.{joined}
use Rattle.little_endian.proofs.kernel.word32.Goals as goal

pub returns : goal.returns
returns c = (ap₂ (λ (x y : ℕ). x + 65536 * y) c.word16.ensures.0 c.word16-2.ensures.0 ∙ joined 2 2 _ _, omega arith)
