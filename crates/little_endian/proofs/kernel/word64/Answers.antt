-- Its low and its high half make the number.
use Rattle.std.proofs.Common.{ℕ, ◌+◌, ◌*◌, ◌∙◌}
use mathlib.Core.Path.{ap₂}
use Rattle.little_endian.proofs.Joined.{joined}
use Rattle.little_endian.proofs.kernel.word64.Goals as goal

pub returns : goal.returns
returns c = ap₂ (λ (x y : ℕ). x + 4294967296 * y) c.word32.ensures.0 c.word32-2.ensures.0 ∙ joined 4 4 _ _
