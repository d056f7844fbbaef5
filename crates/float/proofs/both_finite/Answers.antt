-- `float::both_finite` meets its contract: its test is `finite-by-two-differences`.
use Rattle.float.proofs.Finite.{finite-by-two-differences}
use Rattle.float.proofs.both_finite.Goals as goal

pub returns : goal.returns
returns c = finite-by-two-differences c.args.x c.args.y
