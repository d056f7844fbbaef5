-- `float::is_finite` meets its contract: it is the library's test.
use mathlib.Core.Path.{◌∙◌}
use Rattle.float.proofs.Finite.{library-finite}
use Rattle.float.proofs.is_finite.Goals as goal

pub returns : goal.returns
returns c = c.is_finite.ensures.value ∙ library-finite c.args.x
