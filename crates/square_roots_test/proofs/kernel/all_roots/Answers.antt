-- `all_roots` meets its contract: where the sign bit is left after the last place, every root is right.
use borrow.Author.Tests.{leb-true}
use Rattle.square_roots_test.proofs.Tested.{roots-all}
use Rattle.square_roots_test.proofs.kernel.all_roots.Goals as goal

pub returns : goal.returns
returns c = λ yes. roots-all _ _ c.requires c.loop-i-test.false c.loop-i.invariant (leb-true _ _ yes)
