-- `digits_test` meets its contract: where the sign bit of both differences is set neither is below 0, which is what makes r nearest.
use Rattle.square_root_digits_test.proofs.Square.{tested}
use Rattle.square_root_digits_test.proofs.kernel.digits_test.Goals as goal

pub returns : goal.returns
returns c = let r = c.args.root in tested c.args.radicand r.digits r.in_range.0 r.in_range.1
