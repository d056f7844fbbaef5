-- `exceeds` meets its contract: r is split at 2^26, and the whole part of r (r + 1) / 2^52 is below the radicand exactly where r (r + 1) is
-- below the radicand times 2^52.
use Rattle.ieee_square_root.proofs.Digits.{compared}
use Rattle.square_root_digits.proofs.kernel.exceeds.Goals as goal

pub returns : goal.returns
returns c = compared c.args.r c.args.radicand
