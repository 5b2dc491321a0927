-- What is packed into the number of a route is read out of it again.
use Rattle.std.proofs.Common.{arith}
use Rattle.address_map.specs.CodeRoute.{bank_in, first_in, bits_in}
use Rattle.address_map.proofs.routes.packed.Goals as goal

pub returns : goal.returns
unfolding bank_in first_in bits_in
returns c = (omega arith, omega arith, omega arith)
