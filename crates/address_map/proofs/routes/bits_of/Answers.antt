-- The bits of a route are read out of its number as `bits_in` says.
use Rattle.std.proofs.Common.{refl, arith}
use Rattle.address_map.specs.CodeRoute.{bits_in}
use Rattle.address_map.proofs.routes.bits_of.Goals as goal

pub returns : goal.returns
unfolding bits_in
returns c = record { value = refl; bound = omega arith }
