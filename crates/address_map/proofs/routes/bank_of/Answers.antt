-- The bank of a route is read out of its number as `bank_in` says.
use Rattle.std.proofs.Common.{refl}
use Rattle.address_map.specs.CodeRoute.{bank_in}
use Rattle.address_map.proofs.routes.bank_of.Goals as goal

pub returns : goal.returns
unfolding bank_in
returns c = refl
