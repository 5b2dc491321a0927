-- The first cell of a route is read out of its number as `first_in` says.
use Rattle.std.proofs.Common.{refl}
use Rattle.address_map.specs.CodeRoute.{first_in}
use Rattle.address_map.proofs.routes.first_of.Goals as goal

pub returns : goal.returns
unfolding first_in
returns c = refl
