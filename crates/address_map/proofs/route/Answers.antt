-- A route is its number.
use Rattle.address_map.proofs.route.Goals as goal

pub returns : goal.returns
returns c = c.route_number.ensures.result_value
