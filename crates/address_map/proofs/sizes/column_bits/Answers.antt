-- The column bits are what the row bits leave of all bits.
use Rattle.std.proofs.Common.{refl}
use Rattle.address_map.proofs.sizes.column_bits.Goals as goal

pub returns : goal.returns
returns c = refl
