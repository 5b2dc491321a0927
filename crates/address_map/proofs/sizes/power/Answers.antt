-- A one shifted within 32 bits is a power of two, by `one_shl`.
use Rattle.std.proofs.Common.{arith}
use Rattle.basics.proofs.Shifts.{one_shl}
use Rattle.address_map.proofs.sizes.power.Goals as goal

pub returns : goal.returns
returns c = one_shl 32 c.args.k (omega arith)
