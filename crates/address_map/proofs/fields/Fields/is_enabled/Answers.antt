-- The enable bit of a bank is that of `setup_by`, by `and_mask` and `enabled_is`.
use Rattle.std.proofs.Common.{◌/◌, ◌%◌, ◌^◌}
use lib.Bits.{and_mask}
use Rattle.address_map.proofs.PassLaws.{enabled_is}
use Rattle.address_map.proofs.fields.Fields.is_enabled.Goals as goal

pub returns : goal.returns
returns c =
    let a = c.args in
    let f = a.self.now in
    rw (and_mask (f.enables / 2 ^ (a.n % 8)) 1) (enabled_is f a.n)
