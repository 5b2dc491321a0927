-- The greater of the row code and the number of digits of the span is the size in bits, by `size_is`.
use Rattle.std.proofs.Common.{◌%◌, ◌^◌}
use Rattle.address_map.proofs.SizeLaws.{size_is}
use Rattle.address_map.proofs.sizes.size_bits.Goals as goal

pub returns : goal.returns
returns c =
    let a = c.args in
    let k = c.digits-k in
    rw c.choose.ensures (size_is (a.span % 2 ^ 31) a.code k.result c.requires k.ensures.0 k.ensures.1)
