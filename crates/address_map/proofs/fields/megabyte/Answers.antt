-- A mask of two ones leaves the remainder by 4, by `and_mask`.
use Rattle.std.proofs.Common.{◌+◌, get_or, arith}
use lib.Bits.{and_mask}
use Rattle.address_map.proofs.fields.megabyte.Goals as goal

pub returns : goal.returns
returns c =
    let a = c.args in
    rw (c.from.ensures, c.from-2.ensures, and_mask (get_or a.bytes.now (a.base + a.n + 8) 0) 2) (omega arith)
