-- The bit is below 72 (`lt-ltb`), so that the byte of `flip_byte` is the one that `flip_bit` sets.
use Rattle.ecc.specs.CheckCode.{flip_bit}
use borrow.Author.Tests.{lt-ltb}
use Rattle.stores.proofs.cells.invert.Goals as goal

pub returns : goal.returns
unfolding flip_bit
returns c =
    rw (c.flip_byte.ensures, lt-ltb c.args.b 72 c.requires.1)
