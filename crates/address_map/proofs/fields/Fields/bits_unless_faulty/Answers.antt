-- The size of a bank from its span and its row code, by `bits_are`; a span that is too long has none (`bits_missing`).
use Rattle.std.proofs.Common.{◌+◌, ◌-◌, ◌%◌, ◌^◌, arith}
use Rattle.address_map.proofs.SizeLaws.{bits_are, bits_missing}
use Rattle.address_map.proofs.fields.Fields.bits_unless_faulty.Goals as goal

pub returns-then-span-longest : goal.returns-then-span-longest
returns-then-span-longest c =
    let from = c.start.ensures in
    let to = c.last.ensures in
    let code = c.row_code-code.ensures.value in
    bits_are c.args.self.now (c.args.n % 8) ((c.last.result + (2 ^ 32 - c.start.result)) % 2 ^ 32)
    (rw from.value at from.bound) (rw to.value at to.bound) (omega arith) (rw (← from.value, ← to.value) (omega arith))
    c.size_bits.result (rw code at c.size_bits.ensures) (rw (c.longest.ensures, code) at c.if-span-longest.true)

pub returns-else-span-longest : goal.returns-else-span-longest
returns-else-span-longest c =
    let from = c.start.ensures in
    let to = c.last.ensures in
    let code = c.row_code-code.ensures.value in
    bits_missing c.args.self.now (c.args.n % 8) ((c.last.result + (2 ^ 32 - c.start.result)) % 2 ^ 32)
    (rw from.value at from.bound) (rw to.value at to.bound) (omega arith) (rw (← from.value, ← to.value) (omega arith))
    (rw (c.longest.ensures, code) at c.if-span-longest.false)
