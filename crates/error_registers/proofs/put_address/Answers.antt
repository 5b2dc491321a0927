-- The four bytes are those of `with_error_address`, from the lowest byte of the address on (`sets-eq`).
use mathlib.Core.Path.{sym, ◌∙◌}
use mathlib.Core.List.{append_assoc}
use native.Mathlib.Omega.{arith}
use lib.ListN.{take, drop}
use lib.Seq.{sets-eq, drop-drop}
use Rattle.std.specs.Int.{w32, to_le_bytes}
use Rattle.error_registers.specs.Errors.{with_error_address}
use Rattle.error_registers.proofs.put_address.Goals as goal

pub returns : goal.returns
unfolding with_error_address
returns c =
    let bytes = c.args.registers.now in
    let four = to_le_bytes w32 c.args.address in
    rw (c.copy_from_slice.ensures.after, c.to_le_bytes.ensures, drop-drop 4 200 bytes)
    (sym (append_assoc (take 200 bytes) four (drop 204 bytes)) ∙ sym (sets-eq four bytes 200 (omega arith)))
