-- A record that concrete lists start from: bank 0 spans MB 0, with 9 row bits and 8 column bits, and memory is on.
use Prim.Native.Nat.{◌*◌, ◌^◌}
use mathlib.Core.Path.{◌≡◌, refl}
use Rattle.basics.specs.Range.{first_of, first, sum}
use Rattle.registers.specs.Record.{fresh, stored}
use Rattle.registers.specs.declared.Registers.{Registers}
use Rattle.banks.specs.Setup.{start_of, last_of, enabled_of, row_code, megabytes, row_bits_of, fits, column_limit, column_bits_of, enabled_bank, bank_of, setup_of}
use Rattle.banks.specs.Judge.{lowest, inverted, too_long, faulty, fault_of, meets, meets_lower, lowest_meeting, judged}
use Rattle.banks.specs.Map.{cells, share, cells_below, cell_count}
use Rattle.register_calls.specs.Calls.{listed, read_only, bad_value, locked, clearing, switches_on, declined, new_byte, written}
use Rattle.flat.specs.Comparison.{SwitchedOn}

-- memory is still off
unfoldable pub bank_off : Registers
bank_off = stored fresh 0xA0 1

unfoldable pub bank_on : Registers
bank_on = stored bank_off 0xF2 8

pub switched_on : SwitchedOn bank_on
unfolding bank_off bank_on start_of last_of enabled_of row_code megabytes row_bits_of fits column_limit column_bits_of enabled_bank bank_of setup_of first_of first lowest inverted too_long faulty
    fault_of meets meets_lower lowest_meeting judged listed read_only bad_value locked clearing switches_on declined new_byte written
switched_on = record { before = bank_off; whole = refl; off = refl; accepted = refl; returned = refl }

-- the bytes that its cells need, whether it is on or off
pub bytes_off : 9 * cell_count (setup_of bank_off) ≡ 9 * 2 ^ 17
unfolding bank_off start_of last_of enabled_of row_code megabytes row_bits_of fits column_limit column_bits_of enabled_bank bank_of setup_of first_of first sum cells share cells_below
bytes_off = refl

pub bytes_on : 9 * cell_count (setup_of bank_on) ≡ 9 * 2 ^ 17
unfolding bank_off bank_on start_of last_of enabled_of row_code megabytes row_bits_of fits column_limit column_bits_of enabled_bank bank_of setup_of first_of first sum cells share cells_below
bytes_on = refl
