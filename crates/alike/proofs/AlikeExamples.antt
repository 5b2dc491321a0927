-- ALIKE-2: records with different bytes can be alike. Here a bank of one megabyte at MB 0 has 9 or 10 row bits. At MB 1 records with these two row
-- codes are not alike, though the spans are the same.
use mathlib.Core.Path.{◌≡◌, refl}
use mathlib.Core.Bool.{true, false}
use mathlib.Core.Option.{none}
use Prim.Native.Nat.{ℕ, ◌+◌, ◌<◌}
use native.Mathlib.Omega.{arith}
use lib.Dec.{ltb}
use borrow.Author.Tests.{ltb-true}
use Rattle.basics.specs.Range.{first, first_of, every}
use Rattle.basics.proofs.RangeLaws.{every_at}
use Rattle.refusals.specs.Paper.{given}
use Rattle.registers.specs.Record.{at, fresh, stored}
use Rattle.registers.specs.declared.Registers.{Registers}
use Rattle.banks.specs.Setup.{Setup, start_of, last_of, enabled_of, row_code, megabytes, row_bits_of, fits, column_limit, column_bits_of, enabled_bank, bank_of, setup_of, bank, Bounded}
use Rattle.banks.specs.Judge.{lowest, inverted, too_long, faulty, meets, meets_lower, lowest_meeting, judged, ready, not_ready}
use Rattle.banks.specs.Map.{holds, bank_at, cells, cell_in_bank, row_of}
use Rattle.alike.specs.Alike.{alike, compared}
use Rattle.alike.specs.CodeMegabyte.{same_part, same_megabyte}
use Rattle.banks.proofs.FieldLaws.{bounded}
use Rattle.alike.proofs.AlikeLaws.{alike_within}

-- bank 0 is the megabyte m alone, with this row code
abbrev pub one_megabyte : ℕ → ℕ → Registers
one_megabyte m code = stored (stored (stored (stored (stored fresh 0x80 m) 0x90 m) 0xA0 1) 0xF0 code) 0xF2 8

abbrev pub one_megabyte_setup : ℕ → ℕ → Setup
one_megabyte_setup m code = setup_of (one_megabyte m code)

-- its bytes are below 256, and no bank ends past megabyte m
record InBounds (m code : ℕ) : Type 0 where
  bytes : every (λ o. ltb (at (one_megabyte m code) o) 256) 256 ≡ true
  ends : every (λ n. ltb (bank (one_megabyte_setup m code) n).last (m + 1)) 8 ≡ true

banks_bounded : (m code : ℕ) → InBounds m code → (n : ℕ) → Bounded (bank (one_megabyte_setup m code) n)
banks_bounded m code h =
    bounded (one_megabyte m code) (λ o l. ltb-true (at (one_megabyte m code) o) 256 (every_at (λ o. ltb (at (one_megabyte m code) o) 256) 256 h.bytes o l))

banks_end : (m code : ℕ) → InBounds m code → (n : ℕ) → n < 8 → (bank (one_megabyte_setup m code) n).last < m + 1
banks_end m code h n l =
    ltb-true (bank (one_megabyte_setup m code) n).last (m + 1) (every_at (λ n. ltb (bank (one_megabyte_setup m code) n).last (m + 1)) 8 h.ends n l)

-- two such records are compared by the megabytes up to m
compared_to :
    (m c d : ℕ)
    → m < 4096
    → InBounds m c
    → InBounds m d
    → alike (one_megabyte_setup m c) (one_megabyte_setup m d) ≡ every (same_megabyte (one_megabyte_setup m c) (one_megabyte_setup m d)) (m + 1)
compared_to m c d l p q =
    alike_within (one_megabyte_setup m c) (one_megabyte_setup m d) (banks_bounded m c p) (banks_bounded m d q) (m + 1) (omega arith) (banks_end m c p) (banks_end m d q)

all_ready : (not_ready (one_megabyte_setup 0 0) ≡ none) × (not_ready (one_megabyte_setup 0 1) ≡ none) × (not_ready (one_megabyte_setup 1 0) ≡ none) × (not_ready (one_megabyte_setup 1 1) ≡ none)
unfolding first first_of start_of last_of enabled_of row_code megabytes row_bits_of fits column_limit column_bits_of enabled_bank bank_of setup_of lowest inverted too_long faulty meets meets_lower lowest_meeting judged ready not_ready
all_ready = (refl, refl, refl, refl)

both_computed : (alike (one_megabyte_setup 0 0) (one_megabyte_setup 0 1) ≡ true) × (alike (one_megabyte_setup 1 0) (one_megabyte_setup 1 1) ≡ false)
unfolding every first first_of start_of last_of enabled_of row_code megabytes row_bits_of fits column_limit column_bits_of enabled_bank bank_of setup_of lowest holds bank_at cells cell_in_bank row_of same_part same_megabyte
both_computed = (
  compared_to 0 0 1 (omega arith) (record { bytes = refl; ends = refl }) (record { bytes = refl; ends = refl }),
  compared_to 1 0 1 (omega arith) (record { bytes = refl; ends = refl }) (record { bytes = refl; ends = refl }),
)

pub even_alike : compared (one_megabyte_setup 0 0) (one_megabyte_setup 0 1) ≡ given true
unfolding compared
even_alike = rw (all_ready.0, all_ready.1, both_computed.0)

pub odd_different : compared (one_megabyte_setup 1 0) (one_megabyte_setup 1 1) ≡ given false
unfolding compared
odd_different = rw (all_ready.2, all_ready.3, both_computed.1)
