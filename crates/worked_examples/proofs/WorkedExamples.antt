-- The worked examples that are proved of the definitions: the small list of EX-1, EX-2, EX-4 to EX-6 and EX-8 in one theorem, by computing both sides
-- and, of EX-8, by the law of the way back; and the lengths of banks, EX-9 and EX-12, in another.
use mathlib.Core.Path.{◌≡◌, refl}
use mathlib.Core.Bool.{true}
use mathlib.Core.List.{[], ◌∷◌}
use mathlib.Core.Option.{none, some}
use native.Mathlib.Omega.{arith}
use lib.ListN.{replicate}
use Rattle.basics.specs.Range.{first_of, first, sum}
use Rattle.refusals.specs.Paper.{given, refused}
use Rattle.banks.specs.Setup.{start_of, last_of, enabled_of, row_code, megabytes, row_bits_of, fits, column_limit, column_bits_of, enabled_bank, bank_of, setup_of, bank}
use Rattle.banks.specs.Judge.{lowest, inverted, too_long, faulty, fault_of, meets, meets_lower, lowest_meeting, judged, ready, not_ready}
use Rattle.banks.specs.Map.{holds, bank_at, cells, cell_in_bank, row_of, column_of, share, cells_below, place_of, in_span, located, mapped}
use Rattle.way_back.specs.WayBack.{span_end, in_range, back}
use Rattle.way_back.specs.CodeAddress.{address_at}
use Rattle.way_back.proofs.WayBackLaws.{address_none}
use Rattle.ecc.specs.declared.Reading.TheVariants.{Corrected, Uncorrectable}
use Rattle.ecc.specs.Columns.{columns}
use Rattle.ecc.specs.CheckCode.{bit_at, data_bit, flip_column, xor_of, check_of, bit_reading, reading_of}
use Rattle.worked_examples.specs.TwoBanks.{two_banks, setup}
use Rattle.worked_examples.specs.OneBank.{one_bank, only_bank}

-- EX-8, by the law of the way back, since the definition tries each doubleword of the span
no_address : back setup 1 (record { 0 = 256 }) (record { 0 = 0 }) ≡ refused (17 ∷ [])
unfolding two_banks start_of last_of enabled_of row_code megabytes row_bits_of fits column_limit column_bits_of enabled_bank bank_of setup_of lowest inverted too_long faulty fault_of meets
    meets_lower lowest_meeting judged ready not_ready first_of first cells span_end in_range address_at back
no_address = address_none (bank setup 1) (record { 0 = 256 }) (record { 0 = 0 }) refl (omega arith)

-- EX-1, EX-2, EX-4 to EX-6, EX-8
pub worked_examples :
    (check_of columns (replicate 8 0) ≡ 0x00)
    × (check_of columns (0x80 ∷ replicate 7 0) ≡ 0x07)
    × (check_of columns (0xFF ∷ replicate 7 0) ≡ 0x06)
    × (check_of columns (0 ∷ 0 ∷ 0 ∷ 0 ∷ 0 ∷ 0 ∷ 0 ∷ 1 ∷ []) ≡ 0x57)
    × (check_of columns (replicate 8 0xFF) ≡ 0xD8)
    × (reading_of columns 0x03 ≡ Uncorrectable)
    × (reading_of columns 0x40 ≡ Corrected 70)
    × (reading_of columns 0x1F ≡ Corrected 56)
    × (mapped setup 0x00001008 ≡ given (some (record { bank = 0; row = record { 0 = 1 }; column = record { 0 = 1 }; cell = 513 })))
    × (mapped setup 0x00200000 ≡ given (some (record { bank = 1; row = record { 0 = 512 }; column = record { 0 = 0 }; cell = 524288 })))
    × (mapped setup 0x00400000 ≡ given (some (record { bank = 1; row = record { 0 = 0 }; column = record { 0 = 0 }; cell = 262144 })))
    × (back setup 1 (record { 0 = 256 }) (record { 0 = 0 }) ≡ refused (17 ∷ []))
unfolding bit_at data_bit flip_column xor_of check_of bit_reading reading_of first_of first sum two_banks start_of last_of enabled_of row_code megabytes row_bits_of fits column_limit column_bits_of
    enabled_bank bank_of setup_of lowest inverted too_long faulty fault_of meets meets_lower lowest_meeting judged ready not_ready holds bank_at cells cell_in_bank row_of column_of share
    cells_below place_of in_span located mapped
worked_examples = (refl, refl, refl, refl, refl, refl, refl, refl, refl, refl, refl, no_address)

-- EX-9, EX-12: the longest banks, and one of thirteen rows
pub bank_lengths :
    (judged (one_bank 0 1 0) ≡ none)
    × (judged (one_bank 0 2 0) ≡ some (13 ∷ 0 ∷ []))
    × (judged (one_bank 0 127 3) ≡ none)
    × (judged (one_bank 0 128 3) ≡ none)
    × (judged (one_bank 0 255 3) ≡ none)
    × (judged (one_bank 0 256 3) ≡ some (13 ∷ 0 ∷ []))
    × (only_bank 0 127 3 ≡ record { enabled = true; start = 0; last = 127; row_bits = 12; column_bits = 12 })
    × (only_bank 0 128 3 ≡ record { enabled = true; start = 0; last = 128; row_bits = 13; column_bits = 12 })
    × (only_bank 0 255 3 ≡ record { enabled = true; start = 0; last = 255; row_bits = 13; column_bits = 12 })
    × (mapped (one_bank 1 256 3) 0x00100000 ≡ given (some (record { bank = 0; row = record { 0 = 32 }; column = record { 0 = 0 }; cell = 131072 })))
    × (mapped (one_bank 1 256 3) 0x0FFFFFFF ≡ given (some (record { bank = 0; row = record { 0 = 8191 }; column = record { 0 = 4095 }; cell = 33554431 })))
    × (mapped (one_bank 1 256 3) 0x100FFFFF ≡ given (some (record { bank = 0; row = record { 0 = 31 }; column = record { 0 = 4095 }; cell = 131071 })))
unfolding first_of first sum one_bank start_of last_of enabled_of row_code megabytes row_bits_of fits column_limit column_bits_of enabled_bank bank_of setup_of lowest inverted too_long faulty fault_of
    meets meets_lower lowest_meeting judged ready not_ready holds bank_at cells cell_in_bank row_of column_of share cells_below place_of in_span located mapped
bank_lengths = (refl, refl, refl, refl, refl, refl, refl, refl, refl, refl, refl, refl)
