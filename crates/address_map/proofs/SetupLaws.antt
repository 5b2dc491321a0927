-- The numbers that the code takes out of a record: the set-up that they describe is the record's, and whatever they are, its banks are such as a
-- record's.
use Rattle.std.proofs.Common.{◌≡◌, ℕ, ◌/◌, ◌%◌, ◌^◌, ◌<◌, ◌≤◌, eqb, ltb, get_or, refl, ap, ◌∙◌, arith, ltb-false, ltb-true}
use Rattle.basics.proofs.RangeLaws.{by_cases}
use Rattle.registers.specs.Record.{at}
use Rattle.registers.specs.declared.Registers.{Registers}
use Rattle.banks.specs.Setup.{start_of, last_of, enabled_of, row_code, enabled_bank, bank_of, setup_of, bank, off_bank}
use Rattle.banks.proofs.FieldLaws.{Decoded, of_eight, past_eight, decoded_from, decoded_off}
use Rattle.address_map.specs.declared.fields.Fields.{Fields}
use Rattle.address_map.specs.CodeFields.{fields_of, code_by, enabled_by, bank_by, setup_by}

-- ---- the record's
module _ (r : Registers) (h : at r 0xF0 < 256) where
  bank_from_lem :
      (n : ℕ)
      → get_or (fields_of r).starts n 0 ≡ start_of r n
      → get_or (fields_of r).lasts n 0 ≡ last_of r n
      → code_by (fields_of r) n ≡ row_code r n
      → (fields_of r).enables ≡ at r 0xA0 → bank_by (fields_of r) n ≡ bank_of r n
  unfolding bank_by enabled_by bank_of enabled_bank enabled_of
  bank_from_lem n x y z w = simp (x, y, z, w)

  setup_by_lem : setup_by (fields_of r) ≡ setup_of r
  unfolding setup_by setup_of fields_of code_by row_code
  setup_by_lem =
      simp (bank_from_lem 0 refl refl (omega arith) refl, bank_from_lem 1 refl refl (omega arith) refl, bank_from_lem 2 refl refl (omega arith) refl, bank_from_lem 3 refl refl (omega arith) refl, bank_from_lem 4 refl refl (omega arith) refl, bank_from_lem 5 refl refl (omega arith) refl, bank_from_lem 6 refl refl (omega arith) refl, bank_from_lem 7 refl refl (omega arith) refl)

-- what holds of the numbers of a record whose bytes are below 256
pub of_record : (r : Registers) → ((o : ℕ) → o < 256 → at r o < 256) → (f : Fields) → f ≡ fields_of r → (setup_by f ≡ setup_of r) × (f.enables < 256)
unfolding fields_of
of_record r h f e = (ap setup_by e ∙ setup_by_lem r (h 0xF0 (omega arith)), rw e (h 0xA0 (omega arith)))

-- ---- any numbers
pub code_below : (f : Fields) (n : ℕ) → code_by f n < 4
unfolding code_by
code_below f n = omega arith

pub bank_by_lem : (f : Fields) (n : ℕ) → n < 8 → bank (setup_by f) n ≡ bank_by f n
unfolding setup_by
bank_by_lem f n h = of_eight (bank_by f) n h

pub bank_past : (f : Fields) (n : ℕ) → 8 ≤ n → bank (setup_by f) n ≡ off_bank
unfolding setup_by
bank_past f n h = past_eight (bank_by f) n h

pub decoded_enabled : (f : Fields) (n : ℕ) → Decoded (enabled_by f n)
unfolding enabled_by
decoded_enabled f n = decoded_from (get_or f.starts n 0) (get_or f.lasts n 0) (code_by f n) (code_below f n)

pub decoded_by : (f : Fields) (n : ℕ) → Decoded (bank (setup_by f) n)
unfolding bank_by
decoded_by f n =
    by_cases (ltb n 8)
    (λ t.
    rw (bank_by_lem f n (ltb-true n 8 t))
    (by_cases (eqb (f.enables / 2 ^ n % 2) 1) (λ u. rw u (decoded_enabled f n)) (λ u. rw u decoded_off)))
    (λ t. rw (bank_past f n (ltb-false n 8 t)) decoded_off)
