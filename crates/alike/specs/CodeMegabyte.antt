-- What the code compares of two set-ups: it makes one test for each bank, and the definition one for each address. A test for each megabyte stands
-- between the two in the proof.
use Rattle.std.specs.Prelude.{ℕ, ◌*◌, ◌^◌, Bool, not, cond, ◌&&◌, ◌||◌, ltb, eqb}
use Rattle.banks.specs.declared.Bank.{Bank}
use Rattle.banks.specs.Setup.{Setup, bank}
use Rattle.banks.specs.Map.{bank_at, row_of}

-- both banks have the same number of column bits and place the first doubleword of megabyte m in the same row
unfoldable pub same_part : ℕ → Bank → Bank → Bool
same_part m b c = eqb b.column_bits c.column_bits && eqb (row_of b (m * 2 ^ 20)).0 (row_of c (m * 2 ^ 20)).0

-- megabyte m has the same bank in both set-ups, with its addresses at the same rows and columns, or no bank in both
unfoldable pub same_megabyte : Setup → Setup → ℕ → Bool
same_megabyte s t m =
    eqb (bank_at s m) (bank_at t m) && (not (ltb (bank_at s m) 8) || same_part m (bank s (bank_at s m)) (bank t (bank_at s m)))

-- both banks are disabled; or both are enabled, have the same span, and place its first and its last megabyte alike
unfoldable pub same_bank : Bank → Bank → Bool
same_bank b c =
    cond (b.enabled && c.enabled)
    (eqb b.start c.start && (eqb b.last c.last && (same_part b.start b c && same_part b.last b c)))
    (not (b.enabled || c.enabled))
