-- When the way back is refused: if none of 5, 15 and 16 applies, 17 is returned exactly if no doubleword of the bank's span has the row and column.
use mathlib.Core.Path.{◌≡◌, refl, sym, ap, ◌∙◌}
use mathlib.Core.Bool.{Bool, true, false, ◌&&◌}
use mathlib.Core.List.{[], ◌∷◌}
use Prim.Native.Nat.{ℕ, ◌*◌, ◌^◌, ◌≤◌, ◌<◌}
use native.Mathlib.Omega.{arith}
use lib.Dec.{ltb}
use borrow.Author.Tests.{ltb-true, ltb-false, lt-ltb}
use Rattle.basics.specs.Range.{first}
use Rattle.basics.proofs.Bools.{and_left, and_right}
use Rattle.basics.proofs.RangeLaws.{never, by_cases, contra, first_ge, first_passes, first_before}
use Rattle.refusals.specs.Paper.{Outcome, refused, given}
use Rattle.registers.specs.declared.Registers.{Registers}
use Rattle.banks.specs.declared.Bank.{Bank}
use Rattle.banks.specs.declared.Row.{Row}
use Rattle.banks.specs.declared.Column.{Column}
use Rattle.banks.specs.Setup.{Setup, setup_of, bank}
use Rattle.banks.specs.Judge.{ready, not_ready}
use Rattle.way_back.specs.WayBack.{is_at, span_end, doubleword_at, in_range, back}
use Rattle.way_back.specs.CodeAddress.{address_at}
use Rattle.banks.proofs.FieldLaws.{bank_past}

-- a way back to which none of 5, 15 and 16 applies
pub record Asked (s : Setup) (n : ℕ) (row : Row) (column : Column) : Type 0 where
  pub on : ready s ≡ true
  pub bank_below : n < 8
  pub enabled : (bank s n).enabled ≡ true
  pub range : in_range (bank s n) row column ≡ true

-- an address, or a refusal later than 16
abbrev late : Outcome ℕ → Bool
late (given x) = true
late (refused []) = false
late (refused (k ∷ ks)) = ltb 16 k

-- in a record a bank that is enabled is one of the eight
pub enabled_below : (r : Registers) (n : ℕ) → (ltb n 8 && (bank (setup_of r) n).enabled) ≡ (bank (setup_of r) n).enabled
enabled_below r n = by_cases (ltb n 8) (λ t. rw t) (λ t. rw (t, bank_past r n (ltb-false n 8 t)))

module _ (s : Setup) (n : ℕ) (row : Row) (column : Column) where
  -- its answer is the bank's
  pub back_asked : Asked s n row column → back s n row column ≡ address_at (bank s n) row column
  unfolding back not_ready address_at
  back_asked q = simp (q.on, lt-ltb n 8 q.bank_below, q.enabled, q.range)

  asked : late (back s n row column) ≡ true → Asked s n row column
  unfolding back not_ready
  asked h =
      let b = bank s n in
      by_cases (ready s)
      (λ t.
      by_cases (ltb n 8 && b.enabled)
      (λ u.
      by_cases (in_range b row column)
      (λ v.
      record { on = t; bank_below = ltb-true n 8 (and_left (ltb n 8) b.enabled u); enabled = and_right (ltb n 8) b.enabled u; range = v })
      (λ v. contra {t = false} (rw (t, u, v) at h) refl))
      (λ u. contra {t = false} (rw (t, u) at h) refl))
      (λ t. contra {t = false} (rw t at h) refl)

  -- the answer is an address only if none of 5, 15 and 16 applies
  pub asked_given : (x : ℕ) → back s n row column ≡ given x → Asked s n row column
  asked_given x h = asked (ap late h)

-- ---- 17
-- none of 5, 15 and 16 applies, and no doubleword of the bank's span has the row and column
pub record Absent (s : Setup) (n : ℕ) (row : Row) (column : Column) : Type 0 where
  pub rightly : Asked s n row column
  pub nowhere : (d : ℕ) → (bank s n).start * 2 ^ 17 ≤ d → d < span_end (bank s n) → is_at (bank s n) row column d ≡ false

module _ (b : Bank) (row : Row) (column : Column) where
  -- no doubleword of the span has them
  none_there :
      address_at b row column ≡ refused (17 ∷ [])
      → (d : ℕ) → b.start * 2 ^ 17 ≤ d → d < span_end b → is_at b row column d ≡ false
  unfolding address_at doubleword_at
  none_there h d l k =
      let f = first (is_at b row column) (span_end b) (b.start * 2 ^ 17) in
      by_cases (ltb f (span_end b)) (λ t. let e : given (8 * f) ≡ refused (17 ∷ []) = rw t at h in never (cc))
      (λ t. first_before (is_at b row column) (span_end b) (b.start * 2 ^ 17) d l (omega (arith, ltb-false f (span_end b) t)))

  there_none :
      ((d : ℕ) → b.start * 2 ^ 17 ≤ d → d < span_end b → is_at b row column d ≡ false)
      → address_at b row column ≡ refused (17 ∷ [])
  unfolding address_at doubleword_at
  there_none g =
      let s = b.start * 2 ^ 17 in
      let f = first (is_at b row column) (span_end b) s in
      by_cases (ltb f (span_end b))
      (λ t.
      let l = ltb-true f (span_end b) t in
      contra (first_passes (is_at b row column) (span_end b) s l) (g f (first_ge (is_at b row column) (span_end b) s) l))
      (λ t. rw t)

module _ (s : Setup) (n : ℕ) (row : Row) (column : Column) where
  pub back_absent : back s n row column ≡ refused (17 ∷ []) → Absent s n row column
  back_absent h =
      let q = asked s n row column (ap late h) in
      record { rightly = q; nowhere = none_there (bank s n) row column (sym (back_asked s n row column q) ∙ h) }

  pub absent_back : Absent s n row column → back s n row column ≡ refused (17 ∷ [])
  absent_back g = back_asked s n row column g.rightly ∙ there_none (bank s n) row column g.nowhere
