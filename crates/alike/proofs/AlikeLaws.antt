-- When two set-ups are alike: both map each 32-bit address in the same way, to one bank, row and column or to no bank; and one test for each of
-- 1,024 megabytes decides it.
use mathlib.Core.Path.{◌≡◌, refl, sym, ap}
use mathlib.Core.Bool.{Bool, true, false, not, ◌&&◌, ◌||◌}
use Prim.Native.Nat.{ℕ, ◌+◌, ◌*◌, ◌/◌, ◌^◌, ◌≤◌, ◌<◌}
use native.Mathlib.Omega.{arith}
use lib.Dec.{ltb, eqb}
use borrow.Author.Tests.{ltb-true, ltb-false, eqb-true, eq-eqb}
use Rattle.basics.specs.Range.{every}
use Rattle.basics.proofs.Bools.{and_left}
use Rattle.basics.proofs.RangeLaws.{by_cases, contra, every_at, every_all}
use Rattle.banks.specs.declared.Row.{Row}
use Rattle.banks.specs.declared.Column.{Column}
use Rattle.banks.specs.Setup.{Setup, bank, Bounded}
use Rattle.banks.specs.Map.{bank_at, in_span, selected, row_of, column_of}
use Rattle.alike.specs.Alike.{same_place, same_at, alike}
use Rattle.alike.specs.CodeMegabyte.{same_part, same_megabyte}
use Rattle.banks.proofs.RowLaws.{row_is, column_is}
use Rattle.banks.proofs.SpanLaws.{none_past}
use Rattle.alike.proofs.FirstCellLaws.{Placed, placed, placed_same, part_place, place_part}

-- ---- tests
-- x, and p where y
pub both : (x y p : Bool) → x ≡ true → (y ≡ true → p ≡ true) → (x && (not y || p)) ≡ true
both true true p h k = k refl
both true false p h k = refl
both false y p h k = h

pub both_right : (x y p : Bool) → (x && (not y || p)) ≡ true → y ≡ true → p ≡ true
both_right true true p e k = e
both_right true false p e k = contra k refl
both_right false y p e k = contra e refl

pub equal_tests : (p q : Bool) → (p ≡ true → q ≡ true) → (q ≡ true → p ≡ true) → p ≡ q
equal_tests true q f g = sym (f refl)
equal_tests false true f g = g refl
equal_tests false false f g = refl

-- ---- what alike means
-- both set-ups map the address in the same way, to one bank, row and column or to no bank
pub record Agree (s t : Setup) (a : ℕ) : Type 0 where
  pub same_bank_lem : selected s a ≡ selected t a
  pub same_row : in_span s a ≡ true → row_of (bank s (selected s a)) a ≡ row_of (bank t (selected t a)) a
  pub same_column : in_span s a ≡ true → column_of (bank s (selected s a)) a ≡ column_of (bank t (selected t a)) a

module _ (s t : Setup) (a : ℕ) where
  agree_at : same_at s t a ≡ true → Agree s t a
  unfolding same_at
  agree_at h =
      let n = selected s a in
      let b = bank s n in
      let c = bank t n in
      let x = eqb n (selected t a) in
      let p = same_place a b c in
      let e = eqb-true n (selected t a) (and_left x (not (in_span s a) || p) h) in
      let g : in_span s a ≡ true → Placed a b c = λ k. placed a b c (both_right x (in_span s a) p h k) in
      record {
        same_bank_lem = e;
        same_row = λ k. rw (← e) (row_is (row_of b a) (row_of c a) (g k).row);
        same_column = λ k. rw (← e) (column_is (column_of b a) (column_of c a) (g k).column);
      }

  at_agree : Agree s t a → same_at s t a ≡ true
  unfolding same_at
  at_agree g =
      let n = selected s a in
      let b = bank s n in
      let c = bank t n in
      let e = g.same_bank_lem in
      both (eqb n (selected t a)) (in_span s a) (same_place a b c) (eq-eqb n (selected t a) e)
      (λ k.
      let i : row_of b a ≡ row_of c a = rw (← e) at (g.same_row k) in
      let j : column_of b a ≡ column_of c a = rw (← e) at (g.same_column k) in
      placed_same a b c (record { row = ap (λ (x : Row). x.0) i; column = ap (λ (x : Column). x.0) j }))

module _ (s t : Setup) where
  pub alike_agree : alike s t ≡ true → (a : ℕ) → a < 2 ^ 32 → Agree s t a
  unfolding alike
  alike_agree h a l = agree_at s t a (every_at (same_at s t) (2 ^ 32) h a l)

  pub agree_alike : ((a : ℕ) → a < 2 ^ 32 → Agree s t a) → alike s t ≡ true
  unfolding alike
  agree_alike h = every_all (same_at s t) (2 ^ 32) (λ a l. at_agree s t a (h a l))

-- ---- one test for each megabyte
module _ (s t : Setup) (x : (n : ℕ) → Bounded (bank s n)) (y : (n : ℕ) → Bounded (bank t n)) where
  megabyte_at : (a : ℕ) → same_megabyte s t (a / 2 ^ 20) ≡ true → same_at s t a ≡ true
  unfolding same_at same_megabyte in_span
  megabyte_at a h =
      let m = a / 2 ^ 20 in
      let n = bank_at s m in
      let b = bank s n in
      let c = bank t n in
      let e = eqb n (bank_at t m) in
      let p = same_part m b c in
      both e (ltb n 8) (same_place a b c) (and_left e (not (ltb n 8) || p) h)
      (λ k. part_place b c (x n) (y n) a (both_right e (ltb n 8) p h k))

  at_megabyte : (m : ℕ) → ((u : ℕ) → u < 2 ^ 17 → same_at s t (m * 2 ^ 20 + u * 8) ≡ true) → same_megabyte s t m ≡ true
  unfolding same_at same_megabyte in_span
  at_megabyte m h =
      let n = bank_at s m in
      let b = bank s n in
      let c = bank t n in
      let e = eqb n (bank_at t m) in
      let p : ℕ → Bool = λ u. same_place (m * 2 ^ 20 + u * 8) b c in
      let g : (u : ℕ) → u < 2 ^ 17 → (e && (not (ltb n 8) || p u)) ≡ true =
      λ u l. let z : (m * 2 ^ 20 + u * 8) / 2 ^ 20 ≡ m = omega arith in rw z at (h u l) in
      both e (ltb n 8) (same_part m b c) (and_left e (not (ltb n 8) || p 0) (g 0 (omega arith)))
      (λ k. place_part b c (x n) (y n) m (λ u l. both_right e (ltb n 8) (p u) (g u l) k))

  -- from the end of all banks on every megabyte is the same
  same_past :
      (e : ℕ)
      → ((n : ℕ) → n < 8 → (bank s n).last < e)
      → ((n : ℕ) → n < 8 → (bank t n).last < e)
      → (m : ℕ) → e ≤ m → same_megabyte s t m ≡ true
  unfolding same_megabyte
  same_past e g h m l = simp (none_past s e g m l, none_past t e h m l)

  -- so the megabytes below e decide, if all banks end before it
  pub alike_within :
      (e : ℕ)
      → e ≤ 4096
      → ((n : ℕ) → n < 8 → (bank s n).last < e)
      → ((n : ℕ) → n < 8 → (bank t n).last < e)
      → alike s t ≡ every (same_megabyte s t) e
  unfolding alike
  alike_within e o f g =
      equal_tests (every (same_at s t) (2 ^ 32)) (every (same_megabyte s t) e)
      (λ h.
      every_all (same_megabyte s t) e
      (λ m l. at_megabyte m (λ u k. every_at (same_at s t) (2 ^ 32) h (m * 2 ^ 20 + u * 8) (omega arith))))
      (λ h.
      every_all (same_at s t) (2 ^ 32)
      (λ a l.
      let m = a / 2 ^ 20 in
      megabyte_at a
      (by_cases (ltb m e) (λ u. every_at (same_megabyte s t) e h m (ltb-true m e u)) (λ u. same_past e f g m (ltb-false m e u)))))

  -- 1,024 megabytes are enough for any two
  pub alike_every : alike s t ≡ every (same_megabyte s t) 1024
  alike_every = alike_within 1024 (omega arith) (λ n l. (x n).last_most) (λ n l. (y n).last_most)
