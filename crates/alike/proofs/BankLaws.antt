-- One test for each bank: two ready set-ups are alike exactly if each bank has the same span in both, and places the first and the last
-- megabyte of it alike.
use mathlib.Core.Path.{◌≡◌, refl, sym, ap, ◌∙◌}
use mathlib.Core.Bool.{Bool, true, false, not, cond, ◌&&◌, ◌||◌}
use Prim.Native.Nat.{ℕ, ◌+◌, ◌-◌, ◌*◌, ◌/◌, ◌%◌, ◌^◌, ◌≤◌, ◌<◌}
use native.Mathlib.Nat.{div-add-mod', mul-le-mul_right, add-mul, one-mul, mod-lt, mod-eq_of_lt}
use native.Mathlib.Numerals.{add-one}
use native.Mathlib.Omega.{arith}
use lib.Dec.{ltb, eqb}
use lib.Pow.{pow-add, pow_pos, pow_mono, shr_mono, mod-mod-pow}
use borrow.Author.Tests.{ltb-true, ltb-false, lt-ltb, eqb-true, eq-eqb}
use Rattle.basics.specs.Range.{every}
use Rattle.basics.proofs.Bools.{and_left, and_right}
use Rattle.basics.proofs.RangeLaws.{by_cases, contra, first_ext, every_at, every_all}
use Rattle.refusals.specs.Paper.{given}
use Rattle.registers.specs.Record.{at}
use Rattle.registers.specs.declared.Registers.{Registers}
use Rattle.banks.specs.declared.Bank.{Bank}
use Rattle.banks.specs.Setup.{Setup, setup_of, bank, Bounded}
use Rattle.banks.specs.Judge.{lowest, ready, not_ready}
use Rattle.banks.specs.Map.{holds, bank_at}
use Rattle.banks.proofs.FieldLaws.{Decoded, decoded, bounded}
use Rattle.banks.proofs.SpanLaws.{Held, held_holds, bank_held}
use Rattle.banks.proofs.AcceptedLaws.{Fitting, fitting}
use Rattle.banks.proofs.CellLaws.{bank_selected}
use Rattle.alike.specs.Alike.{alike, compared}
use Rattle.alike.specs.CodeMegabyte.{same_part, same_megabyte, same_bank}
use Rattle.banks.proofs.MegabyteLaws.{bounded_large, reach, reach_cells}
use Rattle.alike.proofs.FirstCellLaws.{part, part_same, row_reach, reach_row}
use Rattle.alike.proofs.AlikeLaws.{both, both_right, equal_tests, alike_every}

-- ---- remainders of numbers in a row
-- between two numbers whose remainders are small, and that are close, every remainder is small
small_between :
    (p k x y m : ℕ)
    → 2 * p ≤ 2 ^ k
    → x % 2 ^ k < p
    → y % 2 ^ k < p
    → x ≤ m
    → m ≤ y
    → y < x + p
    → m % 2 ^ k < p
small_between p k x y m d hx hy l u w =
    let q = 2 ^ k in
    let lo = shr_mono k l in
    let hi = shr_mono k u in
    by_cases (ltb (x / q) (y / q))
    (λ t.
    let i : (x / q + 1) * q ≤ y / q * q = mul-le-mul_right q (omega (arith, ltb-true (x / q) (y / q) t)) in
    let j : (x / q + 1) * q ≡ x / q * q + q = add-mul (x / q) 1 q ∙ ap (λ (z : ℕ). x / q * q + z) (one-mul q) in
    absurd (omega (arith, div-add-mod' x q, div-add-mod' y q)))
    (λ t.
    let e : m / q ≡ y / q = omega (arith, ltb-false (x / q) (y / q) t) in
    let f : m / q * q ≡ y / q * q = ap (λ (z : ℕ). z * q) e in
    omega (arith, div-add-mod' m q, div-add-mod' y q))

-- remainders by two powers of two that are the same at both ends of a short span are the same within
same_less :
    (i k x y m : ℕ)
    → i < k
    → x % 2 ^ i ≡ x % 2 ^ k
    → y % 2 ^ i ≡ y % 2 ^ k
    → x ≤ m
    → m ≤ y
    → y < x + 2 ^ i
    → m % 2 ^ i ≡ m % 2 ^ k
same_less i k x y m l ex ey h u w =
    let p = 2 ^ i in
    let d : 2 * p ≤ 2 ^ k = omega (arith, pow_mono {i = i + 1} {j = k} (omega arith), pow-add 2 i 1) in
    let s = small_between p k x y m d (rw (← ex) (mod-lt x (pow_pos i))) (rw (← ey) (mod-lt y (pow_pos i))) h u w in
    let e : k ≡ (k - i) + i = omega arith in
    let z : m % 2 ^ k % p ≡ m % p = ap (λ (c : ℕ). m % 2 ^ c % p) e ∙ mod-mod-pow m (k - i) i in
    sym z ∙ mod-eq_of_lt s

same_within :
    (i k x y m : ℕ)
    → x % 2 ^ i ≡ x % 2 ^ k
    → y % 2 ^ i ≡ y % 2 ^ k
    → x ≤ m
    → m ≤ y
    → y < x + 2 ^ i
    → y < x + 2 ^ k
    → m % 2 ^ i ≡ m % 2 ^ k
same_within i k x y m ex ey h u w v =
    by_cases (ltb i k) (λ t. same_less i k x y m (ltb-true i k t) ex ey h u w)
    (λ t.
    by_cases (ltb k i) (λ o. sym (same_less k i x y m (ltb-true k i o) (sym ex) (sym ey) h u v))
    (λ o. let e : i ≡ k = omega (arith, ltb-false i k t, ltb-false k i o) in rw e))

-- ---- a bank in both set-ups
-- what `same_bank` says about two banks, one of which is enabled
record Same (b c : Bank) : Type 0 where
  start : b.start ≡ c.start
  last : b.last ≡ c.last
  at_start_lem : same_part b.start b c ≡ true
  at_last : same_part b.last b c ≡ true

chosen : (t u p q : Bool) → t ≡ true → u ≡ true → cond (t && u) p q ≡ true → p ≡ true
chosen true true p q x y h = h
chosen true false p q x y h = contra y refl
chosen false u p q x y h = contra x refl

same_on : (b c : Bank) → b.enabled ≡ true → c.enabled ≡ true → same_bank b c ≡ true → Same b c
unfolding same_bank
same_on b c x y h =
    let p = eqb b.start c.start in
    let q = eqb b.last c.last in
    let u = same_part b.start b c in
    let v = same_part b.last b c in
    let g = chosen b.enabled c.enabled (p && (q && (u && v))) (not (b.enabled || c.enabled)) x y h in
    let r = and_right p (q && (u && v)) g in
    let k = and_right q (u && v) r in
    record {
      start = eqb-true b.start c.start (and_left p (q && (u && v)) g);
      last = eqb-true b.last c.last (and_left q (u && v) r);
      at_start_lem = and_left u v k;
      at_last = and_right u v k;
    }

same_is : (b c : Bank) → b.enabled ≡ true → c.enabled ≡ true → Same b c → same_bank b c ≡ true
unfolding same_bank
same_is b c x y g = simp (x, y, eq-eqb b.start c.start g.start, eq-eqb b.last c.last g.last, g.at_start_lem, g.at_last)

-- the test of two enabled banks, by its parts
pub both_on :
    (b c : Bank) (u v : Bool)
    → u ≡ same_part b.start b c
    → v ≡ same_part b.last b c
    → (b.enabled && c.enabled) ≡ true
    → (eqb b.start c.start && (eqb b.last c.last && (u && v))) ≡ same_bank b c
unfolding same_bank
both_on b c u v p q t = rw (p, q, t)

same_enabled : (b c : Bank) → same_bank b c ≡ true → b.enabled ≡ c.enabled
unfolding same_bank
same_enabled b c h =
    by_cases b.enabled
    (λ x. by_cases c.enabled (λ y. x ∙ sym y) (λ y. contra {t = false} (rw (x, y) at h) refl))
    (λ x. by_cases c.enabled (λ y. contra {t = false} (rw (x, y) at h) refl) (λ y. x ∙ sym y))

off_same : (b c : Bank) → b.enabled ≡ false → c.enabled ≡ false → same_bank b c ≡ true
unfolding same_bank
off_same b c x y = rw (x, y)

same_holds : (b c : Bank) (m : ℕ) → same_bank b c ≡ true → holds m b ≡ holds m c
unfolding holds
same_holds b c m h =
    let e = same_enabled b c h in
    by_cases c.enabled
    (λ y. let g = same_on b c (e ∙ y) y h in rw (e, g.start, g.last))
    (λ y. rw (e, y))

-- within the span of such banks each megabyte is placed alike
same_part_lem : (b c : Bank) → Bounded b → Bounded c → Fitting b → Fitting c → Same b c → (m : ℕ) → b.start ≤ m → m ≤ b.last → same_part m b c ≡ true
same_part_lem b c d e f g h m l u =
    let p = part b.start b c h.at_start_lem in
    let q = part b.last b c h.at_last in
    let w : b.last < b.start + reach b = omega (arith, f.roomy, reach_cells b (bounded_large b d)) in
    let v : b.last < b.start + reach c = omega (arith, g.roomy, reach_cells c (bounded_large c e), h.start, h.last) in
    let r = same_within (b.row_bits + b.column_bits - 17) (c.row_bits + c.column_bits - 17) b.start b.last m
    (row_reach b c d e b.start p) (row_reach b c d e b.last q) l u w v in
    part_same m b c (reach_row b c d e m p.columns r)

-- ---- the eight banks
module _ (s t : Setup) (x : (n : ℕ) → Bounded (bank s n)) (y : (n : ℕ) → Bounded (bank t n)) (i : (n : ℕ) → Decoded (bank s n)) (j : (n : ℕ) → Decoded (bank t n)) (hs : ready s ≡ true) (ht : ready t ≡ true) where
  banks_megabyte : ((n : ℕ) → n < 8 → same_bank (bank s n) (bank t n) ≡ true) → (m : ℕ) → same_megabyte s t m ≡ true
  unfolding same_megabyte bank_at lowest
  banks_megabyte h m =
      let e : bank_at s m ≡ bank_at t m = first_ext (λ n. holds m (bank s n)) (λ n. holds m (bank t n)) 8 0 (λ n _ l. same_holds (bank s n) (bank t n) m (h n l)) in
      let n = bank_at s m in
      let b = bank s n in
      let c = bank t n in
      both (eqb n (bank_at t m)) (ltb n 8) (same_part m b c) (eq-eqb n (bank_at t m) e)
      (λ k.
      let l = ltb-true n 8 k in
      let p = bank_held s m l in
      let z : c.enabled ≡ true = sym (same_enabled b c (h n l)) ∙ p.on in
      same_part_lem b c (x n) (y n) (fitting s hs n (i n) l p.on) (fitting t ht n (j n) l z) (same_on b c p.on z (h n l)) m p.from p.to)

  module _ (h : (m : ℕ) → m < 1024 → same_megabyte s t m ≡ true) (n : ℕ) (l : n < 8) where
    same_bank_at : (m : ℕ) → m < 1024 → bank_at s m ≡ bank_at t m
    unfolding same_megabyte
    same_bank_at m k =
        let z = eqb (bank_at s m) (bank_at t m) in
        eqb-true (bank_at s m) (bank_at t m) (and_left z (not (ltb (bank_at s m) 8) || same_part m (bank s (bank_at s m)) (bank t (bank_at s m))) (h m k))

    -- what bank n of one holds, bank n of the other holds
    over : (m : ℕ) → Held (bank s n) m → Held (bank t n) m
    over m p =
        let e = bank_selected s hs m n l (held_holds (bank s n) m p) in
        let k : m < 1024 = omega (arith, p.to, (x n).last_most) in
        let f : bank_at t m ≡ n = sym (same_bank_at m k) ∙ e in
        rw f at (bank_held t m (rw f l))

    back_over : (m : ℕ) → Held (bank t n) m → Held (bank s n) m
    back_over m p =
        let e = bank_selected t ht m n l (held_holds (bank t n) m p) in
        let k : m < 1024 = omega (arith, p.to, (y n).last_most) in
        let f : bank_at s m ≡ n = same_bank_at m k ∙ e in
        rw f at (bank_held s m (rw f l))

    part_over : (m : ℕ) → Held (bank s n) m → same_part m (bank s n) (bank t n) ≡ true
    unfolding same_megabyte
    part_over m p =
        let e = bank_selected s hs m n l (held_holds (bank s n) m p) in
        let k : m < 1024 = omega (arith, p.to, (x n).last_most) in
        let g : (eqb n (bank_at t m) && (not (ltb n 8) || same_part m (bank s n) (bank t n))) ≡ true = rw e at (h m k) in
        both_right (eqb n (bank_at t m)) (ltb n 8) (same_part m (bank s n) (bank t n)) g (lt-ltb n 8 l)

    -- the first and the last megabyte of an enabled bank
    ends_s : (bank s n).enabled ≡ true → Held (bank s n) (bank s n).start × Held (bank s n) (bank s n).last
    ends_s o = let f = fitting s hs n (i n) l o in
        (record { on = o; from = omega arith; to = f.ordered }, record { on = o; from = f.ordered; to = omega arith })

    ends_t : (bank t n).enabled ≡ true → Held (bank t n) (bank t n).start × Held (bank t n) (bank t n).last
    ends_t o = let f = fitting t ht n (j n) l o in
        (record { on = o; from = omega arith; to = f.ordered }, record { on = o; from = f.ordered; to = omega arith })

    megabytes_bank : same_bank (bank s n) (bank t n) ≡ true
    megabytes_bank =
        by_cases (bank s n).enabled
        (λ o.
        let a = ends_s o in
        let p = over (bank s n).start a.0 in
        let q = over (bank s n).last a.1 in
        let z = ends_t p.on in
        let u = back_over (bank t n).start z.0 in
        let v = back_over (bank t n).last z.1 in
        same_is (bank s n) (bank t n) o p.on
        (record {
          start = omega (arith, p.from, u.from);
          last = omega (arith, q.to, v.to);
          at_start_lem = part_over (bank s n).start a.0;
          at_last = part_over (bank s n).last a.1;
        }))
        (λ o.
        by_cases (bank t n).enabled (λ w. contra (back_over (bank t n).start (ends_t w).0).on o)
        (λ w. off_same (bank s n) (bank t n) o w))

  -- one test for each bank decides
  pub alike_banks : alike s t ≡ every (λ n. same_bank (bank s n) (bank t n)) 8
  alike_banks =
      alike_every s t x y
      ∙ equal_tests (every (same_megabyte s t) 1024) (every (λ n. same_bank (bank s n) (bank t n)) 8)
      (λ h. every_all (λ n. same_bank (bank s n) (bank t n)) 8 (λ n l. megabytes_bank (every_at (same_megabyte s t) 1024 h) n l))
      (λ h. every_all (same_megabyte s t) 1024 (λ m _. banks_megabyte (every_at (λ n. same_bank (bank s n) (bank t n)) 8 h) m))

-- ---- two records
pub every_more : (p : ℕ → Bool) (n : ℕ) → every p n ≡ true → p n ≡ true → every p (n + 1) ≡ true
unfolding every
every_more p n h t = rw (add-one, h, t)

pub every_stops : (p : ℕ → Bool) (e n : ℕ) → n < e → p n ≡ false → every p e ≡ false
every_stops p e n l t = by_cases (every p e) (λ h. contra (every_at p e h n l) t) (λ h. h)

module _ (r u : Registers) (p : (o : ℕ) → o < 256 → at r o < 256) (q : (o : ℕ) → o < 256 → at u o < 256) where
  pub records_alike :
      ready (setup_of r) ≡ true
      → ready (setup_of u) ≡ true
      → compared (setup_of r) (setup_of u) ≡ given (every (λ n. same_bank (bank (setup_of r) n) (bank (setup_of u) n)) 8)
  unfolding compared not_ready
  records_alike h k = rw (h, k, alike_banks (setup_of r) (setup_of u) (bounded r p) (bounded u q) (decoded r) (decoded u) h k)
