-- One pass over the enabled banks: what holds of the banks that it has passed, and what it finds in the end.
use Rattle.std.specs.Prelude.{Some, None, is_none}
use Rattle.std.proofs.Common.{◌≡◌, ℕ, zero, suc, ◌+◌, ◌-◌, ◌*◌, ◌%◌, ◌^◌, ◌<◌, ◌≤◌, Bool, true, false, cond, ◌&&◌, ◌||◌, eqb, ltb, leb, ◌⊎◌, [], ◌∷◌, get_or, sym, refl, ap, ◌∙◌, subst, inl, inr, ⊎_elim, arith, pow_mono, ltb-false, ltb-true, le-ltb, ne_eqb}
use mathlib.Core.Option.{none, some}
use lib.Bits.{bit_and, and_le_l, and_le_r}
use lib.Count.{count_trailing_zeros}
use borrow.Author.Tests.{lt-leb}
use Rattle.basics.specs.Range.{first}
use Rattle.basics.proofs.Bools.{and_not, and_false, or_left}
use Rattle.basics.proofs.RangeLaws.{by_cases, contra, first_at, first_before, sum_zero, sum_more}
use Rattle.basics.proofs.Zeros.{is_set}
use Rattle.refusals.specs.Paper.{given, ◌gives◌}
use Rattle.banks.specs.Setup.{most_row_bits, most_column_bits, Setup, bank, off_bank}
use Rattle.banks.specs.Judge.{lowest, is_enabled, inverted, too_long, faulty, meets, meets_lower, lowest_meeting, judged, ready, not_ready}
use Rattle.banks.specs.Map.{most_cells, holds, bank_at, cells, share, cells_below, cell_count}
use Rattle.address_map.specs.declared.fields.Fields.{Fields}
use Rattle.address_map.specs.CodeFields.{bank_by, enabled_by, setup_by}
use Rattle.address_map.specs.CodeSelection.{megabyte_bits, bits_unless_faulty, selection}
use Rattle.address_map.specs.CodeRoute.{route_by, bank_in, first_in, bits_in, paper_route}
use Rattle.address_map.specs.declared.routes.Route.{Route}
use Rattle.banks.proofs.FieldLaws.{cells_within}
use Rattle.address_map.proofs.SetupLaws.{bank_by_lem, bank_past, decoded_by}
use Rattle.banks.proofs.AcceptedLaws.{accepted}
use Rattle.banks.proofs.CellLaws.{bank_selected, cells_more}
use Rattle.address_map.proofs.SizeLaws.{few_bits, cells_bits, faulty_stands}
use Rattle.address_map.proofs.EnableLaws.{Rest, rest_whole, rest_none, next_below, next_from, next_on, next_off, rest_less}

-- ---- a disabled bank is not faulty, holds no megabyte, meets no bank and adds no cells
module _ (s : Setup) (k : ℕ) (e : (bank s k).enabled ≡ false) where
  pub off_faulty : faulty (bank s k) ≡ false
  unfolding faulty
  off_faulty = rw e

  off_holds : (mb : ℕ) → holds mb (bank s k) ≡ false
  unfolding holds
  off_holds mb = rw e

  off_meets : meets_lower s k ≡ false
  unfolding meets_lower
  off_meets = rw e

  off_share : share (bank s k) ≡ 0
  unfolding share
  off_share = rw e

-- a sound bank does not start above its end
forward : (s : Setup) (n : ℕ) → (bank s n).enabled ≡ true → faulty (bank s n) ≡ false → (bank s n).start ≤ (bank s n).last
unfolding faulty inverted
forward s n on sane =
    let c = bank s n in
    ltb-false c.last c.start (or_left (inverted c) (too_long c) (and_not c.enabled (inverted c || too_long c) sane on))

-- a statement about the numbers below m, from one about those below n and one about the others
below : {P : ℕ → Type 0} (n m : ℕ) → ((k : ℕ) → k < n → P k) → ((k : ℕ) → n ≤ k → k < m → P k) → (k : ℕ) → k < m → P k
below n m low high k l = by_cases (ltb k n) (λ t. low k (ltb-true k n t)) (λ t. high k (ltb-false k n t) l)

cells_skip : (s : Setup) (n d : ℕ) → ((k : ℕ) → n ≤ k → k < n + d → (bank s k).enabled ≡ false) → cells_below s (n + d) ≡ cells_below s n
unfolding cells_below
cells_skip s n zero h = let e : n + 0 ≡ n = omega arith in rw e
cells_skip s n (suc d) h =
    let e : n + suc d ≡ (n + d) + 1 = omega arith in
    let z = off_share s (n + d) (h (n + d) (omega arith) (omega arith)) in
    let g = cells_skip s n d (λ k l m. h k l (omega arith)) in
    rw (e, sum_more, z) (omega (arith, g))

-- ---- the state of the pass
-- b is 8, and no bank below n holds the megabyte, or b holds it, k is the number of its first cell, and z its bits
abbrev Found : Setup → ℕ → ℕ → ℕ → ℕ → ℕ → Type 0
Found s mb n b k z =
    ((b ≡ 8) × ((j : ℕ) → j < n → holds mb (bank s j) ≡ false))
    ⊎ ((b < 8) × (holds mb (bank s b) ≡ true) × (k ≡ cells_below s b) × (z ≡ megabyte_bits (bank s b)))

-- the banks below n are passed: none is faulty, `base` cells are theirs, and if the top bit of `ascent` is set, none of them meets another,
-- and none ends above `end`
pub record Passed (s : Setup) (mb n b k z base end ascent : ℕ) : Type 0 where
  pub most : n ≤ 8
  pub sound : (j : ℕ) → j < n → faulty (bank s j) ≡ false
  pub sum : base ≡ cells_below s n
  pub small : base ≤ n * most_cells
  pub found : Found s mb n b k z
  pub narrow : z ≤ 8
  pub apart : 2 ^ 31 ≤ ascent → (j : ℕ) → j < n → meets_lower s j ≡ false
  pub under : 2 ^ 31 ≤ ascent → (j : ℕ) → j < n → (bank s j).enabled ≡ true → ((bank s j).last ≤ end) × (end < 2 ^ 16)

module _ (s : Setup) (mb : ℕ) where
  passed_start : (end ascent : ℕ) → Passed s mb 0 8 0 0 0 end ascent
  unfolding cells_below
  passed_start end ascent =
      record {
        most = omega arith;
        sound = λ j l. absurd (omega arith);
        sum = sym (sum_zero _);
        small = omega arith;
        found = inl (refl, λ j l. absurd (omega arith));
        narrow = omega arith;
        apart = λ _ j l. absurd (omega arith);
        under = λ _ j l. absurd (omega arith);
      }

  module _ (n b k z base end ascent : ℕ) (p : Passed s mb n b k z base end ascent) where
    -- passing disabled banks changes nothing
    passed_skip : (m : ℕ) → n ≤ m → m ≤ 8 → ((j : ℕ) → n ≤ j → j < m → (bank s j).enabled ≡ false) → Passed s mb m b k z base end ascent
    passed_skip m l u off =
        let e : n + (m - n) ≡ m = omega arith in
        record {
          most = u;
          sound = below n m p.sound (λ j x y. off_faulty s j (off j x y));
          sum = p.sum ∙ sym (ap (cells_below s) (sym e) ∙ cells_skip s n (m - n) (λ j x y. off j x (omega arith)));
          small = omega (arith, p.small);
          found =
              ⊎_elim (λ w. inl (w.0, below n m w.1 (λ j x y. off_holds s j (off j x y) mb)))
              (λ w. inr w) p.found;
          narrow = p.narrow;
          apart = λ t. below n m (p.apart t) (λ j x y. off_meets s j (off j x y));
          under = λ t. below n m (p.under t) (λ j x y q. contra q (off j x y));
        }

    -- the enabled bank n is passed; `gap` is the difference of `end` and its start, modulo 2 ^ 32
    module _
        (gap : ℕ) (top : gap < 2 ^ 32) (l : n < 8) (on : (bank s n).enabled ≡ true) (sane : faulty (bank s n) ≡ false) (size : cells (bank s n) ≤ most_cells)
        (few : megabyte_bits (bank s n) ≤ 8) (bits : (bank s n).last < 2 ^ 16) (wraps : (gap + (bank s n).start) % 2 ^ 32 ≡ end) where
      abbrev here : Bool
      here = leb (bank s n).start mb && leb mb (bank s n).last

      -- a statement about the bank passed, and one about those before it
      one_more : {P : ℕ → Type 0} → ((j : ℕ) → j < n → P j) → P n → (j : ℕ) → j < n + 1 → P j
      one_more {P} low x = below {P = P} n (n + 1) low (λ j y z. let e : n ≡ j = omega arith in subst P e x)

      holds_here : holds mb (bank s n) ≡ here
      unfolding holds
      holds_here = rw on

      found_more : Found s mb (n + 1) (cond here n b) (cond here base k) (cond here (megabyte_bits (bank s n)) z)
      found_more =
          by_cases here (λ t. rw t (inr (l, holds_here ∙ t, p.sum, refl)))
          (λ t. rw t (⊎_elim (λ w. inl (w.0, one_more w.1 (holds_here ∙ t))) (λ w. inr w) p.found))

      -- the bank starts above the ends of all before it
      above : 2 ^ 31 ≤ bit_and ascent gap → (j : ℕ) → j < n → (bank s j).enabled ≡ true → (bank s j).last < (bank s n).start
      above t j q u =
          let v = p.under (omega (arith, and_le_l ascent gap)) j q u in
          omega (arith, and_le_r ascent gap, v.0, v.1, bits, top, forward s n on sane)

      -- so it meets none of them
      apart_here : 2 ^ 31 ≤ bit_and ascent gap → meets_lower s n ≡ false
      unfolding meets_lower meets
      apart_here t =
          let c = bank s n in
          let none : (j : ℕ) → 0 ≤ j → j < n → meets c (bank s j) ≡ false =
          (λ j _ q.
          by_cases (bank s j).enabled
          (λ u. rw (u, lt-leb c.start (bank s j).last (above t j q u)) (and_false (leb (bank s j).start c.last)))
          (λ u. rw u)) in
          let e = first_at (λ j. meets c (bank s j)) n 0 n (omega arith) (omega arith) (λ z. absurd (omega arith)) none in
          rw (on, e, le-ltb n n (omega arith))

      passed_more :
          Passed s mb (n + 1) (cond here n b) (cond here base k) (cond here (megabyte_bits (bank s n)) z)
          (base + cells (bank s n)) (bank s n).last (bit_and ascent gap)
      passed_more =
          record {
            most = omega arith;
            sound = one_more p.sound sane;
            sum = ap (λ (x : ℕ). x + cells (bank s n)) p.sum ∙ sym (cells_more s n on);
            small = omega (arith, p.small, size);
            found = found_more;
            narrow = by_cases here (λ t. rw t few) (λ t. rw t p.narrow);
            apart = λ t. one_more (p.apart (omega (arith, and_le_l ascent gap))) (apart_here t);
            under = λ t. one_more (λ j x q. (omega (arith, above t j x q, forward s n on sane), bits)) (λ q. (omega arith, bits));
          }

-- ---- the pass over the fields
pub enabled_at : (f : Fields) (k : ℕ) → k < 8 → (bank (setup_by f) k).enabled ≡ is_set f.enables k
unfolding bank_by enabled_by
enabled_at f k l =
    rw (bank_by_lem f k l) (by_cases (is_set f.enables k) (λ t. rw t) (λ t. rw t))

pub bank_on_lem : (f : Fields) (k : ℕ) → k < 8 → (bank (setup_by f) k).enabled ≡ true → bank (setup_by f) k ≡ enabled_by f k
unfolding bank_by
bank_on_lem f k l on = rw (bank_by_lem f k l, sym (enabled_at f k l) ∙ on)

-- no bank above 7 is enabled
pub enabled_below : (f : Fields) (k : ℕ) → (bank (setup_by f) k).enabled ≡ true → k < 8
enabled_below f k on =
    by_cases (ltb k 8) (λ t. ltb-true k 8 t) (λ t. contra on (rw (bank_past f k (ltb-false k 8 t))))

pub bank_off_lem : (f : Fields) (k : ℕ) → (bank (setup_by f) k).enabled ≡ false → bank (setup_by f) k ≡ off_bank
unfolding bank_by
bank_off_lem f k off =
    by_cases (ltb k 8) (λ t. let l = ltb-true k 8 t in rw (bank_by_lem f k l, sym (enabled_at f k l) ∙ off))
    (λ t. bank_past f k (ltb-false k 8 t))

-- the enable bit, by one test for every number
pub enabled_is : (f : Fields) (k : ℕ) → (ltb k 8 && is_set f.enables (k % 8)) ≡ (bank (setup_by f) k).enabled
enabled_is f k =
    by_cases (ltb k 8)
    (λ t.
    let l = ltb-true k 8 t in
    let e : k % 8 ≡ k = omega (arith, l) in
    rw (t, e, enabled_at f k l))
    (λ t. rw (t, bank_past f k (ltb-false k 8 t)))

-- 12 or 13 applies to an enabled bank that has no size
pub faulty_by : (f : Fields) (k : ℕ) → (bank (setup_by f) k).enabled ≡ true → is_none (bits_unless_faulty (enabled_by f k)) ≡ faulty (bank (setup_by f) k)
faulty_by f k on = rw (bank_on_lem f k (enabled_below f k on) on) (faulty_stands f k)

-- the banks below some n are passed, and the bits of the others are left
pub record Going (f : Fields) (mb rest b k z base end ascent : ℕ) : Type 0 where
  pub n : ℕ
  pub left : Rest f.enables rest n
  pub passed : Passed (setup_by f) mb n b k z base end ascent

pub going_start : (f : Fields) → f.enables < 256 → (mb end ascent : ℕ) → Going f mb f.enables 8 0 0 0 end ascent
going_start f h mb end ascent =
    record { n = 0; left = rest_whole f.enables h; passed = passed_start (setup_by f) mb end ascent }

-- some bank is enabled exactly if some bit is set
pub some_enabled : (f : Fields) → f.enables < 256 → ((f.enables ≡ 0) → ⊥) → lowest is_enabled (setup_by f) < 8
unfolding lowest
some_enabled f h z =
    let e = f.enables in
    let w = rest_whole e h in
    let b = next_below e e 0 w z in
    let m = first (λ k. is_enabled (bank (setup_by f) k)) 8 0 in
    by_cases (ltb m 8) (λ t. ltb-true m 8 t)
    (λ t.
    contra (enabled_at f (count_trailing_zeros 32 e) b ∙ next_on e e 0 w z)
    (first_before (λ k. is_enabled (bank (setup_by f) k)) 8 0 (count_trailing_zeros 32 e) (omega arith) (omega (arith, b, ltb-false m 8 t))))

pub none_enabled : (f : Fields) → f.enables < 256 → f.enables ≡ 0 → 8 ≤ lowest is_enabled (setup_by f)
unfolding lowest
none_enabled f h z =
    let e = f.enables in
    let q = first_at (λ k. is_enabled (bank (setup_by f) k)) 8 0 8 (omega arith) (omega arith) (λ w. absurd (omega arith))
    (λ j l k. enabled_at f j k ∙ rest_none e e 0 (rest_whole e h) z j l k) in
    omega (arith, q)

module _ {f : Fields} {mb rest b k z base end ascent : ℕ} (g : Going f mb rest b k z base end ascent) where
  -- no bits are left
  pub going_end : rest ≡ 0 → Passed (setup_by f) mb 8 b k z base end ascent
  going_end e =
      passed_skip (setup_by f) mb g.n b k z base end ascent g.passed 8 g.passed.most (omega arith)
      (λ j x y. enabled_at f j y ∙ rest_none f.enables rest g.n g.left e j x y)

  -- the lowest bit left is that of bank m
  module _ (some : (rest ≡ 0) → ⊥) where
    abbrev m : ℕ
    m = count_trailing_zeros 32 rest

    pub below_eight : m < 8
    below_eight = next_below f.enables rest g.n g.left some

    pub same_here : m % 8 ≡ m
    same_here = omega (arith, below_eight)

    passed_here : Passed (setup_by f) mb m b k z base end ascent
    passed_here =
        passed_skip (setup_by f) mb g.n b k z base end ascent g.passed m (next_from f.enables rest g.n g.left some) (omega (arith, below_eight))
        (λ j x y. enabled_at f j (omega (arith, below_eight)) ∙ next_off f.enables rest g.n g.left some j x y)

    small_here : base ≤ 7 * most_cells
    small_here = omega (arith, passed_here.small, below_eight)

    enabled_here : (bank (setup_by f) m).enabled ≡ true
    enabled_here = enabled_at f m below_eight ∙ next_on f.enables rest g.n g.left some

    bank_here : bank (setup_by f) m ≡ enabled_by f m
    bank_here = bank_on_lem f m below_eight enabled_here

    starts_here : (bank (setup_by f) m).start ≡ get_or f.starts m 0
    unfolding enabled_by
    starts_here = rw bank_here

    ends_here : (bank (setup_by f) m).last ≡ get_or f.lasts m 0
    unfolding enabled_by
    ends_here = rw bank_here

    sane_is : is_none (bits_unless_faulty (enabled_by f (m % 8))) ≡ faulty (bank (setup_by f) m)
    sane_is = rw same_here (faulty_by f m enabled_here)

    -- a faulty bank has no size
    pub faulty_here : None ≡ bits_unless_faulty (enabled_by f (m % 8)) → lowest faulty (setup_by f) < 8
    unfolding lowest
    faulty_here sized =
        let v : faulty (bank (setup_by f) m) ≡ true = sym sane_is ∙ ap is_none (sym sized) in
        let i = first (λ j. faulty (bank (setup_by f) j)) 8 0 in
        by_cases (ltb i 8) (λ u. ltb-true i 8 u)
        (λ u. contra v (first_before (λ j. faulty (bank (setup_by f) j)) 8 0 m (omega arith) (omega (arith, below_eight, ltb-false i 8 u))))

    module _ {bits : ℕ} (sized : Some bits ≡ bits_unless_faulty (enabled_by f (m % 8))) where
      sane_here : (faulty (bank (setup_by f) m) ≡ false) × (bits ≡ megabyte_bits (bank (setup_by f) m))
      unfolding bits_unless_faulty
      sane_here =
          let v : faulty (bank (setup_by f) m) ≡ false = sym sane_is ∙ ap is_none (sym sized) in
          let q : faulty (enabled_by f m) ≡ false = rw bank_here at v in
          let r : Some bits ≡ Some (megabyte_bits (enabled_by f m)) = rw (same_here, q) at sized in
          (v, rw bank_here (cc))

      bits_most : bits ≤ 8
      bits_most = omega (arith, sane_here.1, few_bits (bank (setup_by f) m) (decoded_by f m))

      -- no number of the pass leaves its 32 bits
      pub power_below : 17 + bits < 32
      power_below = omega (arith, bits_most)

      pub power_fits : 17 + bits < 2 ^ 32
      power_fits = omega (arith, bits_most)

      pub base_fits : {p : ℕ} → p ≡ 2 ^ (17 + bits) → base + p < 2 ^ 32
      base_fits q =
          let room = pow_mono {i = 17 + bits} {j = most_row_bits + most_column_bits} (omega (arith, bits_most)) in
          omega (arith, q, small_here, room)

      cells_here : cells (bank (setup_by f) m) ≡ 2 ^ (17 + bits)
      cells_here = cells_bits (bank (setup_by f) m) (decoded_by f m) ∙ ap (λ (x : ℕ). 2 ^ (17 + x)) (sym sane_here.1)

      pub forward_here : get_or f.starts m 0 ≤ get_or f.lasts m 0
      forward_here =
          rw (starts_here, ends_here) at (forward (setup_by f) m enabled_here sane_here.0)

      pub going_next : get_or f.lasts m 0 < 2 ^ 16 → (gap : ℕ) → gap < 2 ^ 32 → (gap + get_or f.starts m 0) % 2 ^ 32 ≡ end
          → Going f mb (bit_and rest (rest - 1))
          (cond (leb (get_or f.starts m 0) mb && leb mb (get_or f.lasts m 0)) m b)
          (cond (leb (get_or f.starts m 0) mb && leb mb (get_or f.lasts m 0)) base k)
          (cond (leb (get_or f.starts m 0) mb && leb mb (get_or f.lasts m 0)) bits z)
          (base + 2 ^ (17 + bits)) (get_or f.lasts m 0) (bit_and ascent gap)
      going_next small gap u q =
          let d = decoded_by f m in
          let here = bank (setup_by f) m in
          let more =
          passed_more (setup_by f) mb m b k z base end ascent passed_here gap u below_eight enabled_here sane_here.0 (cells_within here d.rows_most d.columns_narrow) (few_bits here d) (rw ends_here small) (rw starts_here q) in
          record {
            n = m + 1;
            left = rest_less f.enables rest g.n g.left some;
            passed = rw (starts_here, ends_here, cells_here, ← sane_here.1) at more;
          }

-- ---- the end of the pass
-- what `select` promises of a route
abbrev Selects : Route → Setup → ℕ → Type 0
Selects to s mb = (paper_route to ≡ (not_ready s gives selection s mb)) × (bank_in to ≡ 8 → first_in to ≡ cell_count s)

judged_none : (s : Setup) → lowest is_enabled s < 8 → 8 ≤ lowest faulty s → 8 ≤ lowest_meeting s → judged s ≡ none
unfolding judged
judged_none s e f m = simp (lt-leb 8 (lowest is_enabled s) e, le-ltb (lowest faulty s) 8 f, le-ltb (lowest_meeting s) 8 m)

pub ready_from : (s : Setup) → s.on ≡ true → lowest is_enabled s < 8 → 8 ≤ lowest faulty s → 8 ≤ lowest_meeting s → ready s ≡ true
unfolding ready
ready_from s on e f m = rw (judged_none s e f m, on)

unready : (s : Setup) → ((ready s ≡ true) → ⊥) → not_ready s ≡ some (5 ∷ [])
unfolding not_ready
unready s h = by_cases (ready s) (λ t. absurd (h t)) (λ t. rw t)

pub unready_off : (s : Setup) → s.on ≡ false → not_ready s ≡ some (5 ∷ [])
unfolding not_ready ready
unready_off s e = rw e

pub unready_none : (s : Setup) → 8 ≤ lowest is_enabled s → not_ready s ≡ some (5 ∷ [])
unready_none s e = unready s (λ t. absurd (omega (arith, (accepted s t).some_enabled)))

pub unready_faulty : (s : Setup) → lowest faulty s < 8 → not_ready s ≡ some (5 ∷ [])
unready_faulty s e = unready s (λ t. absurd (omega (arith, (accepted s t).none_faulty)))

pub unready_meeting : (s : Setup) → lowest_meeting s < 8 → not_ready s ≡ some (5 ∷ [])
unready_meeting s e = unready s (λ t. absurd (omega (arith, (accepted s t).none_meeting)))

module _ {s : Setup} {mb b k z base end ascent : ℕ} (p : Passed s mb 8 b k z base end ascent) where
  -- no bank fails the test
  all_pass : (q : ℕ → Bool) → ((j : ℕ) → j < 8 → q j ≡ false) → first q 8 0 ≡ 8
  all_pass q h = first_at q 8 0 8 (omega arith) (omega arith) (λ w. absurd (omega arith)) (λ j _ m. h j m)

  pub none_faulty : 8 ≤ lowest faulty s
  unfolding lowest
  none_faulty = omega (arith, all_pass (λ j. faulty (bank s j)) p.sound)

  pub none_meeting : 2 ^ 31 ≤ ascent → 8 ≤ lowest_meeting s
  unfolding lowest_meeting
  none_meeting t = omega (arith, all_pass (meets_lower s) (p.apart t))

  no_bank : ((j : ℕ) → j < 8 → holds mb (bank s j) ≡ false) → bank_at s mb ≡ 8
  unfolding bank_at lowest
  no_bank h = all_pass (λ j. holds mb (bank s j)) h

  -- what was chosen is the megabyte's bank
  selected_is : ready s ≡ true → selection s mb ≡ cond (ltb b 8) (some (b, k, z)) none
  unfolding selection
  selected_is h =
      ⊎_elim
      (λ w. let e : bank_at s mb ≡ 8 = no_bank w.1 in rw (e, w.0))
      (λ w. let e : bank_at s mb ≡ b = bank_selected s h mb b w.0 w.1 in rw (e, w.2, w.3))
      p.found

  chosen_most : b ≤ 8
  chosen_most = ⊎_elim (λ w. omega (arith, w.0)) (λ w. omega (arith, w.0)) p.found

  selection_given : ready s ≡ true → given (cond (ltb b 8) (some (b, k, z)) none) ≡ (not_ready s gives selection s mb)
  unfolding not_ready
  selection_given h = rw (h, selected_is h)

  pub packs : (b < 16) × (z < 16)
  packs = (omega (arith, chosen_most), omega (arith, p.narrow))

  -- and what is packed into a route says so
  pub chosen : ready s ≡ true → (to : Route) → bank_in to ≡ b → first_in to ≡ cond (eqb b 8) base k → bits_in to ≡ z → Selects to s mb
  chosen h to eb ek ez =
      let most = le-ltb 8 b chosen_most in
      by_cases (ltb b 8)
      (λ t.
      let l = ltb-true b 8 t in
      (rw (eb, ek, ez, most, ne_eqb b 8 (λ x. omega (arith, l, x))) (selection_given h), λ x. absurd (omega (arith, eb, x, l))))
      (λ t.
      let e : b ≡ 8 = omega (arith, ltb-false b 8 t, chosen_most) in
      (rw (eb, ek, ez, most, t) (rw t at (selection_given h)), λ _. ek ∙ rw e p.sum))

-- the route of a set-up that is not ready
pub declined : (s : Setup) (mb : ℕ) → not_ready s ≡ some (5 ∷ []) → Selects (route_by 144) s mb
unfolding bank_in
declined s mb h = (rw h, λ x. absurd (omega (arith, x)))
