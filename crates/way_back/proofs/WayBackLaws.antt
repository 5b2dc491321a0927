-- The way back by arithmetic: which doubleword of a bank's span has a given row and column. These laws hold for any bank.
use mathlib.Core.Path.{◌≡◌, refl, sym, ◌∙◌}
use mathlib.Core.Bool.{true, cond, ◌&&◌}
use mathlib.Core.List.{[], ◌∷◌}
use Prim.Native.Nat.{ℕ, ◌+◌, ◌*◌, ◌/◌, ◌%◌, ◌^◌, ◌≤◌, ◌<◌}
use native.Mathlib.Omega.{arith}
use lib.Dec.{ltb, eqb}
use lib.Arith.{digits_lt}
use lib.Pow.{pow-add, split, high, low}
use borrow.Author.Tests.{ltb-true, ltb-false, lt-ltb, le-ltb, eqb-true, eq-eqb}
use Rattle.basics.specs.Range.{first}
use Rattle.basics.proofs.Bools.{and_left, and_right}
use Rattle.basics.proofs.RangeLaws.{by_cases, first_ge, first_passes, first_is}
use Rattle.refusals.specs.Paper.{refused, given}
use Rattle.banks.specs.declared.Bank.{Bank}
use Rattle.banks.specs.declared.Row.{Row}
use Rattle.banks.specs.declared.Column.{Column}
use Rattle.banks.specs.Map.{cells, cell_in_bank, row_of, column_of}
use Rattle.way_back.specs.WayBack.{is_at, span_end, doubleword_at, in_range}
use Rattle.way_back.specs.CodeAddress.{address_at}
use Rattle.basics.proofs.Remainders.{same_remainder, next, Next, next_is}

-- w, the number of a row and column within the bank
abbrev pub cell_in_bank_at : Bank → Row → Column → ℕ
cell_in_bank_at b row column = row.0 * 2 ^ b.column_bits + column.0

-- the first doubleword from the bank's start on that has the number w
abbrev pub doubleword_for : Bank → ℕ → ℕ
doubleword_for b w = next (b.start * 2 ^ 17) (cells b) w

-- what `in_range` says
pub record InRange (b : Bank) (row : Row) (column : Column) : Type 0 where
  pub row_most : row.0 < 2 ^ b.row_bits
  pub column_most : column.0 < 2 ^ b.column_bits

pub in_range_lem : (b : Bank) (row : Row) (column : Column) → in_range b row column ≡ true → InRange b row column
unfolding in_range
in_range_lem b row column h =
    let x = ltb row.0 (2 ^ b.row_bits) in
    let y = ltb column.0 (2 ^ b.column_bits) in
    record {
      row_most = ltb-true row.0 (2 ^ b.row_bits) (and_left x y h);
      column_most = ltb-true column.0 (2 ^ b.column_bits) (and_right x y h);
    }

module _ (b : Bank) (row : Row) (column : Column) (h : in_range b row column ≡ true) where
  pub cell_in_bank_below : cell_in_bank_at b row column < cells b
  unfolding cells
  cell_in_bank_below = let r = in_range_lem b row column h in rw pow-add (digits_lt r.row_most r.column_most)

  -- a doubleword has the row and column exactly if it has their number
  pub at_cell : (d : ℕ) → is_at b row column d ≡ true → d % cells b ≡ cell_in_bank_at b row column
  unfolding is_at row_of column_of cell_in_bank
  at_cell d t =
      let e : 8 * d / 8 ≡ d = omega arith in
      let v = d % cells b in
      let k = b.column_bits in
      let t' : (eqb (v / 2 ^ k) row.0 && eqb (v % 2 ^ k) column.0) ≡ true = rw e at t in
      let x = eqb-true (v / 2 ^ k) row.0 (and_left (eqb (v / 2 ^ k) row.0) (eqb (v % 2 ^ k) column.0) t') in
      let y = eqb-true (v % 2 ^ k) column.0 (and_right (eqb (v / 2 ^ k) row.0) (eqb (v % 2 ^ k) column.0) t') in
      sym (rw (x, y) at (split v k))

  pub cell_at : (d : ℕ) → d % cells b ≡ cell_in_bank_at b row column → is_at b row column d ≡ true
  unfolding is_at row_of column_of cell_in_bank
  cell_at d t =
      let e : 8 * d / 8 ≡ d = omega arith in
      let r = in_range_lem b row column h in
      let k = b.column_bits in
      simp (e, t, high row.0 k r.column_most, low row.0 k r.column_most, eq-eqb row.0 row.0 refl, eq-eqb column.0 column.0 refl)

  pub next_doubleword_lem : Next (b.start * 2 ^ 17) (cells b) (cell_in_bank_at b row column) (doubleword_for b (cell_in_bank_at b row column))
  next_doubleword_lem = next_is (b.start * 2 ^ 17) (cells b) (cell_in_bank_at b row column) cell_in_bank_below

  -- the doubleword that the way back finds, if the span reaches it
  pub doubleword_found : doubleword_for b (cell_in_bank_at b row column) < span_end b → doubleword_at b row column ≡ doubleword_for b (cell_in_bank_at b row column)
  unfolding doubleword_at
  doubleword_found l =
      let s = b.start * 2 ^ 17 in
      let d = doubleword_for b (cell_in_bank_at b row column) in
      let x = next_doubleword_lem in
      first_is (is_at b row column) (span_end b) s d x.low l (cell_at d x.rest)
      (λ j m k.
      by_cases (is_at b row column j)
      (λ t. let e : j ≡ d = same_remainder (cells b) s j d m (omega arith) x.low x.high (at_cell j t ∙ sym x.rest) in absurd (omega arith))
      (λ t. t))

  -- if it does not, there is none
  doubleword_none : span_end b ≤ doubleword_for b (cell_in_bank_at b row column) → span_end b ≤ doubleword_at b row column
  unfolding doubleword_at
  doubleword_none l =
      let s = b.start * 2 ^ 17 in
      let d = doubleword_for b (cell_in_bank_at b row column) in
      let f = first (is_at b row column) (span_end b) s in
      let x = next_doubleword_lem in
      by_cases (ltb f (span_end b))
      (λ t.
      let k = ltb-true f (span_end b) t in
      let g = first_ge (is_at b row column) (span_end b) s in
      let p = first_passes (is_at b row column) (span_end b) s k in
      let e : f ≡ d = same_remainder (cells b) s f d g (omega arith) x.low x.high (at_cell f p ∙ sym x.rest) in
      absurd (omega arith))
      (λ t. ltb-false f (span_end b) t)

  -- the way back in one bank: one candidate, and one test of it
  pub address_at_lem :
      address_at b row column
      ≡ cond (ltb (doubleword_for b (cell_in_bank_at b row column)) (span_end b)) (given (8 * doubleword_for b (cell_in_bank_at b row column))) (refused (17 ∷ []))
  unfolding address_at
  address_at_lem =
      let d = doubleword_for b (cell_in_bank_at b row column) in
      by_cases (ltb d (span_end b))
      (λ t. let e = doubleword_found (ltb-true d (span_end b) t) in rw (e, t))
      (λ t. let u = le-ltb (doubleword_at b row column) (span_end b) (doubleword_none (ltb-false d (span_end b) t)) in simp (t, u))

  pub address_given_lem : doubleword_for b (cell_in_bank_at b row column) < span_end b → address_at b row column ≡ given (8 * doubleword_for b (cell_in_bank_at b row column))
  address_given_lem l = address_at_lem ∙ simp (lt-ltb (doubleword_for b (cell_in_bank_at b row column)) (span_end b) l)

  pub address_none : span_end b ≤ doubleword_for b (cell_in_bank_at b row column) → address_at b row column ≡ refused (17 ∷ [])
  address_none l = address_at_lem ∙ simp (le-ltb (doubleword_for b (cell_in_bank_at b row column)) (span_end b) l)
