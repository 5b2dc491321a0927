-- The map and the way back of a ready set-up undo each other.
use mathlib.Core.Path.{◌≡◌, sym, ◌∙◌}
use mathlib.Core.Bool.{true}
use mathlib.Core.List.{[], ◌∷◌}
use mathlib.Core.Option.{some}
use Prim.Native.Nat.{ℕ, ◌+◌, ◌*◌, ◌/◌, ◌%◌, ◌^◌, ◌<◌}
use native.Mathlib.Nat.{mod-lt}
use native.Mathlib.Omega.{arith}
use lib.Dec.{ltb}
use lib.Pow.{pow_pos, shr_lt, split, high, low}
use borrow.Author.Tests.{ltb-true, lt-ltb}
use Rattle.basics.proofs.RangeLaws.{never, by_cases}
use Rattle.refusals.specs.Paper.{refused, given}
use Rattle.registers.specs.declared.Registers.{Registers}
use Rattle.banks.specs.declared.Bank.{Bank}
use Rattle.banks.specs.declared.Row.{Row}
use Rattle.banks.specs.declared.Column.{Column}
use Rattle.banks.specs.declared.Place.{Place}
use Rattle.banks.specs.Setup.{Setup, bank, setup_of}
use Rattle.banks.specs.Judge.{ready}
use Rattle.banks.specs.Map.{selected, in_span, cells_below, cells, cell_in_bank, row_of, column_of, place_of, located}
use Rattle.way_back.specs.WayBack.{span_end, in_range, back}
use Rattle.way_back.specs.CodeAddress.{address_at}
use Rattle.banks.proofs.RowLaws.{row_is, column_is}
use Rattle.basics.proofs.Remainders.{same_remainder}
use Rattle.banks.proofs.FieldLaws.{Decoded, decoded}
use Rattle.banks.proofs.SpanLaws.{Held, held_holds, bank_held}
use Rattle.banks.proofs.AcceptedLaws.{Fitting, fitting}
use Rattle.banks.proofs.CellLaws.{bank_selected, cell_in_bank_most}
use Rattle.banks.proofs.MapLaws.{located_at}
use Rattle.way_back.proofs.WayBackLaws.{cell_in_bank_at, doubleword_for, in_range_lem, next_doubleword_lem, address_at_lem, address_given_lem}
use Rattle.way_back.proofs.AbsentLaws.{Asked, asked_given, back_asked}

-- ---- an address of a bank
module _ (b : Bank) (a : ℕ) where
  -- the row and column of an address are in range, and their number is the address's
  own_range : in_range b (row_of b a) (column_of b a) ≡ true
  unfolding in_range row_of column_of cells
  own_range =
      let w = cell_in_bank b a in
      let k = b.column_bits in
      let i : w / 2 ^ k < 2 ^ b.row_bits = shr_lt b.row_bits k (cell_in_bank_most b a) in
      let j : w % 2 ^ k < 2 ^ k = mod-lt w (pow_pos k) in
      simp (lt-ltb (w / 2 ^ k) (2 ^ b.row_bits) i, lt-ltb (w % 2 ^ k) (2 ^ k) j)

  own_cell : cell_in_bank_at b (row_of b a) (column_of b a) ≡ cell_in_bank b a
  unfolding row_of column_of
  own_cell = split (cell_in_bank b a) b.column_bits

  -- the doubleword that the way back finds for them is the address's own
  own_doubleword : Fitting b → Held b (a / 2 ^ 20) → doubleword_for b (cell_in_bank_at b (row_of b a) (column_of b a)) ≡ a / 8
  unfolding cell_in_bank
  own_doubleword f p =
      let row = row_of b a in
      let column = column_of b a in
      let x = next_doubleword_lem b row column own_range in
      let d = doubleword_for b (cell_in_bank_at b row column) in
      same_remainder (cells b) (b.start * 2 ^ 17) d (a / 8) x.low x.high (omega arith) (omega arith) (x.rest ∙ own_cell)

  own_address : Fitting b → Held b (a / 2 ^ 20) → address_at b (row_of b a) (column_of b a) ≡ given (a / 8 * 8)
  unfolding span_end
  own_address f p =
      let e = own_doubleword f p in
      let m : 8 * (a / 8) ≡ a / 8 * 8 = omega arith in
      address_given_lem b (row_of b a) (column_of b a) own_range (omega arith) ∙ rw (e, m)

-- ---- an answer of the way back
-- the candidate of the way back, if it is the answer
record Found (b : Bank) (row : Row) (column : Column) (x : ℕ) : Type 0 where
  inside : doubleword_for b (cell_in_bank_at b row column) < span_end b
  address : x ≡ 8 * doubleword_for b (cell_in_bank_at b row column)

found :
    (b : Bank) (row : Row) (column : Column) (x : ℕ)
    → in_range b row column ≡ true
    → address_at b row column ≡ given x → Found b row column x
found b row column x r h =
    let w = doubleword_for b (cell_in_bank_at b row column) in
    let e = sym (address_at_lem b row column r) ∙ h in
    by_cases (ltb w (span_end b))
    (λ t. let g : given (8 * w) ≡ given x = rw t at e in record { inside = ltb-true w (span_end b) t; address = cc })
    (λ t. let g : refused (17 ∷ []) ≡ given x = rw t at e in never (cc))

module _ (b : Bank) (row : Row) (column : Column) (x : ℕ) (r : in_range b row column ≡ true) (f : Found b row column x) where
  found_held : b.enabled ≡ true → Held b (x / 2 ^ 20)
  unfolding span_end
  found_held e =
      let c = next_doubleword_lem b row column r in
      record { on = e; from = omega arith; to = omega arith }

  found_cell : cell_in_bank b x ≡ cell_in_bank_at b row column
  unfolding cell_in_bank
  found_cell =
      let e : x / 8 ≡ doubleword_for b (cell_in_bank_at b row column) = omega arith in
      rw e (next_doubleword_lem b row column r).rest

  found_row : row_of b x ≡ row
  unfolding row_of
  found_row = row_is (row_of b x) row (rw found_cell (high row.0 b.column_bits (in_range_lem b row column r).column_most))

  found_column : column_of b x ≡ column
  unfolding column_of
  found_column = column_is (column_of b x) column (rw found_cell (low row.0 b.column_bits (in_range_lem b row column r).column_most))

-- ---- the two ways
-- the map, then the way back: the doubleword's address
back_from :
    (s : Setup)
    → ((n : ℕ) → Decoded (bank s n))
    → ready s ≡ true
    → (a : ℕ) (p : Place)
    → located s a ≡ some p
    → back s p.bank p.row p.column ≡ given (a / 8 * 8)
unfolding place_of
back_from s d h a p e =
    let q = located_at s a p e in
    let n = selected s a in
    let b = bank s n in
    let g = bank_held s (a / 2 ^ 20) q.bank_below in
    let k : Asked s n (row_of b a) (column_of b a) = record { on = h; bank_below = q.bank_below; enabled = g.on; range = own_range b a } in
    rw q.place (back_asked s n (row_of b a) (column_of b a) k ∙ own_address b a (fitting s h n (d n) q.bank_below g.on) g)

pub back_of_map :
    (r : Registers)
    → ready (setup_of r) ≡ true
    → (a : ℕ) (p : Place)
    → located (setup_of r) a ≡ some p
    → back (setup_of r) p.bank p.row p.column ≡ given (a / 8 * 8)
back_of_map r = back_from (setup_of r) (decoded r)

-- the way back, then the map: the bank, the row and the column
abbrev pub place_at : Setup → ℕ → Row → Column → Place
place_at s n row column = record { bank = n; row = row; column = column; cell = cells_below s n + cell_in_bank_at (bank s n) row column }

pub map_of_back :
    (s : Setup) (n : ℕ) (row : Row) (column : Column) (x : ℕ)
    → back s n row column ≡ given x
    → located s x ≡ some (place_at s n row column)
unfolding located in_span place_of
map_of_back s n row column x h =
    let b = bank s n in
    let q = asked_given s n row column x h in
    let r = q.range in
    let f = found b row column x r (sym (back_asked s n row column q) ∙ h) in
    let e = bank_selected s q.on (x / 2 ^ 20) n q.bank_below (held_holds b (x / 2 ^ 20) (found_held b row column x r f q.enabled)) in
    simp (e, lt-ltb n 8 q.bank_below, found_row b row column x r f, found_column b row column x r f, found_cell b row column x r f)
