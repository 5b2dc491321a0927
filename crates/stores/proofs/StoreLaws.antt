-- Accesses that store what was fetched: a short write, a scrub; and one that stores without a look, the full write.
use Prim.Native.Nat.{ℕ, ◌+◌, ◌*◌, ◌/◌, ◌%◌, ◌<◌}
use mathlib.Core.Path.{◌≡◌, refl, sym, ap}
use mathlib.Core.Bool.{Bool, true, false, cond}
use mathlib.Core.List.{List, []}
use mathlib.Core.Option.{Option, none, some, some-ne-none, some-injective}
use native.Mathlib.Omega.{arith}
use borrow.Author.Tests.{ltb-false, eq-eqb, ne_eqb}
use Rattle.std.specs.Prelude.{Some, None}
use Rattle.std.specs.Prelude as code
use lib.Dec.{ltb}
use lib.ListN.{length, take, drop, length-take, take-append-drop}
use lib.Seq.{set_out, drop-drop}
use Rattle.basics.proofs.RangeLaws.{by_cases, contra}
use Rattle.registers.specs.declared.Registers.{Registers}
use Rattle.ecc.specs.declared.Reading.{Reading}
use Rattle.ecc.specs.declared.Reading.TheVariants as reading
use Rattle.ecc.specs.Columns.{columns}
use Rattle.ecc.specs.CheckCode.{flip_bit}
use Rattle.ecc.specs.Cell.{encode, load_of}
use Rattle.ecc.specs.Doubleword.{bytes_of_number}
use Rattle.ecc.specs.Lending.{cell_at, put_cell, is_lent}
use Rattle.ecc.proofs.CellLaws.{cell_length}
use Rattle.ecc.proofs.DoublewordLaws.{number_length}
use Rattle.error_registers.specs.Errors.{reported}
use Rattle.calls.specs.declared.Kind.{Kind}
use Rattle.calls.specs.declared.Kind.TheVariants.{Clean, Corrected, Uncorrectable, Stored, NoBank, Flipped}
use Rattle.calls.specs.Calls.{write_in, scrub_in, AccessAnswer, got}
use Rattle.calls.specs.Spans.{missed}
use Rattle.calls.specs.State.{State, state}
use Rattle.machine.specs.Cells.{answer_of, merge, unless_lost, merge_cell, write_cell, if_corrected, scrub_cell, on_cell}
use Rattle.machine.specs.Calls.{put_at, on_target, access_at}
use Rattle.access.proofs.FetchLaws.{lent_some, lent_none, GivenBy, by_none, by_cell}
use Rattle.access.specs.CodeAccess.{lent_cell, is_right, is_corrected}

put_right : (r : Reading) (cell cells : List ℕ) (k : ℕ) → put_at (unless_lost r cell) cells k ≡ cond (is_right (answer_of r)) (put_cell cells k cell) cells
put_right reading.Clean cell cells k = refl
put_right (reading.Corrected b) cell cells k = refl
put_right reading.Uncorrectable cell cells k = refl

put_corrected : (r : Reading) (cell cells : List ℕ) (k : ℕ) → put_at (if_corrected r cell) cells k ≡ cond (is_corrected (answer_of r)) (put_cell cells k cell) cells
put_corrected reading.Clean cell cells k = refl
put_corrected (reading.Corrected b) cell cells k = refl
put_corrected reading.Uncorrectable cell cells k = refl

-- what an access stores in its target; without one it stores nothing
abbrev pub stored_in : Option ℕ → Bool → List ℕ → List ℕ → List ℕ
stored_in none t cell cells = cells
stored_in (some k) t cell cells = cond t (put_cell cells k cell) cells

-- an access that comes to this has a cell
abbrev has_cell : Kind → Bool
has_cell Clean = true
has_cell (Corrected b) = true
has_cell Uncorrectable = true
has_cell Stored = true
has_cell NoBank = false
has_cell Flipped = true

-- what passes a test that "no bank" does not pass was read from a cell
pub test_has_cell : (test : Kind → Bool) → test NoBank ≡ false → (kind : Kind) → test kind ≡ true → has_cell kind ≡ true
test_has_cell test q Clean e = refl
test_has_cell test q (Corrected b) e = refl
test_has_cell test q Uncorrectable e = refl
test_has_cell test q Stored e = refl
test_has_cell test q NoBank e = contra e q
test_has_cell test q Flipped e = refl

-- a cell that is found is lent
pub found_lent : (cells : List ℕ) (o : code.Option ℕ) (k : ℕ) → lent_cell cells o ≡ some k → is_lent cells k ≡ true
found_lent cells None k e = absurd (some-ne-none k (sym e))
found_lent cells (Some j) k e =
    by_cases (is_lent cells j)
    (λ t. let same : some j ≡ some k = rw t at e in rw (← some-injective j k same) t)
    (λ t. absurd (some-ne-none k (sym (rw t at e))))

-- so its cell is lent
pub cell_lent : (cells : List ℕ) (k : ℕ) (st : State) (a : ℕ) (kind : Kind) (d : List ℕ) (r : Registers)
    → GivenBy st a kind d r (lent_cell cells (Some k)) → has_cell kind ≡ true → is_lent cells k ≡ true
cell_lent cells k st a kind d r e h =
    by_cases (is_lent cells k) (λ u. u)
    (λ u. contra h (ap has_cell (by_none st a kind d r (rw (lent_none cells k u) at e)).0))

pub kept_as_it_was : (cells : List ℕ) (o : Option ℕ) {t : Bool} (cell : List ℕ) → t ≡ false → cells ≡ stored_in o t cell cells
kept_as_it_was cells none cell no_store = refl
kept_as_it_was cells (some k) cell no_store = rw no_store

module _ (cells : List ℕ) (k : ℕ) where
  pub stored_again : is_lent cells k ≡ true → {t : Bool} (cell new : List ℕ) → t ≡ true → new ≡ put_cell cells k cell → new ≡ stored_in (lent_cell cells (Some k)) t cell cells
  stored_again lent cell new yes-stored e = rw (lent_some cells k lent, yes-stored) e

  -- a cell put back where it was
  put_back : put_cell cells k (cell_at cells k) ≡ cells
  unfolding put_cell cell_at
  put_back =
      let rest : drop (9 * k + 9) cells ≡ drop 9 (drop (9 * k) cells) = sym (drop-drop 9 (9 * k) cells) in
      rw (rest, take-append-drop 9 (drop (9 * k) cells), take-append-drop (9 * k) cells)

  -- a flip of no bit, or of a cell that is not lent
  pub flip_outside : (b : ℕ) → (is_lent cells k ≡ true → ltb b 72 ≡ false)
      → cells ≡ cond (is_lent cells k) (put_cell cells k (flip_bit (cell_at cells k) b)) cells
  unfolding flip_bit
  flip_outside b out =
      by_cases (is_lent cells k)
      (λ t. rw (t, set_out (cell_at cells k) (b / 8) _ (omega (arith, cell_length cells k t, ltb-false b 72 (out t)))) (sym put_back))
      (λ t. rw t)

-- ---- accesses that look at their cell

module _ (st : State) (a : ℕ) (kind : Kind) (d : List ℕ) (r : Registers) where
  pub fetched_write : (o : Option ℕ) → GivenBy st a kind d r o → (bs new : List ℕ) → length bs < 8 → new ≡ stored_in o (is_right kind) (encode columns (merge (a % 8) bs d)) st.cells
      → ◌≡◌ {A = AccessAnswer × State} (got kind [], state r new) (access_at columns o st (write_in a bs))
  unfolding access_at on_target missed on_cell write_cell merge_cell
  fetched_write none e bs new short n =
      let is = by_none st a kind d r e in
      rw (n, is.0, is.2)
  fetched_write (some k) e bs new short n =
      let l = load_of columns (cell_at st.cells k) in
      let is = by_cell st a kind d r k e in
      rw (n, is.0, is.1, is.2, ne_eqb (length bs) 8 (λ q. omega arith), put_right l.reading (encode columns (merge (a % 8) bs l.bytes)) st.cells k)

  pub fetched_scrub : (o : Option ℕ) → GivenBy st a kind d r o → (new : List ℕ) → new ≡ stored_in o (is_corrected kind) (encode columns d) st.cells
      → ◌≡◌ {A = AccessAnswer × State} (got kind [], state r new) (access_at columns o st (scrub_in a))
  unfolding access_at on_target missed on_cell scrub_cell
  fetched_scrub none e new n =
      let is = by_none st a kind d r e in
      rw (n, is.0, is.2)
  fetched_scrub (some k) e new n =
      let l = load_of columns (cell_at st.cells k) in
      let is = by_cell st a kind d r k e in
      rw (n, is.0, is.1, is.2, put_corrected l.reading (encode columns l.bytes) st.cells k)

-- ---- the full write

pub write_stored : (st : State) (o : code.Option ℕ) (k a d : ℕ) → lent_cell st.cells o ≡ some k → (new : List ℕ) → new ≡ put_cell st.cells k (encode columns (bytes_of_number d))
    → ◌≡◌ {A = AccessAnswer × State} (got Stored [], state st.registers new) (access_at columns (lent_cell st.cells o) st (write_in a (bytes_of_number d)))
unfolding access_at on_target on_cell write_cell reported
write_stored st o k a d t new n = rw (t, n, eq-eqb _ 8 (number_length d))

pub write_missed : (st : State) (o : code.Option ℕ) (a d : ℕ) → lent_cell st.cells o ≡ none → (r : Registers) → r ≡ reported NoBank a st.registers
    → ◌≡◌ {A = AccessAnswer × State} (got NoBank [], state r st.cells) (access_at columns (lent_cell st.cells o) st (write_in a (bytes_of_number d)))
unfolding access_at on_target missed
write_missed st o a d t r reports = rw (t, reports)

-- fewer than eight bytes
pub short_length : (n count value : ℕ) → length (take n (take (count % 8) (bytes_of_number value))) < 8
short_length n count value = omega (arith, length-take n (take (count % 8) (bytes_of_number value)), length-take (count % 8) (bytes_of_number value), number_length value)
