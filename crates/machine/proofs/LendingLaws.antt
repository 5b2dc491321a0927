-- Lent bytes beyond those that a call reaches change nothing in what it gives and leaves.
use Prim.Native.Nat.{ℕ, ◌+◌, ◌*◌, ◌≤◌}
use mathlib.Core.Path.{◌≡◌, refl, ap, ◌∙◌}
use mathlib.Core.Bool.{Bool, true, not, ◌&&◌}
use mathlib.Core.Option.{Option, none, some}
use mathlib.Core.List.{List, [], ◌∷◌, ◌++◌, append_assoc}
use native.Mathlib.Omega.{arith}
use lib.ListN.{length, take, drop, length-append, length-drop}
use lib.Seq.{take-append-le, drop-append-le}
use Rattle.basics.proofs.Bools.{and_left, and_right, not_of}
use Rattle.basics.proofs.RangeLaws.{contra}
use Rattle.refusals.specs.Paper.{Declined, ◌else◌}
use Rattle.refusals.proofs.ChainLaws.{else_left, else_right, cause_fails}
use Rattle.banks.specs.Judge.{is_accepted, not_ready}
use Rattle.banks.specs.Map.{cell_of}
use Rattle.ecc.specs.Lending.{cell_at, put_cell, is_lent}
use Rattle.ecc.proofs.CellLaws.{lent_fits, fits_lent}
use Rattle.calls.specs.Calls.{MemoryCall, Access, address_of, parts}
use Rattle.calls.specs.Spans.{by_call}
use Rattle.calls.specs.State.{State, state}
use Rattle.machine.specs.Cells.{on_cell}
use Rattle.machine.specs.Calls.{setup, spans_of, unlent_at, unlent, refusal, put_at, on_target, access_at, access, accesses, performed, memory_call}

accepted_none : (d : Declined) → is_accepted d ≡ true → d ≡ none
accepted_none none e = refl
accepted_none (some n) e = contra e refl

-- ---- one cell

module _ (cells more : List ℕ) (k : ℕ) (lent : is_lent cells k ≡ true) where
  fits : 9 * k + 9 ≤ length cells
  fits = lent_fits cells k lent

  lent_append : is_lent (cells ++ more) k ≡ true
  lent_append = fits_lent (cells ++ more) k (rw length-append (omega (arith, fits)))

  cell_append : cell_at (cells ++ more) k ≡ cell_at cells k
  unfolding cell_at
  cell_append =
      ap (take 9) (drop-append-le (9 * k) cells more (omega (arith, fits)))
      ∙ take-append-le 9 (drop (9 * k) cells) more (omega (arith, fits, length-drop (9 * k) cells))

  put_append : (cell : List ℕ) → put_cell (cells ++ more) k cell ≡ put_cell cells k cell ++ more
  unfolding put_cell
  put_append cell =
      rw (take-append-le (9 * k) cells more (omega (arith, fits)), drop-append-le (9 * k + 9) cells more fits, append_assoc, append_assoc)

  put_at_append : (o : Option (List ℕ)) → put_at o (cells ++ more) k ≡ put_at o cells k ++ more
  put_at_append none = refl
  put_at_append (some cell) = put_append cell

-- ---- accesses and calls

-- the same record, with more lent after the cells
abbrev pub longer : List ℕ → State → State
longer more st = state st.registers (st.cells ++ more)

-- what is given, and what is left with more lent after it
abbrev pub beside : {A : Type 0} → List ℕ → A × State → A × State
beside more p = (p.0, longer more p.1)

pub lent_of : (cells : List ℕ) (k : ℕ) → unlent_at (some k) cells ≡ none → is_lent cells k ≡ true
unfolding unlent_at
lent_of cells k e = not_of (is_lent cells k) (cause_fails (not (is_lent cells k)) (9 ∷ []) e)

unlent_longer : (more : List ℕ) (st : State) (xs : List Access) → unlent st xs ≡ none → unlent (longer more st) xs ≡ none
unfolding unlent unlent_at
unlent_longer more st [] e = refl
unlent_longer more st (x ∷ xs) e =
    let o = cell_of (setup st) (address_of x) in
    rw (go o (else_left (unlent_at o st.cells) (unlent st xs) e)) (unlent_longer more st xs (else_right (unlent_at o st.cells) (unlent st xs) e))
  where
    go : (o : Option ℕ) → unlent_at o st.cells ≡ none → unlent_at o (st.cells ++ more) ≡ none
    go none h = refl
    go (some k) h = rw (lent_append st.cells more k (lent_of st.cells k h))

module _ (cols : List ℕ) where
  -- at its turn, each access and those after it have their cells lent
  unfoldable pub reach : State → List Access → Bool
  reach st [] = true
  reach st (x ∷ xs) = is_accepted (unlent st (x ∷ xs)) && reach (access cols st x).1 xs

  reach_lent : (xs : List Access) (st : State) → reach st xs ≡ true → unlent st xs ≡ none
  unfolding reach unlent
  reach_lent [] st h = refl
  reach_lent (x ∷ xs) st h = accepted_none (unlent st (x ∷ xs)) (and_left (is_accepted (unlent st (x ∷ xs))) (reach (access cols st x).1 xs) h)

module _ (cols more : List ℕ) where
  access_longer : (st : State) (x : Access) → unlent_at (cell_of (setup st) (address_of x)) st.cells ≡ none
      → access cols (longer more st) x ≡ beside more (access cols st x)
  unfolding access access_at on_target
  access_longer st x = go (cell_of (setup st) (address_of x))
    where
      go : (o : Option ℕ) → unlent_at o st.cells ≡ none → access_at cols o (longer more st) x ≡ beside more (access_at cols o st x)
      go none h = refl
      go (some k) h =
          let l : is_lent st.cells k ≡ true = lent_of st.cells k h in
          rw (cell_append st.cells more k l, put_at_append st.cells more k l (on_cell cols x (cell_at st.cells k)).1)

  accesses_longer : (xs : List Access) (st : State) → reach cols st xs ≡ true → accesses cols (longer more st) xs ≡ beside more (accesses cols st xs)
  unfolding accesses reach unlent
  accesses_longer [] st h = refl
  accesses_longer (x ∷ xs) st h =
      let o = cell_of (setup st) (address_of x) in
      rw (
        access_longer st x (else_left (unlent_at o st.cells) (unlent st xs) (reach_lent cols (x ∷ xs) st h)),
        accesses_longer xs (access cols st x).1 (and_right (is_accepted (unlent st (x ∷ xs))) (reach cols (access cols st x).1 xs) h),
      )

  pub memory_longer : (st : State) (c : MemoryCall) → reach cols st (parts c) ≡ true → memory_call cols (longer more st) c ≡ beside more (memory_call cols st c)
  unfolding memory_call refusal performed
  memory_longer st c h =
      let u : unlent st (parts c) ≡ none = reach_lent cols (parts c) st h in
      rw (unlent_longer more st (parts c) u, u) (go (not_ready (setup st) else by_call (spans_of (setup st)) c else none))
    where
      go : (d : Declined) → performed cols d (longer more st) (parts c) ≡ beside more (performed cols d st (parts c))
      go none = rw (accesses_longer (parts c) st h)
      go (some n) = refl
