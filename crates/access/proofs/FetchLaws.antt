-- A fetch, by what the code knows of its cell: not lent, clean, or read by its syndrome.
use Prim.Native.Nat.{ℕ}
use Rattle.std.specs.Prelude.{Some}
use Rattle.std.specs.Prelude as code
use mathlib.Core.Path.{◌≡◌, refl, sym, ap}
use mathlib.Core.Bool.{Bool, true, false}
use mathlib.Core.List.{List}
use mathlib.Core.Option.{Option, none, some}
use lib.ListN.{length, replicate, take}
use Rattle.registers.specs.declared.Registers.{Registers}
use Rattle.ecc.specs.Columns.{columns}
use Rattle.ecc.specs.CheckCode.{syndrome_of, reading_of}
use Rattle.ecc.specs.Cell.{right_by, load_of}
use Rattle.ecc.specs.Doubleword.{bytes_of_number}
use Rattle.ecc.specs.Lending.{cell_at, is_within, is_lent}
use Rattle.ecc.proofs.CellLaws.{cell_length}
use Rattle.ecc.proofs.Laws.{load_is, load_zero}
use Rattle.error_registers.specs.Errors.{reported}
use Rattle.calls.specs.declared.Kind.{Kind}
use Rattle.calls.specs.declared.Kind.TheVariants.{Clean, NoBank}
use Rattle.calls.specs.Calls.{AccessAnswer, got}
use Rattle.calls.specs.State.{State, state}
use Rattle.machine.specs.Cells.{answer_of}
use Rattle.access.specs.CodeAccess.{lent_cell, fetch_at}

-- ---- the cell with a number

module _ (cells : List ℕ) (k : ℕ) where
  -- the code's test
  pub lent_by : {t : Bool} → t ≡ is_within (length cells) k → is_lent cells k ≡ t
  unfolding is_lent
  lent_by e = sym e

  pub lent_some : is_lent cells k ≡ true → lent_cell cells (Some k) ≡ some k
  lent_some t = rw t

  pub lent_none : is_lent cells k ≡ false → lent_cell cells (Some k) ≡ none
  lent_none t = rw t

-- ---- what a fetch gives and leaves, by its parts

module _ (st : State) (a : ℕ) (kind : Kind) (d : List ℕ) (r : Registers) where
  abbrev pub GivenBy : Option ℕ → Type 0
  GivenBy o = ◌≡◌ {A = AccessAnswer × State} (got kind d, state r st.cells) (fetch_at o st a)

  pub by_none : GivenBy none → (kind ≡ NoBank) × (d ≡ replicate 8 0xFF) × (r ≡ reported NoBank a st.registers)
  unfolding fetch_at
  by_none e = (ap (λ (x : AccessAnswer × State). x.0.kind) e, ap (λ (x : AccessAnswer × State). x.0.bytes) e, ap (λ (x : AccessAnswer × State). x.1.registers) e)

  pub by_cell : (k : ℕ) → GivenBy (some k) →
      let l = load_of columns (cell_at st.cells k) in (kind ≡ answer_of l.reading) × (d ≡ l.bytes) × (r ≡ reported (answer_of l.reading) a st.registers)
  unfolding fetch_at
  by_cell k e = (ap (λ (x : AccessAnswer × State). x.0.kind) e, ap (λ (x : AccessAnswer × State). x.0.bytes) e, ap (λ (x : AccessAnswer × State). x.1.registers) e)

-- ---- a fetch from it

-- what a fetch from the cell that is meant gives and leaves
abbrev pub Fetches : State → code.Option ℕ → ℕ → AccessAnswer → Registers → Type 0
Fetches st o a g r = ◌≡◌ {A = AccessAnswer × State} (g, state r st.cells) (fetch_at (lent_cell st.cells o) st a)

pub fetched_none : (st : State) (o : code.Option ℕ) (a : ℕ) → lent_cell st.cells o ≡ none → (r : Registers) → r ≡ reported NoBank a st.registers
    → Fetches st o a (got NoBank (bytes_of_number 0xFFFFFFFFFFFFFFFF)) r
unfolding fetch_at bytes_of_number
fetched_none st o a t r reports = rw (t, reports)

module _ (st : State) (k a : ℕ) where
  abbrev cell : List ℕ
  cell = cell_at st.cells k

  pub fetched_clean : is_lent st.cells k ≡ true → (d : ℕ) → bytes_of_number d ≡ take 8 cell → syndrome_of columns cell ≡ 0
      → Fetches st (Some k) a (got Clean (bytes_of_number d)) st.registers
  unfolding fetch_at reported
  fetched_clean t d is zero-there = rw (t, load_zero columns cell (bytes_of_number d) 0 (sym zero-there) refl is)

  pub fetched_by : is_lent st.cells k ≡ true → (d x s : ℕ) → bytes_of_number d ≡ take 8 cell → s ≡ syndrome_of columns cell
      → bytes_of_number x ≡ right_by (reading_of columns s) (bytes_of_number d) → (r : Registers) → r ≡ reported (answer_of (reading_of columns s)) a st.registers
      → Fetches st (Some k) a (got (answer_of (reading_of columns s)) (bytes_of_number x)) r
  unfolding fetch_at
  fetched_by t d x s is q put r reports =
      rw (t, reports, put, ← load_is columns cell (bytes_of_number d) s (reading_of columns s) (cell_length st.cells k t) is q refl)
