-- The memory calls on a record and lent cells: refusals, accesses, and all that a call leaves. The columns of the check code come first.
use Rattle.std.specs.Prelude.{ℕ, not, List, [], ◌∷◌, length}
use Rattle.std.proofs.Math.Option.{Option, none, some}
use Rattle.refusals.specs.Paper.{Declined, refuse, ◌else◌, refused, given}
use Rattle.banks.specs.Setup.{Setup, setup_of}
use Rattle.banks.specs.Judge.{not_ready}
use Rattle.banks.specs.Map.{in_span, cell_of}
use Rattle.ecc.specs.Lending.{cell_at, put_cell, is_lent}
use Rattle.error_registers.specs.Errors.{reported}
use Rattle.calls.specs.Calls.{MemoryCall, read, write, flip, scrub, burst_read, burst_write, Access, address_of, parts, AccessAnswer, CallAnswer}
use Rattle.calls.specs.Spans.{Spans, by_call, missed}
use Rattle.calls.specs.State.{State, state}
use Rattle.calls.specs.Answers.{Effect, effect_of}
use Rattle.machine.specs.Cells.{on_cell}

-- the set-up of a state's record
abbrev pub setup : State → Setup
setup st = setup_of st.registers

-- MAP-2: the spans of the enabled banks
abbrev pub spans_of : Setup → Spans
spans_of s = record { holds = in_span s }

-- REF-9, MEM-11: cell k is not wholly lent; with no bank there is no cell
unfoldable pub unlent_at : Option ℕ → List ℕ → Declined
unlent_at none cells = none
unlent_at (some k) cells = refuse (not (is_lent cells k)) (9 ∷ [])

-- REF-9: the cell of some access is not wholly lent
unfoldable pub unlent : State → List Access → Declined
unlent st [] = none
unlent st (x ∷ xs) = unlent_at (cell_of (setup st) (address_of x)) st.cells else unlent st xs

-- REF-102, REF-104: 5; then 6, 7, 8, 10, 19 and 20; then 9. MEM-16: all of it before the first access
unfoldable pub refusal : State → MemoryCall → Declined
refusal st c = not_ready (setup st) else by_call (spans_of (setup st)) c else unlent st (parts c)

-- MEM-12: the cells with what an access stores in cell k, if it stores anything
abbrev pub put_at : Option (List ℕ) → List ℕ → ℕ → List ℕ
put_at none cells k = cells
put_at (some cell) cells k = put_cell cells k cell

module _ (cols : List ℕ) where
  -- MEM-9, MEM-12: an access to cell k, or without a bank: what it gives, and the cells after it
  unfoldable pub on_target : Option ℕ → List ℕ → Access → AccessAnswer × List ℕ
  on_target none cells x = (missed x, cells)
  on_target (some k) cells x = let h = on_cell cols x (cell_at cells k) in (h.0, put_at h.1 cells k)

  -- MEM-10: what it gives is an answer, "no bank" and "uncorrectable" too, and goes to the error registers
  unfoldable pub access_at : Option ℕ → State → Access → AccessAnswer × State
  access_at o st x =
      let d = on_target o st.cells x in
      (d.0, state (reported d.0.kind (address_of x) st.registers) d.1)

  -- MEM-1: an access acts on the cell of the doubleword that contains its address
  unfoldable pub access : State → Access → AccessAnswer × State
  access st x = access_at (cell_of (setup st) (address_of x)) st x

  -- accesses one after the other, each on what the one before it left
  unfoldable pub accesses : State → List Access → List AccessAnswer × State
  accesses st [] = ([], st)
  accesses st (x ∷ xs) =
      let r = access st x in
      let rs = accesses r.1 xs in
      (r.0 ∷ rs.0, rs.1)

  -- DEM-1: a refused call leaves everything as it was
  unfoldable pub performed : Declined → State → List Access → CallAnswer × State
  performed (some n) st xs = (refused n, st)
  performed none st xs = let r = accesses st xs in (given r.0, r.1)

  -- MEM-1, DEM-6: what a memory call gives and leaves
  unfoldable pub memory_call : State → MemoryCall → CallAnswer × State
  memory_call st c = performed (refusal st c) st (parts c)

-- ---- the contracts
module _ (cols : List ℕ) (st : State) where
  -- DEM-2, DEM-4: all that a call gives and leaves, with the buffer that it is lent
  unfoldable pub called : MemoryCall → List ℕ → Effect
  called c buffer = effect_of (memory_call cols st c) buffer

  -- MEM-2: a read; its count is the length of the buffer
  abbrev pub read_call : ℕ → List ℕ → Effect
  read_call a buffer = called (read a (length buffer)) buffer

  -- MEM-2: a write; its count is the number of bytes
  abbrev pub write_call : ℕ → List ℕ → Effect
  write_call a bs = called (write a bs) []

  -- MEM-7: a flip
  abbrev pub flip_call : ℕ → ℕ → Effect
  flip_call a b = called (flip a b) []

  -- MEM-8: a scrub
  abbrev pub scrub_call : ℕ → Effect
  scrub_call a = called (scrub a) []

  -- MEM-13: a burst read
  abbrev pub burst_read_call : ℕ → List ℕ → Effect
  burst_read_call a buffer = called (burst_read a (length buffer)) buffer

  -- MEM-13: a burst write
  abbrev pub burst_write_call : ℕ → List ℕ → Effect
  burst_write_call a bs = called (burst_write a bs) []
