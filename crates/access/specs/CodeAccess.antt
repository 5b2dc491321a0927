-- What the code of one access finds, gives and leaves. Only contracts of code use it.
use Rattle.std.specs.Prelude.{ℕ, ◌%◌, Bool, true, false, cond, List, replicate, take, Some, None}
use Rattle.std.specs.Prelude as code
use Rattle.std.proofs.Math.Option.{Option, none, some}
use Rattle.registers.specs.declared.Registers.{Registers}
use Rattle.ecc.specs.Columns.{columns}
use Rattle.ecc.specs.CheckCode.{reading_of}
use Rattle.ecc.specs.Cell.{load_of}
use Rattle.ecc.specs.Doubleword.{bytes_of_number}
use Rattle.ecc.specs.Lending.{cell_at, is_within, is_lent}
use Rattle.ecc.specs.declared.Reading.{Reading}
use Rattle.error_registers.specs.Errors.{reported}
use Rattle.calls.specs.declared.Kind.{Kind}
use Rattle.calls.specs.declared.Kind.TheVariants.{Clean, Corrected, Uncorrectable, Stored, NoBank, Flipped}
use Rattle.calls.specs.Calls.{room, AccessAnswer, got}
use Rattle.calls.specs.State.{State, state}
use Rattle.machine.specs.Cells.{answer_of}
use Rattle.access.specs.declared.perform.Fetched.{Fetched}

-- MEM-11: the cell that is meant, if all of it is lent
abbrev pub lent_cell : List ℕ → code.Option ℕ → Option ℕ
lent_cell cells None = none
lent_cell cells (Some k) = cond (is_lent cells k) (some k) none

-- REF-9: the cell that is meant, if one is, may be accessed if so many bytes are lent
abbrev pub is_allowed : ℕ → code.Option ℕ → Bool
is_allowed bytes None = true
is_allowed bytes (Some k) = is_within bytes k

-- what a syndrome means, and the record once that is reported at the address a
abbrev pub settled_by : ℕ → ℕ → Registers → Reading × Registers
settled_by s a r = (reading_of columns s, reported (answer_of (reading_of columns s)) a r)

-- MEM-3, MEM-9, MEM-10: what reading all eight bytes of a cell gives, or without a cell, at the address a; the answer is reported
unfoldable pub fetch_at : Option ℕ → State → ℕ → AccessAnswer × State
fetch_at none st a = (got NoBank (replicate 8 0xFF), state (reported NoBank a st.registers) st.cells)
fetch_at (some k) st a =
    let l = load_of columns (cell_at st.cells k) in
    (got (answer_of l.reading) l.bytes, state (reported (answer_of l.reading) a st.registers) st.cells)

-- what was fetched, and the state that this left
abbrev pub fetched_with : Fetched → State → AccessAnswer × State
fetched_with f st = (got f.kind (bytes_of_number f.doubleword), st)

-- MEM-5: the bytes of a short write that is handed over as a count and a number, the first byte lowest. Fewer than eight are taken, and none beyond the
-- end of the doubleword
abbrev pub short_bytes : ℕ → ℕ → ℕ → List ℕ
short_bytes a count value = take (room a) (take (count % 8) (bytes_of_number value))

-- MEM-5, MEM-6, MEM-9: what answered so is right, so that a short write stores it again
abbrev pub is_right : Kind → Bool
is_right Clean = true
is_right (Corrected b) = true
is_right Uncorrectable = false
is_right Stored = false
is_right NoBank = false
is_right Flipped = false

-- MEM-8: what answered so is stored again by a scrub
abbrev pub is_corrected : Kind → Bool
is_corrected Clean = false
is_corrected (Corrected b) = true
is_corrected Uncorrectable = false
is_corrected Stored = false
is_corrected NoBank = false
is_corrected Flipped = false
