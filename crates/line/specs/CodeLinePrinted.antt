-- What the code leaves of the lent output, the record and the cells when it executes a line. Only contracts use it.
use Rattle.std.specs.Prelude.{ℕ, cond, List, leb, length}
use Rattle.calls.specs.State.{State, lent_state}
use Rattle.print.specs.CodePrinted.{longest_output_line, at_start}
use Rattle.line.specs.Line.{Printed, line_of}

-- how many bytes were printed, the output, and the record and cells
abbrev pub LineEffect : Type 0
LineEffect = ℕ × List ℕ × State

-- by the number of bytes that the code returned, and the record, the cells and the output that it was lent
abbrev pub executed_in_place : ℕ → List ℕ → List ℕ → List ℕ → LineEffect
executed_in_place n registers cells out = (n, out, lent_state registers cells)

-- what is printed stands at the start of the output, and the bytes after it stay as they were
abbrev pub printed_into : List ℕ → Printed → LineEffect
printed_into out p = let t = at_start p.0 out in (t.0, t.1, p.1)

-- a line; nothing is done if the output has no room for the longest line
unfoldable pub line_into : List ℕ → State → List ℕ → List ℕ → LineEffect
line_into cols st line out = cond (leb longest_output_line (length out)) (printed_into out (line_of cols st line)) (0, out, st)
