-- What the code leaves when it takes a piece of input. Only contracts use it.
use Rattle.std.specs.Prelude.{ℕ, ◌+◌, ◌*◌, ◌-◌, ◌≤◌, ◌≡◌, cond, List, [], ◌++◌, ◌&&◌, ltb, leb, length, take, drop, Option, None, Some}
use Rattle.calls.specs.State.{State, state}
use Rattle.print.specs.CodePrinted.{longest_output_line}
use Rattle.lines.specs.declared.buffers.Carry.{Carry}
use Rattle.lines.specs.declared.feed.Kept.{Kept}
use Rattle.parser.specs.CodeParsed.{padded}
use Rattle.line.specs.CodeLinePrinted.{LineEffect, printed_into}
use Rattle.lines.specs.Text.{most_carried, Fed, carrying, fed, after, ended}

-- the bytes of an unfinished line
abbrev pub carried_of : Carry → List ℕ
carried_of c = take c.len c.bytes

-- what the code keeps, with the cells
abbrev pub kept_of : Kept → List ℕ → Fed
kept_of k cells = carrying (state k.registers cells) (carried_of k.carry)

-- these bytes as the code carries them, with zeros after them
unfoldable pub carry_of : List ℕ → Carry
carry_of c = record { bytes = padded most_carried c; len = length c }

-- what is kept as the code keeps it, down to each byte, and the cells
abbrev pub kept_as : Fed → Kept × List ℕ
kept_as f = (record { registers = f.state.registers; carry = carry_of f.carried }, f.state.cells)

-- a text was added to the output at a place: what stands before it and what stands after it stay as they were
pub record Appended (out : List ℕ) (at : ℕ) (text out' : List ℕ) (at' : ℕ) : Type 0 where
  pub place : at' ≡ at + length text
  pub front : take at' out' ≡ take at out ++ text
  pub behind : drop at' out' ≡ drop at' out
  pub size : length out' ≡ length out

-- from the start of a piece of input to another place in it and in the output: nothing that is read or printed in between is lost
pub record Reached (cols : List ℕ) (f : Fed) (chunk out : List ℕ) (f' : Fed) (from : ℕ) (out' : List ℕ) (at : ℕ) : Type 0 where
  pub same : fed cols f chunk ≡ after (take at out') (fed cols f' (drop from chunk))
  pub behind : drop at out' ≡ drop at out
  pub size : length out' ≡ length out
  pub within : from ≤ length chunk
  pub room : at + longest_output_line * (length chunk - from) ≤ length out

-- the same where `first` is the first line of the piece, which ends at `stop`, with what was carried before it, whatever that was
unfoldable pub LinesReached : (cols : List ℕ) (st : State) (first chunk : List ℕ) (stop : ℕ) (out : List ℕ) (st' : State) (from : ℕ) (out' : List ℕ) (at : ℕ) → Type 0
LinesReached cols st first chunk stop out st' from out' at =
    (c : List ℕ) → first ≡ take most_carried (c ++ take stop chunk) → Reached cols (carrying st c) chunk out (carrying st' []) from out' at

-- how many bytes were printed, if a piece of input was taken, what is kept, with the cells, and the output
abbrev pub StepEffect : Type 0
StepEffect = Option ℕ × (Kept × List ℕ) × List ℕ

-- a piece of input is taken if the output has room for the longest line for each of its bytes; else nothing changes
unfoldable pub step_of : List ℕ → Kept → List ℕ → List ℕ → List ℕ → StepEffect
step_of cols kept cells chunk out =
    let r = fed cols (kept_of kept cells) chunk in
    cond (leb (longest_output_line * length chunk) (length out))
    (Some (length r.0), kept_as r.1, r.0 ++ drop (length r.0) out)
    (None, (kept, cells), out)

-- the end of the input: what is carried is executed; nothing is done if the output has no room for the longest line
unfoldable pub end_into : List ℕ → State → List ℕ → List ℕ → LineEffect
end_into cols st carried out = cond (leb longest_output_line (length out)) (printed_into out (ended cols st carried)) (0, out, st)

-- the bytes that are carried after the end of the input: none, if what was carried was executed, and otherwise the same as before
unfoldable pub carry_after : Carry → List ℕ → Carry
carry_after c out = cond (ltb 0 c.len && leb longest_output_line (length out)) (carry_of []) c
