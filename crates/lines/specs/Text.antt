-- A whole text, and a text that arrives in pieces. The columns of the check code come first.
use Rattle.std.specs.Prelude.{ℕ, ◌+◌, ◌*◌, cond, List, [], ◌∷◌, ◌++◌, eqb, take, replicate}
use Rattle.registers.specs.Record.{fresh}
use Rattle.calls.specs.State.{State, state}
use Rattle.parser.specs.Format.{prepend_byte, longest_input_line}
use Rattle.line.specs.Line.{Printed, line_of}

-- LINE-1: the lines of a text; bytes after the last LF are a line too
unfoldable pub lines_of : List ℕ → List (List ℕ)
lines_of [] = []
lines_of (b ∷ bs) = cond (eqb b 0x0A) ([] ∷ lines_of bs) (prepend_byte b (lines_of bs))

-- the pieces of a text, joined
abbrev pub joined : List (List ℕ) → List ℕ
joined [] = []
joined (c ∷ cs) = c ++ joined cs

-- LINE-1: the most bytes of an unfinished line that are kept; one more than a line may have shows that it is too long
abbrev pub most_carried : ℕ
most_carried = longest_input_line + 1

-- what is kept between pieces: the bytes since the last LF, as far as they matter, and the record and the cells
pub record Fed : Type 0 where
  pub carried : List ℕ
  pub state : State

-- what is kept, made from its two parts
abbrev pub carrying : State → List ℕ → Fed
carrying st c = record { carried = c; state = st }

-- what r prints, printed after w
abbrev pub after : {A : Type 0} → List ℕ → List ℕ × A → List ℕ × A
after w r = (w ++ r.0, r.1)

-- LINE-9: the number of cells that all lines share
abbrev pub lent_cells : ℕ
lent_cells = 7280

-- LINE-9: a fresh record, and n lent bytes that are 0
abbrev pub fresh_state : ℕ → State
fresh_state n = state fresh (replicate n 0)

-- LINE-9: what the program starts from
unfoldable pub start_state : State
start_state = fresh_state (9 * lent_cells)

module _ (cols : List ℕ) where
  -- LINE-9, LINE-10: one line after the other, on the same record and cells
  unfoldable pub printed : State → List (List ℕ) → Printed
  printed st [] = ([], st)
  printed st (l ∷ ls) =
      let r = line_of cols st l in
      after r.0 (printed r.1 ls)

  -- LINE-10: what a text prints, and the record and cells after it
  unfoldable pub text_of : State → List ℕ → Printed
  text_of st text = printed st (lines_of text)

  -- LINE-10: what the program prints
  unfoldable pub program_of : List ℕ → List ℕ
  program_of text = (text_of start_state text).0

  -- LINE-1: one byte of a piece; an LF executes the line that it ends
  unfoldable pub fed_byte : Fed → ℕ → List ℕ × Fed
  fed_byte f b =
      cond (eqb b 0x0A)
      (let r = line_of cols f.state f.carried in (r.0, carrying r.1 []))
      ([], carrying f.state (take most_carried (f.carried ++ b ∷ [])))

  -- LINE-10: a piece of input, byte by byte
  unfoldable pub fed : Fed → List ℕ → List ℕ × Fed
  fed f [] = ([], f)
  fed f (b ∷ bs) =
      let r = fed_byte f b in
      after r.0 (fed r.1 bs)

  -- LINE-1: at the end of the input, bytes without an LF are a line
  unfoldable pub ended : State → List ℕ → Printed
  ended st [] = ([], st)
  ended st (b ∷ bs) = line_of cols st (b ∷ bs)

  -- LINE-10: a text in pieces, one after the other, and its end
  unfoldable pub chunked : Fed → List (List ℕ) → Printed
  chunked f [] = ended f.state f.carried
  chunked f (c ∷ cs) =
      let r = fed f c in
      after r.0 (chunked r.1 cs)
