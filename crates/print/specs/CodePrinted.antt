-- What the code puts out: a text at the start of the lent output.
use Rattle.std.specs.Prelude.{ℕ, cond, List, ◌++◌, leb, length, take, drop}
use Rattle.calls.specs.Answers.{Answer, paper_answer}
use Rattle.print.specs.Output.{outcome_text, kinds_text, kinds_and_bytes_text}

-- the most bytes that an output line can have, with its LF: an answer has up to four parts of five bytes, and a read up to eight bytes
abbrev pub longest_output_line : ℕ
longest_output_line = 41

-- as much of a text as the longest line has bytes
unfoldable pub cut : List ℕ → List ℕ
cut text = take longest_output_line text

-- the length of a text, and the output with the text at its start; the bytes after the text stay as they were
abbrev pub at_start : List ℕ → List ℕ → ℕ × List ℕ
at_start text out = (length text, text ++ drop (length text) out)

-- the same; nothing is put out if the output has no room for the longest line
unfoldable pub print_into : List ℕ → List ℕ → ℕ × List ℕ
print_into text out = cond (leb longest_output_line (length out)) (at_start text out) (0, out)

-- the line of a write or a scrub, by its letter
abbrev pub kinds_line : ℕ → Answer → List ℕ
kinds_line l x = outcome_text l kinds_text (paper_answer x)

-- the line of a read
abbrev pub read_line : Answer → List ℕ → List ℕ
read_line x bs = outcome_text 0x72 (kinds_and_bytes_text bs) (paper_answer x)
