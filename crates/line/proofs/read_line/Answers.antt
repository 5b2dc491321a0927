-- The buffer is a part of nine zeros (`buffer_fits`). What was read into it is the text of the read, also of one of more than 8 bytes, which is
-- executed as one of 9 (`read_line_lem`); there is room for it (`line_printed`).
use native.Mathlib.Omega.{arith}
use mathlib.Core.Path.{◌≡◌, ap, ◌∙◌}
use mathlib.Core.List.{List, [], ◌∷◌}
use Prim.Native.Nat.{ℕ}
use lib.ListN.{length, take}
use lib.Seq.{length-take-le, take_at}
use Rattle.ecc.specs.Columns.{columns}
use Rattle.registers.specs.Record.{record_of}
use Rattle.calls.specs.State.{state}
use Rattle.print.specs.CodePrinted.{read_line}
use Rattle.line.proofs.LineLaws.{line_printed, buffer_fits, read_line_lem}
use Rattle.line.proofs.read_line.Goals as goal

-- the lent buffer at first
abbrev zeros : List ℕ
zeros = 0 ∷ 0 ∷ 0 ∷ 0 ∷ 0 ∷ 0 ∷ 0 ∷ 0 ∷ 0 ∷ []

pub returns : goal.returns
returns c =
    let a = c.args in
    let n = c.buffer_length-n in
    let m = c.read-called in
    let p = c.read in
    let b = m.new.buffer in
    let st = state m.result.registers a.cells.now in
    let part = length-take-le n.result zeros (buffer_fits a.count n.result n.ensures) in
    let size : length b ≡ n.result = omega (arith, part) in
    rw c.keep.ensures
    (line_printed p.result a.out.now p.new.out _ st _ (omega arith) p.ensures
    (ap (λ (l : List ℕ). (read_line m.result.answer (take 8 l), st)) (take_at b _ n.result size)
    ∙ read_line_lem columns (state (record_of a.registers.now) a.cells.now) a.address a.count n.result m.result.answer st b (take n.result zeros) n.ensures part size m.ensures))
