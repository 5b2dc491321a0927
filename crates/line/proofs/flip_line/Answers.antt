-- The verdict is the text of a flip (`flip_text`), which leaves what its call does (`flip_line`); there is room for it (`line_printed`).
use native.Mathlib.Omega.{arith}
use Rattle.ecc.specs.Columns.{columns}
use Rattle.registers.specs.Record.{record_of}
use Rattle.calls.specs.State.{state}
use mathlib.Core.Path.{sym, ap, ◌∙◌}
use mathlib.Core.List.{[]}
use Rattle.std.specs.Prelude.{Result, ⊤}
use Rattle.refusals.specs.declared.Refusal.{Refusal}
use Rattle.refusals.specs.Paper.{paper_verdict}
use Rattle.print.specs.Output.{verdict_text}
use Rattle.print.proofs.PrintLaws.{flip_text}
use Rattle.line.proofs.LineLaws.{line_printed, flip_line}
use Rattle.line.proofs.flip_line.Goals as goal

pub returns : goal.returns
returns c =
    let a = c.args in
    let m = c.flip-called in
    let p = c.verdict_line in
    let cells = m.new.cells in
    let text = flip_text [] m.result.answer a.address a.bit ∙ ap (λ (v : Result ⊤ Refusal). verdict_text 0x66 (paper_verdict v)) (sym c.and.ensures) in
    line_printed p.result a.out.now p.new.out _ (state (record_of a.registers.now) cells) _ (omega arith) p.ensures
    (flip_line columns (state (record_of a.registers.now) a.cells.now) a.address a.bit m.result.answer m.result.registers cells _ m.ensures text)
