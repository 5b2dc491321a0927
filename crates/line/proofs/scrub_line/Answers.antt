-- The kinds of the answer are the text of a scrub (`scrub_text`), which leaves what its call does (`memory_line`); there is room (`line_printed`).
use native.Mathlib.Omega.{arith}
use Rattle.ecc.specs.Columns.{columns}
use Rattle.registers.specs.Record.{record_of}
use Rattle.calls.specs.State.{state}
use mathlib.Core.List.{[]}
use Rattle.calls.specs.Calls.{scrub}
use Rattle.print.proofs.PrintLaws.{scrub_text}
use Rattle.line.proofs.LineLaws.{line_printed, memory_line}
use Rattle.line.proofs.scrub_line.Goals as goal

pub returns : goal.returns
returns c =
    let a = c.args in
    let m = c.scrub-called in
    let p = c.kinds in
    let st = state m.result.registers m.new.cells in
    rw c.keep.ensures
    (line_printed p.result a.out.now p.new.out _ st _ (omega arith) p.ensures
    (memory_line columns (state (record_of a.registers.now) a.cells.now) (scrub a.address) m.result.answer st [] [] _ m.ensures (scrub_text [] m.result.answer a.address)))
