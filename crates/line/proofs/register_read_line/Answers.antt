-- Whatever the cells are, the text is that of what was read and nothing is changed (`register_read_line`); there is room for it (`line_printed`).
use native.Mathlib.Omega.{arith}
use Rattle.ecc.specs.Columns.{columns}
use Rattle.registers.specs.Record.{record_of}
use Rattle.calls.specs.State.{state}
use Rattle.line.proofs.LineLaws.{line_printed, register_read_line}
use Rattle.line.proofs.register_read_line.Goals as goal

pub returns : goal.returns
returns c =
    let a = c.args in
    let r = c.read in
    let p = c.register_read in
    λ cells. line_printed p.result a.out.now p.new.out _ (state (record_of a.registers.now) cells) _ (omega arith) p.ensures (register_read_line columns (record_of a.registers.now) cells a.offset r.result r.ensures)
