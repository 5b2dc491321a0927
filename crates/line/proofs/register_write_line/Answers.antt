-- Whatever the cells are, the text is the verdict and the record is that of `write` (`register_write_line`); there is room for it (`line_printed`).
use native.Mathlib.Omega.{arith}
use Rattle.ecc.specs.Columns.{columns}
use Rattle.registers.specs.Record.{record_of}
use Rattle.calls.specs.State.{state}
use Rattle.line.proofs.LineLaws.{line_printed, register_write_line}
use Rattle.line.proofs.register_write_line.Goals as goal

pub returns : goal.returns
returns c =
    let a = c.args in
    let w = c.write_in_place-verdict in
    let p = c.verdict_line in
    λ cells. line_printed p.result a.out.now p.new.out _ (state (record_of w.new.registers) cells) _ (omega arith) p.ensures (register_write_line columns (record_of a.registers.now) cells a.offset a.value w.result (record_of w.new.registers) w.ensures)
