-- The loop's invariant is `Before` of StepLaws: `before_first` begins it, `before_next` goes on to the next line, and `lines_reached` is what the
-- last line leaves. The printed bytes fit (`line_fits`).
use native.Mathlib.Omega.{arith}
use Prim.Native.Nat.{◌+◌}
use Rattle.ecc.specs.Columns.{columns}
use Rattle.registers.specs.Record.{record_of}
use Rattle.calls.specs.State.{state}
use Rattle.line_ends.proofs.LineEndLaws.{end_within}
use Rattle.lines.proofs.StepLaws.{line_fits, before_next}
use Rattle.lines.proofs.feed.whole_lines.Goals as goal

pub overflow_add-at : goal.overflow_add-at
overflow_add-at c =
    let a = c.args in
    let at = c.loop-end in
    let from = c.line_from-line in
    let x = c.execute_in_place-at in
    let fits = line_fits columns (state (record_of a.registers.now) a.cells.now) a.first.now a.chunk.now a.stop a.out.now (state (record_of at.registers) at.cells) at.from at.end at.out at.at at.invariant from.result.now from.ensures x.result x.new.out (state (record_of x.new.registers) x.new.cells) x.ensures in
    record { fits = omega arith }

pub loop-end-preserved : goal.loop-end-preserved
loop-end-preserved c =
    let a = c.args in
    let at = c.loop-end in
    let from = c.line_from-line in
    let x = c.execute_in_place-at in
    let e = c.line_end-end in
    let more = at.invariant.more in
    let within = end_within a.chunk.now (at.end + 1) e.result (omega arith) e.ensures in
    before_next columns (state (record_of a.registers.now) a.cells.now) a.first.now a.chunk.now a.stop a.out.now (state (record_of at.registers) at.cells) at.from at.end at.out at.at at.invariant from.result.now from.ensures x.result x.new.out (state (record_of x.new.registers) x.new.cells) x.ensures e.result e.ensures (omega arith)
