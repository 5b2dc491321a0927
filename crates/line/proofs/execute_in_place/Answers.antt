-- `line::execute_in_place`: without room nothing is done (`no_room`); else what was parsed is what the line asks for (`executed`).
use Rattle.std.proofs.Common.{arith, ap, sym, ◌∙◌, ℕ, List, Some, None}
use Rattle.ecc.specs.Columns.{columns}
use Rattle.registers.specs.Record.{record_of}
use Rattle.calls.specs.State.{State, state}
use Rattle.line.specs.Line.{or_malformed}
use Rattle.line.specs.CodeLinePrinted.{LineEffect}
use Rattle.line.proofs.LineLaws.{no_room, executed}
use Rattle.line.proofs.execute_in_place.Goals as goal

-- a line that changes neither record nor cells
abbrev left : State → ℕ × List ℕ → LineEffect
left st x = (x.0, x.1, st)

pub returns-in_default : goal.returns-in_default
returns-in_default c =
    let a = c.args in no_room columns (state (record_of a.registers.now) a.cells.now) a.line.now a.out.now (omega (arith, c.in_default.ensures.cases))

pub returns-in-Some-parse : goal.returns-in-Some-parse
unfolding or_malformed
returns-in-Some-parse c =
    let a = c.args in
    let r = c.request_line in
    let room = c.in-Some.ensures.cases in
    executed columns (state (record_of a.registers.now) a.cells.now) a.line.now a.out.now (Some c.in-Some-parse.request) c.in-Some.room.now r.result r.new.out
    (state (record_of r.new.registers) r.new.cells) room.enough room.same (sym c.in-Some-parse.is ∙ c.parse.ensures) r.ensures

pub returns-in-None : goal.returns-in-None
unfolding or_malformed
returns-in-None c =
    let a = c.args in
    let m = c.malformed_line in
    let st = state (record_of a.registers.now) a.cells.now in
    let room = c.in-Some.ensures.cases in
    executed columns st a.line.now a.out.now None c.in-Some.room.now m.result m.new.out st room.enough room.same (sym c.in-None.is ∙ c.parse.ensures) (ap (left st) m.ensures)
