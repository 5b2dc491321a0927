-- `Kept::step`: a chunk without room is left (`step_refused`), one without an LF is carried (`step_plain`), and of any other the lines are executed
-- and what is left is carried (`step_lines`). What `joined` gives is what is carried (`carried_is`).
use native.Mathlib.Omega.{arith}
use mathlib.Core.Path.{◌≡◌, ap, ◌∙◌}
use Rattle.std.specs.Prelude.{Some}
use mathlib.Core.List.{List}
use Prim.Native.Nat.{ℕ, ◌-◌, ◌≤◌}
use lib.ListN.{length, take, drop, length-take, length-drop}
use lib.Seq.{take_all}
use Rattle.ecc.specs.Columns.{columns}
use Rattle.registers.specs.Record.{record_of}
use Rattle.calls.specs.State.{state}
use Rattle.line_ends.proofs.LineEndLaws.{end_within}
use Rattle.lines.specs.declared.buffers.Carry.{Carry}
use Rattle.lines.specs.CodeStepped.{carried_of, carry_of, LinesReached}
use Rattle.lines.specs.Text.{most_carried}
use Rattle.lines.proofs.StepLaws.{carried_is, step_plain, step_lines}
use borrow.Author.Rules.{rules}
use Rattle.lines.proofs.feed.Kept.step.Goals as goal

-- the bytes carried into a chunk are no more than their array
few : (x : Carry) → length x.bytes ≡ most_carried → length (carried_of x) ≤ most_carried
few x e = simp length-take (omega arith)

pub returns-then-end-chunk : goal.returns-then-end-chunk
returns-then-end-chunk c =
    let size : length c.args.self.now.carry.bytes ≡ most_carried =
    search (rules, c.well_formed) in
    let a = c.args in
    ap (λ (x : Carry). (Some 0, (record { registers = a.self.now.registers; carry = x }, a.cells.now), a.out.now)) c.joined-first.ensures
    ∙ step_plain columns a.self.now a.cells.now a.chunk.now a.out.now c.line_end-end.result (omega arith) c.line_end-end.ensures (few a.self.now.carry size) c.if-end-chunk.true

pub whole_lines-all-requires : goal.whole_lines-all-requires
whole_lines-all-requires c =
    let chunk = c.args.chunk.now in
    let within = end_within chunk 0 c.line_end-end.result (omega arith) c.line_end-end.ensures in
    (c.line_end-end.ensures, omega arith, omega arith)

pub returns : goal.returns
unfolding LinesReached
returns c =
    let size : length c.args.self.now.carry.bytes ≡ most_carried =
    search (rules, c.well_formed) in
    let a = c.args in
    let all = c.whole_lines-all in
    let from = all.result.from in
    let enough = c.if-out-chunk.false in
    let reached = all.ensures.lines_reached (carried_of a.self.now.carry) (c.as_slice.ensures ∙ carried_is c.joined-first.result _ c.joined-first.ensures) in
    let left : take (length a.chunk.now - from) (drop from a.chunk.now) ≡ drop from a.chunk.now =
    take_all (length a.chunk.now - from) (drop from a.chunk.now) (omega (arith, length-drop from a.chunk.now)) in
    ap (λ (x : Carry). (Some all.result.at, (record { registers = record_of all.new.registers; carry = x }, all.new.cells), all.new.out))
    (c.joined-self.ensures ∙ ap (λ (l : List ℕ). carry_of (take most_carried l)) left)
    ∙ step_lines columns a.self.now a.cells.now a.chunk.now a.out.now c.line_end-end.result (omega arith) c.line_end-end.ensures (few a.self.now.carry size)
    (state (record_of all.new.registers) all.new.cells) all.new.out from all.result.at reached all.ensures.chunk_value
