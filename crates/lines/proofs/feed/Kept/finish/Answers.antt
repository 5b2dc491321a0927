-- `Kept::finish`: with no byte carried nothing is done (`end_none`, `none_after`); else it is a step over an LF (`end_step`, `end_carry`).
use Rattle.std.proofs.Common.{rules, arith, refl, ◌≡◌, ◌<◌, ◌∙◌, ap, length, length-take, unwrap_or}
use Rattle.ecc.specs.Columns.{columns}
use Rattle.lines.specs.CodeStepped.{carried_of, StepEffect}
use Rattle.lines.specs.Text.{most_carried}
use Rattle.lines.proofs.StepLaws.{leaves_of, end_step, end_carry}
use Rattle.lines.proofs.feed.Kept.finish.Goals as goal

pub returns-in-Some : goal.returns-in-Some
returns-in-Some c =
    let a = c.args in
    let kept = a.self.now in
    let size : length kept.carry.bytes ≡ most_carried = search (rules, c.well_formed) in
    let carried : 0 < kept.carry.len = omega arith in
    let some : 0 < length (carried_of kept.carry) = simp length-take (omega arith) in
    let printed : c.in-Some.printed ≡ unwrap_or c.step.result 0 = rw c.in-Some.is refl in
    record {
      ended = rw printed (ap leaves_of c.step.ensures ∙ end_step columns kept a.cells.now a.out.now some);
      carry = ap (λ (s : StepEffect). s.1.0.carry) c.step.ensures ∙ end_carry columns kept a.cells.now a.out.now carried;
    }

pub returns-in-None : goal.returns-in-None
returns-in-None c =
    let a = c.args in
    let kept = a.self.now in
    let size : length kept.carry.bytes ≡ most_carried = search (rules, c.well_formed) in
    let carried : 0 < kept.carry.len = omega arith in
    let some : 0 < length (carried_of kept.carry) = simp length-take (omega arith) in
    let printed : 0 ≡ unwrap_or c.step.result 0 = rw c.in-None.is refl in
    record {
      ended = rw printed (ap leaves_of c.step.ensures ∙ end_step columns kept a.cells.now a.out.now some);
      carry = ap (λ (s : StepEffect). s.1.0.carry) c.step.ensures ∙ end_carry columns kept a.cells.now a.out.now carried;
    }
