-- Refused early, 10 by the bank of the route, or carried out on its cell.
use mathlib.Core.Path.{◌≡◌, refl, sym, ap, ◌∙◌}
use mathlib.Core.List.{[], ◌∷◌}
use mathlib.Core.Option.{some, some-ne-none}
use Rattle.std.proofs.Common.{rules}
use Rattle.std.specs.Prelude.{Err}
use Rattle.registers.specs.Record.{record_of}
use Rattle.banks.specs.Setup.{setup_of}
use Rattle.calls.specs.State.{lent_state}
use Rattle.calls.specs.Calls.{flip, flip_in}
use Rattle.calls.specs.Spans.{by_bit}
use Rattle.machine.proofs.InTurnLaws.{single_parts}
use Rattle.address_map.specs.CodeRoute.{target_of}
use Rattle.address_map.proofs.RouteLaws.{route_leads}
use Rattle.targets.proofs.CallLaws.{flip_early, refused_early, accepted_early, refused_left, carried_left}
use Rattle.calls.proofs.SpanLaws.{bit_fits}
use Rattle.memory.proofs.FlipLaws.{flip_target}
use Rattle.refusals.proofs.ChainLaws.{else_left, else_right}
use Rattle.memory.proofs.flips.flip_in_place.Goals as goal

pub returns-in_err-admit : goal.returns-in_err-admit
returns-in_err-admit c =
    let r = record_of c.args.registers.now in
    let a = c.args.address in
    let b = c.args.bit in
    let leads = route_leads r a _ c.route-to.ensures in
    let is : c.from_residual.result ≡ Err c.in_err-admit.field-0.0 = search rules in
    rw is
    (refused_left (lent_state c.args.registers.now c.args.cells.now) (flip a b) [] _
    (flip_early (setup_of r) a c.route-to.result leads b ∙ refused_early c.route-to.result (setup_of r) a leads c.admit.result _ (rw c.judge_flip.ensures at c.admit.ensures) _ c.in_err-admit.was))

pub returns-in-Some : goal.returns-in-Some
returns-in-Some c =
    let r = record_of c.args.registers.now in
    let a = c.args.address in
    let b = c.args.bit in
    let leads = route_leads r a _ c.route-to.ensures in
    let free = accepted_early c.route-to.result (setup_of r) a leads c.admit.result _ (rw c.judge_flip.ensures at c.admit.ensures) c.in_ok-admit.was in
    c.flip_inside.ensures r
    ∙ carried_left (lent_state c.args.registers.now c.args.cells.now) (flip a b) [] ((some c.in-Some.k, flip_in a b) ∷ [])
    (flip_early (setup_of r) a c.route-to.result leads b ∙ rw (free.0, free.1)) (single_parts (flip_in a b) (bit_fits b (else_left (by_bit b) _ free.1))) (ap target_of (sym c.in-Some.is ∙ c.cell_at.ensures) ∙ leads.cell free.0 a refl, tt)

pub returns-in-None : goal.returns-in-None
returns-in-None c =
    let r = record_of c.args.registers.now in
    let a = c.args.address in
    let leads = route_leads r a _ c.route-to.ensures in
    let free = accepted_early c.route-to.result (setup_of r) a leads c.admit.result _ (rw c.judge_flip.ensures at c.admit.ensures) c.in_ok-admit.was in
    let found = flip_target c.route-to.result (setup_of r) a leads free.0 (else_right (by_bit c.args.bit) _ free.1) in
    absurd (some-ne-none found.0 (sym (rw (sym c.cell_at.ensures ∙ c.in-None.is) at found.1)))
