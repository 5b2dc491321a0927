-- Refused early, or carried out on the cell of the route.
use mathlib.Core.Path.{◌≡◌, refl, ap, ◌∙◌}
use mathlib.Core.List.{[], ◌∷◌}
use mathlib.Core.Option.{none}
use Rattle.std.proofs.Common.{rules}
use Rattle.std.specs.Prelude.{Err}
use Rattle.registers.specs.Record.{record_of}
use Rattle.banks.specs.Setup.{setup_of}
use Rattle.calls.specs.State.{lent_state}
use Rattle.calls.specs.Calls.{scrub, scrub_in}
use Rattle.machine.proofs.InTurnLaws.{single_parts}
use Rattle.address_map.specs.CodeRoute.{target_of}
use Rattle.address_map.proofs.RouteLaws.{route_leads}
use Rattle.targets.proofs.CallLaws.{scrub_early, refused_early, accepted_early, refused_left, carried_left}
use Rattle.memory.proofs.scrubs.scrub_in_place.Goals as goal

pub returns-in_err-admit : goal.returns-in_err-admit
returns-in_err-admit c =
    let r = record_of c.args.registers.now in
    let a = c.args.address in
    let leads = route_leads r a _ c.route-to.ensures in
    let is : c.from_residual.result ≡ Err c.in_err-admit.field-0.0 = search rules in
    rw is
    (refused_left (lent_state c.args.registers.now c.args.cells.now) (scrub a) [] _
    (scrub_early (setup_of r) a ∙ refused_early c.route-to.result (setup_of r) a leads c.admit.result none c.admit.ensures _ c.in_err-admit.was))

pub returns : goal.returns
returns c =
    let r = record_of c.args.registers.now in
    let a = c.args.address in
    let leads = route_leads r a _ c.route-to.ensures in
    let free = accepted_early c.route-to.result (setup_of r) a leads c.admit.result none c.admit.ensures c.in_ok-admit.was in
    c.scrub_inside.ensures
    ∙ carried_left (lent_state c.args.registers.now c.args.cells.now) (scrub a) [] ((target_of c.cell_at-k.result, scrub_in a) ∷ [])
    (scrub_early (setup_of r) a ∙ rw free.0) (single_parts (scrub_in a) tt) (ap target_of c.cell_at-k.ensures ∙ leads.cell free.0 a refl, tt)
