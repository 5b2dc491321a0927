-- A split is handed on with its route; what stays inside its doubleword is refused early, or carried out on the cell of the route.
use mathlib.Core.Path.{◌≡◌, refl, sym, ap, ◌∙◌}
use mathlib.Core.List.{[], ◌∷◌}
use lib.ListN.{length}
use Rattle.std.proofs.Common.{rules}
use Rattle.std.specs.Prelude.{Err}
use Rattle.registers.specs.Record.{record_of}
use Rattle.banks.specs.Setup.{setup_of}
use Rattle.calls.specs.State.{lent_state}
use Rattle.calls.specs.Calls.{write, write_in}
use Rattle.calls.proofs.SplitLaws.{inside_fits}
use Rattle.machine.proofs.InTurnLaws.{single_parts}
use Rattle.address_map.specs.CodeRoute.{target_of}
use Rattle.address_map.proofs.RouteLaws.{route_leads}
use Rattle.targets.proofs.CallLaws.{write_early, refused_early, accepted_early, refused_left, carried_left}
use Rattle.writes.proofs.write_in_place.Goals as goal

pub write_split-requires : goal.write_split-requires
write_split-requires c =
    (sym c.crosses_end.ensures ∙ c.if-crosses_end.true, c.route-to.ensures)

pub write_inside-requires : goal.write_inside-requires
write_inside-requires c =
    sym c.crosses_end.ensures ∙ c.if-crosses_end.false

pub returns-then-crosses_end : goal.returns-then-crosses_end
returns-then-crosses_end c =
    c.write_split.ensures

pub returns-in_err-admit : goal.returns-in_err-admit
returns-in_err-admit c =
    let r = record_of c.args.registers.now in
    let a = c.args.address in
    let bs = c.args.bytes.now in
    let leads = route_leads r a _ c.route-to.ensures in
    let is : c.from_residual.result ≡ Err c.in_err-admit.field-0.0 = search rules in
    rw is
    (refused_left (lent_state c.args.registers.now c.args.cells.now) (write a bs) [] _
    (write_early (setup_of r) a bs ∙ refused_early c.route-to.result (setup_of r) a leads c.admit.result _ (rw c.judge_count.ensures at c.admit.ensures) _ c.in_err-admit.was))

pub returns : goal.returns
returns c =
    let r = record_of c.args.registers.now in
    let a = c.args.address in
    let bs = c.args.bytes.now in
    let leads = route_leads r a _ c.route-to.ensures in
    let free = accepted_early c.route-to.result (setup_of r) a leads c.admit.result _ (rw c.judge_count.ensures at c.admit.ensures) c.in_ok-admit.was in
    let inside = inside_fits a (length bs) (sym c.crosses_end.ensures ∙ c.if-crosses_end.false) in
    let x = write_in a bs in
    c.write_inside.ensures
    ∙ carried_left (lent_state c.args.registers.now c.args.cells.now) (write a bs) [] ((target_of c.cell_at-k.result, x) ∷ [])
    (write_early (setup_of r) a bs ∙ rw (free.0, free.1)) (single_parts x inside) (ap target_of c.cell_at-k.ensures ∙ leads.cell free.0 a refl, tt)
