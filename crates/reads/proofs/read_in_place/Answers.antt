-- A split is handed on with its route; what stays inside its doubleword is refused early, or carried out on the cell of the route.
use mathlib.Core.Path.{◌≡◌, refl, sym, ap, ◌∙◌}
use mathlib.Core.List.{[], ◌∷◌}
use lib.ListN.{length}
use Rattle.std.proofs.Common.{rules}
use Rattle.std.specs.Prelude.{Err}
use Rattle.registers.specs.Record.{record_of}
use Rattle.banks.specs.Setup.{setup_of}
use Rattle.calls.specs.State.{lent_state}
use Rattle.calls.specs.Calls.{read, read_in}
use Rattle.calls.proofs.SplitLaws.{inside_fits}
use Rattle.machine.proofs.InTurnLaws.{single_parts}
use Rattle.address_map.specs.CodeRoute.{target_of}
use Rattle.address_map.proofs.RouteLaws.{route_leads}
use Rattle.targets.proofs.CallLaws.{read_early, refused_early, accepted_early, refused_left, carried_left}
use Rattle.reads.proofs.read_in_place.Goals as goal

pub read_split-requires : goal.read_split-requires
read_split-requires c =
    (sym c.crosses_end.ensures ∙ c.if-crosses_end.true, c.route-to.ensures)

pub read_inside-requires : goal.read_inside-requires
read_inside-requires c =
    sym c.crosses_end.ensures ∙ c.if-crosses_end.false

pub returns-then-crosses_end : goal.returns-then-crosses_end
returns-then-crosses_end c =
    c.read_split.ensures

pub returns-in_err-admit : goal.returns-in_err-admit
returns-in_err-admit c =
    let r = record_of c.args.registers.now in
    let a = c.args.address in
    let n = length c.args.buffer.now in
    let leads = route_leads r a _ c.route-to.ensures in
    let is : c.from_residual.result ≡ Err c.in_err-admit.field-0.0 = search rules in
    rw is
    (refused_left (lent_state c.args.registers.now c.args.cells.now) (read a n) c.args.buffer.now _
    (read_early (setup_of r) a n ∙ refused_early c.route-to.result (setup_of r) a leads c.admit.result _ (rw c.judge_count.ensures at c.admit.ensures) _ c.in_err-admit.was))

pub returns : goal.returns
returns c =
    let r = record_of c.args.registers.now in
    let a = c.args.address in
    let n = length c.args.buffer.now in
    let leads = route_leads r a _ c.route-to.ensures in
    let free = accepted_early c.route-to.result (setup_of r) a leads c.admit.result _ (rw c.judge_count.ensures at c.admit.ensures) c.in_ok-admit.was in
    let inside = inside_fits a n (sym c.crosses_end.ensures ∙ c.if-crosses_end.false) in
    let x = read_in a n in
    c.read_inside.ensures
    ∙ carried_left (lent_state c.args.registers.now c.args.cells.now) (read a n) c.args.buffer.now ((target_of c.cell_at-k.result, x) ∷ [])
    (read_early (setup_of r) a n ∙ rw (free.0, free.1)) (single_parts x inside) (ap target_of c.cell_at-k.ensures ∙ leads.cell free.0 a refl, tt)
