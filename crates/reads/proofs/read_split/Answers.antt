-- Refused early, or carried out on the cells of both routes.
use Prim.Native.Nat.{◌-◌, ◌%◌, ◌^◌}
use mathlib.Core.Path.{◌≡◌, refl, ap, ◌∙◌}
use mathlib.Core.List.{[], ◌∷◌}
use Rattle.std.proofs.Common.{rules}
use Rattle.std.specs.Prelude.{Err}
use native.Mathlib.Omega.{arith}
use lib.ListN.{length}
use Rattle.registers.specs.Record.{record_of}
use Rattle.banks.specs.Setup.{setup_of}
use Rattle.calls.specs.State.{lent_state}
use Rattle.banks.specs.Map.{cell_of}
use Rattle.calls.specs.Calls.{read, read_in, room, next_doubleword}
use Rattle.calls.proofs.SpanLaws.{count_fits}
use Rattle.address_map.specs.CodeRoute.{cell_by, target_of}
use Rattle.address_map.proofs.RouteLaws.{route_leads}
use Rattle.targets.proofs.CallLaws.{read_early, refused_early, accepted_early, refused_left, carried_left, split_read_parts, next_in_range, next_exact, after_leads}
use Rattle.reads.proofs.read_split.Goals as goal

pub read_across-requires : goal.read_across-requires
read_across-requires c =
    let a = c.args.address in
    let n = length c.args.buffer.now in
    let r = record_of c.args.registers.now in
    let s = setup_of r in
    let free = accepted_early c.args.to s a (route_leads r a c.args.to c.requires.1) c.admit.result _ (rw c.judge_count.ensures at c.admit.ensures) c.in_ok-admit.was in
    (c.requires.0, (count_fits a n free.1).few, next_in_range a n c.requires.0 free.1)

pub returns-in_err-admit : goal.returns-in_err-admit
returns-in_err-admit c =
    let a = c.args.address in
    let n = length c.args.buffer.now in
    let r = record_of c.args.registers.now in
    let s = setup_of r in
    let is : c.from_residual.result ≡ Err c.in_err-admit.field-0.0 = search rules in
    rw is
    (refused_left (lent_state c.args.registers.now c.args.cells.now) (read a n) c.args.buffer.now _
    (read_early s a n ∙ refused_early c.args.to s a (route_leads r a c.args.to c.requires.1) c.admit.result _ (rw c.judge_count.ensures at c.admit.ensures) _ c.in_err-admit.was))

pub returns : goal.returns
returns c =
    let a = c.args.address in
    let n = length c.args.buffer.now in
    let r = record_of c.args.registers.now in
    let s = setup_of r in
    let leads = route_leads r a c.args.to c.requires.1 in
    let free = accepted_early c.args.to s a leads c.admit.result _ (rw c.judge_count.ensures at c.admit.ensures) c.in_ok-admit.was in
    let in_range_lem = next_in_range a n c.requires.0 free.1 in
    let at_next : next_doubleword a % 2 ^ 32 ≡ next_doubleword a = next_exact a _ in_range_lem refl in
    let here = ap target_of c.cell_at-k.ensures ∙ leads.cell free.0 a refl in
    let there = ap target_of (c.cell_at-l.ensures ∙ ap (cell_by c.route_after-after.result) c.next_doubleword.ensures) ∙ (after_leads r a c.args.to c.route_after-after.result (omega arith) c.requires.1 c.route_after-after.ensures).cell free.0 (next_doubleword a % 2 ^ 32) refl ∙ ap (cell_of s) at_next in
    c.read_across.ensures
    ∙ carried_left (lent_state c.args.registers.now c.args.cells.now) (read a n) c.args.buffer.now ((target_of c.cell_at-k.result, read_in a (room a)) ∷ (target_of c.cell_at-l.result, read_in (next_doubleword a) (n - room a)) ∷ [])
    (read_early s a n ∙ rw (free.0, free.1)) (split_read_parts a n c.requires.0) (here, (there, tt))
