-- Refused early, or carried out on the cells of the line, which lies in one megabyte.
use Prim.Native.Nat.{ℕ}
use mathlib.Core.Path.{◌≡◌, refl, ◌∙◌}
use Rattle.std.proofs.Common.{rules}
use Rattle.std.specs.Prelude.{Err}
use native.Mathlib.Omega.{arith}
use lib.ListN.{length}
use Rattle.registers.specs.Record.{record_of}
use Rattle.banks.specs.Setup.{setup_of}
use Rattle.calls.specs.State.{lent_state}
use Rattle.banks.specs.Map.{cell_of}
use Rattle.calls.specs.Calls.{burst_read, read_in, beat_address, parts}
use Rattle.calls.proofs.SpanLaws.{burst_fits}
use Rattle.calls.proofs.BeatLaws.{beat_in_line}
use Rattle.address_map.specs.CodeRoute.{cell_by, target_of}
use Rattle.address_map.proofs.RouteLaws.{route_leads}
use Rattle.targets.specs.CodeTargets.{beat_targets}
use Rattle.targets.proofs.CallLaws.{burst_read_early, refused_early, accepted_early, refused_left, carried_left}
use Rattle.burst_reads.proofs.burst_read_in_place.Goals as goal

pub read_beats-requires : goal.read_beats-requires
read_beats-requires c =
    let r = record_of c.args.registers.now in
    let a = c.args.address in
    let n = length c.args.buffer.now in
    let leads = route_leads r a _ c.route-to.ensures in
    let free = accepted_early c.route-to.result (setup_of r) a leads c.admit.result _ (rw c.judge_burst.ensures at c.admit.ensures) c.in_ok-admit.was in
    burst_fits a n free.1

pub returns-in_err-admit : goal.returns-in_err-admit
returns-in_err-admit c =
    let r = record_of c.args.registers.now in
    let a = c.args.address in
    let n = length c.args.buffer.now in
    let leads = route_leads r a _ c.route-to.ensures in
    let is : c.from_residual.result ≡ Err c.in_err-admit.field-0.0 = search rules in
    rw is
    (refused_left (lent_state c.args.registers.now c.args.cells.now) (burst_read a n) c.args.buffer.now _
    (burst_read_early (setup_of r) a n ∙ refused_early c.route-to.result (setup_of r) a leads c.admit.result _ (rw c.judge_burst.ensures at c.admit.ensures) _ c.in_err-admit.was))

pub returns : goal.returns
unfolding parts
returns c =
    let r = record_of c.args.registers.now in
    let a = c.args.address in
    let n = length c.args.buffer.now in
    let to = c.route-to.result in
    let leads = route_leads r a _ c.route-to.ensures in
    let free = accepted_early to (setup_of r) a leads c.admit.result _ (rw c.judge_burst.ensures at c.admit.ensures) c.in_ok-admit.was in
    let cell : (i : ℕ) → target_of (cell_by to (beat_address a i)) ≡ cell_of (setup_of r) (beat_address a i) = λ i. leads.cell free.0 (beat_address a i) (omega (arith, beat_in_line a i)) in
    c.read_beats.ensures
    ∙ carried_left (lent_state c.args.registers.now c.args.cells.now) (burst_read a n) c.args.buffer.now (beat_targets to a (λ i. read_in (beat_address a i) 8))
    (burst_read_early (setup_of r) a n ∙ rw (free.0, free.1)) refl (cell 0, (cell 1, (cell 2, (cell 3, tt))))
