-- The loop asks each bank below n (`every_none`, `every_more`); that bank n meets none of them is the negation of `meets_lower` (`clear_is`).
use Rattle.std.proofs.Common.{◌≡◌, sym, ◌∙◌, arith}
use Rattle.address_map.specs.CodeFields.{setup_by}
use Rattle.address_map.proofs.PairLaws.{every_none, every_more, clear_is}
use Rattle.address_map.proofs.fields.Fields.is_clear.Goals as goal

pub loop-m-init : goal.loop-m-init
loop-m-init c = (omega arith, sym (every_none _))

pub is_meeting-requires : goal.is_meeting-requires
is_meeting-requires c = (omega arith, omega arith)

pub overflow_step-m : goal.overflow_step-m
overflow_step-m c = omega arith

pub loop-m-smaller : goal.loop-m-smaller
loop-m-smaller c = omega arith

pub loop-m-preserved : goal.loop-m-preserved
loop-m-preserved c =
    (omega arith, rw (every_more, ← c.loop-m.invariant.1, ← c.is_meeting.ensures))

pub returns : goal.returns
returns c =
    let x = c.loop-m in
    let a = c.args in
    let z : x.m ≡ a.n = omega (arith, x.invariant.0, c.loop-m-test.false) in
    (rw z at x.invariant.1) ∙ clear_is (setup_by a.self.now) a.n
