-- The loop asks each of the eight banks (`every_none`, `every_more`); all are clear if a search for the lowest that meets finds none (`none_meets`).
use Rattle.std.proofs.Common.{◌≡◌, sym, ◌∙◌, arith}
use Rattle.address_map.specs.CodeFields.{setup_by}
use Rattle.address_map.proofs.PairLaws.{every_none, every_more, none_meets}
use Rattle.address_map.proofs.fields.Fields.none_meets.Goals as goal

pub loop-n-init : goal.loop-n-init
loop-n-init c = (omega arith, sym (every_none _))

pub is_clear-clear-requires : goal.is_clear-clear-requires
is_clear-clear-requires c = omega arith

pub overflow_step-n : goal.overflow_step-n
overflow_step-n c = omega arith

pub loop-n-smaller : goal.loop-n-smaller
loop-n-smaller c = omega arith

pub loop-n-preserved : goal.loop-n-preserved
loop-n-preserved c =
    (omega arith, rw (every_more, ← c.loop-n.invariant.1, ← c.is_clear-clear.ensures))

pub returns : goal.returns
returns c =
    let x = c.loop-n in
    let z : x.n ≡ 8 = omega (arith, x.invariant.0, c.loop-n-test.false) in
    (rw z at x.invariant.1) ∙ none_meets (setup_by c.args.self.now)
