-- One pass over the enabled banks selects the bank of a megabyte. The invariant of the loop is `Going` of PassLaws: `going_start` begins it, `going_next`
-- adds a bank, `going_end` reads what it says when no bank is left. What is returned is `chosen`, or `declined` with the reason why the set-up is
-- not ready.
use Rattle.std.proofs.Common.{◌+◌, ◌-◌, ◌%◌, ◌^◌, ◌<◌, get_or, sym, ◌∙◌, arith, leb-false, leb-true}
use lib.Count.{count_trailing_zeros}
use Rattle.banks.specs.Setup.{Setup}
use Rattle.banks.specs.Judge.{lowest_meeting}
use Rattle.address_map.specs.CodeFields.{setup_by}
use Rattle.address_map.specs.CodeRoute.{route_by}
use Rattle.address_map.proofs.EnableLaws.{rest_falls}
use Rattle.address_map.proofs.PassLaws.{going_start, going_next, going_end, same_here, power_below, power_fits, base_fits, forward_here, faulty_here}
use Rattle.address_map.proofs.PassLaws.{some_enabled, none_enabled, ready_from, unready_off, unready_none, unready_faulty, unready_meeting}
use Rattle.address_map.proofs.PassLaws.{none_faulty, none_meeting, packs, chosen, declined}
use Rattle.address_map.proofs.fields.Fields.select.Goals as goal

pub returns-then-not-is_on : goal.returns-then-not-is_on
returns-then-not-is_on c =
    let s : Setup = setup_by c.args.self.now in
    let told = declined s c.args.mb (unready_off s (sym c.is_on.ensures ∙ c.if-not-is_on.true)) in
    record { result_value = told.0; counted = told.1 }

pub returns-then-rest-eq0 : goal.returns-then-rest-eq0
returns-then-rest-eq0 c =
    let f = c.args.self.now in
    let told = declined (setup_by f) c.args.mb (unready_none (setup_by f) (none_enabled f c.requires (sym c.from-rest.ensures ∙ c.if-rest-eq0.true))) in
    record { result_value = told.0; counted = told.1 }

pub loop-rest-init : goal.loop-rest-init
loop-rest-init c =
    rw c.from-rest.ensures (going_start c.args.self.now c.requires c.args.mb _ _)

pub returns-in_default : goal.returns-in_default
returns-in_default c =
    let some = c.loop-rest-test.true in
    let f = c.args.self.now in
    let told = declined (setup_by f) c.args.mb (unready_faulty (setup_by f) (faulty_here c.loop-rest.invariant some (sym c.in_default.is ∙ c.bits_unless_faulty.ensures))) in
    record { result_value = told.0; counted = told.1 }

pub is_within-is_here-requires : goal.is_within-is_here-requires
is_within-is_here-requires c =
    let some = c.loop-rest-test.true in
    let same = same_here c.loop-rest.invariant some in
    let ordered = forward_here c.loop-rest.invariant some c.in-Some.ensures in
    (rw (c.start-start.ensures.value, c.last-last.ensures.value, same) ordered, c.last-last.ensures.bound)

pub overflow_add-size : goal.overflow_add-size
overflow_add-size c =
    let some = c.loop-rest-test.true in
    record { fits = power_fits c.loop-rest.invariant some c.in-Some.ensures }

pub power-base-requires : goal.power-base-requires
power-base-requires c =
    let some = c.loop-rest-test.true in
    power_below c.loop-rest.invariant some c.in-Some.ensures

pub overflow_add-base : goal.overflow_add-base
overflow_add-base c =
    let some = c.loop-rest-test.true in
    record { fits = base_fits c.loop-rest.invariant some c.in-Some.ensures c.power-base.ensures }

pub overflow_sub-rest : goal.overflow_sub-rest
overflow_sub-rest c =
    let some = c.loop-rest-test.true in
    omega (arith, some)

pub loop-rest-smaller : goal.loop-rest-smaller
loop-rest-smaller c =
    let some = c.loop-rest-test.true in
    rest_falls c.args.self.now.enables c.loop-rest.rest c.loop-rest.invariant.n c.loop-rest.invariant.left some

pub loop-rest-preserved : goal.loop-rest-preserved
loop-rest-preserved c =
    let some = c.loop-rest-test.true in
    let same = same_here c.loop-rest.invariant some in
    let from = rw same at c.start-start.ensures.value in
    let to = rw same at c.last-last.ensures.value in
    let start = get_or c.args.self.now.starts (count_trailing_zeros 32 c.loop-rest.rest) 0 in
    let low : start < 2 ^ 16 = rw from at c.start-start.ensures.bound in
    let gap = (c.loop-rest.end + (2 ^ 32 - start)) % 2 ^ 32 in
    rw (c.choose-bank.ensures, c.choose-first.ensures, c.choose-bits.ensures, c.is_within-is_here.ensures, c.power-base.ensures, from, to)
    (going_next c.loop-rest.invariant some c.in-Some.ensures (rw to at c.last-last.ensures.bound) gap (omega arith) (omega arith))

pub is_apart-requires : goal.is_apart-requires
is_apart-requires c =
    let end = going_end c.loop-rest.invariant c.loop-rest-test.false in
    λ t. none_meeting end (leb-true (2 ^ 31) c.loop-rest.ascent t)

pub packed-requires : goal.packed-requires
packed-requires c =
    let end = going_end c.loop-rest.invariant c.loop-rest-test.false in
    packs end

pub returns-then-is_apart : goal.returns-then-is_apart
returns-then-is_apart c =
    let f = c.args.self.now in
    let s : Setup = setup_by f in
    let end = going_end c.loop-rest.invariant c.loop-rest-test.false in
    let clear = leb-true 8 (lowest_meeting s) (sym c.is_apart.ensures ∙ c.if-is_apart.true) in
    let on = sym c.is_on.ensures ∙ c.if-not-is_on.false in
    let ready = ready_from s on (some_enabled f c.requires (λ z. c.if-rest-eq0.false (c.from-rest.ensures ∙ z))) (none_faulty end) clear in
    let packed = c.packed.ensures in
    let told = chosen end ready (route_by c.packed.result) packed.0 (packed.1 ∙ c.choose.ensures) packed.2 in
    record { result_value = told.0; counted = told.1 }

pub returns : goal.returns
returns c =
    let s : Setup = setup_by c.args.self.now in
    let told = declined s c.args.mb (unready_meeting s (leb-false 8 (lowest_meeting s) (sym c.is_apart.ensures ∙ c.if-is_apart.false))) in
    record { result_value = told.0; counted = told.1 }
