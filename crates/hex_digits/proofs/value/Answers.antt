-- `hex_digits::value`: the product and the sum of `p` stay below 2^64 by `values_fit`; what is returned is the value by `digits_some`, or nothing by
-- `digits_none`.
use Rattle.std.proofs.Common.{rules, arith, sym, ◌<◌, ◌^◌}
use Rattle.hex_digits.proofs.EightLaws.{values_fit, digits_some, digits_none}
use Rattle.hex_digits.proofs.value.Goals as goal

pub returns-then-marks-x-ne0 : goal.returns-then-marks-x-ne0
returns-then-marks-x-ne0 c =
    let x = c.args.x in
    let room : x < 2 ^ 64 = search rules in
    sym (digits_none x room c.if-marks-x-ne0.true)

pub overflow_mul-p : goal.overflow_mul-p
overflow_mul-p c =
    let x = c.args.x in
    let room : x < 2 ^ 64 = search rules in
    record { fits = omega (arith, values_fit x room c.if-marks-x-ne0.false) }

pub overflow_add-p : goal.overflow_add-p
overflow_add-p c =
    let x = c.args.x in
    let room : x < 2 ^ 64 = search rules in
    record { fits = omega (arith, values_fit x room c.if-marks-x-ne0.false) }

pub returns : goal.returns
returns c =
    let x = c.args.x in
    let room : x < 2 ^ 64 = search rules in
    sym (digits_some x room c.if-marks-x-ne0.false)
