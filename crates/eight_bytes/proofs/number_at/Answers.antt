-- Where there are eight bytes, `number_of` has them (`eight_read`, `eight_some`); else 0 has the bytes of `eight_at` (`eight_none`).
use native.Mathlib.Omega.{arith}
use mathlib.Core.Path.{sym, ◌≡◌, ◌∙◌}
use lib.ListN.{length, drop, length-drop}
use lib.Seq.{length-take-le}
use Rattle.eight_bytes.proofs.ByteLaws.{eight_none, eight_some, eight_read}
use Rattle.eight_bytes.proofs.number_at.Goals as goal

pub returns-in-Some : goal.returns-in-Some
returns-in-Some c =
    let a = c.args in
    let some = c.in-Some.ensures in
    let eight = c.in-Some.field-0.now in
    let l = a.bytes.now in
    let whole : length eight ≡ 8 = rw some.1 (length-take-le 8 (drop a.at l) (omega (arith, length-drop a.at l, some.0))) in
    c.number_of.ensures ∙ eight_read eight whole ∙ some.1 ∙ sym (eight_some l a.at some.0)

pub returns-in-None : goal.returns-in-None
returns-in-None c = eight_none c.args.bytes.now c.args.at c.in-None.ensures
