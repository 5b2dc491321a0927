-- The number has these eight bytes (`eight_some`, `eight_are`), and its lowest mark is that of the first LF (`first_of_eight`).
use native.Mathlib.Omega.{arith}
use Prim.Native.Nat.{◌^◌, ◌<◌}
use mathlib.Core.Path.{◌∙◌}
use lib.ListN.{take, drop, length-drop}
use lib.Seq.{length-take-le}
use Rattle.eight_bytes.proofs.ByteLaws.{eight_some, eight_are}
use Rattle.line_ends.proofs.LineEndLaws.{first_of_eight}
use borrow.Author.Rules.{rules}
use Rattle.line_ends.proofs.before_lf.Goals as goal

pub returns : goal.returns
returns c =
    let a = c.args in
    let l = a.chunk.now in
    let eight = take 8 (drop a.at l) in
    let number = c.number_at-x in
    let small : number.result < 2 ^ 64 = search rules in
    let x = eight_are eight number.result small (number.ensures ∙ eight_some l a.at (omega arith)) in
    rw x.1 (first_of_eight eight (length-take-le 8 (drop a.at l) (omega (arith, length-drop a.at l))) x.0)
