-- The loop's invariant: the digits of the first i bytes are stored. The next byte has two more (`pairs_next`), which follow them (`two_more`).
use Rattle.std.proofs.Common.{arith, ◌∙◌, sym}
use Rattle.std.proofs.lemmas.List.{length-set}
use Rattle.print.proofs.PrintLaws.{pairs_next, two_more}
use Rattle.print.proofs.text.digit_pairs.Goals as goal

pub loop-i-preserved : goal.loop-i-preserved
loop-i-preserved c =
    let at = c.loop-i in
    let x = c.character in
    let y = c.character-in-loop-i in (
      simp length-set at.invariant.0,
      two_more at.digits at.i x.result y.result (omega (arith, at.invariant.0))
          ∙ rw (at.invariant.1, x.ensures, y.ensures) (sym (pairs_next c.args.bytes.now at.i (omega arith))),
    )
