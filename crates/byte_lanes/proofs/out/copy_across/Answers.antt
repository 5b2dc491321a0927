-- `copy_across` fills the buffer with the bytes of the number that `number_across` makes of the two doublewords.
use mathlib.Core.Path.{sym, ap, ◌∙◌}
use borrow.Author.Tests.{le-leb}
use lib.ListN.{length, take}
use Rattle.byte_lanes.proofs.StoreLaws.{eight_are}
use Rattle.byte_lanes.proofs.out.copy_across.Goals as goal

pub returns : goal.returns
returns c =
    let n = length c.args.buffer.now in
    rw (le-leb n 8 c.if-buffer-gt8.false) (c.copy_lowest.ensures ∙ ap (take n) (sym (eight_are c.number_across-eight.result) ∙ c.number_across-eight.ensures))
