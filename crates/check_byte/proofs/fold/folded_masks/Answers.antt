-- The masks and folds of the code are those of the definition, one by one.
use Rattle.check_byte.specs.CodeFold.{folded_masks}
use Rattle.check_byte.proofs.FoldLaws.{left_rotated}
use native.Mathlib.Omega.{arith}
use Rattle.check_byte.proofs.fold.folded_masks.Goals as goal

pub returns : goal.returns
unfolding folded_masks
returns c =
    simp (c.folded.ensures, c.folded-cd.ensures, c.folded-ab.ensures, c.masked-d.ensures, c.masked-c.ensures, c.masked-b.ensures, c.masked-a.ensures, c.rotate_left-y.ensures, left_rotated c.args.x 4 (omega arith) (omega arith) (omega arith))
