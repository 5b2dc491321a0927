use Rattle.std.proofs.Common.{◌≡◌, ◌*◌, length, take}
use Rattle.print.specs.Digits.{hex_pairs}
use Rattle.print.proofs.text.digit_pairs.Given as goal

abbrev pub invariant-loop-i : goal.invariant-loop-i
invariant-loop-i l = (length l.digits ≡ 16) × (take (2 * l.i) l.digits ≡ hex_pairs (take l.i l.bytes))
