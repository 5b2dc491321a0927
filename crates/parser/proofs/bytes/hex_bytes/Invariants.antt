use Prim.Native.Nat.{◌*◌, ◌-◌, ◌/◌, ◌≤◌}
use mathlib.Core.Path.{◌≡◌}
use lib.ListN.{length, take, drop}
use Rattle.hex_digits.specs.Digits.{hex_bytes}
use Rattle.parser.proofs.PaddedLaws.{zeros}
use Rattle.parser.proofs.ByteLaws.{prefixed}
use Rattle.parser.proofs.bytes.hex_bytes.Given as goal

abbrev pub invariant-loop-i : goal.invariant-loop-i
invariant-loop-i l =
    (l.i ≤ length l.digits / 2) × (length l.bytes ≡ 8) × (hex_bytes l.digits ≡ prefixed (take l.i l.bytes) (hex_bytes (drop (2 * l.i) l.digits))) × (drop l.i l.bytes ≡ zeros (8 - l.i))
