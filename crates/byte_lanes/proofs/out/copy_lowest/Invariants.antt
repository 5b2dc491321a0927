use mathlib.Core.Path.{◌≡◌}
use Prim.Native.Nat.{◌*◌, ◌/◌, ◌^◌}
use lib.ListN.{take}
use Rattle.ecc.specs.Doubleword.{bytes_of_number}
use Rattle.byte_lanes.proofs.out.copy_lowest.Given as goal

abbrev pub invariant-loop-byte : goal.invariant-loop-byte
invariant-loop-byte l = (l.rest ≡ l.x / 2 ^ (8 * l.byte-index)) × (take l.byte-index l.buffer ≡ take l.byte-index (bytes_of_number l.x))
