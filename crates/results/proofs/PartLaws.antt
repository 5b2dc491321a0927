-- The parts of an answer as numbers.
use Prim.Native.Nat.{ℕ, zero, suc, ◌<◌, ◌≤◌}
use native.Mathlib.Omega.{arith}
use native.Mathlib.Nat.{not-suc-le-zero}
use mathlib.Core.Path.{◌≡◌, refl, ap}
use mathlib.Core.List.{List, [], ◌∷◌}
use lib.ListN.{length, get_or}
use Rattle.calls.specs.declared.Kind.{Kind}
use Rattle.results.specs.Results.{part_code, part_at}

pub part_is : (ks : List Kind) (i : ℕ) (k : Kind) → i < length ks → k ≡ get_or ks i k → part_code k ≡ part_at ks i
part_is [] i k h e = absurd (not-suc-le-zero h)
part_is (x ∷ ks) zero k h e = ap part_code e
part_is (x ∷ ks) (suc i) k h e = part_is ks i k (omega arith) e

pub part_past : (ks : List Kind) (i : ℕ) → length ks ≤ i → 0 ≡ part_at ks i
part_past [] i h = refl
part_past (x ∷ ks) zero h = absurd (not-suc-le-zero h)
part_past (x ∷ ks) (suc i) h = part_past ks i (omega arith)
