-- LIST-6: a split write renews both of its doublewords, and no other.
use Prim.Native.Nat.{ℕ, ◌+◌, ◌/◌}
use mathlib.Core.Path.{◌≡◌}
use mathlib.Core.Bool.{true, ◌||◌}
use mathlib.Core.List.{List}
use native.Mathlib.Omega.{arith}
use lib.Dec.{eqb}
use lib.ListN.{length}
use Rattle.basics.proofs.Bools.{or_false}
use Rattle.calls.specs.Calls.{write, crosses, next_doubleword, parts}
use Rattle.calls.proofs.SplitLaws.{next_at}
use Rattle.flat.specs.Comparison.{renews, any_of}

pub split_renews : (a q : ℕ) (bs : List ℕ) → crosses a (length bs) ≡ true → any_of (renews q) (parts (write a bs)) ≡ (eqb (a / 8) q || eqb (a / 8 + 1) q)
unfolding parts any_of renews
split_renews a q bs t =
    let next : next_doubleword a / 8 ≡ a / 8 + 1 = omega (arith, next_at a) in
    rw (t, next, or_false)
