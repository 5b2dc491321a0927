-- The kinds of a call, taken one by one.
use Prim.Native.Nat.{ℕ, min}
use mathlib.Core.Path.{◌≡◌, refl, ap}
use mathlib.Core.List.{List, [], ◌∷◌}
use native.Mathlib.Omega.{arith}
use lib.ListN.{length, get_or, take}
use Rattle.calls.specs.declared.Kind.{Kind}

-- the first four of a list, or all of fewer, read at the four first places
pub first_four : (l : List Kind) (d : Kind) → take (min (length l) 4) (get_or l 0 d ∷ get_or l 1 d ∷ get_or l 2 d ∷ get_or l 3 d ∷ []) ≡ take 4 l
first_four [] d = refl
first_four (a ∷ []) d = refl
first_four (a ∷ b ∷ []) d = refl
first_four (a ∷ b ∷ c ∷ []) d = refl
first_four (a ∷ b ∷ c ∷ e ∷ l) d =
    let four : min (length (a ∷ b ∷ c ∷ e ∷ l)) 4 ≡ 4 = omega arith in
    ap (λ (n : ℕ). take n (a ∷ b ∷ c ∷ e ∷ [])) four
