-- Fields of digits by their lengths.
use mathlib.Core.Path.{◌≡◌, refl, ap, ◌∙◌}
use mathlib.Core.List.{List, [], ◌∷◌}
use Rattle.std.specs.Prelude.{None}
use Prim.Native.Nat.{ℕ, suc, ◌+◌, ◌≤◌}
use native.Mathlib.Omega.{arith}
use lib.ListN.{length, get_or, take, drop, length-drop, drop_of_length-le}
use lib.Seq.{drop-cons}
use borrow.Author.Tests.{eq-eqb, ne_eqb}
use Rattle.hex_digits.specs.Digits.{hex_from, hex_field}

pub field_is : (n : ℕ) (x : List ℕ) → length x ≡ n → hex_field n x ≡ hex_from 0 x
unfolding hex_field
field_is n x h = rw (eq-eqb (length x) n h)

pub field_lacks : (n : ℕ) (x : List ℕ) → (length x ≡ n → ⊥) → hex_field n x ≡ None
unfolding hex_field
field_lacks n x h = rw (ne_eqb (length x) n h)

-- a list of two elements more than j, from j on
pub two_left : (x : List ℕ) (j : ℕ) → length x ≡ j + 2 → drop j x ≡ get_or x j 0 ∷ get_or x (j + 1) 0 ∷ []
two_left x j h =
    let e : j + 1 ≡ suc j = omega arith in
    let last : drop (suc (suc j)) x ≡ [] = drop_of_length-le x {i = suc (suc j)} (omega arith) in
    rw (e, drop-cons x j 0 (omega arith), drop-cons x (suc j) 0 (omega arith), last)

-- two digits that are a whole field
pub pair_is : (x : List ℕ) (j : ℕ) → length x ≡ j + 2 → hex_field 2 (drop j x) ≡ hex_from 0 (get_or x j 0 ∷ get_or x (j + 1) 0 ∷ [])
pair_is x j h = field_is 2 (drop j x) (simp length-drop (omega arith)) ∙ ap (hex_from 0) (two_left x j h)

-- the first two elements
pub two_first : (x : List ℕ) → 2 ≤ length x → take 2 x ≡ get_or x 0 0 ∷ get_or x 1 0 ∷ []
two_first [] h = absurd (omega arith)
two_first (a ∷ []) h = absurd (omega arith)
two_first (a ∷ b ∷ x) h = refl
