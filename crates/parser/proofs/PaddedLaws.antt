-- Bytes with zeros after them.
use mathlib.Core.Path.{◌≡◌, sym, ap, ◌∙◌}
use mathlib.Core.List.{List, ◌++◌}
use Prim.Native.Nat.{ℕ, zero, suc, ◌+◌, ◌-◌, ◌≤◌}
use native.Mathlib.Omega.{arith}
use lib.ListN.{length, take, drop, replicate, take-append-drop}
use lib.Seq.{drop-drop, length-take-le}
use Rattle.parser.specs.CodeParsed.{padded}

abbrev pub zeros : ℕ → List ℕ
zeros n = replicate n 0

pub drop_zeros : (k n : ℕ) → drop k (zeros n) ≡ zeros (n - k)
drop_zeros zero n = let e : n ≡ n - 0 = omega arith in ap zeros e
drop_zeros (suc k) zero = let e : 0 ≡ 0 - suc k = omega arith in ap zeros e
drop_zeros (suc k) (suc n) = let e : n - k ≡ suc n - suc k = omega arith in drop_zeros k n ∙ ap zeros e

-- zeros from a place on are zeros from each later place on
pub zeros_later : (n i k : ℕ) (l : List ℕ) → i ≤ k → drop i l ≡ zeros (n - i) → drop k l ≡ zeros (n - k)
zeros_later n i k l h e =
    let s : i + (k - i) ≡ k = omega arith in
    let t : n - i - (k - i) ≡ n - k = omega arith in
    ap (λ (m : ℕ). drop m l) (sym s) ∙ sym (drop-drop (k - i) i l) ∙ ap (drop (k - i)) e ∙ drop_zeros (k - i) (n - i) ∙ ap zeros t

pub padded_is : (n k : ℕ) (l : List ℕ) → k ≤ length l → drop k l ≡ zeros (n - k) → l ≡ padded n (take k l)
padded_is n k l h e =
    sym (take-append-drop k l) ∙ ap (λ (r : List ℕ). take k l ++ r) (e ∙ ap (λ (m : ℕ). zeros (n - m)) (sym (length-take-le k l h)))
