-- The eight bytes of a doubleword in the flat machine: what a read takes of them and what a write makes of them.
use Prim.Native.Nat.{ℕ, zero, suc, ◌+◌, ◌-◌, ◌*◌, ◌/◌, ◌%◌, ◌≤◌, ◌<◌, suc-le-suc}
use mathlib.Core.Path.{◌≡◌, refl, sym, ap, ap₂, ◌∙◌}
use mathlib.Core.Logic.{◌≢◌}
use mathlib.Core.List.{List, [], ◌∷◌, ◌++◌}
use native.Mathlib.Omega.{arith}
use native.Mathlib.Nat.{zero-add, not-suc-le-zero, le_of_suc-le-suc, add-zero, add-suc, suc-add}
use native.Mathlib.Decide.{dec_lt}
use borrow.Author.Tests.{lt-ltb, le-ltb, le-leb, lt-leb}
use lib.ListN.{length, take, drop, get_or, replicate}
use Rattle.machine.specs.Cells.{merge}
use Rattle.flat.specs.Flat.{bytes_from, with_bytes}

-- the eight bytes of doubleword q
unfoldable pub doubleword_bytes : (ℕ → ℕ) → ℕ → List ℕ
doubleword_bytes f q = bytes_from f (8 * q) 8

length_from : (f : ℕ → ℕ) (a n : ℕ) → length (bytes_from f a n) ≡ n
length_from f a zero = refl
length_from f a (suc n) = ap suc (length_from f (suc a) n)

take_from : (f : ℕ → ℕ) (a m n : ℕ) → m ≤ n → take m (bytes_from f a n) ≡ bytes_from f a m
take_from f a zero n h = refl
take_from f a (suc m) zero h = absurd (not-suc-le-zero h)
take_from f a (suc m) (suc n) h = ap (f a ∷◌) (take_from f (suc a) m n (le_of_suc-le-suc h))

drop_from : (f : ℕ → ℕ) (a m n : ℕ) → drop m (bytes_from f a (m + n)) ≡ bytes_from f (a + m) n
drop_from f a zero n = rw (zero-add, add-zero)
drop_from f a (suc m) n = rw (suc-add m n, add-suc a m, ← suc-add a m) (drop_from f (suc a) m n)

from_add : (f : ℕ → ℕ) (a m n : ℕ) → bytes_from f a (m + n) ≡ bytes_from f a m ++ bytes_from f (a + m) n
from_add f a zero n = rw (zero-add, add-zero)
from_add f a (suc m) n = rw (suc-add m n, add-suc a m, ← suc-add a m) (ap (f a ∷◌) (from_add f (suc a) m n))

from_ext : (f g : ℕ → ℕ) (a n : ℕ) → ((x : ℕ) → a ≤ x → x < a + n → f x ≡ g x) → bytes_from f a n ≡ bytes_from g a n
from_ext f g a zero h = refl
from_ext f g a (suc n) h =
    ap₂ {C = List ℕ} ◌∷◌ (h a (omega arith) (omega arith)) (from_ext f g (suc a) n (λ x l u. h x (omega arith) (omega arith)))

from_list : (f : ℕ → ℕ) (a : ℕ) (bs : List ℕ) → ((i : ℕ) → i < length bs → f (a + i) ≡ get_or bs i 0) → bytes_from f a (length bs) ≡ bs
from_list f a [] h = refl
from_list f a (v ∷ bs) h =
    ap₂ {C = List ℕ} ◌∷◌ (rw add-zero at (h 0 (omega arith)))
    (from_list f (suc a) bs (λ i l. rw (suc-add a i, ← add-suc a i) (h (suc i) (suc-le-suc l))))

module _ (f : ℕ → ℕ) (a : ℕ) (bs : List ℕ) where
  bytes_in_lem : (i : ℕ) → i < length bs → with_bytes f a bs (a + i) ≡ get_or bs i 0
  unfolding with_bytes
  bytes_in_lem i h =
      let e : a + i - a ≡ i = omega arith in
      rw (le-leb a (a + i) (omega arith), lt-ltb (a + i) (a + length bs) (omega arith), e)

  bytes_before : (x : ℕ) → x < a → with_bytes f a bs x ≡ f x
  unfolding with_bytes
  bytes_before x h = rw (lt-leb a x h)

  bytes_after : (x : ℕ) → a + length bs ≤ x → with_bytes f a bs x ≡ f x
  unfolding with_bytes
  bytes_after x h = rw (le-leb a x (omega arith), le-ltb x (a + length bs) h)

pub doubleword_bytes_length : (f : ℕ → ℕ) (q : ℕ) → length (doubleword_bytes f q) ≡ 8
unfolding doubleword_bytes
doubleword_bytes_length f q = length_from f (8 * q) 8

pub doubleword_bytes_read : (f : ℕ → ℕ) (a n : ℕ) → a % 8 + n ≤ 8 → take n (drop (a % 8) (doubleword_bytes f (a / 8))) ≡ bytes_from f a n
unfolding doubleword_bytes
doubleword_bytes_read f a n h =
    let s : 8 ≡ a % 8 + (8 - a % 8) = omega arith in
    let e : 8 * (a / 8) + a % 8 ≡ a = omega arith in
    ap (λ (k : ℕ). take n (drop (a % 8) (bytes_from f (8 * (a / 8)) k))) s
    ∙ ap (take n) (drop_from f (8 * (a / 8)) (a % 8) (8 - a % 8))
    ∙ take_from f (8 * (a / 8) + a % 8) n (8 - a % 8) (omega arith)
    ∙ ap (λ (k : ℕ). bytes_from f k n) e

pub doubleword_bytes_merge : (f : ℕ → ℕ) (a : ℕ) (bs : List ℕ) → a % 8 + length bs ≤ 8 → doubleword_bytes (with_bytes f a bs) (a / 8) ≡ merge (a % 8) bs (doubleword_bytes f (a / 8))
unfolding doubleword_bytes merge
doubleword_bytes_merge f a bs h =
    let b : ℕ = 8 * (a / 8) in
    let o : ℕ = a % 8 in
    let n : ℕ = length bs in
    let m : ℕ = 8 - (o + n) in
    let g : ℕ → ℕ = with_bytes f a bs in
    let s : 8 ≡ o + n + m = omega arith in
    let e : b + o ≡ a = omega arith in
    let front : bytes_from g b o ≡ take o (bytes_from f b 8) =
    from_ext g f b o (λ x l u. bytes_before f a bs x (omega arith)) ∙ sym (take_from f b o 8 (omega arith)) in
    let middle : bytes_from g (b + o) n ≡ bs = ap (λ (k : ℕ). bytes_from g k n) e ∙ from_list g a bs (bytes_in_lem f a bs) in
    let back : bytes_from g (b + (o + n)) m ≡ drop (o + n) (bytes_from f b 8) =
    from_ext g f (b + (o + n)) m (λ x l u. bytes_after f a bs x (omega arith))
    ∙ sym (ap (λ (k : ℕ). drop (o + n) (bytes_from f b k)) s ∙ drop_from f b (o + n) m) in
    ap (bytes_from g b) s ∙ from_add g b (o + n) m ∙ ap₂ ◌++◌ (from_add g b o n ∙ ap₂ ◌++◌ front middle) back

pub doubleword_bytes_whole : (f : ℕ → ℕ) (a : ℕ) (bs : List ℕ) → a % 8 + length bs ≤ 8 → length bs ≡ 8 → doubleword_bytes (with_bytes f a bs) (a / 8) ≡ bs
unfolding doubleword_bytes
doubleword_bytes_whole f a bs h n =
    let e : 8 * (a / 8) ≡ a = omega arith in
    ap₂ (λ (k i : ℕ). bytes_from (with_bytes f a bs) k i) e (sym n) ∙ from_list (with_bytes f a bs) a bs (bytes_in_lem f a bs)

pub doubleword_bytes_other : (f : ℕ → ℕ) (a : ℕ) (bs : List ℕ) (q : ℕ) → a % 8 + length bs ≤ 8 → q ≢ a / 8 → doubleword_bytes (with_bytes f a bs) q ≡ doubleword_bytes f q
unfolding doubleword_bytes
doubleword_bytes_other f a bs q h ne = from_ext (with_bytes f a bs) f (8 * q) 8 other
  where
    other : (x : ℕ) → 8 * q ≤ x → x < 8 * q + 8 → with_bytes f a bs x ≡ f x
    other x l u = go (dec_lt x a)
      where
        go : Dec (x < a) → with_bytes f a bs x ≡ f x
        go (yes b) = bytes_before f a bs x b
        go (no b) = bytes_after f a bs x (omega arith)

pub doubleword_bytes_zero : (q : ℕ) → doubleword_bytes (λ a. 0) q ≡ replicate 8 0
unfolding doubleword_bytes
doubleword_bytes_zero q = refl
