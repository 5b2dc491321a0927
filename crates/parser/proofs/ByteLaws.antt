-- Laws of the bytes of a write, two digits each.
use mathlib.Core.Path.{◌≡◌, refl, sym, ap, ◌∙◌}
use mathlib.Core.Bool.{Bool, true, false, cond, ◌&&◌}
use mathlib.Core.List.{List, [], ◌∷◌, ◌++◌, append-nil}
use Rattle.std.specs.Prelude.{Option, None, Some}
use Prim.Native.Nat.{ℕ, zero, suc, ◌+◌, ◌*◌, ◌/◌, ◌%◌, ◌<◌, ◌≤◌}
use native.Mathlib.Omega.{arith}
use lib.Dec.{ltb, leb}
use lib.ListN.{length, get_or, take, drop, set, drop_of_length-le}
use lib.Seq.{drop-cons, take-suc-set, append_snoc}
use borrow.Author.Tests.{lt-ltb, le-leb, lt-leb}
use Rattle.hex_digits.specs.Digits.{on_some, hex_from, hex_bytes, bytes_field}

abbrev pub prefixed : List ℕ → Option (List ℕ) → Option (List ℕ)
prefixed xs o = on_some o (λ ys. Some (xs ++ ys))

drop_two : (l : List ℕ) (j : ℕ) → j + 1 < length l → drop j l ≡ get_or l j 0 ∷ get_or l (j + 1) 0 ∷ drop (j + 2) l
drop_two l j h =
    let e : j + 1 ≡ suc j = omega arith in
    let f : j + 2 ≡ suc (suc j) = omega arith in
    rw (e, f) (drop-cons l j 0 (omega arith) ∙ ap (λ (r : List ℕ). get_or l j 0 ∷ r) (drop-cons l (suc j) 0 (omega arith)))

module _ (digits bytes : List ℕ) (i p : ℕ) where
  -- two more digits, the value of which is stored
  pub bytes_next : 2 * i + 1 < length digits → i < length bytes → hex_from 0 (get_or digits (2 * i) 0 ∷ get_or digits (2 * i + 1) 0 ∷ []) ≡ Some p
      → prefixed (take i bytes) (hex_bytes (drop (2 * i) digits)) ≡ prefixed (take (i + 1) (set bytes i p)) (hex_bytes (drop (2 * (i + 1)) digits))
  unfolding hex_bytes
  bytes_next h k e =
      let n : 2 * (i + 1) ≡ 2 * i + 2 = omega arith in
      let s : i + 1 ≡ suc i = omega arith in
      rw (n, s, take-suc-set bytes i p k, drop_two digits (2 * i) h, e) (go (hex_bytes (drop (2 * i + 2) digits)))
    where
      go : (o : Option (List ℕ)) → prefixed (take i bytes) (on_some o (λ vs. Some (p ∷ vs))) ≡ prefixed (take i bytes ++ (p ∷ [])) o
      go None = refl
      go (Some vs) = ap Some (sym (append_snoc (take i bytes) p vs))

pub bytes_stop : (digits bytes : List ℕ) (i : ℕ) → 2 * i + 1 < length digits → hex_from 0 (get_or digits (2 * i) 0 ∷ get_or digits (2 * i + 1) 0 ∷ []) ≡ None
    → prefixed (take i bytes) (hex_bytes (drop (2 * i) digits)) ≡ None
unfolding hex_bytes
bytes_stop digits bytes i h e = rw (drop_two digits (2 * i) h, e)

pub bytes_end : (digits bytes : List ℕ) (i : ℕ) → 2 * i ≡ length digits → prefixed (take i bytes) (hex_bytes (drop (2 * i) digits)) ≡ Some (take i bytes)
unfolding hex_bytes
bytes_end digits bytes i h = rw (drop_of_length-le digits {i = 2 * i} (omega arith)) (ap Some (append-nil (take i bytes)))

pub bytes_odd : (k : ℕ) (x : List ℕ) → length x ≡ 2 * k + 1 → hex_bytes x ≡ None
unfolding hex_bytes
bytes_odd k [] h = absurd (omega arith)
bytes_odd k (a ∷ []) h = refl
bytes_odd zero (a ∷ b ∷ bs) h = absurd (omega arith)
bytes_odd (suc k) (a ∷ b ∷ bs) h = rw (bytes_odd k bs (omega arith)) (go (hex_from 0 (a ∷ b ∷ [])))
  where
    go : (o : Option ℕ) → on_some {B = List ℕ} o (λ v. None) ≡ None
    go None = refl
    go (Some v) = refl

pub bytes_are : (x : List ℕ) → 0 < length x → length x ≤ 16 → bytes_field x ≡ hex_bytes x
unfolding bytes_field
bytes_are x h k = rw (lt-ltb 0 (length x) h, le-leb (length x) 16 k)

pub bytes_empty : (x : List ℕ) → length x ≡ 0 → bytes_field x ≡ None
unfolding bytes_field
bytes_empty x h = rw h

pub bytes_long : (x : List ℕ) → 16 < length x → bytes_field x ≡ None
unfolding bytes_field
bytes_long x h = rw (lt-leb (length x) 16 h) (go (ltb 0 (length x)))
  where
    go : (t : Bool) → cond (t && false) (hex_bytes x) None ≡ None
    go true = refl
    go false = refl

pub odd_bytes : (x : List ℕ) → (length x % 2 ≡ 0 → ⊥) → bytes_field x ≡ None
unfolding bytes_field
odd_bytes x h = rw (bytes_odd (length x / 2) x (omega arith)) (go (ltb 0 (length x) && leb (length x) 16))
  where
    go : (t : Bool) → cond {A = Option (List ℕ)} t None None ≡ None
    go true = refl
    go false = refl
