-- The fields of a line by their places; commas separate them.
use mathlib.Core.Path.{◌≡◌, refl, sym, ap, subst, ◌∙◌}
use mathlib.Core.Bool.{Bool, true, false, cond, ◌&&◌, ◌||◌}
use mathlib.Core.List.{List, [], ◌∷◌}
use Rattle.std.specs.Prelude.{Option, None, Some}
use Prim.Native.Nat.{ℕ, zero, suc, ◌+◌, ◌*◌, ◌<◌}
use native.Mathlib.Omega.{arith}
use lib.Dec.{T, ltb, eqb, leb-suc-zero, leb-suc-suc, eqb-suc-suc, eqb-suc-zero, eqb-zero-suc}
use lib.ListN.{length, get_or, take, drop}
use borrow.Author.Tests.{lt-ltb, eq-eqb, ne_eqb}
use Rattle.basics.proofs.RangeLaws.{by_cases}
use Rattle.basics.proofs.Bools.{or_left, or_right}
use Rattle.calls.specs.Calls.{Call}
use Rattle.hex_digits.specs.Digits.{on_some, hex_digit, hex_from, hex_field}
use Rattle.parser.specs.Format.{prepend_byte, fields, one_field, two_fields}
use Rattle.parser.proofs.PlainLaws.{parted, Plain, on_some_none, comma_digit}

fields_cons : (x : List ℕ) → (f : List ℕ) × (fs : List (List ℕ)) × (fields x ≡ f ∷ fs)
unfolding fields
fields_cons [] = ([], [], refl)
fields_cons (b ∷ bs) = go (eqb b 0x2C) (fields bs)
  where
    go : (t : Bool) (l : List (List ℕ)) → (f : List ℕ) × (fs : List (List ℕ)) × (cond t ([] ∷ l) (prepend_byte b l) ≡ f ∷ fs)
    go true l = ([], l, refl)
    go false [] = (b ∷ [], [], refl)
    go false (f ∷ fs) = (b ∷ f, fs, refl)

alone : (x : List ℕ) → parted x ≡ false → fields x ≡ x ∷ []
unfolding fields
alone [] e = refl
alone (b ∷ bs) e =
    let t = or_left (eqb b 0x2C) (parted bs) e in
    let u = or_right (eqb b 0x2C) (parted bs) e in
    rw (t, alone bs u)

several : (x : List ℕ) → parted x ≡ true → (f : List ℕ) × (g : List ℕ) × (fs : List (List ℕ)) × (fields x ≡ f ∷ g ∷ fs)
unfolding fields
several [] e = let z : ◌≡◌ {A = Bool} false true = e in absurd (subst T (sym e) tt)
several (b ∷ bs) e = go (eqb b 0x2C) refl e (fields_cons bs) (several bs)
  where
    Shown : Bool → Type 0
    Shown t = (f : List ℕ) × (g : List ℕ) × (fs : List (List ℕ)) × (cond t ([] ∷ fields bs) (prepend_byte b (fields bs)) ≡ f ∷ g ∷ fs)

    go : (t : Bool) → eqb b 0x2C ≡ t → (t || parted bs) ≡ true → ((f : List ℕ) × (fs : List (List ℕ)) × (fields bs ≡ f ∷ fs))
        → (parted bs ≡ true → (f : List ℕ) × (g : List ℕ) × (fs : List (List ℕ)) × (fields bs ≡ f ∷ g ∷ fs))
        → Shown t
    go true u h (f, fs, w) later = ([], f, fs, ap (λ (l : List (List ℕ)). [] ∷ l) w)
    go false u h some-field later = let l = later h in (b ∷ l.0, l.1, l.2, ap (prepend_byte b) l.3)

pub one_field_lem : {A : Type 0} (f : List ℕ → Option A) (k : A → Call) → Plain f → (x : List ℕ) → one_field f k (fields x) ≡ on_some (f x) (λ a. Some (k a))
unfolding one_field
one_field_lem f k plain x =
    by_cases (parted x) (λ t. let l = several x t in rw (l.3, plain x t)) (λ t. rw (alone x t))

-- ---- two fields, the first of n digits

abbrev field_from : ℕ → ℕ → List ℕ → Option ℕ
field_from v n bs = cond (eqb (length bs) n) (hex_from v bs) None

pub either_none : {A : Type 0} (t : Bool) → cond {A = Option A} t None None ≡ None
either_none true = refl
either_none false = refl

module _ {B : Type 0} (g : List ℕ → Option B) (k : ℕ → B → Call) (plain : Plain g) where
  two_first : (f : List ℕ → Option ℕ) (y : List ℕ) (v : ℕ) → f y ≡ Some v → (l : List (List ℕ)) → two_fields f g k (y ∷ l) ≡ one_field g (k v) l
  unfolding two_fields one_field
  two_first f y v e [] = refl
  two_first f y v e (z ∷ []) = rw e
  two_first f y v e (z ∷ w ∷ l) = refl

  two_none : (f : List ℕ → Option ℕ) (y : List ℕ) → f y ≡ None → (l : List (List ℕ)) → two_fields f g k (y ∷ l) ≡ None
  unfolding two_fields
  two_none f y e [] = refl
  two_none f y e (z ∷ []) = rw e
  two_none f y e (z ∷ w ∷ l) = refl

  two_prepended : (v m b : ℕ) (l : List (List ℕ)) → two_fields (field_from v (suc m)) g k (prepend_byte b l) ≡ on_some (hex_digit b) (λ d. two_fields (field_from (16 * v + d) m) g k l)
  unfolding two_fields hex_from
  two_prepended v m b [] = sym (on_some_none (hex_digit b))
  two_prepended v m b (f ∷ []) = sym (on_some_none (hex_digit b))
  two_prepended v m b (f ∷ h ∷ []) = rw (eqb-suc-suc (length f) m) (go (hex_digit b) (eqb (length f) m))
    where
      go : (o : Option ℕ) (t : Bool) → on_some (cond t (on_some o (λ d. hex_from (16 * v + d) f)) None) (λ a. on_some (g h) (λ c. Some (k a c))) ≡ on_some o (λ d. on_some (cond t (hex_from (16 * v + d) f) None) (λ a. on_some (g h) (λ c. Some (k a c))))
      go None true = refl
      go None false = refl
      go (Some d) t = refl
  two_prepended v m b (f ∷ h ∷ i ∷ l) = sym (on_some_none (hex_digit b))

  abbrev Then : ℕ → ℕ → List ℕ → Option Call
  Then v n x = on_some (hex_from v (take n x)) (λ a. on_some (g (drop (suc n) x)) (λ b. Some (k a b)))

  first_nil : (v m : ℕ) → field_from v (suc m) [] ≡ None
  first_nil v m = rw (eqb-zero-suc m)

  first_prepended : (v b : ℕ) (l : List (List ℕ)) → two_fields (field_from v 0) g k (prepend_byte b l) ≡ None
  first_prepended v b [] = two_none (field_from v 0) (b ∷ []) refl []
  first_prepended v b (f ∷ l) = two_none (field_from v 0) (b ∷ f) (rw (eqb-suc-zero (length f))) l

  two_fields_lem : (x : List ℕ) (v n : ℕ) → two_fields (field_from v n) g k (fields x) ≡ cond (ltb n (length x) && eqb (get_or x n 0) 0x2C) (Then v n x) None
  unfolding fields two_fields hex_from
  two_fields_lem [] v n = rw (leb-suc-zero n)
  two_fields_lem (b ∷ bs) v zero =
      let more : ltb 0 (length (b ∷ bs)) ≡ true = lt-ltb 0 (suc (length bs)) (omega arith) in
      by_cases (eqb b 0x2C) (λ t. rw (t, more) (two_first (field_from v 0) [] v refl (fields bs) ∙ one_field_lem g (k v) plain bs))
      (λ t. rw (t, more) (first_prepended v b (fields bs)))
  two_fields_lem (b ∷ bs) v (suc m) =
      by_cases (eqb b 0x2C)
      (λ t. rw (t, comma_digit b t) (two_none (field_from v (suc m)) [] (first_nil v m) (fields bs) ∙ sym (either_none (ltb (suc m) (suc (length bs)) && eqb (get_or bs m 0) 0x2C))))
      (λ t. rw (t, two_prepended v m b (fields bs), leb-suc-suc (suc m) (length bs)) (go (hex_digit b) (λ d. two_fields_lem bs (16 * v + d) m)))
    where
      passes : Bool
      passes = ltb m (length bs) && eqb (get_or bs m 0) 0x2C

      go : (o : Option ℕ) → ((d : ℕ) → two_fields (field_from (16 * v + d) m) g k (fields bs) ≡ cond passes (Then (16 * v + d) m bs) None)
          → on_some o (λ d. two_fields (field_from (16 * v + d) m) g k (fields bs))
          ≡ cond passes (on_some (on_some o (λ d. hex_from (16 * v + d) (take m bs))) (λ a. on_some (g (drop (suc m) bs)) (λ c. Some (k a c)))) None
      go None later = sym (either_none passes)
      go (Some d) later = later d

  -- the second field stands after n digits and a comma
  pub two_places : (n : ℕ) (x : List ℕ) → two_fields (hex_field n) g k (fields x) ≡ cond (ltb n (length x) && eqb (get_or x n 0) 0x2C) (Then 0 n x) None
  unfolding hex_field
  two_places n x = two_fields_lem x 0 n

  pub two_is : (n : ℕ) (x : List ℕ) → n < length x → get_or x n 0 ≡ 0x2C → two_fields (hex_field n) g k (fields x) ≡ Then 0 n x
  two_is n x h e = two_places n x ∙ rw (lt-ltb n (length x) h, eq-eqb (get_or x n 0) 0x2C e)

  pub two_unparted : (n : ℕ) (x : List ℕ) → (get_or x n 0 ≡ 0x2C → ⊥) → two_fields (hex_field n) g k (fields x) ≡ None
  two_unparted n x e = two_places n x ∙ rw (ne_eqb (get_or x n 0) 0x2C e) (go (ltb n (length x)))
    where
      go : (t : Bool) → cond (t && false) (Then 0 n x) None ≡ None
      go true = refl
      go false = refl

  pub two_lacking : (n : ℕ) (x : List ℕ) → g (drop (suc n) x) ≡ None → two_fields (hex_field n) g k (fields x) ≡ None
  two_lacking n x e =
      two_places n x
      ∙ rw (e, on_some_none (hex_from 0 (take n x))) (either_none (ltb n (length x) && eqb (get_or x n 0) 0x2C))
