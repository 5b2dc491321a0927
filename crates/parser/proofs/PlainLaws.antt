-- No digit is a comma: a field with a comma in it has no value.
use mathlib.Core.Path.{◌≡◌, refl}
use mathlib.Core.Bool.{Bool, true, false, cond, ◌&&◌, ◌||◌}
use mathlib.Core.List.{List, [], ◌∷◌}
use Rattle.std.specs.Prelude.{Option, None, Some}
use Prim.Native.Nat.{ℕ, ◌+◌, ◌*◌}
use lib.Dec.{leb, ltb, eqb}
use lib.ListN.{length}
use borrow.Author.Tests.{eqb-true}
use Rattle.basics.proofs.RangeLaws.{by_cases}
use Rattle.hex_digits.specs.Digits.{on_some, decimal_digit, hex_digit, hex_from, hex_field, decimal_field, hex_bytes, bytes_field}

-- a comma stands in it
abbrev pub parted : List ℕ → Bool
parted [] = false
parted (b ∷ bs) = eqb b 0x2C || parted bs

-- a way to read a field that accepts no comma
abbrev pub Plain : {A : Type 0} → (List ℕ → Option A) → Type 0
Plain f = (x : List ℕ) → parted x ≡ true → f x ≡ None

pub on_some_none : {A B : Type 0} (x : Option A) → on_some {B = B} x (λ a. None) ≡ None
on_some_none None = refl
on_some_none (Some a) = refl

pub comma_digit : (b : ℕ) → eqb b 0x2C ≡ true → hex_digit b ≡ None
unfolding hex_digit decimal_digit
comma_digit b e = rw (eqb-true b 0x2C e)

hex_from_plain : (v : ℕ) → Plain (hex_from v)
unfolding hex_from
hex_from_plain v [] e = let z : ◌≡◌ {A = Bool} false true = e in cc
hex_from_plain v (b ∷ bs) e =
    by_cases (eqb b 0x2C) (λ t. rw (comma_digit b t)) (λ t. let u : parted bs ≡ true = rw t at e in go (hex_digit b) (λ d. hex_from_plain (16 * v + d) bs u))
  where
    go : (x : Option ℕ) → ((d : ℕ) → hex_from (16 * v + d) bs ≡ None) → on_some x (λ d. hex_from (16 * v + d) bs) ≡ None
    go None f = refl
    go (Some d) f = f d

pub hex_field_plain : (n : ℕ) → Plain (hex_field n)
unfolding hex_field
hex_field_plain n x e = rw (hex_from_plain 0 x e) (go (eqb (length x) n))
  where
    go : (t : Bool) → cond {A = Option ℕ} t None None ≡ None
    go true = refl
    go false = refl

comma_decimal : (b : ℕ) → eqb b 0x2C ≡ true → decimal_digit b ≡ None
unfolding decimal_digit
comma_decimal b e = rw (eqb-true b 0x2C e)

pub decimal_field_plain : Plain decimal_field
unfolding decimal_field
decimal_field_plain [] e = refl
decimal_field_plain (a ∷ []) e = by_cases (eqb a 0x2C) (λ t. comma_decimal a t) (λ t. let z : false ≡ true = rw t at e in cc)
decimal_field_plain (a ∷ b ∷ []) e =
    by_cases (eqb a 0x2C) (λ t. rw (comma_decimal a t))
    (λ t. by_cases (eqb b 0x2C) (λ u. rw (comma_decimal b u) (on_some_none (decimal_digit a))) (λ u. let z : false ≡ true = rw (t, u) at e in cc))
decimal_field_plain (a ∷ b ∷ c ∷ bs) e = refl

hex_bytes_plain : Plain hex_bytes
unfolding hex_bytes
hex_bytes_plain [] e = let z : ◌≡◌ {A = Bool} false true = e in cc
hex_bytes_plain (a ∷ []) e = refl
hex_bytes_plain (a ∷ b ∷ bs) e =
    by_cases (parted (a ∷ b ∷ [])) (λ t. rw (hex_from_plain 0 (a ∷ b ∷ []) t))
    (λ t. rw (hex_bytes_plain bs (rest (eqb a 0x2C) (eqb b 0x2C) t e)) (on_some_none (hex_from 0 (a ∷ b ∷ []))))
  where
    rest : (s t : Bool) → (s || (t || false)) ≡ false → (s || (t || parted bs)) ≡ true → parted bs ≡ true
    rest true t f g = let z : ◌≡◌ {A = Bool} true false = f in cc
    rest false true f g = let z : ◌≡◌ {A = Bool} true false = f in cc
    rest false false f g = g

pub bytes_field_plain : Plain bytes_field
unfolding bytes_field
bytes_field_plain x e = rw (hex_bytes_plain x e) (go (ltb 0 (length x) && leb (length x) 16))
  where
    go : (t : Bool) → cond {A = Option (List ℕ)} t None None ≡ None
    go true = refl
    go false = refl
