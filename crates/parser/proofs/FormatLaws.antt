-- A line by its length, its letter and its fields.
use mathlib.Core.Path.{◌≡◌, refl, sym, ◌∙◌}
use mathlib.Core.Bool.{Bool, true, false, cond, ◌&&◌}
use mathlib.Core.List.{List, [], ◌∷◌}
use Rattle.std.specs.Prelude.{Option, None, Some}
use Prim.Native.Nat.{ℕ, ◌<◌, ◌≤◌}
use native.Mathlib.Omega.{arith}
use lib.Dec.{ltb, eqb}
use lib.ListN.{length, get_or, take, drop, get_or-eq_default}
use borrow.Author.Tests.{lt-ltb, le-ltb, eqb-true, eq-eqb, ne_eqb}
use Rattle.basics.proofs.RangeLaws.{by_cases}
use Rattle.calls.specs.Calls.{Call}
use Rattle.hex_digits.specs.Digits.{on_some, hex_from, hex_field, decimal_field}
use Rattle.parser.specs.Format.{prepend_byte, fields, one_field, two_fields, by_letter, by_fields, longest_input_line, parse}
use Rattle.parser.specs.CodeParsed.{address_and_field, address_and_number}
use Rattle.parser.proofs.PlainLaws.{Plain, hex_field_plain, decimal_field_plain}
use Rattle.parser.proofs.FieldLaws.{either_none, one_field_lem, two_places, two_is}
use Rattle.parser.proofs.DigitLaws.{two_first, pair_is}

cond_none : {A : Type 0} (t : Bool) {y : Option A} → y ≡ None → cond t None y ≡ None
cond_none true e = refl
cond_none false e = e

no_fields : (l : ℕ) → by_letter l [] ≡ None
unfolding by_letter one_field two_fields
no_fields l =
    cond_none (eqb l 0x63)
    (cond_none (eqb l 0x67)
    (cond_none (eqb l 0x77) (cond_none (eqb l 0x72) (cond_none (eqb l 0x66) (cond_none (eqb l 0x73) refl)))))

comma_letter : (b : ℕ) (fs : List (List ℕ)) → eqb b 0x2C ≡ true → by_letter b fs ≡ None
unfolding by_letter
comma_letter b fs e = rw (eqb-true b 0x2C e)

pub parse_long : (line : List ℕ) → longest_input_line < length line → parse line ≡ None
unfolding parse
parse_long line h = rw (lt-ltb longest_input_line (length line) h)

pub parse_unparted : (line : List ℕ) → (get_or line 1 0 ≡ 0x2C → ⊥) → parse line ≡ None
unfolding parse fields by_fields
parse_unparted line e = rw (go line e) (either_none (ltb longest_input_line (length line)))
  where
    long : (b d : ℕ) (l : List (List ℕ)) → by_fields (prepend_byte b (prepend_byte d l)) ≡ None
    long b d [] = refl
    long b d (f ∷ fs) = refl

    go : (l : List ℕ) → (get_or l 1 0 ≡ 0x2C → ⊥) → by_fields (fields l) ≡ None
    go [] e = refl
    go (b ∷ []) e = by_cases (eqb b 0x2C) (λ t. rw t) (λ t. rw t (no_fields b))
    go (b ∷ d ∷ bs) e = by_cases (eqb b 0x2C) (λ t. rw t) (λ t. rw (t, ne_eqb d 0x2C e) (long b d (fields bs)))

pub parse_letter : (line : List ℕ) → 2 ≤ length line → length line ≤ longest_input_line → get_or line 1 0 ≡ 0x2C → parse line ≡ by_letter (get_or line 0 0) (fields (drop 2 line))
unfolding parse fields by_fields
parse_letter line h j e = rw (le-ltb longest_input_line (length line) j) (go line h e)
  where
    go : (l : List ℕ) → 2 ≤ length l → get_or l 1 0 ≡ 0x2C → by_fields (fields l) ≡ by_letter (get_or l 0 0) (fields (drop 2 l))
    go [] h e = absurd (omega arith)
    go (b ∷ []) h e = absurd (omega arith)
    go (b ∷ d ∷ bs) h e =
        by_cases (eqb b 0x2C) (λ t. rw t (sym (comma_letter b (fields bs) t))) (λ t. rw (t, eq-eqb d 0x2C e))

pub parse_short : (line : List ℕ) → length line < 2 → parse line ≡ None
parse_short line h =
    let none_there : get_or line 1 0 ≡ 0 = get_or-eq_default line 0 {n = 1} (omega arith) in
    parse_unparted line (λ e. omega arith)

-- a line with an address as the first of two fields
pub after_address : {B : Type 0} (g : List ℕ → Option B) (k : ℕ → B → Call) → Plain g → (x : List ℕ)
    → two_fields (hex_field 8) g k (fields x) ≡ on_some (address_and_field x) (λ p. on_some (g p.1) (λ b. Some (k p.0 b)))
unfolding address_and_field
after_address {B} g k plain x = two_places g k plain 8 x ∙ go (ltb 8 (length x) && eqb (get_or x 8 0) 0x2C) (hex_from 0 (take 8 x))
  where
    go : (t : Bool) (o : Option ℕ)
        → cond t (on_some o (λ a. on_some (g (drop 9 x)) (λ b. Some (k a b)))) None
        ≡ on_some {A = ℕ × List ℕ} (cond t (on_some {B = ℕ × List ℕ} o (λ a. Some (a, drop 9 x))) None) (λ p. on_some (g p.1) (λ b. Some (k p.0 b)))
    go true None = refl
    go true (Some a) = refl
    go false o = refl

-- a line with n digits as its only field
pub digits_alone : (n : ℕ) (k : ℕ → Call) (x : List ℕ) → one_field (hex_field n) k (fields x) ≡ on_some (hex_field n x) (λ a. Some (k a))
digits_alone n k x = one_field_lem (hex_field n) k (hex_field_plain n) x

-- two pairs of digits with a comma between them
pub two_pairs : (x : List ℕ) (k : ℕ → ℕ → Call) → length x ≡ 5 → get_or x 2 0 ≡ 0x2C
    → two_fields (hex_field 2) (hex_field 2) k (fields x)
    ≡ on_some (hex_from 0 (get_or x 0 0 ∷ get_or x 1 0 ∷ [])) (λ a. on_some (hex_from 0 (get_or x 3 0 ∷ get_or x 4 0 ∷ [])) (λ b. Some (k a b)))
two_pairs x k h e =
    two_is (hex_field 2) k (hex_field_plain 2) 2 x (omega arith) e ∙ rw (two_first x (omega arith), pair_is x 3 h)

-- a line with an address and a number, whatever the call
pub numbered : (k : ℕ → ℕ → Call) (x : List ℕ) → two_fields (hex_field 8) decimal_field k (fields x) ≡ on_some (address_and_number x) (λ p. Some (k p.0 p.1))
numbered k x = after_address decimal_field k decimal_field_plain x ∙ go (address_and_field x)
  where
    go : (o : Option (ℕ × List ℕ))
        → on_some o (λ p. on_some (decimal_field p.1) (λ b. Some (k p.0 b)))
        ≡ on_some {A = ℕ × ℕ} (on_some {B = ℕ × ℕ} o (λ p. on_some (decimal_field p.1) (λ n. Some (p.0, n)))) (λ p. Some (k p.0 p.1))
    go None = refl
    go (Some p) = last (decimal_field p.1)
      where
        last : (o : Option ℕ) → on_some o (λ b. Some (k p.0 b)) ≡ on_some {A = ℕ × ℕ} (on_some {B = ℕ × ℕ} o (λ n. Some (p.0, n))) (λ q. Some (k q.0 q.1))
        last None = refl
        last (Some n) = refl
