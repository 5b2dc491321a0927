-- The code's answer and what it means: the one is made from the other and back.
use mathlib.Core.Path.{◌≡◌, refl, sym, ap}
use mathlib.Core.Bool.{Bool, true, false, cond}
use mathlib.Core.List.{List, [], ◌∷◌}
use Rattle.std.specs.Prelude.{Option, None, Some}
use Prim.Native.Nat.{ℕ, ◌-◌, ◌≤◌}
use lib.Dec.{ltb, eqb}
use lib.ListN.{length, take, drop}
use lib.Seq.{take-append_seam, length-take-le}
use Rattle.calls.specs.Calls.{read, write, flip, scrub, Call, memory, read_register, write_register}
use Rattle.hex_digits.specs.Digits.{on_some, hex_field, decimal_field, bytes_field}
use Rattle.parser.specs.declared.request.WrittenBytes.{WrittenBytes}
use Rattle.parser.specs.Format.{fields, one_field, two_fields, by_letter, by_fields, longest_input_line, parse}
use Rattle.parser.specs.CodeParsed.{written, parsed_as, meant}
use Rattle.parser.proofs.PaddedLaws.{zeros, padded_is}

-- the first n of eight bytes, with zeros after them
pub written_as : (n : ℕ) (bytes : List ℕ) → n ≤ length bytes → drop n bytes ≡ zeros (8 - n) → ◌≡◌ {A = WrittenBytes} (record { bytes = bytes; count = n }) (written (take n bytes))
written_as n bytes h e =
    let all = padded_is 8 n bytes h e in
    let few : n ≡ length (take n bytes) = sym (length-take-le n bytes h) in
    λ i. record { bytes = all i; count = few i }

-- the answer keeps what was asked for: so it does of each line, since no line asks for a burst
abbrev Kept : Option Call → Type 0
Kept o = meant (parsed_as o) ≡ o

kept_none : Kept None
kept_none = refl

kept_cond : (t : Bool) {x y : Option Call} → Kept x → Kept y → Kept (cond t x y)
kept_cond true h k = h
kept_cond false h k = k

kept_value : {A : Type 0} (o : Option A) (f : A → Option Call) → ((a : A) → Kept (f a)) → Kept (on_some o f)
kept_value None f h = kept_none
kept_value (Some a) f h = h a

kept_one : {A : Type 0} (f : List ℕ → Option A) (k : A → Call) (fs : List (List ℕ)) → ((a : A) → Kept (Some (k a))) → Kept (one_field f k fs)
unfolding one_field
kept_one f k [] h = kept_none
kept_one f k (x ∷ []) h = kept_value (f x) (λ a. Some (k a)) h
kept_one f k (x ∷ y ∷ zs) h = kept_none

kept_two : {A B : Type 0} (f : List ℕ → Option A) (g : List ℕ → Option B) (k : A → B → Call) (fs : List (List ℕ)) → ((a : A) (b : B) → Kept (Some (k a b))) → Kept (two_fields f g k fs)
unfolding two_fields
kept_two f g k [] h = kept_none
kept_two f g k (x ∷ []) h = kept_none
kept_two f g k (x ∷ y ∷ []) h = kept_value (f x) (λ a. on_some (g y) (λ b. Some (k a b))) (λ a. kept_value (g y) (λ b. Some (k a b)) (h a))
kept_two f g k (x ∷ y ∷ z ∷ zs) h = kept_none

kept_letter : (l : ℕ) (fs : List (List ℕ)) → Kept (by_letter l fs)
unfolding by_letter
kept_letter l fs =
    kept_cond (eqb l 0x63) (kept_two (hex_field 2) (hex_field 2) write_register fs (λ o v. refl))
    (kept_cond (eqb l 0x67) (kept_one (hex_field 2) read_register fs (λ o. refl))
    (kept_cond (eqb l 0x77) (kept_two (hex_field 8) bytes_field (λ a bs. memory (write a bs)) fs (λ a bs. ap (λ (x : List ℕ). Some (memory (write a x))) (take-append_seam bs (zeros (8 - length bs)))))
    (kept_cond (eqb l 0x72) (kept_two (hex_field 8) decimal_field (λ a n. memory (read a n)) fs (λ a n. refl))
    (kept_cond (eqb l 0x66) (kept_two (hex_field 8) decimal_field (λ a b. memory (flip a b)) fs (λ a b. refl))
    (kept_cond (eqb l 0x73) (kept_one (hex_field 8) (λ a. memory (scrub a)) fs (λ a. refl)) kept_none)))))

kept_fields : (fs : List (List ℕ)) → Kept (by_fields fs)
unfolding by_fields
kept_fields [] = kept_none
kept_fields ([] ∷ fs) = kept_none
kept_fields ((l ∷ []) ∷ fs) = kept_letter l fs
kept_fields ((l ∷ m ∷ ls) ∷ fs) = kept_none

pub parsed_means : (line : List ℕ) → meant (parsed_as (parse line)) ≡ parse line
unfolding parse
parsed_means line = kept_cond (ltb longest_input_line (length line)) kept_none (kept_fields (fields line))
