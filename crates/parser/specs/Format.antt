-- What a line asks for.
use Rattle.std.specs.Prelude.{ℕ, cond, List, [], ◌∷◌, ltb, eqb, length, Option, None, Some}
use Rattle.calls.specs.Calls.{read, write, flip, scrub, Call, memory, read_register, write_register}
use Rattle.hex_digits.specs.Digits.{on_some, hex_field, decimal_field, bytes_field}

-- a byte put in front of the first field of a line
abbrev pub prepend_byte : ℕ → List (List ℕ) → List (List ℕ)
prepend_byte b [] = (b ∷ []) ∷ []
prepend_byte b (f ∷ fs) = (b ∷ f) ∷ fs

-- LINE-2: the fields between the commas
unfoldable pub fields : List ℕ → List (List ℕ)
fields [] = [] ∷ []
fields (b ∷ bs) = cond (eqb b 0x2C) ([] ∷ fields bs) (prepend_byte b (fields bs))

-- LINE-11: exactly one field; a missing or an extra one has no meaning
unfoldable pub one_field : {A : Type 0} → (List ℕ → Option A) → (A → Call) → List (List ℕ) → Option Call
one_field f k [] = None
one_field f k (x ∷ []) = on_some (f x) (λ a. Some (k a))
one_field f k (x ∷ y ∷ zs) = None

-- LINE-11: exactly two fields
unfoldable pub two_fields : {A B : Type 0} → (List ℕ → Option A) → (List ℕ → Option B) → (A → B → Call) → List (List ℕ) → Option Call
two_fields f g k [] = None
two_fields f g k (x ∷ []) = None
two_fields f g k (x ∷ y ∷ []) = on_some (f x) (λ a. on_some (g y) (λ b. Some (k a b)))
two_fields f g k (x ∷ y ∷ z ∷ zs) = None

-- LINE-3 to LINE-6: LINE-3 is c and g, LINE-4 w, LINE-5 r, LINE-6 f and s; the fields are those after the letter
unfoldable pub by_letter : ℕ → List (List ℕ) → Option Call
by_letter l fs =
    cond (eqb l 0x63) (two_fields (hex_field 2) (hex_field 2) write_register fs)
    (cond (eqb l 0x67) (one_field (hex_field 2) read_register fs)
    (cond (eqb l 0x77) (two_fields (hex_field 8) bytes_field (λ a bs. memory (write a bs)) fs)
    (cond (eqb l 0x72) (two_fields (hex_field 8) decimal_field (λ a n. memory (read a n)) fs)
    (cond (eqb l 0x66) (two_fields (hex_field 8) decimal_field (λ a b. memory (flip a b)) fs)
    (cond (eqb l 0x73) (one_field (hex_field 8) (λ a. memory (scrub a)) fs)
    None)))))

-- LINE-2: the first field is the letter
unfoldable pub by_fields : List (List ℕ) → Option Call
by_fields [] = None
by_fields ([] ∷ fs) = None
by_fields ((l ∷ []) ∷ fs) = by_letter l fs
by_fields ((l ∷ m ∷ ls) ∷ fs) = None

-- LINE-1: the most bytes of a line, without its LF
abbrev pub longest_input_line : ℕ
longest_input_line = 40

-- LINE-1, LINE-11, REF-18: what a line, without its LF, asks for; nothing if it is malformed
unfoldable pub parse : List ℕ → Option Call
parse line = cond (ltb longest_input_line (length line)) None (by_fields (fields line))
