-- Digits read. A field that does not have the form asked for has no value.
use Rattle.std.specs.Prelude.{ℕ, ◌+◌, ◌*◌, ◌-◌, cond, ◌&&◌, List, [], ◌∷◌, ltb, leb, eqb, length, Option, None, Some, option_and_then}

-- what follows from a value, if there is one
abbrev pub on_some : {A B : Type 0} → Option A → (A → Option B) → Option B
on_some o f = option_and_then f o

-- LINE-8: a digit 0 to 9
unfoldable pub decimal_digit : ℕ → Option ℕ
decimal_digit b = cond (leb 0x30 b && leb b 0x39) (Some (b - 0x30)) None

-- LINE-7: a digit 0 to 9 or a to f, in lower case only
unfoldable pub hex_digit : ℕ → Option ℕ
hex_digit b = cond (leb 0x61 b && leb b 0x66) (Some (b - 0x57)) (decimal_digit b)

-- LINE-7: the value of hexadecimal digits, highest first, that follow the digits of v
unfoldable pub hex_from : ℕ → List ℕ → Option ℕ
hex_from v [] = Some v
hex_from v (b ∷ bs) = on_some (hex_digit b) (λ d. hex_from (16 * v + d) bs)

-- LINE-3, LINE-7: exactly n hexadecimal digits
unfoldable pub hex_field : ℕ → List ℕ → Option ℕ
hex_field n bs = cond (eqb (length bs) n) (hex_from 0 bs) None

-- LINE-8: a decimal number below 100, of which only zero itself begins with 0
unfoldable pub decimal_field : List ℕ → Option ℕ
decimal_field [] = None
decimal_field (a ∷ []) = decimal_digit a
decimal_field (a ∷ b ∷ []) = on_some (decimal_digit a) (λ d. on_some (decimal_digit b) (λ e. cond (eqb d 0) None (Some (10 * d + e))))
decimal_field (a ∷ b ∷ c ∷ bs) = None

-- LINE-4: bytes of two hexadecimal digits each
unfoldable pub hex_bytes : List ℕ → Option (List ℕ)
hex_bytes [] = Some []
hex_bytes (a ∷ []) = None
hex_bytes (a ∷ b ∷ bs) = on_some (hex_from 0 (a ∷ b ∷ [])) (λ v. on_some (hex_bytes bs) (λ vs. Some (v ∷ vs)))

-- LINE-4: one to eight bytes
unfoldable pub bytes_field : List ℕ → Option (List ℕ)
bytes_field bs = cond (ltb 0 (length bs) && leb (length bs) 16) (hex_bytes bs) None
