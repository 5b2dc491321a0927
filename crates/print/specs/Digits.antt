-- Digits printed.
use Rattle.std.specs.Prelude.{ℕ, ◌+◌, ◌/◌, ◌%◌, cond, List, [], ◌∷◌, ◌++◌, ltb}

-- LINE-7: a hexadecimal digit, in lower case
unfoldable pub hex_character : ℕ → ℕ
hex_character d = cond (ltb d 10) (0x30 + d) (0x57 + d)

-- LINE-13, LINE-14: a byte in two hexadecimal digits
abbrev pub hex_pair : ℕ → List ℕ
hex_pair b = hex_character (b / 16) ∷ hex_character (b % 16) ∷ []

-- LINE-14: bytes, in two hexadecimal digits each
abbrev pub hex_pairs : List ℕ → List ℕ
hex_pairs [] = []
hex_pairs (b ∷ bs) = hex_pair b ++ hex_pairs bs

-- LINE-12, LINE-14: a number below 100 in decimal
unfoldable pub decimal : ℕ → List ℕ
decimal n = cond (ltb n 10) ((0x30 + n) ∷ []) ((0x30 + n / 10) ∷ (0x30 + n % 10) ∷ [])
