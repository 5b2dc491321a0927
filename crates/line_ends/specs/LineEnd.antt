-- Where a line ends.
use Rattle.std.specs.Prelude.{ℕ, suc, cond, List, [], ◌∷◌, eqb}

-- LINE-1: the number of bytes before the first LF
unfoldable pub line_length : List ℕ → ℕ
line_length [] = 0
line_length (b ∷ bs) = cond (eqb b 0x0A) 0 (suc (line_length bs))
