-- Bytes as one number, the first lowest.
use mathlib.Core.Path.{◌≡◌, sym, ap, ◌∙◌, subst}
use mathlib.Core.List.{List, [], ◌∷◌}
use Prim.Native.Nat.{ℕ, zero, suc, ◌+◌, ◌*◌, ◌/◌, ◌^◌, ◌<◌, ◌≤◌}
use native.Mathlib.Omega.{arith}
use lib.ListN.{length, get_or, take, drop}
use lib.Seq.{take_all}
use borrow.Author.Rules.{rules}
use borrow.Author.Tests.{le-leb, lt-leb}
use Rattle.basics.proofs.ListLaws.{from_take}
use Rattle.std.specs.Int.{w64, to_le_bytes}
use Rattle.eight_bytes.specs.CodeNumber.{bytes_in, eight_at}

abbrev pub Bytes : List ℕ → Type 0
Bytes [] = Unit
Bytes (b ∷ l) = (b < 2 ^ 8) × Bytes l

-- bytes as one number
abbrev pub number : List ℕ → ℕ
number [] = 0
number (b ∷ l) = number l * 2 ^ 8 + b

-- the same byte in each of n places
abbrev pub same : ℕ → ℕ → ℕ
same zero b = 0
same (suc n) b = same n b * 2 ^ 8 + b

written_low_first : (x : ℕ) → bytes_in 8 x ≡ to_le_bytes w64 x
written_low_first x = search rules

bytes_in_lem : (n x : ℕ) → Bytes (bytes_in n x)
bytes_in_lem zero x = tt
bytes_in_lem (suc n) x = (omega arith, bytes_in_lem n (x / 256))

number_in : (n x : ℕ) → x < 256 ^ n → number (bytes_in n x) ≡ x
number_in zero x h = omega arith
number_in (suc n) x h =
    let below : x / 256 < 256 ^ n = omega arith in
    rw (number_in n (x / 256) below) (omega arith)

-- ---- eight bytes of a list

pub eight_none : (l : List ℕ) (i : ℕ) → length l < i + 8 → bytes_in 8 0 ≡ eight_at l i
unfolding eight_at
eight_none l i h = rw (lt-leb (i + 8) (length l) h)

pub eight_some : (l : List ℕ) (i : ℕ) → i + 8 ≤ length l → eight_at l i ≡ take 8 (drop i l)
unfolding eight_at
eight_some l i h = rw (le-leb (i + 8) (length l) h)

-- read one by one
pub eight_read : (l : List ℕ) → length l ≡ 8
    → get_or l 0 0 ∷ get_or l 1 0 ∷ get_or l 2 0 ∷ get_or l 3 0 ∷ get_or l 4 0 ∷ get_or l 5 0 ∷ get_or l 6 0 ∷ get_or l 7 0 ∷ [] ≡ l
eight_read l e = from_take l 0 8 (omega arith) ∙ take_all 8 l (omega arith)

-- a number that has these bytes
pub eight_are : (l : List ℕ) (x : ℕ) → x < 2 ^ 64 → bytes_in 8 x ≡ l → Bytes l × (x ≡ number l)
eight_are l x h e = (subst Bytes e (bytes_in_lem 8 x), sym (number_in 8 x h) ∙ ap number e)
