-- What a call returns to a C program, and the numbers that an accepted memory call gives (FORM-7).
use Rattle.std.specs.Prelude.{ℕ, zero, suc, ◌+◌, ◌*◌, List, [], ◌∷◌, get_or, length}
use Rattle.std.proofs.Math.Option.{none, some}
use Rattle.refusals.specs.Paper.{Declined, Outcome, refused, given}
use Rattle.calls.specs.declared.Kind.{Kind}
use Rattle.calls.specs.declared.Kind.TheVariants.{Clean, Corrected, Uncorrectable, Stored, NoBank, Flipped}

-- a refusal: its number is in the low byte, and the bank that comes with 12, 13 or 14 in the next byte, which is 0 for the others
abbrev pub refusal_code : List ℕ → ℕ
refusal_code x = get_or x 0 0 + 256 * get_or x 1 0

-- what a call returns: 0 if it is accepted
abbrev pub result_of : {A : Type 0} → Outcome A → ℕ
result_of (refused x) = refusal_code x
result_of (given a) = 0

-- the same, of a call that gives nothing else
abbrev pub result_of_verdict : Declined → ℕ
result_of_verdict none = 0
result_of_verdict (some x) = refusal_code x

-- the lent numbers after a call: an accepted call puts what it gives there, and a refused one leaves them as they were (DEM-1)
abbrev pub numbers_after : {A B : Type 0} → (A → B) → Outcome A → B → B
numbers_after numbers (refused x) before = before
numbers_after numbers (given a) before = numbers a

-- what a call returns, and the lent numbers after it
abbrev pub returned : {A B : Type 0} → (A → B) → Outcome A → B → ℕ × B
returned numbers o before = (result_of o, numbers_after numbers o before)

-- the number of a kind. That of a flip is never given out
abbrev pub kind_code : Kind → ℕ
kind_code Clean = 1
kind_code (Corrected b) = 2
kind_code Uncorrectable = 3
kind_code Stored = 4
kind_code NoBank = 5
kind_code Flipped = 6

-- MEM-19: the flip bit of "corrected"; the other kinds have 0 in its place
abbrev pub bit_of : Kind → ℕ
bit_of Clean = 0
bit_of (Corrected b) = b
bit_of Uncorrectable = 0
bit_of Stored = 0
bit_of NoBank = 0
bit_of Flipped = 0

-- the number of a part: its kind is in the low byte, the flip bit in the next
abbrev pub part_code : Kind → ℕ
part_code k = kind_code k + 256 * bit_of k

-- the number of the part at a place of an answer, and 0 past the last part
abbrev pub part_at : List Kind → ℕ → ℕ
part_at [] i = 0
part_at (k ∷ ks) zero = part_code k
part_at (k ∷ ks) (suc i) = part_at ks i

-- LIST-9: by a memory call: how many parts its answer has, and four numbers for its parts
abbrev pub answer_numbers : List Kind → List ℕ
answer_numbers ks = length ks ∷ part_at ks 0 ∷ part_at ks 1 ∷ part_at ks 2 ∷ part_at ks 3 ∷ []
