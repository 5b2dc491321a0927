-- What an answer prints.
use Rattle.std.specs.Prelude.{ℕ, List, [], ◌∷◌, ◌++◌, get_or}
use Rattle.std.proofs.Math.Option.{none, some}
use Rattle.refusals.specs.Paper.{Declined, Outcome, refused, given}
use Rattle.calls.specs.declared.Kind.{Kind}
use Rattle.calls.specs.declared.Kind.TheVariants.{Clean, Corrected, Uncorrectable, Stored, NoBank, Flipped}
use Rattle.calls.specs.Calls.{MemoryCall, read, write, flip, scrub, burst_read, burst_write}
use Rattle.print.specs.Digits.{hex_pair, hex_pairs, decimal}

-- LINE-12: the letter and the number of the refusal; the bank of 12 to 14 is left out
unfoldable pub refused_text : ℕ → ℕ → List ℕ
refused_text l n = l ∷ 0x2C ∷ decimal n ++ 0x0A ∷ []

-- LINE-12: the letter and 0, and what else an accepted call prints
abbrev pub accepted_text : ℕ → List ℕ → List ℕ
accepted_text l more = l ∷ 0x2C ∷ 0x30 ∷ more ++ 0x0A ∷ []

-- LINE-12: a line by its letter, with nothing that follows the 0
abbrev pub verdict_text : ℕ → Declined → List ℕ
verdict_text l none = accepted_text l []
verdict_text l (some n) = refused_text l (get_or n 0 0)

-- LINE-11, REF-18: a malformed line
unfoldable pub malformed_text : List ℕ
malformed_text = refused_text 0x3F 18

-- LINE-13: a register write
unfoldable pub register_write_text : Declined → List ℕ
register_write_text d = verdict_text 0x63 d

-- LINE-12: a call by its letter, with the text that follows the 0 if it was accepted
abbrev pub outcome_text : {A : Type 0} → ℕ → (A → List ℕ) → Outcome A → List ℕ
outcome_text l more (refused n) = refused_text l (get_or n 0 0)
outcome_text l more (given a) = accepted_text l (more a)

-- LINE-13: a register read
unfoldable pub register_read_text : Outcome ℕ → List ℕ
register_read_text o = outcome_text 0x67 (λ v. 0x2C ∷ hex_pair v) o

-- LINE-14: the letter of an answer. That of a flip is never printed (LINE-13)
unfoldable pub kind_letter : Kind → ℕ
kind_letter Clean = 0x6E
kind_letter (Corrected b) = 0x63
kind_letter Uncorrectable = 0x75
kind_letter Stored = 0x70
kind_letter NoBank = 0x65
kind_letter Flipped = 0x66

-- LINE-14, MEM-19: the field after that letter: the flip bit of "corrected", in decimal
unfoldable pub bit_text : Kind → List ℕ
bit_text Clean = []
bit_text (Corrected b) = 0x2C ∷ decimal b
bit_text Uncorrectable = []
bit_text Stored = []
bit_text NoBank = []
bit_text Flipped = []

-- LINE-14: the answer of one access
abbrev pub kind_text : Kind → List ℕ
kind_text k = 0x2C ∷ kind_letter k ∷ bit_text k

-- LINE-4 to LINE-6: the letter of a memory call. No line asks for a burst, so that of a burst is never printed
abbrev pub letter_of : MemoryCall → ℕ
letter_of (read a n) = 0x72
letter_of (write a bs) = 0x77
letter_of (flip a b) = 0x66
letter_of (scrub a) = 0x73
letter_of (burst_read a n) = 0x72
letter_of (burst_write a bs) = 0x77

-- LINE-14: the answer of each access of a call, in order
abbrev pub kinds_text : List Kind → List ℕ
kinds_text [] = []
kinds_text (k ∷ ks) = kind_text k ++ kinds_text ks

-- LINE-14: the same, and the bytes of a read
abbrev pub kinds_and_bytes_text : List ℕ → List Kind → List ℕ
kinds_and_bytes_text bs ks = kinds_text ks ++ 0x2C ∷ hex_pairs bs

-- LINE-13, LINE-14: what follows the 0 of an accepted memory call; of a burst nothing is ever printed
unfoldable pub answer_text : MemoryCall → List ℕ → List Kind → List ℕ
answer_text (read a n) bs ks = kinds_and_bytes_text bs ks
answer_text (write a ws) bs ks = kinds_text ks
answer_text (flip a b) bs ks = []
answer_text (scrub a) bs ks = kinds_text ks
answer_text (burst_read a n) bs ks = []
answer_text (burst_write a ws) bs ks = []

-- LINE-12: a memory call
unfoldable pub call_text : MemoryCall → Outcome (List Kind) → List ℕ → List ℕ
call_text c o bs = outcome_text (letter_of c) (answer_text c bs) o
