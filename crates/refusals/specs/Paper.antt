-- What each refusal returns, and chains of causes. REF-n is refusal n.
use Rattle.std.specs.Prelude.{ℕ, Bool, true, false, List, [], ◌∷◌, Result, Ok, Err, ⊤}
use Rattle.std.proofs.Math.Option.{Option, none, some}
use Rattle.refusals.specs.declared.Refusal.{Refusal}
use Rattle.refusals.specs.declared.Refusal.TheVariants.{UnlistedOffset, ReadOnly, ValueOutOfRange, LockedWhileOn, NotReady, CountOutOfRange}
use Rattle.refusals.specs.declared.Refusal.TheVariants.{PassesLastAddress, BitOutOfRange, NotLent, FlipWithoutBank, NoBankEnabled, StartAboveEnd}
use Rattle.refusals.specs.declared.Refusal.TheVariants.{TooLong, Overlap, BankOff, RowOrColumnTooLarge, NoAddress, MalformedLine, Misaligned, NotCacheLine}

-- REF-1 to REF-20, FORM-7: the number of a refusal, and for 12 to 14 the bank
abbrev pub paper : Refusal → List ℕ
paper UnlistedOffset = 1 ∷ []
paper ReadOnly = 2 ∷ []
paper ValueOutOfRange = 3 ∷ []
paper LockedWhileOn = 4 ∷ []
paper NotReady = 5 ∷ []
paper CountOutOfRange = 6 ∷ []
paper PassesLastAddress = 7 ∷ []
paper BitOutOfRange = 8 ∷ []
paper NotLent = 9 ∷ []
paper FlipWithoutBank = 10 ∷ []
paper NoBankEnabled = 11 ∷ []
paper (StartAboveEnd n) = 12 ∷ n ∷ []
paper (TooLong n) = 13 ∷ n ∷ []
paper (Overlap n) = 14 ∷ n ∷ []
paper BankOff = 15 ∷ []
paper RowOrColumnTooLarge = 16 ∷ []
paper NoAddress = 17 ∷ []
paper MalformedLine = 18 ∷ []
paper Misaligned = 19 ∷ []
paper NotCacheLine = 20 ∷ []

-- what a refused call returns, or nothing if the call is accepted
abbrev pub Declined : Type 0
Declined = Option (List ℕ)

-- REF-101: a refusal with its cause
abbrev pub refuse : Bool → List ℕ → Declined
refuse true x = some x
refuse false x = none

-- REF-102: a chain of causes; the first that applies is returned, so a chain has its causes in the order of the rules
abbrev pub ◌else◌ : Declined → Declined → Declined
◌else◌ (some x) later = some x
◌else◌ none later = later

infixr 20 ◌else◌
-- FORM-7: the verdict of a call that returns nothing else
abbrev pub paper_verdict : Result ⊤ Refusal → Declined
paper_verdict (Ok x) = none
paper_verdict (Err x) = some (paper x)

-- what a call returns: a refusal, or what an accepted call gives
pub data Outcome (A : Type 0) : Type 0 where
  refused : List ℕ → Outcome A
  given : A → Outcome A

-- FORM-7: what a call returns, with the refusal as the rules number it
abbrev pub paper_outcome : {A : Type 0} → Result A Refusal → Outcome A
paper_outcome (Ok x) = given x
paper_outcome (Err x) = refused (paper x)

-- REF-101: a chain of causes, and what the call gives if none of them applies
abbrev pub ◌gives◌ : {A : Type 0} → Declined → A → Outcome A
◌gives◌ none x = given x
◌gives◌ (some n) x = refused n

infixr 15 ◌gives◌
