-- Which offsets a register call may name.
use mathlib.Core.Path.{◌≡◌}
use mathlib.Core.Bool.{true, false, not}
use mathlib.Core.List.{[], ◌∷◌}
use mathlib.Core.Option.{none}
use Prim.Native.Nat.{ℕ, ◌≤◌, ◌<◌}
use native.Mathlib.Omega.{arith}
use lib.Dec.{ltb}
use borrow.Author.Tests.{ltb-true, ltb-false, lt-leb}
use Rattle.basics.proofs.Bools.{and_false, not_of}
use Rattle.basics.proofs.RangeLaws.{by_cases, contra}
use Rattle.refusals.proofs.ChainLaws.{else_left, cause_fails}
use Rattle.registers.specs.declared.Registers.{Registers}
use Rattle.register_calls.specs.Calls.{listed, declined}

past_none : (o : ℕ) → 256 ≤ o → listed o ≡ false
unfolding listed
past_none o h =
    simp (lt-leb o 0xA0 (omega arith), lt-leb o 0xB9 (omega arith), lt-leb o 0xC1 (omega arith), lt-leb o 0xC5 (omega arith), lt-leb o 0xCB (omega arith), lt-leb o 0xF2 (omega arith), and_false)

-- a listed offset is the offset of a byte of the record
pub listed_below : (o : ℕ) → listed o ≡ true → o < 256
listed_below o h = by_cases (ltb o 256) (λ t. ltb-true o 256 t) (λ t. contra h (past_none o (ltb-false o 256 t)))

-- and so is the offset of an accepted write
pub accepted_below : (r : Registers) (o v : ℕ) → declined r o v ≡ none → o < 256
unfolding declined
accepted_below r o v h = listed_below o (not_of (listed o) (cause_fails (not (listed o)) (1 ∷ []) (else_left _ _ h)))
