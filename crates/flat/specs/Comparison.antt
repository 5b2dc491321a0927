-- The comparison with the flat machine: its condition on lists, and the statement (DEM-3).
use Rattle.std.specs.Prelude.{ℕ, zero, suc, ◌*◌, ◌/◌, ◌≤◌, ◌<◌, ◌≡◌, Bool, true, false, ◌||◌, List, [], ◌∷◌, eqb, length, replicate}
use Rattle.std.proofs.Math.Option.{none, some}
use Rattle.basics.specs.Lists.{All}
use Rattle.refusals.specs.Paper.{Declined}
use Rattle.registers.specs.declared.Registers.{Registers}
use Rattle.banks.specs.Setup.{setup_of}
use Rattle.banks.specs.Map.{cell_count}
use Rattle.register_calls.specs.Calls.{declined, written}
use Rattle.calls.specs.Calls.{Access, read_in, write_in, flip_in, scrub_in, parts, Call, memory, read_register, write_register}
use Rattle.calls.specs.Spans.{Spans, by_call}
use Rattle.calls.specs.State.{state}
use Rattle.machine.specs.Calls.{spans_of}
use Rattle.call_lists.specs.Lists.{run}
use Rattle.flat.specs.Flat.{flat_run, blank}

-- LIST-2: a record that switching on has just returned
pub record SwitchedOn (r : Registers) : Type 0 where
  pub before : Registers
  -- REG-1
  pub whole : length before.bytes ≡ 256
  pub off : (setup_of before).on ≡ false
  pub accepted : declined before 0xF2 8 ≡ none
  pub returned : r ≡ written before 0xF2 8

-- LIST-1: of the register calls, those at B8 to CB
abbrev pub AtErrorRegisters : Call → Type 0
AtErrorRegisters (memory c) = Unit {0}
AtErrorRegisters (read_register o) = (0xB8 ≤ o) × (o ≤ 0xCB)
AtErrorRegisters (write_register o v) = (0xB8 ≤ o) × (o ≤ 0xCB)

-- ---- the condition of LIST-6: between any two flips that one doubleword takes stands an accepted write or scrub of it

-- LIST-7: the accesses of a call that the flat machine does not refuse; none for one that it does
abbrev pub if_accepted : Declined → List Access → List Access
if_accepted none xs = xs
if_accepted (some n) xs = []

-- LIST-7: the accepted accesses of a call
unfoldable pub accepted_of : Spans → Call → List Access
accepted_of spans (memory c) = if_accepted (by_call spans c) (parts c)
accepted_of spans (read_register o) = []
accepted_of spans (write_register o v) = []

-- those of the call at a place of the list
abbrev pub accepted_at : Spans → List Call → ℕ → List Access
accepted_at spans [] i = []
accepted_at spans (c ∷ cs) zero = accepted_of spans c
accepted_at spans (c ∷ cs) (suc i) = accepted_at spans cs i

-- LIST-5: the access is a flip of doubleword q, whose addresses are those from 8 q on
unfoldable pub flips : ℕ → Access → Bool
flips q (read_in a n) = false
flips q (write_in a bs) = false
flips q (flip_in a b) = eqb (a / 8) q
flips q (scrub_in a) = false

-- LIST-6: the access is a write or a scrub of doubleword q
unfoldable pub renews : ℕ → Access → Bool
renews q (read_in a n) = false
renews q (write_in a bs) = eqb (a / 8) q
renews q (flip_in a b) = false
renews q (scrub_in a) = eqb (a / 8) q

-- some access passes the test
unfoldable pub any_of : (Access → Bool) → List Access → Bool
any_of p [] = false
any_of p (x ∷ xs) = p x || any_of p xs

-- LIST-5: doubleword q takes a flip at place i of the list
abbrev pub flipped_at : Spans → List Call → ℕ → ℕ → Bool
flipped_at spans cs q i = any_of (flips q) (accepted_at spans cs i)

-- LIST-6: it takes a write or a scrub there
abbrev pub renewed_at : Spans → List Call → ℕ → ℕ → Bool
renewed_at spans cs q i = any_of (renews q) (accepted_at spans cs i)

-- LIST-6: the condition, by places of the list
unfoldable pub Spaced : Spans → List Call → Type 0
Spaced spans cs =
    (q i j : ℕ) → i < j → flipped_at spans cs q i ≡ true → flipped_at spans cs q j ≡ true
    → (k : ℕ) × (i < k) × (k < j) × (renewed_at spans cs q k ≡ true)

-- LIST-11, DEM-3: the statement about whole lists, under any columns of the check code. LIST-3: every cell is lent, and all lent bytes are 0. LIST-8,
-- LIST-9: the answers at all places are the flat machine's; the cells are those of the calls' own contracts (DEM-6)
unfoldable pub FlatComparison : List ℕ → Type 0
FlatComparison cols =
    (r : Registers) → SwitchedOn r
    → (lent : ℕ) → 9 * cell_count (setup_of r) ≤ lent
    → (cs : List Call) → All AtErrorRegisters cs → Spaced (spans_of (setup_of r)) cs
    → (run cols (state r (replicate lent 0)) cs).0 ≡ (flat_run (spans_of (setup_of r)) blank cs).0
