-- Each condition of `flat_comparison` is needed: without it the statement is false, as a list shows that keeps the other conditions. And DEM-5: the
-- statement is false of machines that lose the bytes of a write or correct only at the first read.
use Prim.Native.Nat.{ℕ, ◌*◌, ◌^◌, ◌≤◌}
use mathlib.Core.Path.{◌≡◌, sym, ap, ◌∙◌}
use mathlib.Core.Option.{Option, none, some}
use mathlib.Core.Bool.{true}
use mathlib.Core.List.{List, [], ◌∷◌, ◌++◌}
use native.Mathlib.Omega.{arith}
use lib.ListN.{length, get_or, replicate, length-append, length-replicate}
use Rattle.basics.specs.Lists.{All}
use Rattle.refusals.specs.Paper.{refused, given}
use Rattle.registers.specs.declared.Registers.{Registers}
use Rattle.banks.specs.Setup.{setup_of}
use Rattle.banks.specs.Map.{cell_count}
use Rattle.ecc.specs.Columns.{columns}
use Rattle.calls.specs.declared.Kind.{Kind}
use Rattle.calls.specs.declared.Kind.TheVariants.{Corrected, Flipped}
use Rattle.calls.specs.Calls.{CallAnswer, Call}
use Rattle.calls.specs.Spans.{Spans}
use Rattle.calls.specs.State.{State, state}
use Rattle.machine.specs.Calls.{setup, spans_of}
use Rattle.call_lists.specs.Lists.{run}
use Rattle.flat.specs.Flat.{blank, flat_run}
use Rattle.flat.specs.Comparison.{SwitchedOn, AtErrorRegisters, Spaced, FlatComparison}
use Rattle.call_lists.proofs.LendingLaws.{reach_all, run_first, run_zeros}
use Rattle.flat.proofs.PremiseTests.{spaced}
use Rattle.flat.proofs.Comparison.{flat_comparison}
use Rattle.flat.proofs.OneBank.{bank_off, bank_on, switched_on, bytes_off, bytes_on}
use Rattle.flat.proofs.Slips.{Slip, slipping, write_dropped, mark_cleared, corrected_once, bit_forgotten}
use Rattle.flat.proofs.Answers.{answered, read_once, flipped_twice, switched_off, written_then_read, flipped_then_read_twice, other_cell, spans, computed}

-- the list has the flat machine's answers
abbrev pub SameAnswers : State → List Call → Type 0
SameAnswers st cs = (run columns st cs).0 ≡ (flat_run (spans_of (setup st)) blank cs).0

-- ---- two lists of answers that differ

differ : {A : Type 0} {xs ys us vs : List (Option CallAnswer)} → xs ≡ us → ys ≡ vs → xs ≡ ys → (us ≡ vs → A) → A
differ p q e f = f (sym p ∙ e ∙ q)

-- the kind and the bytes of the answer at place i
abbrev kind_in : Option CallAnswer → Option Kind
kind_in none = none
kind_in (some (refused n)) = none
kind_in (some (given [])) = none
kind_in (some (given (g ∷ gs))) = some g.kind

abbrev bytes_in : Option CallAnswer → List ℕ
bytes_in none = []
bytes_in (some (refused n)) = []
bytes_in (some (given [])) = []
bytes_in (some (given (g ∷ gs))) = g.bytes

kind_at : {xs ys : List (Option CallAnswer)} (i : ℕ) → xs ≡ ys → kind_in (get_or xs i none) ≡ kind_in (get_or ys i none)
kind_at i e = ap (λ (zs : List (Option CallAnswer)). kind_in (get_or zs i none)) e

bytes_at : {xs ys : List (Option CallAnswer)} (i : ℕ) → xs ≡ ys → bytes_in (get_or xs i none) ≡ bytes_in (get_or ys i none)
bytes_at i e = ap (λ (zs : List (Option CallAnswer)). bytes_in (get_or zs i none)) e

never : ◌≡◌ {A = ℕ} 0 1 → ⊥
never e = absurd (omega arith)

-- as many lent bytes as the bank's cells need
abbrev enough : ℕ
enough = 9 * 2 ^ 17

on_enough : 9 * cell_count (setup_of bank_on) ≤ enough
on_enough = rw bytes_on (omega arith)

-- enough lent zeros give the answers that were computed with the first n of them
lent_enough : {us : List (Option CallAnswer)} (n : ℕ) → n ≤ enough → (cs : List Call) → reach_all columns (state bank_on (replicate n 0)) cs ≡ true
    → (run columns (state bank_on (replicate n 0)) cs).0 ≡ us → (run columns (state bank_on (replicate enough 0)) cs).0 ≡ us
lent_enough n h cs t e = run_zeros columns bank_on cs n enough h t ∙ e

-- ---- the conditions

-- two flips of a doubleword with no accepted write or scrub of it between
pub spacing_needed :
    ((r : Registers) → SwitchedOn r → (lent : ℕ) → 9 * cell_count (setup_of r) ≤ lent → (cs : List Call) → All AtErrorRegisters cs
    → SameAnswers (state r (replicate lent 0)) cs)
    → ⊥
spacing_needed claim =
    differ (lent_enough 36 (omega arith) flipped_twice computed.twice_reached computed.twice_cells) computed.twice_flat
    (claim bank_on switched_on enough on_enough flipped_twice (tt, (tt, (tt, (tt, (tt, (tt, (tt, (tt, (tt, (tt, (tt, tt)))))))))))) (λ z. let k = kind_at 10 z in never (cc))

-- a register call elsewhere: memory is switched off, and the flat machine has no refusal 5
pub error_registers_needed :
    ((r : Registers) → SwitchedOn r → (lent : ℕ) → 9 * cell_count (setup_of r) ≤ lent → (cs : List Call) → Spaced (spans_of (setup_of r)) cs
    → SameAnswers (state r (replicate lent 0)) cs)
    → ⊥
error_registers_needed claim =
    differ (computed.off_cells (replicate enough 0)) computed.off_flat
    (claim bank_on switched_on enough on_enough switched_off (spaced spans switched_off computed.off_spaced)) (λ z. never (cc))

-- enough lent bytes, with a cell before them
behind_enough : (cell : List ℕ) (lent : ℕ) → enough ≤ lent → 9 * cell_count (setup_of bank_on) ≤ length (cell ++ replicate lent 0)
behind_enough cell lent h = rw (bytes_on, length-append, length-replicate) (omega arith)

-- a cell that is not zero at first
pub zero_cells_needed :
    ((r : Registers) → SwitchedOn r → (cells : List ℕ) → 9 * cell_count (setup_of r) ≤ length cells → (cs : List Call) → All AtErrorRegisters cs
    → Spaced (spans_of (setup_of r)) cs → SameAnswers (state r cells) cs)
    → ⊥
zero_cells_needed claim =
    let more : List ℕ = replicate enough 0 in
    differ (run_first columns bank_on read_once other_cell more computed.once_other_reached ∙ computed.once_other) computed.once_flat
    (claim bank_on switched_on (other_cell ++ more) (behind_enough other_cell enough (omega arith)) read_once (tt, tt) (spaced spans read_once computed.once_spaced))
    (λ z. let k = bytes_at 0 z in never (cc))

-- a record that was not switched on
pub switching_on_needed :
    ((r : Registers) → (lent : ℕ) → 9 * cell_count (setup_of r) ≤ lent → (cs : List Call) → All AtErrorRegisters cs → Spaced (spans_of (setup_of r)) cs
    → SameAnswers (state r (replicate lent 0)) cs)
    → ⊥
switching_on_needed claim =
    differ (computed.once_off_cells (replicate enough 0)) computed.once_off_flat
    (claim bank_off enough (rw bytes_off (omega arith)) read_once (tt, tt) (spaced (spans_of (setup_of bank_off)) read_once computed.once_off_spaced))
    (λ z. never (cc))

-- a cell that is not lent
pub lent_cells_needed :
    ((r : Registers) → SwitchedOn r → (lent : ℕ) → (cs : List Call) → All AtErrorRegisters cs → Spaced (spans_of (setup_of r)) cs
    → SameAnswers (state r (replicate lent 0)) cs)
    → ⊥
lent_cells_needed claim =
    differ computed.once_unlent computed.once_flat
    (claim bank_on switched_on 0 read_once (tt, tt) (spaced spans read_once computed.once_spaced)) (λ z. never (cc))

-- ---- flat machines that slip

-- the statement with another machine in place of the flat one
abbrev pub ComparedWith : (Spans → List Call → List (Option CallAnswer)) → Type 0
ComparedWith machine =
    (r : Registers) → SwitchedOn r → (lent : ℕ) → 9 * cell_count (setup_of r) ≤ lent → (cs : List Call) → All AtErrorRegisters cs
    → Spaced (spans_of (setup_of r)) cs → (run columns (state r (replicate lent 0)) cs).0 ≡ machine (spans_of (setup_of r)) cs

-- it holds of the flat machine: `flat_comparison`
pub compared_with_flat : ComparedWith (λ spans cs. (flat_run spans blank cs).0)
unfolding FlatComparison
compared_with_flat = flat_comparison

-- a write that drops its bytes
pub write_dropped_lem : ComparedWith (λ spans cs. slipping write_dropped spans blank cs) → ⊥
write_dropped_lem claim =
    differ (lent_enough 9 (omega arith) written_then_read computed.written_reached computed.written_cells) computed.written_dropped
    (claim bank_on switched_on enough on_enough written_then_read (tt, (tt, tt)) (spaced spans written_then_read computed.written_spaced))
    (λ z. let k = bytes_at 1 z in never (cc))

module _ (slip : Slip) (claim : ComparedWith (λ spans cs. slipping slip spans blank cs)) where
  read_twice : slipping slip spans blank flipped_then_read_twice ≡ answered Flipped [] ∷ answered (Corrected 1) (0 ∷ []) ∷ answered (Corrected 1) (0 ∷ []) ∷ []
  read_twice =
      sym (claim bank_on switched_on enough on_enough flipped_then_read_twice (tt, (tt, (tt, tt))) (spaced spans flipped_then_read_twice computed.read_spaced))
      ∙ lent_enough 9 (omega arith) flipped_then_read_twice computed.read_reached computed.read_cells

-- a mark that a read clears
pub mark_cleared_lem : ComparedWith (λ spans cs. slipping mark_cleared spans blank cs) → ⊥
mark_cleared_lem claim = let k = kind_at 2 (sym computed.read_cleared ∙ read_twice mark_cleared claim) in never (cc)

-- correction at the first read only
pub corrected_once_lem : ComparedWith (λ spans cs. slipping corrected_once spans blank cs) → ⊥
corrected_once_lem claim = let k = bytes_at 2 (sym computed.read_once_lem ∙ read_twice corrected_once claim) in never (cc)

-- a mark without its bit
pub bit_forgotten_lem : ComparedWith (λ spans cs. slipping bit_forgotten spans blank cs) → ⊥
bit_forgotten_lem claim = let k = kind_at 1 (sym computed.read_nameless ∙ read_twice bit_forgotten claim) in never (cc)
