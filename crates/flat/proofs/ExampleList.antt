-- A list that keeps the premise of `flat_comparison`, and what both machines answer to it, each computed by itself.
use Prim.Native.Nat.{ℕ, ◌*◌, ◌≤◌}
use mathlib.Core.Path.{◌≡◌, ◌∙◌}
use native.Mathlib.Omega.{arith}
use lib.ListN.{replicate}
use Rattle.basics.specs.Lists.{All}
use Rattle.banks.specs.Setup.{setup_of}
use Rattle.banks.specs.Map.{cell_count}
use Rattle.ecc.specs.Columns.{columns}
use Rattle.calls.specs.State.{state}
use Rattle.call_lists.specs.Lists.{run}
use Rattle.flat.specs.Flat.{blank, flat_run}
use Rattle.flat.specs.Comparison.{SwitchedOn, AtErrorRegisters, Spaced}
use Rattle.call_lists.proofs.LendingLaws.{run_zeros}
use Rattle.flat.proofs.PremiseTests.{all_at_error_registers_lem, spaced}
use Rattle.flat.proofs.OneBank.{bank_on, switched_on, bytes_on}
use Rattle.flat.proofs.Answers.{spans, long_list, long_answers, computed}

pub record BothAnswer (lent : ℕ) : Type 0 where
  pub switched : SwitchedOn bank_on
  pub at_error_registers : All AtErrorRegisters long_list
  pub flips_spaced : Spaced spans long_list
  pub cells : (run columns (state bank_on (replicate lent 0)) long_list).0 ≡ long_answers
  pub flat : (flat_run spans blank long_list).0 ≡ long_answers

pub example_list : (lent : ℕ) → 9 * cell_count (setup_of bank_on) ≤ lent → BothAnswer lent
example_list lent h =
    let l = rw bytes_on at h in
    record {
      switched = switched_on;
      at_error_registers = all_at_error_registers_lem long_list computed.long_registers;
      flips_spaced = spaced spans long_list computed.long_spaced;
      cells = run_zeros columns bank_on long_list 36 lent (omega arith) computed.long_reached ∙ computed.long_cells;
      flat = computed.long_flat;
    }
