-- The numbers that an accepted call gives, of calls that are no memory calls, and what a register write returns.
use Rattle.std.specs.Prelude.{ℕ, Bool, true, false, List, [], ◌∷◌}
use Rattle.std.proofs.Math.Option.{Option, none, some}
use Rattle.refusals.specs.Paper.{Declined}
use Rattle.registers.specs.declared.Registers.{Registers}
use Rattle.banks.specs.declared.Place.{Place}
use Rattle.results.specs.Results.{result_of_verdict}

-- by a call that gives one number
abbrev pub single : ℕ → List ℕ
single n = n ∷ []

-- by a comparison: 1 for yes, 0 for no
abbrev pub truth : Bool → List ℕ
truth true = 1 ∷ []
truth false = 0 ∷ []

-- MAP-9: by the map: 1, bank, row, column and cell number; five zeros if no bank is selected
abbrev pub place_numbers : Option Place → List ℕ
place_numbers (some p) = 1 ∷ p.bank ∷ p.row.0 ∷ p.column.0 ∷ p.cell ∷ []
place_numbers none = 0 ∷ 0 ∷ 0 ∷ 0 ∷ 0 ∷ []

-- REG-18: what a register write returns, and the record after it
abbrev pub write_result : Declined × Registers → ℕ × Registers
write_result w = (result_of_verdict w.0, w.1)
