-- The route of an address, one number in which the code packs what the pass finds; for contracts of code and the laws that they lead to.
use Rattle.std.specs.Prelude.{◌≡◌, ℕ, ◌+◌, ◌/◌, ◌%◌, ◌^◌, cond, not, [], ◌∷◌, ◌==◌, nat_le, nat_lt, Some, None}
use Rattle.std.specs.Prelude as code
use Rattle.std.proofs.Math.Option.{Option, none, some}
use Rattle.refusals.specs.Paper.{paper, refuse, Outcome, refused, given}
use Rattle.refusals.specs.declared.Refusal.TheVariants.{NotReady}
use Rattle.banks.specs.Setup.{Setup}
use Rattle.banks.specs.Judge.{not_ready}
use Rattle.banks.specs.Map.{in_span, cell_of}
use Rattle.address_map.specs.declared.routes.Route.{Route}

-- the route that a number stands for
abbrev pub route_by : ℕ → Route
route_by n = record { number = n }

-- the bank; 8 if the address selects none, 9 if the set-up is not ready
unfoldable pub bank_in : Route → ℕ
bank_in to = to.number / 16 % 16

-- the number of the bank's first cell; if no bank is selected, the number of all cells
unfoldable pub first_in : Route → ℕ
first_in to = to.number / 2 ^ 32

-- how many bits number the megabytes of the bank's cells
unfoldable pub bits_in : Route → ℕ
bits_in to = to.number % 16

-- refusal 5, no bank, or the bank with its first cell and its bits
abbrev pub paper_route : Route → Outcome (Option (ℕ × ℕ × ℕ))
paper_route to =
    cond (nat_lt 8 (bank_in to)) (refused (paper NotReady)) (given (cond (nat_lt (bank_in to) 8) (some (bank_in to, first_in to, bits_in to)) none))

-- MAP-6: the cell of an address by its route, if a bank is selected
unfoldable pub cell_by : Route → ℕ → code.Option ℕ
cell_by to a = cond (nat_le 8 (bank_in to)) None (Some (first_in to + a / 8 % 2 ^ (17 + bits_in to)))

-- the same as the definitions have it
abbrev pub target_of : code.Option ℕ → Option ℕ
target_of None = none
target_of (Some k) = some k

-- the route of an address leads from every address of its megabyte to its cell
pub record Leads (to : Route) (s : Setup) (a : ℕ) : Type 0 where
  pub not_ready_lem : refuse (nat_lt 8 (bank_in to)) (5 ∷ []) ≡ not_ready s
  pub spanned : not_ready s ≡ none → (bank_in to == 8) ≡ not (in_span s a)
  pub cell : not_ready s ≡ none → (b : ℕ) → b / 2 ^ 20 ≡ a / 2 ^ 20 → target_of (cell_by to b) ≡ cell_of s b
