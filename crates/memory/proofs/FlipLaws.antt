-- A flip in a lent cell: one bit inverted, no register changed.
use Prim.Native.Nat.{ℕ}
use mathlib.Core.Path.{◌≡◌, refl, sym, ◌∙◌}
use mathlib.Core.Bool.{true, cond}
use mathlib.Core.List.{List, [], ◌∷◌}
use borrow.Author.Tests.{not-false}
use lib.Dec.{eqb}
use mathlib.Core.Option.{none, some, some-ne-none}
use Rattle.basics.proofs.RangeLaws.{by_cases}
use Rattle.ecc.specs.CheckCode.{flip_bit}
use Rattle.ecc.specs.Lending.{cell_at, put_cell, is_lent}
use Rattle.error_registers.specs.Errors.{reported}
use Rattle.calls.specs.declared.Kind.TheVariants.{Flipped}
use Rattle.calls.specs.Calls.{flip_in, got}
use Rattle.calls.specs.State.{State, state}
use Rattle.machine.specs.Cells.{on_cell}
use Rattle.machine.specs.Calls.{on_target, access_at}
use Rattle.refusals.specs.Paper.{refuse}
use Rattle.refusals.proofs.ChainLaws.{cause_fails}
use Rattle.banks.specs.Setup.{Setup}
use Rattle.banks.specs.Judge.{not_ready}
use Rattle.banks.specs.Map.{selected, place_of, in_span, located, cell_of}
use Rattle.address_map.specs.CodeRoute.{bank_in, cell_by, target_of, Leads}
use Rattle.address_map.specs.declared.routes.Route.{Route}
use Rattle.access.specs.CodeAccess.{lent_cell}
use Rattle.targets.proofs.CarryLaws.{Does}

pub flip_does : (st : State) (k a b : ℕ) → is_lent st.cells k ≡ true → (new : List ℕ)
    → new ≡ cond (is_lent st.cells k) (put_cell st.cells k (flip_bit (cell_at st.cells k) b)) st.cells
    → Does st (some k) (flip_in a b) (got Flipped []) (state st.registers new)
unfolding access_at on_target on_cell reported
flip_does st k a b lent new e = rw (e, lent)

some_cell : (s : Setup) (a : ℕ) → in_span s a ≡ true → (j : ℕ) × (cell_of s a ≡ some j)
unfolding cell_of located
some_cell s a t = ((place_of s (selected s a) a).cell, rw t)

-- a flip that 10 does not refuse has a cell
pub flip_target : (to : Route) (s : Setup) (a : ℕ) → Leads to s a → not_ready s ≡ none → refuse (eqb (bank_in to) 8) (10 ∷ []) ≡ none
    → (j : ℕ) × (target_of (cell_by to a) ≡ some j)
flip_target to s a leads on free =
    let held : in_span s a ≡ true = not-false (in_span s a) (sym (leads.spanned on) ∙ cause_fails (eqb (bank_in to) 8) (10 ∷ []) free) in
    let found = some_cell s a held in
    (found.0, leads.cell on a refl ∙ found.1)
