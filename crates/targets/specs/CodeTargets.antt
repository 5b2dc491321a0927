-- How the code carries a call out: on the targets that it found, 9 of any of them first. Only contracts of private functions, and laws about the code, use it.
use Rattle.std.specs.Prelude.{ℕ, List, [], ◌∷◌}
use Rattle.std.proofs.Math.Option.{Option, none, some}
use Rattle.refusals.specs.Paper.{Declined, ◌else◌, refused, given}
use Rattle.ecc.specs.Columns.{columns}
use Rattle.calls.specs.Calls.{Access, beat_address, AccessAnswer, CallAnswer}
use Rattle.calls.specs.State.{State}
use Rattle.machine.specs.Calls.{unlent_at, access_at}
use Rattle.address_map.specs.CodeRoute.{cell_by, target_of}
use Rattle.address_map.specs.declared.routes.Route.{Route}

-- an access, and the cell that it goes to, none without a bank
abbrev pub Target : Type 0
Target = Option ℕ × Access

-- REF-9: the cell of some access is not wholly lent
unfoldable pub unlent_any : List ℕ → List Target → Declined
unlent_any cells [] = none
unlent_any cells (t ∷ ts) = unlent_at t.0 cells else unlent_any cells ts

-- accesses one after the other, each on what the one before it left
unfoldable pub accesses_at : State → List Target → List AccessAnswer × State
accesses_at st [] = ([], st)
accesses_at st (t ∷ ts) =
    let r = access_at columns t.0 st t.1 in
    let rs = accesses_at r.1 ts in
    (r.0 ∷ rs.0, rs.1)

-- DEM-1: a refused call leaves everything as it was
unfoldable pub performed_at : Declined → State → List Target → CallAnswer × State
performed_at (some n) st ts = (refused n, st)
performed_at none st ts = let r = accesses_at st ts in (given r.0, r.1)

-- MEM-16: 9 of any access, and otherwise all of them
abbrev pub carried_out : State → List Target → CallAnswer × State
carried_out st ts = performed_at (unlent_any st.cells ts) st ts

-- MEM-13: the beats of a burst at the address a, by the route of its line
abbrev pub beat_targets : Route → ℕ → (ℕ → Access) → List Target
beat_targets to a beat =
    (target_of (cell_by to (beat_address a 0)), beat 0) ∷ (target_of (cell_by to (beat_address a 1)), beat 1)
    ∷ (target_of (cell_by to (beat_address a 2)), beat 2) ∷ (target_of (cell_by to (beat_address a 3)), beat 3) ∷ []
