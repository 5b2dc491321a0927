-- The error registers are not part of the set-up: what an answer does to the record changes no judgement and no map.
use Prim.Native.Nat.{ℕ}
use mathlib.Core.Path.{◌≡◌}
use mathlib.Core.List.{List}
use mathlib.Core.Option.{Option}
use native.Mathlib.Omega.{arith}
use Rattle.registers.specs.declared.Registers.{Registers}
use Rattle.calls.specs.declared.Kind.{Kind}
use Rattle.calls.specs.Calls.{Access, address_of}
use Rattle.calls.specs.State.{State}
use Rattle.banks.specs.Setup.{setup_of}
use Rattle.banks.proofs.StoreLaws.{setup_between}
use Rattle.error_registers.specs.Errors.{reported}
use Rattle.error_registers.proofs.ErrorLaws.{reported_keeps}
use Rattle.machine.specs.Calls.{setup, access_at}

pub setup_reported : (k : Kind) (a : ℕ) (r : Registers) → setup_of (reported k a r) ≡ setup_of r
setup_reported = reported_keeps setup_of (λ r o v l h. setup_between r o v (omega arith) (omega arith))

-- an access leaves the set-up as it was
pub setup_after : (cols : List ℕ) (o : Option ℕ) (st : State) (x : Access) → setup (access_at cols o st x).1 ≡ setup st
unfolding access_at
setup_after cols o st x = setup_reported _ (address_of x) st.registers
