use Prim.Native.Nat.{◌-◌, ◌≤◌}
use mathlib.Core.Bool.{true}
use mathlib.Core.Path.{◌≡◌}
use Rattle.basics.specs.Range.{every}
use Rattle.banks.specs.Setup.{setup_of, bank}
use Rattle.alike.specs.CodeMegabyte.{same_bank}
use Rattle.alike.proofs.compare.Given as goal

abbrev pub invariant-loop-n : goal.invariant-loop-n
invariant-loop-n l = (l.n ≤ 8) × (every (λ k. same_bank (bank (setup_of l.r) k) (bank (setup_of l.s) k)) l.n ≡ true)

abbrev pub decreases-loop-n : goal.decreases-loop-n
decreases-loop-n l = 8 - l.n
