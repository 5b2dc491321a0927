use Rattle.std.proofs.Common.{◌≡◌, ◌-◌, ◌≤◌, not}
use Rattle.basics.specs.Range.{every}
use Rattle.banks.specs.Judge.{meets_lower}
use Rattle.address_map.specs.CodeFields.{setup_by}
use Rattle.address_map.proofs.fields.Fields.none_meets.Given as goal

abbrev pub invariant-loop-n : goal.invariant-loop-n
invariant-loop-n l = (l.n ≤ 8) × (l.clear ≡ every (λ k. not (meets_lower (setup_by l.self) k)) l.n)

abbrev pub decreases-loop-n : goal.decreases-loop-n
decreases-loop-n l = 8 - l.n
