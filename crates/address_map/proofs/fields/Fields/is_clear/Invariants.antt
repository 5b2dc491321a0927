use Rattle.std.proofs.Common.{◌≡◌, ◌-◌, ◌≤◌, not, ◌&&◌}
use Rattle.basics.specs.Range.{every}
use Rattle.banks.specs.Setup.{bank}
use Rattle.banks.specs.Judge.{meets}
use Rattle.address_map.specs.CodeFields.{setup_by}
use Rattle.address_map.proofs.fields.Fields.is_clear.Given as goal

abbrev pub invariant-loop-m : goal.invariant-loop-m
invariant-loop-m l =
    (l.m ≤ l.n) × (l.clear ≡ every (λ k. not ((bank (setup_by l.self) l.n).enabled && meets (bank (setup_by l.self) l.n) (bank (setup_by l.self) k))) l.m)

abbrev pub decreases-loop-m : goal.decreases-loop-m
decreases-loop-m l = l.n - l.m
