use Rattle.std.proofs.Common.{ℕ, ◌<◌, ◌≤◌, ◌-◌, false}
use Rattle.judging.proofs.lowest.Given as goal

abbrev pub invariant-loop-n : goal.invariant-loop-n
invariant-loop-n g l = (l.n ≤ 8) × ((k : ℕ) → k < l.n → goal.F-post g l.test k false)

abbrev pub decreases-loop-n : goal.decreases-loop-n
decreases-loop-n g l = 8 - l.n
