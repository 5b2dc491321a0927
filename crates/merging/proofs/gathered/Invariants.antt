use Rattle.merging.proofs.GatherLaws.{Begun}
use Rattle.merging.proofs.gathered.Given as goal

abbrev pub invariant-loop-i : goal.invariant-loop-i
invariant-loop-i l = Begun l.bytes l.i l.x
