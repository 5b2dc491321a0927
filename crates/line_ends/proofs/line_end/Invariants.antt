use Rattle.std.proofs.Common.{◌≡◌, ◌+◌, ◌≤◌, length, drop}
use Rattle.line_ends.specs.LineEnd.{line_length}
use Rattle.line_ends.proofs.line_end.Given as goal

abbrev pub invariant-loop-at : goal.invariant-loop-at
invariant-loop-at l = (l.at ≤ length l.chunk) × (l.from + line_length (drop l.from l.chunk) ≡ l.at + line_length (drop l.at l.chunk))
