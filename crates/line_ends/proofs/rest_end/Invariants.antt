use Rattle.std.proofs.Common.{◌≡◌, ◌+◌, ◌≤◌, length, drop}
use Rattle.line_ends.specs.LineEnd.{line_length}
use Rattle.line_ends.proofs.rest_end.Given as goal

abbrev pub invariant-loop-i : goal.invariant-loop-i
invariant-loop-i l = (l.i ≤ length l.chunk) × (l.from + line_length (drop l.from l.chunk) ≡ l.i + line_length (drop l.i l.chunk))
