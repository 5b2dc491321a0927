use Prim.Native.Nat.{◌-◌}
use lib.ListN.{length}
use Rattle.ecc.specs.Columns.{columns}
use Rattle.registers.specs.Record.{record_of}
use Rattle.calls.specs.State.{state}
use Rattle.lines.proofs.StepLaws.{Before}
use Rattle.lines.proofs.feed.whole_lines.Given as goal

abbrev pub invariant-loop-end : goal.invariant-loop-end
invariant-loop-end l = Before columns (state (record_of l.initial.registers) l.initial.cells) l.first l.chunk l.stop l.initial.out (state (record_of l.registers) l.cells) l.from l.end l.out l.at

abbrev pub decreases-loop-end : goal.decreases-loop-end
decreases-loop-end l = length l.chunk - l.from
