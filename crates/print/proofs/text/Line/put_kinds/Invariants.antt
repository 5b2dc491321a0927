use Rattle.std.proofs.Common.{◌≡◌, ◌++◌, take}
use Rattle.print.specs.Output.{kinds_text}
use Rattle.print.specs.CodePrinted.{cut}
use Rattle.print.proofs.text.Line.put_kinds.Given as goal

abbrev pub invariant-loop-kind : goal.invariant-loop-kind
invariant-loop-kind l = l.self.text.items ≡ cut (l.initial.self.text.items ++ kinds_text (take l.kind-index l.kinds))
