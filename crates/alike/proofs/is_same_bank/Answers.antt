-- Two enabled banks are compared by their parts, as `both_on` has it; otherwise `same_bank` is that both are disabled.
use Rattle.alike.specs.CodeMegabyte.{same_bank}
use Rattle.alike.proofs.BankLaws.{both_on}
use Rattle.alike.proofs.is_same_bank.Goals as goal

pub returns-then-b-c : goal.returns-then-b-c
returns-then-b-c c =
    let a = c.args in
    both_on a.b a.c _ _ c.is_same_part.ensures c.is_same_part-then-b-c.ensures c.if-b-c.true

pub returns : goal.returns
unfolding same_bank
returns c = simp c.if-b-c.false
