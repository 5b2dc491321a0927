-- The two cases of `ready`, of the set-up that the fields describe; it is the record's, by `of_record`.
use Prim.Native.Nat.{ℕ, ◌<◌}
use mir.Syntax.{w8}
use mir.Val.{Fits}
use lib.ListN.{get_or}
use Rattle.std.specs.Prelude.{◌≡◌, Result, Ok, Err, ⊤, is_ok}
use Rattle.std.proofs.Common.{refl}
use Rattle.refusals.specs.Paper.{paper_verdict}
use Rattle.refusals.specs.declared.Refusal.{Refusal}
use Rattle.registers.specs.Record.{at}
use Rattle.banks.specs.Judge.{is_accepted, ready}
use Rattle.address_map.proofs.SetupLaws.{of_record}
use borrow.Author.Rules.{rules}
use Rattle.judging.proofs.is_ready.Goals as goal

-- a verdict is accepted if it is no refusal
no_fault : (v : Result ⊤ Refusal) → is_ok v ≡ is_accepted (paper_verdict v)
no_fault (Ok x) = refl
no_fault (Err x) = refl

pub returns-then-is_on : goal.returns-then-is_on
unfolding ready
returns-then-is_on c =
    let r = c.args.r in
    let h : (o : ℕ) → o < 256 → at r o < 256 = λ o l. (let x : Fits w8 (get_or r.bytes o 0) = search rules in x.fits) in
    rw (← (of_record r h c.from-fields.result c.from-fields.ensures).0)
    (simp (← c.is_on.ensures, c.if-is_on.true, c.is_ok.ensures.value, no_fault, c.verdict.ensures))

pub returns-else-is_on : goal.returns-else-is_on
unfolding ready
returns-else-is_on c =
    let r = c.args.r in
    let h : (o : ℕ) → o < 256 → at r o < 256 = λ o l. (let x : Fits w8 (get_or r.bytes o 0) = search rules in x.fits) in
    rw (← (of_record r h c.from-fields.result c.from-fields.ensures).0) (simp (← c.is_on.ensures, c.if-is_on.false))
