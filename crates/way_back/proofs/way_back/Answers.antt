-- The tests come in the order of `back`: an enabled bank is one of the eight (`enabled_below`), and a decoded one keeps to its bounds (`bounded`).
use Prim.Native.Nat.{ℕ, ◌<◌}
use borrow.Author.Tests.{not-true, not-false}
use mathlib.Core.Path.{sym, ◌∙◌}
use mir.Syntax.{w8}
use mir.Val.{Fits}
use lib.ListN.{get_or}
use Rattle.registers.specs.Record.{at}
use Rattle.banks.specs.Judge.{not_ready}
use Rattle.banks.proofs.FieldLaws.{bounded}
use Rattle.way_back.specs.WayBack.{back}
use Rattle.way_back.specs.CodeAddress.{address_at}
use Rattle.way_back.proofs.AbsentLaws.{enabled_below}
use borrow.Author.Rules.{rules}
use Rattle.way_back.proofs.way_back.Goals as goal

pub returns-then-not-is_ready : goal.returns-then-not-is_ready
unfolding back not_ready
returns-then-not-is_ready c =
    simp (← c.is_ready.ensures, c.if-not-is_ready.true)

pub returns-then-not-b : goal.returns-then-not-b
unfolding back not_ready
returns-then-not-b c =
    let a = c.args in
    rw (enabled_below a.r a.bank)
    (simp (← c.is_ready.ensures, c.if-not-is_ready.false, ← c.decode_bank-b.ensures, not-true c.decode_bank-b.result.enabled c.if-not-b.true))

pub is_in_range-requires : goal.is_in_range-requires
is_in_range-requires c =
    let a = c.args in
    let h : (o : ℕ) → o < 256 → at a.r o < 256 = λ o l. (let x : Fits w8 (get_or a.r.bytes o 0) = search rules in x.fits) in
    rw c.decode_bank-b.ensures (bounded a.r h a.bank)

pub returns-then-not-is_in_range : goal.returns-then-not-is_in_range
unfolding back not_ready
returns-then-not-is_in_range c =
    let a = c.args in
    rw (enabled_below a.r a.bank)
    (simp (← c.is_ready.ensures, c.if-not-is_ready.false, ← c.decode_bank-b.ensures, not-false c.decode_bank-b.result.enabled c.if-not-b.false, ← c.is_in_range.ensures, c.if-not-is_in_range.true))

pub address-requires : goal.address-requires
address-requires c =
    let a = c.args in
    let h : (o : ℕ) → o < 256 → at a.r o < 256 = λ o l. (let x : Fits w8 (get_or a.r.bytes o 0) = search rules in x.fits) in
    (rw c.decode_bank-b.ensures (bounded a.r h a.bank), sym c.is_in_range.ensures ∙ c.if-not-is_in_range.false)

pub returns : goal.returns
unfolding back not_ready address_at
returns c =
    let a = c.args in
    rw (enabled_below a.r a.bank)
    (simp (← c.is_ready.ensures, c.if-not-is_ready.false, ← c.decode_bank-b.ensures, not-false c.decode_bank-b.result.enabled c.if-not-b.false, ← c.is_in_range.ensures, c.if-not-is_in_range.false, c.address.ensures))
