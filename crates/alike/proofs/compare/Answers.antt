-- The loop's invariant: the first n banks are the same (`every_more`); one that differs ends it (`every_stops`). If both records are ready, the tests
-- of the eight banks decide (`records_alike`).
use borrow.Author.Rules.{rules}
use Prim.Native.Nat.{ℕ, ◌<◌}
use mathlib.Core.Path.{◌≡◌, refl, sym, ap, ◌∙◌}
use native.Mathlib.Omega.{arith}
use mir.Syntax.{w8}
use mir.Val.{Fits}
use lib.ListN.{get_or}
use Rattle.basics.specs.Range.{every}
use Rattle.refusals.specs.Paper.{given}
use Rattle.registers.specs.Record.{at}
use Rattle.banks.specs.Setup.{setup_of, bank}
use Rattle.banks.specs.Judge.{not_ready}
use Rattle.banks.proofs.FieldLaws.{bounded}
use Rattle.alike.specs.Alike.{compared}
use Rattle.alike.specs.CodeMegabyte.{same_bank}
use Rattle.alike.proofs.BankLaws.{records_alike, every_more, every_stops}
use Rattle.alike.proofs.compare.Goals as goal

pub is_ready-requires : goal.is_ready-requires
is_ready-requires c = search rules

pub returns-then-not-is_ready : goal.returns-then-not-is_ready
unfolding compared not_ready
returns-then-not-is_ready c =
    simp (← c.is_ready.ensures, c.if-not-is_ready.true)

pub is_ready-requires-2 : goal.is_ready-requires-2
is_ready-requires-2 c = search rules

pub returns-then-not-is_ready-2 : goal.returns-then-not-is_ready-2
unfolding compared not_ready
returns-then-not-is_ready-2 c =
    simp (← c.is_ready.ensures, c.if-not-is_ready.false, ← c.is_ready-2.ensures, c.if-not-is_ready-2.true)

pub loop-n-init : goal.loop-n-init
unfolding every
loop-n-init c = (omega arith, refl)

pub decode_bank-requires : goal.decode_bank-requires
decode_bank-requires c = search rules

pub decode_bank-requires-in-loop-n : goal.decode_bank-requires-in-loop-n
decode_bank-requires-in-loop-n c = search rules

pub is_same_bank-requires : goal.is_same_bank-requires
is_same_bank-requires c =
    let a = c.args in
    let n = c.loop-n.n in
    let p : (o : ℕ) → o < 256 → at a.r o < 256 = λ o l. (let x : Fits w8 (get_or a.r.bytes o 0) = search rules in x.fits) in
    let q : (o : ℕ) → o < 256 → at a.s o < 256 = λ o l. (let x : Fits w8 (get_or a.s.bytes o 0) = search rules in x.fits) in
    (rw c.decode_bank.ensures (bounded a.r p n), rw c.decode_bank-in-loop-n.ensures (bounded a.s q n))

pub returns-then-not-is_same_bank : goal.returns-then-not-is_same_bank
returns-then-not-is_same_bank c =
    let a = c.args in
    let n = c.loop-n.n in
    let p : (o : ℕ) → o < 256 → at a.r o < 256 = λ o l. (let x : Fits w8 (get_or a.r.bytes o 0) = search rules in x.fits) in
    let q : (o : ℕ) → o < 256 → at a.s o < 256 = λ o l. (let x : Fits w8 (get_or a.s.bytes o 0) = search rules in x.fits) in
    let h = sym c.is_ready.ensures ∙ c.if-not-is_ready.false in
    let k = sym c.is_ready-2.ensures ∙ c.if-not-is_ready-2.false in
    let t = c.if-not-is_same_bank.true in
    let e = rw (c.decode_bank.ensures, c.decode_bank-in-loop-n.ensures, t) at c.is_same_bank.ensures in
    sym (records_alike a.r a.s p q h k ∙ ap given (every_stops (λ j. same_bank (bank (setup_of a.r) j) (bank (setup_of a.s) j)) 8 n c.loop-n-test.true (sym e)))

pub overflow_step-n : goal.overflow_step-n
overflow_step-n c = omega arith

pub loop-n-smaller : goal.loop-n-smaller
loop-n-smaller c = omega arith

pub loop-n-preserved : goal.loop-n-preserved
loop-n-preserved c =
    let a = c.args in
    let n = c.loop-n.n in
    let t = c.if-not-is_same_bank.false in
    let e = rw (c.decode_bank.ensures, c.decode_bank-in-loop-n.ensures, t) at c.is_same_bank.ensures in
    (omega arith, every_more (λ j. same_bank (bank (setup_of a.r) j) (bank (setup_of a.s) j)) n c.loop-n.invariant.1 (sym e))

pub returns : goal.returns
returns c =
    let a = c.args in
    let n = c.loop-n.n in
    let p : (o : ℕ) → o < 256 → at a.r o < 256 = λ o l. (let x : Fits w8 (get_or a.r.bytes o 0) = search rules in x.fits) in
    let q : (o : ℕ) → o < 256 → at a.s o < 256 = λ o l. (let x : Fits w8 (get_or a.s.bytes o 0) = search rules in x.fits) in
    let h = sym c.is_ready.ensures ∙ c.if-not-is_ready.false in
    let k = sym c.is_ready-2.ensures ∙ c.if-not-is_ready-2.false in
    let e : n ≡ 8 = omega arith in
    sym (records_alike a.r a.s p q h k ∙ ap given (rw e at c.loop-n.invariant.1))
