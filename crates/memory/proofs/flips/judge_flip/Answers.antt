-- The bit, then the bank of the route.
use mathlib.Core.Path.{◌≡◌, sym, ap, ◌∙◌}
use borrow.Author.Tests.{eq-eqb, ne_eqb}
use Rattle.std.proofs.Common.{rules}
use Rattle.std.specs.Prelude.{Err}
use Rattle.refusals.specs.Paper.{paper_verdict}
use Rattle.address_map.specs.CodeRoute.{bank_in}
use Rattle.memory.proofs.flips.judge_flip.Goals as goal

pub returns-then-bank_of-eq-NO_BANK : goal.returns-then-bank_of-eq-NO_BANK
returns-then-bank_of-eq-NO_BANK c =
    rw (sym c.judge_bit.ensures ∙ ap paper_verdict c.in_ok-judge_bit.was, eq-eqb (bank_in c.args.to) 8 (sym c.bank_of.ensures ∙ c.if-bank_of-eq-NO_BANK.true))

pub returns : goal.returns
returns c =
    rw (sym c.judge_bit.ensures ∙ ap paper_verdict c.in_ok-judge_bit.was, ne_eqb (bank_in c.args.to) 8 (λ e. c.if-bank_of-eq-NO_BANK.false (c.bank_of.ensures ∙ e)))

pub returns-in_err-judge_bit : goal.returns-in_err-judge_bit
returns-in_err-judge_bit c =
    let is : c.from_residual.result ≡ Err c.in_err-judge_bit.field-0.0 = search rules in
    rw (is, sym c.judge_bit.ensures ∙ ap paper_verdict c.in_err-judge_bit.was)
