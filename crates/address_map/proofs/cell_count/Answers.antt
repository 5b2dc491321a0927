-- No bank of a record reaches the last address (`last_counted`), so its route tells the number of all cells.
use Rattle.std.proofs.Common.{ℕ, ◌<◌, get_or, ap, ◌∙◌, w8, Fits, rules, le-ltb, lt-ltb}
use Rattle.registers.specs.Record.{at}
use Rattle.refusals.specs.Paper.{given}
use Rattle.address_map.specs.CodeRoute.{route_by}
use Rattle.address_map.proofs.RouteLaws.{last_counted}
use Rattle.address_map.proofs.cell_count.Goals as goal

pub returns-then-bank_of-le-NO_BANK : goal.returns-then-bank_of-le-NO_BANK
returns-then-bank_of-le-NO_BANK c =
    let r = c.args.r in
    let to = route_by c.route_number.result in
    let h : (o : ℕ) → o < 256 → at r o < 256 = λ o l. (let x : Fits w8 (get_or r.bytes o 0) = search rules in x.fits) in
    let law = last_counted r h to c.route_number.ensures.result_value c.route_number.ensures.counted in
    let some = le-ltb _ _ (rw c.bank_of.ensures at c.if-bank_of-le-NO_BANK.true) in
    ap given c.first_of.ensures ∙ (rw some at law)

pub returns : goal.returns
returns c =
    let r = c.args.r in
    let to = route_by c.route_number.result in
    let h : (o : ℕ) → o < 256 → at r o < 256 = λ o l. (let x : Fits w8 (get_or r.bytes o 0) = search rules in x.fits) in
    let law = last_counted r h to c.route_number.ensures.result_value c.route_number.ensures.counted in
    let none = lt-ltb _ _ (rw c.bank_of.ensures at c.if-bank_of-le-NO_BANK.false) in
    rw none at law
