-- What holds of the fields holds of the record, by `of_record`.
use Prim.Native.Nat.{ℕ, ◌<◌}
use mir.Syntax.{w8}
use mir.Val.{Fits}
use lib.ListN.{get_or}
use Rattle.registers.specs.Record.{at}
use Rattle.address_map.proofs.SetupLaws.{of_record}
use borrow.Author.Rules.{rules}
use Rattle.judging.proofs.decode_bank.Goals as goal

pub returns : goal.returns
returns c =
    let r = c.args.r in
    let h : (o : ℕ) → o < 256 → at r o < 256 = λ o l. (let x : Fits w8 (get_or r.bytes o 0) = search rules in x.fits) in
    rw (← (of_record r h c.from.result c.from.ensures).0) c.bank_in.ensures
