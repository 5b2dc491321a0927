-- What the pass finds in the fields of a record holds of the record, by `of_record`.
use Rattle.std.proofs.Common.{ℕ, ◌<◌, get_or, w8, Fits, rules}
use Rattle.registers.specs.Record.{at}
use Rattle.address_map.proofs.SetupLaws.{of_record}
use Rattle.address_map.proofs.route_number.Goals as goal

pub select-requires : goal.select-requires
select-requires c =
    let r = c.args.r in
    let h : (o : ℕ) → o < 256 → at r o < 256 = λ o l. (let x : Fits w8 (get_or r.bytes o 0) = search rules in x.fits) in
    (of_record r h c.from-fields.result c.from-fields.ensures).1

pub returns : goal.returns
returns c =
    let r = c.args.r in
    let h : (o : ℕ) → o < 256 → at r o < 256 = λ o l. (let x : Fits w8 (get_or r.bytes o 0) = search rules in x.fits) in
    let same = (of_record r h c.from-fields.result c.from-fields.ensures).0 in
    record { result_value = rw (← same) c.select.ensures.result_value; counted = rw (← same) c.select.ensures.counted }
