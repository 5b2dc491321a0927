-- The three answers of the map, by `found`, `no_bank` and `not_ready_lem` of RouteLaws; what holds of the fields holds of the record, by `of_record`.
use Rattle.std.proofs.Common.{ℕ, ◌<◌, get_or, sym, ◌∙◌, arith, w8, Fits, rules}
use Rattle.registers.specs.Record.{at}
use Rattle.banks.specs.Map.{located, mapped}
use Rattle.address_map.specs.CodeFields.{setup_by}
use Rattle.address_map.specs.CodeRoute.{route_by, bank_in}
use Rattle.address_map.proofs.SetupLaws.{of_record}
use Rattle.address_map.proofs.RouteLaws.{found, no_bank, not_ready_lem, located_found}
use Rattle.address_map.proofs.map.Goals as goal

pub select-requires : goal.select-requires
select-requires c =
    let r = c.args.r in
    let h : (o : ℕ) → o < 256 → at r o < 256 = λ o l. (let x : Fits w8 (get_or r.bytes o 0) = search rules in x.fits) in
    (of_record r h c.from-fields.result c.from-fields.ensures).1

pub place_in-requires : goal.place_in-requires
place_in-requires c =
    let to = route_by c.select.result in
    (found to (setup_by c.from-fields.result) c.args.address c.select.ensures.result_value (omega (arith, c.bank_of.ensures))).inside

pub returns-in-0-to-7 : goal.returns-in-0-to-7
unfolding mapped
returns-in-0-to-7 c =
    let a = c.args in
    let h : (o : ℕ) → o < 256 → at a.r o < 256 = λ o l. (let x : Fits w8 (get_or a.r.bytes o 0) = search rules in x.fits) in
    let s = setup_by c.from-fields.result in
    let to = route_by c.select.result in
    let l : bank_in to < 8 = omega (arith, c.bank_of.ensures) in
    rw (← (of_record a.r h c.from-fields.result c.from-fields.ensures).0, (found to s a.address c.select.ensures.result_value l).on, located_found to s a.address c.select.ensures.result_value l, c.place_in.ensures)

pub returns-in-8 : goal.returns-in-8
unfolding mapped located
returns-in-8 c =
    let a = c.args in
    let h : (o : ℕ) → o < 256 → at a.r o < 256 = λ o l. (let x : Fits w8 (get_or a.r.bytes o 0) = search rules in x.fits) in
    let to = route_by c.select.result in
    let z = no_bank to (setup_by c.from-fields.result) a.address c.select.ensures.result_value (sym c.bank_of.ensures ∙ c.in-8.is) in
    rw (← (of_record a.r h c.from-fields.result c.from-fields.ensures).0, z.0, z.1)

pub returns-in_default : goal.returns-in_default
unfolding mapped
returns-in_default c =
    let a = c.args in
    let h : (o : ℕ) → o < 256 → at a.r o < 256 = λ o l. (let x : Fits w8 (get_or a.r.bytes o 0) = search rules in x.fits) in
    let to = route_by c.select.result in
    let above : 8 < bank_in to = omega (arith, c.bank_of.ensures) in
    rw (← (of_record a.r h c.from-fields.result c.from-fields.ensures).0, not_ready_lem to (setup_by c.from-fields.result) a.address c.select.ensures.result_value above)
