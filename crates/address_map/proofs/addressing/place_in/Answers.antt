-- The row and column of an address are the quotient and remainder of its cell in the bank: `cell_is` gives that cell, `rows_are` and `columns_are`
-- the column bits, `and_mask` the remainder, `cells_bound` the room for the sum.
use Rattle.std.proofs.Common.{◌≡◌, ◌-◌, ◌%◌, ◌^◌, ◌∙◌, arith, pow_pos}
use lib.Bits.{bit_and, and_mask}
use Rattle.banks.specs.Setup.{bank}
use Rattle.banks.specs.Map.{cell_in_bank, place_of, row_of, column_of}
use Rattle.banks.proofs.FieldLaws.{cells_within}
use Rattle.banks.proofs.CellLaws.{cell_in_bank_most}
use Rattle.address_map.specs.CodeFields.{code_by, setup_by}
use Rattle.address_map.specs.CodeSelection.{megabyte_bits}
use Rattle.address_map.specs.CodeRoute.{bank_in, bits_in}
use Rattle.address_map.proofs.SetupLaws.{code_below, decoded_by}
use Rattle.address_map.proofs.SizeLaws.{few_bits, columns_are}
use Rattle.address_map.proofs.RouteLaws.{cells_bound, cell_is, rows_are}
use Rattle.address_map.proofs.addressing.place_in.Goals as goal

pub overflow_cast-result : goal.overflow_cast-result
overflow_cast-result c =
    record { fits = omega (arith, c.bank_of-n.ensures, c.requires.below) }

pub overflow_sub-result : goal.overflow_sub-result
overflow_sub-result c =
    omega (arith, c.power.ensures, pow_pos c.column_bits-columns.result)

pub overflow_add-result : goal.overflow_add-result
overflow_add-result c =
    let f = c.args.fields.now in
    let h = c.requires in
    let to = c.args.to in
    let n = bank_in to in
    let b = bank (setup_by f) n in
    let d = decoded_by f n in
    let w = c.cell_in_bank-w.ensures ∙ cell_is b d (bits_in to) c.args.address h.size in
    record { fits = omega (arith, h.below, h.first, cells_bound (setup_by f) (decoded_by f) n, cells_within b d.rows_most d.columns_narrow, c.first_of.ensures, w, cell_in_bank_most b c.args.address) }

pub returns : goal.returns
unfolding place_of row_of column_of
returns c =
    let f = c.args.fields.now in
    let h = c.requires in
    let to = c.args.to in
    let n = bank_in to in
    let b = bank (setup_by f) n in
    let d = decoded_by f n in
    let w = c.cell_in_bank-w in
    let q : w.result ≡ cell_in_bank b c.args.address = w.ensures ∙ cell_is b d (bits_in to) c.args.address h.size in
    let same : n % 8 ≡ n = omega (arith, h.below) in
    let code : c.row_code.result ≡ code_by f n = rw (c.bank_of-n.ensures, same) at c.row_code.ensures.value in
    let small : code_by f n % 4 ≡ code_by f n = omega (arith, code_below f n) in
    let few : megabyte_bits b % 16 ≡ megabyte_bits b = omega (arith, few_bits b d) in
    let k : c.column_bits-columns.result ≡ b.column_bits = c.column_bits-columns.ensures ∙ rw (code, c.bits_of.ensures.value, h.size, small, few, rows_are f n h.below h.enabled) (columns_are b d) in
    let m : bit_and w.result (c.power.result - 1) ≡ w.result % 2 ^ c.column_bits-columns.result = rw c.power.ensures (and_mask w.result c.column_bits-columns.result) in
    rw (m, k, q, c.first_of.ensures, h.first, c.bank_of-n.ensures)
