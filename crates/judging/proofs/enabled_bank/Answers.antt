-- The fields of an enabled bank: column bits by `rows_by_bits` and `columns_are`, row bits as what is left.
use Prim.Native.Nat.{◌+◌, ◌-◌, ◌%◌}
use mathlib.Core.Path.{◌≡◌, ◌∙◌}
use native.Mathlib.Omega.{arith}
use Rattle.address_map.specs.CodeFields.{code_by, enabled_by}
use Rattle.address_map.specs.CodeSelection.{megabyte_bits}
use Rattle.address_map.proofs.SetupLaws.{code_below, decoded_enabled}
use Rattle.address_map.proofs.SizeLaws.{few_bits, rows_by_bits, columns_are, rows_left}
use Rattle.judging.proofs.DecodingLaws.{bank_parts}
use Rattle.judging.proofs.enabled_bank.Goals as goal

pub returns : goal.returns
returns c =
    let a = c.args in
    let f = a.fields.now in
    let n = a.n in
    let b = enabled_by f n in
    let d = decoded_enabled f n in
    let same : n % 8 ≡ n = omega arith in
    let code : c.row_code.result ≡ code_by f n = rw same at c.row_code.ensures.value in
    let bits = c.bits_in-bits.ensures.value in
    let small : code_by f n % 4 ≡ code_by f n = omega (arith, code_below f n) in
    let few : megabyte_bits b % 16 ≡ megabyte_bits b = omega (arith, few_bits b d) in
    let k : c.column_bits-columns.result ≡ b.column_bits = c.column_bits-columns.ensures ∙ rw (code, bits, small, few, ← rows_by_bits f n) (columns_are b d) in
    let r : 17 + c.bits_in-bits.result - c.column_bits-columns.result ≡ b.row_bits = rw (bits, k) (rows_left b d) in
    rw (r, k, c.start.ensures.value, c.last.ensures.value, same) (bank_parts f n)
