-- The row code of a bank is that of `code_by`, by `and_mask`.
use Rattle.std.proofs.Common.{◌∙◌, arith}
use lib.Bits.{and_mask}
use Rattle.address_map.specs.CodeFields.{code_by}
use Rattle.address_map.proofs.fields.Fields.row_code.Goals as goal

pub returns : goal.returns
unfolding code_by
returns c =
    let code = c.from.ensures ∙ and_mask _ 2 in
    record { value = code; bound = omega (arith, code) }
