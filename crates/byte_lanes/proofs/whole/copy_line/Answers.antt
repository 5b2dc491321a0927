-- `copy_line` fills 32 bytes with four doublewords (four_stored of StoreLaws).
use mathlib.Core.Path.{◌∙◌}
use borrow.Author.Tests.{eq-eqb}
use Rattle.ecc.specs.Doubleword.{bytes_of_number}
use Rattle.ecc.proofs.DoublewordLaws.{number_length}
use Rattle.byte_lanes.proofs.StoreLaws.{eight_are, four_stored}
use Rattle.byte_lanes.proofs.whole.copy_line.Goals as goal

pub returns : goal.returns
returns c =
    let a = c.args in
    let k₀ = c.copy_from_slice.ensures.after ∙ c.bytes_of.ensures ∙ eight_are a.first in
    let k₁ = c.copy_from_slice-2.ensures.after ∙ c.bytes_of-2.ensures ∙ eight_are a.second in
    let k₂ = c.copy_from_slice-3.ensures.after ∙ c.bytes_of-3.ensures ∙ eight_are a.third in
    let k₃ = c.copy_from_slice-4.ensures.after ∙ c.bytes_of-4.ensures ∙ eight_are a.fourth in
    rw (k₀, k₁, k₂, k₃, eq-eqb _ 32 c.if-buffer-ne32.false)
    (four_stored a.buffer.now (bytes_of_number a.first) (bytes_of_number a.second) (bytes_of_number a.third) (bytes_of_number a.fourth)
    (number_length a.first) (number_length a.second) (number_length a.third) (number_length a.fourth) c.if-buffer-ne32.false)
