-- A line of another length or without its comma lacks a field (`field_lacks`, `two_unparted`); any other has two pairs of digits (`two_pairs`).
use Rattle.std.proofs.Common.{rules, arith, ◌≡◌, get_or, drop, length-drop, None, Some}
use Rattle.calls.specs.Calls.{write_register}
use Rattle.hex_digits.specs.Digits.{hex_field}
use Rattle.parser.proofs.DigitLaws.{field_lacks}
use Rattle.parser.proofs.PlainLaws.{hex_field_plain}
use Rattle.parser.proofs.FieldLaws.{two_lacking, two_unparted}
use Rattle.parser.proofs.FormatLaws.{two_pairs}
use Rattle.parser.proofs.register_lines.parse_register_write.Goals as goal

pub returns-in_err-offset : goal.returns-in_err-offset
returns-in_err-offset c =
    let x = c.args.rest.now in
    let comma : get_or x 2 0 ≡ 0x2C = search rules in
    let offset : c.hex_pair.result ≡ None = search rules in
    rw (two_pairs x write_register (omega arith) comma, ← c.hex_pair.ensures, offset) (search rules)

pub returns-in_err-value : goal.returns-in_err-value
returns-in_err-value c =
    let x = c.args.rest.now in
    let comma : get_or x 2 0 ≡ 0x2C = search rules in
    let offset : c.hex_pair.result ≡ Some c.in_ok-offset.offset = search rules in
    let value : c.hex_pair-2.result ≡ None = search rules in
    rw (two_pairs x write_register (omega arith) comma, ← c.hex_pair.ensures, offset, ← c.hex_pair-2.ensures, value) (search rules)

pub returns : goal.returns
returns c =
    let x = c.args.rest.now in
    let comma : get_or x 2 0 ≡ 0x2C = search rules in
    let offset : c.hex_pair.result ≡ Some c.in_ok-offset.offset = search rules in
    let value : c.hex_pair-2.result ≡ Some c.in_ok-value.value = search rules in
    rw (two_pairs x write_register (omega arith) comma, ← c.hex_pair.ensures, offset, ← c.hex_pair-2.ensures, value)
