-- The address is the only field (`digits_alone`): a line of another length lacks it (`field_lacks`).
use Rattle.std.proofs.Common.{rules, arith, ◌≡◌, ◌∙◌, sym, ap, None, Some}
use lib.Seq.{take_all}
use Rattle.calls.specs.Calls.{memory, scrub}
use Rattle.hex_digits.specs.Digits.{hex_from, hex_field}
use Rattle.parser.proofs.DigitLaws.{field_is, field_lacks}
use Rattle.parser.proofs.FormatLaws.{digits_alone}
use Rattle.parser.proofs.memory_lines.parse_scrub.Goals as goal

pub returns-in_err-address : goal.returns-in_err-address
returns-in_err-address c =
    let x = c.args.rest.now in
    let field : hex_field 8 x ≡ c.hex_address.result = field_is 8 x c.if-rest-ne8.false ∙ ap (hex_from 0) (sym (take_all 8 x (omega arith))) ∙ sym c.hex_address.ensures in
    let address : c.hex_address.result ≡ None = search rules in
    rw (digits_alone 8 (λ a. memory (scrub a)) x, field, address) (search rules)

pub returns : goal.returns
returns c =
    let x = c.args.rest.now in
    let field : hex_field 8 x ≡ c.hex_address.result = field_is 8 x c.if-rest-ne8.false ∙ ap (hex_from 0) (sym (take_all 8 x (omega arith))) ∙ sym c.hex_address.ensures in
    let address : c.hex_address.result ≡ Some c.in_ok-address.address = search rules in
    rw (digits_alone 8 (λ a. memory (scrub a)) x, field, address)
