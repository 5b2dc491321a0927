-- The offset is the only field (`digits_alone`): a line of another length lacks it (`field_lacks`).
use Rattle.std.proofs.Common.{rules, arith, ◌≡◌, None, Some}
use Rattle.calls.specs.Calls.{read_register}
use Rattle.parser.proofs.DigitLaws.{field_lacks, pair_is}
use Rattle.parser.proofs.FormatLaws.{digits_alone}
use Rattle.parser.proofs.register_lines.parse_register_read.Goals as goal

pub returns-in_err-offset : goal.returns-in_err-offset
returns-in_err-offset c =
    let x = c.args.rest.now in
    let offset : c.hex_pair.result ≡ None = search rules in
    rw (digits_alone 2 read_register x, pair_is x 0 (omega arith), ← c.hex_pair.ensures, offset) (search rules)

pub returns : goal.returns
returns c =
    let x = c.args.rest.now in
    let offset : c.hex_pair.result ≡ Some c.in_ok-offset.offset = search rules in
    rw (digits_alone 2 read_register x, pair_is x 0 (omega arith), ← c.hex_pair.ensures, offset)
