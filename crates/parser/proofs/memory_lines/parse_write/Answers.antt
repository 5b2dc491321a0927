-- The address decides first, and then the bytes (`after_address`).
use Rattle.std.proofs.Common.{rules, ◌≡◌, None, Some, refl, List, ℕ, option_map, Option}
use Rattle.calls.specs.Calls.{Call, memory, write}
use Rattle.hex_digits.specs.Digits.{on_some, bytes_field}
use Rattle.parser.specs.declared.request.Request.TheVariants as request
use Rattle.parser.specs.CodeParsed.{written_of, parsed_as}
use Rattle.parser.proofs.PlainLaws.{bytes_field_plain}
use Rattle.parser.proofs.FormatLaws.{after_address}
use Rattle.parser.proofs.memory_lines.parse_write.Goals as goal

-- the call that the bytes make, at an address
abbrev written_at : ℕ → List ℕ → Call
written_at a bs = memory (write a bs)

parsed_write : (a : ℕ) (o : Option (List ℕ)) → parsed_as (on_some o (λ bs. Some (memory (write a bs)))) ≡ option_map (request.Write a) (written_of o)
parsed_write a None = refl
parsed_write a (Some bs) = refl

pub returns-in_err-address : goal.returns-in_err-address
returns-in_err-address c =
    let x = c.args.rest.now in
    let address : c.address_and_field.result ≡ None = search rules in
    rw (after_address bytes_field written_at bytes_field_plain x, ← c.address_and_field.ensures, address) (search rules)

pub returns-in_err-bytes : goal.returns-in_err-bytes
returns-in_err-bytes c =
    let x = c.args.rest.now in
    let a = c.in_ok-address in
    let address : c.address_and_field.result ≡ Some (a.address, a.digits) = search rules in
    let bytes : c.hex_bytes.result ≡ None = search rules in
    rw (after_address bytes_field written_at bytes_field_plain x, ← c.address_and_field.ensures, address, parsed_write a.address (bytes_field a.digits.now), ← c.hex_bytes.ensures, bytes) (search rules)

pub returns : goal.returns
returns c =
    let x = c.args.rest.now in
    let a = c.in_ok-address in
    let address : c.address_and_field.result ≡ Some (a.address, a.digits) = search rules in
    let bytes : c.hex_bytes.result ≡ Some c.in_ok-bytes.bytes = search rules in
    rw (after_address bytes_field written_at bytes_field_plain x, ← c.address_and_field.ensures, address, parsed_write a.address (bytes_field a.digits.now), ← c.hex_bytes.ensures, bytes)
