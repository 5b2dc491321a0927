-- `parser::by_letter`: the letter decides; an address and a number are the arguments of the call that it names (`numbered`).
use Rattle.std.proofs.Common.{rules, ◌≡◌, ℕ, refl, Some, None, Option, option_map}
use borrow.Author.Tests.{ne_eqb}
use Rattle.calls.specs.Calls.{memory, read, flip}
use Rattle.hex_digits.specs.Digits.{on_some}
use Rattle.parser.specs.declared.request.Request.TheVariants as request
use Rattle.parser.specs.Format.{by_letter}
use Rattle.parser.specs.CodeParsed.{parsed_as, address_and_number}
use Rattle.parser.proofs.FormatLaws.{numbered}
use Rattle.parser.proofs.by_letter.Goals as goal

read_of : (o : Option (ℕ × ℕ)) → parsed_as (on_some o (λ p. Some (memory (read p.0 p.1)))) ≡ option_map (λ p. request.Read p.0 p.1) o
read_of None = refl
read_of (Some p) = refl

flip_of : (o : Option (ℕ × ℕ)) → parsed_as (on_some o (λ p. Some (memory (flip p.0 p.1)))) ≡ option_map (λ p. request.Flip p.0 p.1) o
flip_of None = refl
flip_of (Some p) = refl

pub returns-in-114 : goal.returns-in-114
unfolding by_letter
returns-in-114 c =
    let x = c.args.rest.now in
    let m : c.map.result ≡ option_map (λ p. request.Read p.0 p.1) c.address_and_number.result = search rules in
    rw (c.in-114.is, numbered (λ a n. memory (read a n)) x, read_of (address_and_number x), ← c.address_and_number.ensures) m

pub returns-in-102 : goal.returns-in-102
unfolding by_letter
returns-in-102 c =
    let x = c.args.rest.now in
    let m : c.map-in-102.result ≡ option_map (λ p. request.Flip p.0 p.1) c.address_and_number-in-102.result = search rules in
    rw (c.in-102.is, numbered (λ a n. memory (flip a n)) x, flip_of (address_and_number x), ← c.address_and_number-in-102.ensures) m
