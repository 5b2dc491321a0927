-- `parser::address_and_field`: a line of fewer than nine bytes or without its comma has no second field; of any other the address decides.
use Rattle.std.proofs.Common.{rules, arith, ◌≡◌, ℕ, ◌-◌, List, get_or, length, drop, length-drop, ap, None, Some}
use lib.Seq.{take_all}
use borrow.Author.Tests.{lt-ltb, le-ltb, eq-eqb, ne_eqb}
use Rattle.parser.specs.CodeParsed.{address_and_field}
use Rattle.parser.proofs.memory_lines.address_and_field.Goals as goal

pub returns : goal.returns
unfolding address_and_field
returns c =
    let x = c.args.rest.now in
    let address : c.hex_address.result ≡ Some c.in_ok-address.address = search rules in
    rw (lt-ltb 8 (length x) (omega arith), eq-eqb (get_or x 8 0) 0x2C c.if-rest-ne44.false, ← c.hex_address.ensures, address)
    (ap (λ (l : List ℕ). Some (c.in_ok-address.address, l)) (take_all (length x - 9) (drop 9 x) (simp length-drop (omega arith))))
