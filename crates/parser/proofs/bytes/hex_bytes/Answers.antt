-- `parser::hex_bytes`: the loop's bytes so far go before those that are left (`bytes_next`), and the bytes after them are still 0 (`zeros_later`).
use Rattle.std.proofs.Common.{rules, arith, ◌≡◌, ◌<◌, ◌+◌, ◌∙◌, ◌/◌, length, ap, sym, length-set, None, Some}
use lib.Seq.{drop-set-lt}
use Rattle.hex_digits.specs.Digits.{bytes_field}
use Rattle.parser.proofs.PaddedLaws.{zeros_later}
use Rattle.parser.proofs.ByteLaws.{bytes_are, bytes_empty, bytes_long, odd_bytes, bytes_next, bytes_stop, bytes_end}
use Rattle.parser.proofs.ParsedLaws.{written_as}
use Rattle.parser.proofs.bytes.hex_bytes.Goals as goal
use Rattle.parser.proofs.bytes.hex_bytes.Goals.{then-is_empty-via-then-is_empty, then-is_empty-via-else-is_empty+then-count-gt8, then-is_empty-via-else-is_empty+else-count-gt8+then-digits-ne0}

pub returns-then-is_empty : goal.returns-then-is_empty
returns-then-is_empty c =
    let x = c.args.digits.now in
    elim c.then-is_empty.branch [
      | then-is_empty-via-then-is_empty w ↦ rw (bytes_empty x (search rules))
      | then-is_empty-via-else-is_empty+then-count-gt8 w ↦ rw (bytes_long x (omega arith))
      | then-is_empty-via-else-is_empty+else-count-gt8+then-digits-ne0 w ↦ rw (odd_bytes x w.if-digits-ne0.true)
    ]

pub returns-in_err-bytes : goal.returns-in_err-bytes
returns-in_err-bytes c =
    let x = c.args.digits.now in
    let at = c.loop-i in
    let no_pair : c.hex_pair.result ≡ None = search rules in
    let no_bytes : bytes_field x ≡ None = bytes_are x (omega arith) (omega arith) ∙ at.invariant.2 ∙ bytes_stop x at.bytes at.i (omega arith) (sym c.hex_pair.ensures ∙ no_pair) in
    rw no_bytes (search rules)

pub loop-i-preserved : goal.loop-i-preserved
loop-i-preserved c =
    let x = c.args.digits.now in
    let at = c.loop-i in
    let p = c.in_ok-bytes.field-0 in
    let pair : c.hex_pair.result ≡ Some p = search rules in
    let later = zeros_later 8 at.i (at.i + 1) at.bytes (omega arith) at.invariant.3 in
    (omega arith, simp length-set at.invariant.1, at.invariant.2 ∙ bytes_next x at.bytes at.i p (omega arith) (omega arith) (sym c.hex_pair.ensures ∙ pair), drop-set-lt (at.i + 1) at.bytes at.i p (omega arith) ∙ later)

pub returns : goal.returns
returns c =
    let x = c.args.digits.now in
    let at = c.loop-i in
    let some : 0 < length x = grind arith in
    let all = bytes_are x some (omega arith) ∙ at.invariant.2 ∙ bytes_end x at.bytes at.i (omega arith) in
    let few : length x / 2 ≡ at.i = omega arith in
    rw (all, few) (ap Some (written_as at.i at.bytes (omega arith) at.invariant.3))
