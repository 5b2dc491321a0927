-- The size of a bank is that of a sound one (`sound_bits`), or of a faulty one (`faulty_bits`).
use Prim.Native.Nat.{◌+◌, ◌*◌, ◌/◌, ◌%◌}
use mathlib.Core.Path.{◌≡◌, sym, ◌∙◌}
use native.Mathlib.Omega.{arith}
use lib.ListN.{get_or}
use borrow.Author.Tests.{lt-ltb, le-ltb}
use Rattle.address_map.specs.CodeFields.{code_by, enabled_by}
use Rattle.address_map.specs.CodeSelection.{megabyte_bits}
use Rattle.address_map.proofs.SetupLaws.{decoded_enabled}
use Rattle.address_map.proofs.SizeLaws.{few_bits}
use Rattle.judging.proofs.DecodingLaws.{sound_bits, faulty_known, faulty_bits}
use Rattle.judging.proofs.bits_in.Goals as goal

pub returns-in-Some : goal.returns-in-Some
returns-in-Some c =
    let a = c.args in
    let f = a.fields.now in
    let same : a.n % 8 ≡ a.n = omega arith in
    let e = sound_bits f a.n c.in-Some.bits (rw same at c.in-Some.ensures) in
    record { value = e; bound = omega (arith, e, few_bits (enabled_by f a.n) (decoded_enabled f a.n)) }

pub returns-then-last-start : goal.returns-then-last-start
returns-then-last-start c =
    let a = c.args in
    let f = a.fields.now in
    let n = a.n in
    let same : n % 8 ≡ n = omega arith in
    let law = faulty_bits f n (faulty_known f n (rw same at (sym c.in_default.is ∙ c.bits_unless_faulty.ensures))) in
    let code = rw same at c.row_code-code.ensures.value in
    let l = rw (c.last.ensures.value, c.start.ensures.value, same) at c.if-last-start.true in
    let e = code ∙ (rw (lt-ltb (get_or f.lasts n 0) (get_or f.starts n 0) l) at law) in
    record { value = e; bound = omega (arith, e, few_bits (enabled_by f n) (decoded_enabled f n)) }

pub returns : goal.returns
returns c =
    let a = c.args in
    let f = a.fields.now in
    let n = a.n in
    let same : n % 8 ≡ n = omega arith in
    let law = faulty_bits f n (faulty_known f n (rw same at (sym c.in_default.is ∙ c.bits_unless_faulty.ensures))) in
    let code : c.row_code-code.result ≡ code_by f n = rw same at c.row_code-code.ensures.value in
    let l = rw (c.last.ensures.value, c.start.ensures.value, same) at c.if-last-start.false in
    let e : 2 * c.row_code-code.result + 1 + c.row_code-code.result / 3 ≡ megabyte_bits (enabled_by f n) = rw code (rw (le-ltb (get_or f.lasts n 0) (get_or f.starts n 0) l) at law) in
    record { value = e; bound = omega (arith, e, few_bits (enabled_by f n) (decoded_enabled f n)) }
