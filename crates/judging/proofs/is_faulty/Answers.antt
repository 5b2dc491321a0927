-- A bank is faulty if it is enabled and has no size, by `faulty_by`.
use Rattle.std.specs.Prelude.{Option, Some, None, is_some, is_none}
use Rattle.std.proofs.Common.{◌≡◌, ℕ, ◌%◌, Bool, true, false, not, refl, sym, ◌∙◌, arith}
use Rattle.address_map.specs.CodeFields.{setup_by}
use Rattle.address_map.proofs.PassLaws.{off_faulty, enabled_below, faulty_by}
use Rattle.judging.proofs.is_faulty.Goals as goal

none_is : (o : Option ℕ) (b : Bool) → is_some o ≡ not b → b ≡ is_none o
none_is None true e = refl
none_is None false e = cc
none_is (Some x) true e = cc
none_is (Some x) false e = refl

pub returns-then-is_enabled : goal.returns-then-is_enabled
returns-then-is_enabled c =
    let a = c.args in
    let on = sym c.is_enabled.ensures ∙ c.if-is_enabled.true in
    let same : a.n % 8 ≡ a.n = omega (arith, enabled_below a.fields.now a.n on) in
    none_is _ _ c.is_none.ensures ∙ rw (c.bits_unless_faulty.ensures, same) (faulty_by a.fields.now a.n on)

pub returns-else-is_enabled : goal.returns-else-is_enabled
returns-else-is_enabled c =
    let a = c.args in
    c.if-is_enabled.false ∙ sym (off_faulty (setup_by a.fields.now) a.n (sym c.is_enabled.ensures ∙ c.if-is_enabled.false))
