-- An enabled bank meets a lower one if it is not clear of them; a disabled one meets none.
use Rattle.std.proofs.Common.{sym, ◌∙◌}
use Rattle.basics.proofs.RangeLaws.{by_cases}
use Rattle.banks.specs.Judge.{meets_lower}
use Rattle.address_map.specs.CodeFields.{setup_by}
use Rattle.address_map.proofs.PassLaws.{enabled_below}
use Rattle.address_map.proofs.fields.Fields.meets_lower.Goals as goal

pub is_clear-requires : goal.is_clear-requires
is_clear-requires c =
    let a = c.args in
    enabled_below a.self.now a.n (sym c.is_enabled.ensures ∙ c.if-is_enabled.true)

pub returns-then-is_enabled : goal.returns-then-is_enabled
returns-then-is_enabled c =
    let a = c.args in
    rw c.is_clear.ensures (by_cases (meets_lower (setup_by a.self.now) a.n) (λ t. rw t) (λ t. rw t))

pub returns : goal.returns
unfolding meets_lower
returns c =
    let off = sym c.is_enabled.ensures ∙ c.if-is_enabled.false in rw off
