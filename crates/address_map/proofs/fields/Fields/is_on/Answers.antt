-- The bit that switches memory on is that of `setup_by`, by `and_mask`.
use Rattle.std.proofs.Common.{ℕ, ◌/◌, ◌^◌, eqb, ap}
use lib.Bits.{and_mask}
use Rattle.address_map.specs.CodeFields.{setup_by}
use Rattle.address_map.proofs.fields.Fields.is_on.Goals as goal

pub returns : goal.returns
unfolding setup_by
returns c =
    ap (λ (x : ℕ). eqb x 1) (and_mask (c.args.self.now.memory / 2 ^ 3) 1)
