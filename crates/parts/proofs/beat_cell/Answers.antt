-- The cell at the address of the beat.
use mathlib.Core.Path.{ap, ◌∙◌}
use Rattle.address_map.specs.CodeRoute.{cell_by}
use Rattle.parts.proofs.beat_cell.Goals as goal

pub returns : goal.returns
returns c =
    c.cell_at.ensures ∙ ap (cell_by c.args.to) c.beat_address.ensures
