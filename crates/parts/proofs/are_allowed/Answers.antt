-- Each of the four beats by its own cell.
use native.Mathlib.Omega.{arith}
use Rattle.parts.proofs.are_allowed.Goals as goal

pub returns : goal.returns
returns c =
    record {
      value =
          rw (
            c.is_allowed.ensures,
            c.beat_cell.ensures,
            c.is_allowed-2.ensures,
            c.beat_cell-2.ensures,
            c.is_allowed-3.ensures,
            c.beat_cell-3.ensures,
            c.is_allowed-4.ensures,
            c.beat_cell-4.ensures,
          );
      bound = omega arith;
    }
