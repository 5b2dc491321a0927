-- The entry of a syndrome, which is the one that the test over all entries was computed for.
use mathlib.Core.Path.{◌∙◌}
use native.Mathlib.Omega.{arith}
use Rattle.syndrome_table.proofs.TableLaws.{table_reads}
use Rattle.syndrome_table.proofs.reading.Goals as goal

pub returns : goal.returns
returns c = c.reading_by.ensures ∙ table_reads c.args.syndrome _ (omega arith)
