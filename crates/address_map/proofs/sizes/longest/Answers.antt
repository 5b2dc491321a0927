-- The table of the longest banks follows its rule, by `table_is`.
use Rattle.std.proofs.Common.{◌∙◌}
use Rattle.address_map.proofs.LongestLaws.{table_is}
use Rattle.address_map.proofs.sizes.longest.Goals as goal

pub returns : goal.returns
returns c = c.from.ensures ∙ table_is c.args.code c.requires
