-- What is known is what the precondition says (`le-leb`); otherwise it is what `none_meets` finds.
use Rattle.std.proofs.Common.{sym, le-leb}
use Rattle.address_map.proofs.fields.Fields.is_apart.Goals as goal

pub returns-then-known : goal.returns-then-known
returns-then-known c = sym (le-leb 8 _ (c.requires c.if-known.true))

pub returns : goal.returns
returns c = c.none_meets.ensures
