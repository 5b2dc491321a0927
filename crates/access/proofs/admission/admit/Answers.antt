-- Not ready by the route, and otherwise as the arguments have it.
use borrow.Author.Tests.{lt-ltb, le-ltb}
use native.Mathlib.Omega.{arith}
use Rattle.address_map.specs.CodeRoute.{bank_in}
use Rattle.access.proofs.admission.admit.Goals as goal

pub returns-then-bank_of-gt-NO_BANK : goal.returns-then-bank_of-gt-NO_BANK
returns-then-bank_of-gt-NO_BANK c =
    rw (lt-ltb 8 (bank_in c.args.to) (omega (arith, c.bank_of.ensures, c.if-bank_of-gt-NO_BANK.true)))

pub returns : goal.returns
returns c =
    rw (le-ltb 8 (bank_in c.args.to) (omega (arith, c.bank_of.ensures, c.if-bank_of-gt-NO_BANK.false)))
