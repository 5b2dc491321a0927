use Rattle.address_map.proofs.PassLaws.{Going}
use Rattle.address_map.proofs.fields.Fields.select.Given as goal

abbrev pub invariant-loop-rest : goal.invariant-loop-rest
invariant-loop-rest l =
    Going l.self l.mb l.rest l.bank l.first l.bits l.base l.end l.ascent

abbrev pub decreases-loop-rest : goal.decreases-loop-rest
decreases-loop-rest l =
    l.rest
