-- An answer has four kinds at most, so the text is not cut (`kinds_so_far`).
use Rattle.std.proofs.Common.{rules, arith, ◌≡◌, ◌≤◌, length, ◌∷◌}
use Rattle.std.proofs.lemmas.List.{length-take}
use Rattle.calls.specs.Answers.{kinds_in}
use Rattle.print.specs.Output.{kinds_text}
use Rattle.print.proofs.PrintLaws.{kinds_so_far}
use Rattle.print.proofs.text.Line.kinds.Goals as goal

pub returns : goal.returns
returns c =
    let ks = c.args.kinds in
    let four : length ks.all ≡ 4 = search rules in
    let few : length (kinds_in ks) ≤ 4 = simp length-take (omega arith) in
    let whole = kinds_so_far c.args.letter (kinds_in ks) few in
    let text : c.put_kinds.new.self.text.items ≡ c.args.letter ∷ 0x2C ∷ 0x30 ∷ kinds_text (kinds_in ks) = rw (c.put_kinds.ensures, c.accepted-line.ensures, c.as_slice.ensures) whole.0 in
    record { text = text; few = rw text (omega arith) }
