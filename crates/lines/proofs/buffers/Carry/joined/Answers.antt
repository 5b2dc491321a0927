-- `Carry::joined`: both parts copied over zeros are what is carried (`joined_is`).
use Rattle.std.proofs.Common.{rules, arith, ◌≡◌, ◌∙◌, ◌-◌, ◌≤◌, ap, min, length, length-take, take, List, ℕ, ◌++◌}
use Rattle.lines.specs.Text.{most_carried}
use Rattle.lines.specs.CodeStepped.{carry_of}
use Rattle.lines.proofs.StepLaws.{joined_is}
use Rattle.lines.proofs.buffers.Carry.joined.Goals as goal

pub returns : goal.returns
returns c =
    let start = c.as_slice-start.result.now in
    let part = c.args.part.now in
    let kept = c.args.self.now in
    let size : length kept.bytes ≡ most_carried = search (rules, c.well_formed) in
    let few : length start ≤ most_carried = omega (arith, ap length c.as_slice-start.ensures, length-take kept.len kept.bytes) in
    let room : c.min.result ≡ min (most_carried - length start) (length part) = search rules in
    joined_is c.min.result _ start part c.copy_from_slice.new.self c.copy_from_slice-2.new.self few room (omega arith) c.copy_from_slice.ensures.after c.copy_from_slice-2.ensures.after
    ∙ ap (λ (l : List ℕ). carry_of (take most_carried (l ++ part))) c.as_slice-start.ensures
