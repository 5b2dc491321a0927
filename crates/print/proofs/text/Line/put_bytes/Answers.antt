-- The digits are those of `digit_pairs`; of them as many are put as there is room for (`cut_room`).
use Rattle.std.proofs.Common.{rules, arith, ◌≡◌, ◌≤◌, ◌-◌, ◌*◌, ◌+◌, ◌∙◌, ap, min, length, take, ◌++◌, List, ℕ}
use Rattle.std.proofs.lemmas.List.{length-take}
use Rattle.print.specs.CodePrinted.{cut, longest_output_line}
use Rattle.print.proofs.PrintLaws.{cut_room}
use Rattle.print.proofs.text.Line.put_bytes.Goals as goal

pub returns : goal.returns
returns c =
    let so_far = c.args.self.now.text.items in
    let digits = take (2 * length c.args.bytes.now) c.digit_pairs-pairs.result in
    let n = c.min-n.result in
    let few : length so_far ≤ longest_output_line = omega (arith, c.remaining_capacity.ensures) in
    let left : c.remaining_capacity.result ≡ longest_output_line - length so_far = omega (arith, c.remaining_capacity.ensures) in
    let room : n ≡ min (longest_output_line - length so_far) (length digits) = c.min-n.ensures ∙ ap (λ (m : ℕ). min m (length digits)) left in
    let fits : length so_far + length (take n digits) ≤ longest_output_line = simp length-take (omega (arith, room)) in
    let put : c.try_extend_from_slice.new.self.items ≡ so_far ++ take n digits = search (rules, fits) in
    put ∙ ap (λ (m : ℕ). so_far ++ take m digits) room ∙ cut_room so_far digits few ∙ ap (λ (l : List ℕ). cut (so_far ++ l)) c.digit_pairs-pairs.ensures
