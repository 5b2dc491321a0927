-- `parser::parse`: a line that is too short, too long or without its comma asks for nothing (`parse_short`, `parse_long`, `parse_unparted`); of any
-- other the letter decides (`parse_letter`).
use Rattle.std.proofs.Common.{rules, arith, ◌≡◌, ◌-◌, get_or, length, drop, length-drop}
use lib.Seq.{take_all}
use Rattle.parser.proofs.FormatLaws.{parse_short, parse_long, parse_unparted, parse_letter}
use Rattle.parser.proofs.parse.Goals as goal

pub returns-in-44 : goal.returns-in-44
returns-in-44 c =
    let x = c.args.line.now in
    let comma : get_or x 1 0 ≡ 0x2C = search rules in
    rw (parse_letter x c.in-44.len_at_least c.if-line-gt-LONGEST_INPUT_LINE.false comma, ← take_all (length x - 2) (drop 2 x) (simp length-drop (omega arith))) c.by_letter.ensures
