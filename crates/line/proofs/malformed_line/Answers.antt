-- `line::malformed_line`: what `verdict_line` prints of refusal 18 is the text of a malformed line (`malformed_text_lem`), and there is room (`print_start`).
use native.Mathlib.Omega.{arith}
use mathlib.Core.Path.{ap, ◌∙◌}
use mathlib.Core.List.{List}
use Prim.Native.Nat.{ℕ}
use Rattle.print.specs.Output.{malformed_text}
use Rattle.print.specs.CodePrinted.{print_into}
use Rattle.print.proofs.PrintLaws.{print_start, malformed_text_lem}
use Rattle.line.proofs.malformed_line.Goals as goal

pub returns : goal.returns
returns c =
    let out = c.args.out.now in
    c.verdict_line.ensures ∙ ap (λ (t : List ℕ). print_into t out) malformed_text_lem ∙ print_start malformed_text out (omega arith)
