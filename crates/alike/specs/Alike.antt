-- Alike: whether two records treat every address in the same way.
use Rattle.std.specs.Prelude.{ℕ, ◌^◌, Bool, true, false, not, ◌&&◌, ◌||◌, eqb, Result, Ok, Err}
use Rattle.basics.specs.Range.{every}
use Rattle.refusals.specs.Paper.{paper, ◌else◌, Outcome, refused, given, ◌gives◌}
use Rattle.refusals.specs.declared.Refusal.{Refusal}
use Rattle.banks.specs.declared.Bank.{Bank}
use Rattle.alike.specs.declared.Comparison.{Comparison}
use Rattle.alike.specs.declared.Comparison.TheVariants.{Alike, Different}
use Rattle.banks.specs.Setup.{Setup, bank}
use Rattle.banks.specs.Judge.{not_ready}
use Rattle.banks.specs.Map.{in_span, selected, row_of, column_of}

-- ALIKE-1: both banks give the address the same row and column
unfoldable pub same_place : ℕ → Bank → Bank → Bool
same_place a b c = eqb (row_of b a).0 (row_of c a).0 && eqb (column_of b a).0 (column_of c a).0

-- ALIKE-1: both map the address in the same way, to one bank, row and column or to none (bank 8); ALIKE-2: nothing else is compared
unfoldable pub same_at : Setup → Setup → ℕ → Bool
same_at s t a =
    eqb (selected s a) (selected t a) && (not (in_span s a) || same_place a (bank s (selected s a)) (bank t (selected s a)))

-- ALIKE-1: this holds at every address, of which MAP-1 allows 2^32
unfoldable pub alike : Setup → Setup → Bool
alike s t = every (same_at s t) (2 ^ 32)

-- ALIKE-3: REF-5 if either record is not ready
unfoldable pub compared : Setup → Setup → Outcome Bool
compared s t = not_ready s else not_ready t gives alike s t

-- FORM-7: the refusal as the rules number it, or yes or no
abbrev pub paper_comparison : Result Comparison Refusal → Outcome Bool
paper_comparison (Err x) = refused (paper x)
paper_comparison (Ok Alike) = given true
paper_comparison (Ok Different) = given false
