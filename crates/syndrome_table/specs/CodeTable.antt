-- What an entry of the code's table stands for. Only contracts use it.
use Rattle.std.specs.Prelude.{ℕ, cond, eqb}
use Rattle.ecc.specs.declared.Reading.{Reading}
use Rattle.ecc.specs.declared.Reading.TheVariants.{Clean, Corrected, Uncorrectable}

-- FORM-8: a flip bit stands for "corrected" at that bit; the two readings that have none are 72 and 73
abbrev pub reading_by : ℕ → Reading
reading_by e = cond (eqb e 72) Clean (cond (eqb e 73) Uncorrectable (Corrected e))
