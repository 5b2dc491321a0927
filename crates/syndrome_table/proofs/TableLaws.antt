-- FORM-8: the table of the code has the definition's reading of every syndrome, by one test over its 256 entries, which is computed.
use mathlib.Core.Path.{◌≡◌, refl, sym, ap, ◌∙◌}
use mathlib.Core.List.{List, []}
use Prim.Native.Nat.{ℕ, ◌+◌, ◌*◌, ◌/◌, ◌%◌, ◌<◌}
use native.Mathlib.Omega.{arith}
use lib.ListN.{get_or, get_or-map}
use Rattle.std.specs.Prelude.{map}
use Rattle.std.specs.List.{range_with_len}
use Rattle.std.proofs.lemmas.List.FromFn.{get_or-map-range_with_len}
use Rattle.basics.specs.Range.{first, first_of}
use Rattle.ecc.specs.declared.Reading.{Reading}
use Rattle.ecc.specs.Columns.{columns}
use Rattle.ecc.specs.CheckCode.{flip_column, bit_reading, reading_of}
use Rattle.syndrome_table.specs.CodeTable.{reading_by}
use Rattle.syndrome_table.specs.declared.table.TheConstants.{SYNDROMES}

-- what the syndromes with this high digit mean, in the order of the low one
line : ℕ → List Reading
line high = map (λ low. reading_of columns (16 * high + low)) (range_with_len 0 16)

all_readings : map (map reading_by) SYNDROMES ≡ map line (range_with_len 0 16)
unfolding reading_of bit_reading first first_of flip_column line
all_readings = refl

-- ECC-6: each entry is that of its syndrome's reading
pub table_reads : (s : ℕ) (d : ℕ) → s < 256 → reading_by (get_or (get_or SYNDROMES (s / 16) []) (s % 16) d) ≡ reading_of columns s
unfolding line
table_reads s d h =
    let entries = get_or SYNDROMES (s / 16) [] in
    sym (get_or-map reading_by entries (s % 16) d)
    ∙ ap (λ (l : List Reading). get_or l (s % 16) (reading_by d)) (sym (get_or-map (map reading_by) SYNDROMES (s / 16) []))
    ∙ ap (λ (t : List (List Reading)). get_or (get_or t (s / 16) []) (s % 16) (reading_by d)) all_readings
    ∙ ap (λ (l : List Reading). get_or l (s % 16) (reading_by d)) (get_or-map-range_with_len line 0 16 (s / 16) (s / 16) [] (omega arith) (omega arith))
    ∙ get_or-map-range_with_len (λ low. reading_of columns (16 * (s / 16) + low)) 0 16 (s % 16) (s % 16) (reading_by d) (omega arith) (omega arith)
    ∙ ap (reading_of columns) (omega arith)
