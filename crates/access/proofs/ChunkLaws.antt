-- The lent cells as chunks of nine bytes: one is found at its number exactly if it is lent.
use mathlib.Core.Path.{◌≡◌, refl, ap, ◌∙◌}
use mathlib.Core.Bool.{true}
use mathlib.Core.List.{List}
use mathlib.Core.Option.{none}
use Prim.Native.Nat.{ℕ, zero, suc, ◌+◌, ◌*◌, ◌/◌, ◌<◌, ◌≤◌}
use native.Mathlib.Omega.{arith}
use denote.Ref.{Bor}
use borrow.Author.Tests.{lt-leb}
use lib.ListN.{length, get_or, take, drop}
use lib.Seq.{drop-drop}
use Rattle.std.proofs.Common.{Option, Some, None}
use Rattle.std.specs.Option.{MatchOption}
use Rattle.std.specs.Slice.{IsItemAt}
use Rattle.std.specs.Simd.{first_chunks}
use Rattle.ecc.specs.Lending.{cell_at, is_lent}
use Rattle.ecc.proofs.CellLaws.{fits_lent}
use Rattle.access.specs.CodeAccess.{lent_cell}

chunk_at : (n k : ℕ) (l d : List ℕ) → k < n → get_or (first_chunks 9 n l) k d ≡ take 9 (drop (9 * k) l)
chunk_at zero k l d h = absurd (omega arith)
chunk_at (suc n) zero l d h = refl
chunk_at (suc n) (suc k) l d h =
    let e : 9 + 9 * k ≡ 9 * suc k = omega arith in
    chunk_at n k (drop 9 l) d (omega arith) ∙ ap (take 9) (drop-drop (9 * k) 9 l ∙ ap (λ (i : ℕ). drop i l) e)

-- what looking it up gives
module _ (cells : List ℕ) (k : ℕ) (chunks : List (List ℕ)) (are : chunks ≡ first_chunks 9 (length cells / 9) cells) (count : length chunks ≡ length cells / 9) where
  pub cell_found : (o : Option (Bor (List ℕ))) → IsItemAt chunks k o
      → MatchOption o (lent_cell cells (Some k) ≡ none) (λ cell. (j : ℕ) × (Some k ≡ Some j) × (is_lent cells j ≡ true) × (cell.now ≡ cell_at cells j))
  unfolding is_lent cell_at
  cell_found None h =
      let out : length chunks ≤ k = h.3 in
      rw (lt-leb (9 * k + 9) (length cells) (omega arith))
  cell_found (Some x) h =
      let within : k < length chunks = h.3.0 in
      (k, refl, fits_lent cells k (omega arith), h.1 ∙ ap (λ (l : List (List ℕ)). get_or l k x.now) are ∙ chunk_at (length cells / 9) k cells x.now (omega arith))
