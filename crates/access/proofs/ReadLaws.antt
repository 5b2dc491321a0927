-- A read, out of the eight bytes that were fetched.
use Prim.Native.Nat.{ℕ, zero, suc, ◌+◌, ◌-◌, ◌%◌, ◌≤◌}
use mathlib.Core.Path.{◌≡◌, refl, ap, ◌∙◌}
use mathlib.Core.List.{List, ◌∷◌}
use mathlib.Core.Option.{Option, none, some}
use native.Mathlib.Omega.{arith}
use lib.ListN.{take, drop, replicate}
use Rattle.registers.specs.declared.Registers.{Registers}
use Rattle.ecc.specs.Columns.{columns}
use Rattle.calls.specs.declared.Kind.{Kind}
use Rattle.calls.specs.Calls.{read_in, AccessAnswer, got}
use Rattle.calls.specs.Spans.{missed}
use Rattle.calls.specs.State.{State, state}
use Rattle.machine.specs.Cells.{read_cell, on_cell}
use Rattle.machine.specs.Calls.{on_target, access_at}
use Rattle.access.proofs.FetchLaws.{GivenBy, by_none, by_cell}

drop_same : (o m v : ℕ) → drop o (replicate m v) ≡ replicate (m - o) v
drop_same zero m v = let all : m - 0 ≡ m = omega arith in rw all
drop_same (suc o) zero v = let none_left : 0 - suc o ≡ 0 = omega arith in rw none_left
drop_same (suc o) (suc m) v = let same : suc m - suc o ≡ m - o = omega arith in drop_same o m v ∙ rw same

take_same : (n m v : ℕ) → n ≤ m → take n (replicate m v) ≡ replicate n v
take_same zero m v h = refl
take_same (suc n) zero v h = absurd (omega arith)
take_same (suc n) (suc m) v h = ap (λ (x : List ℕ). v ∷ x) (take_same n m v (omega arith))

-- MEM-9: without a bank each byte is FF
same_taken : (o n v : ℕ) → o + n ≤ 8 → take n (drop o (replicate 8 v)) ≡ replicate n v
same_taken o n v h = ap (take n) (drop_same o 8 v) ∙ take_same n (8 - o) v (omega arith)

module _ (st : State) (a n : ℕ) (kind : Kind) (d : List ℕ) (r : Registers) (fits : a % 8 + n ≤ 8) where
  pub fetched_read : (o : Option ℕ) → GivenBy st a kind d r o
      → ◌≡◌ {A = AccessAnswer × State} (got kind (take n (drop (a % 8) d)), state r st.cells) (access_at columns o st (read_in a n))
  unfolding access_at on_target missed on_cell read_cell
  fetched_read none e =
      let is = by_none st a kind d r e in
      rw (is.0, is.1, is.2, same_taken (a % 8) n 0xFF fits)
  fetched_read (some k) e =
      let is = by_cell st a kind d r k e in
      rw (is.0, is.1, is.2)
