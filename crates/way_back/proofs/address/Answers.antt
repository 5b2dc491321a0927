-- The number found is `doubleword_for`, because the shifted one is a power of two (`one_shl`). Within the span it is that of the address
-- (`address_given_lem`); if it is beyond, there is no address (`address_none`).
use Prim.Native.Nat.{ℕ, ◌+◌, ◌*◌, ◌%◌, ◌^◌, ◌≤◌, ◌<◌}
use mathlib.Core.Path.{◌≡◌, sym, ap, ◌∙◌}
use native.Mathlib.Omega.{arith}
use Rattle.basics.proofs.Shifts.{one_shl}
use Rattle.refusals.specs.Paper.{given}
use Rattle.banks.specs.Map.{cells}
use Rattle.banks.proofs.FieldLaws.{cells_most}
use Rattle.way_back.specs.WayBack.{span_end}
use Rattle.way_back.proofs.WayBackLaws.{cell_in_bank_at, doubleword_for, address_given_lem, address_none}
use Rattle.way_back.proofs.address.Goals as goal

pub next_doubleword-d-requires : goal.next_doubleword-d-requires
unfolding cells
next_doubleword-d-requires c =
    let b = c.args.b in
    rw (one_shl 32 (b.row_bits + b.column_bits) (omega arith)) (omega arith, cells_most b c.requires.0, c.cell_in_bank_at.ensures.bound)

pub returns-then-d-b : goal.returns-then-d-b
unfolding span_end cells
returns-then-d-b c =
    let a = c.args in
    let h = c.requires.1 in
    let d = c.next_doubleword-d.result in
    let s : a.b.start * 2 ^ 17 % 2 ^ 32 ≡ a.b.start * 2 ^ 17 = omega arith in
    let e : d ≡ doubleword_for a.b (cell_in_bank_at a.b a.row a.column) = simp (s, one_shl 32 (a.b.row_bits + a.b.column_bits) (omega arith), c.cell_in_bank_at.ensures.value) at c.next_doubleword-d.ensures.value in
    let u : d * 2 ^ 3 % 2 ^ 32 ≡ 8 * d = omega arith in
    let l : d < (a.b.last + 1) * 2 ^ 17 = omega arith in
    ap given (u ∙ ap (λ (x : ℕ). 8 * x) e) ∙ sym (address_given_lem a.b a.row a.column h (rw e at l))

pub returns-else-d-b : goal.returns-else-d-b
unfolding span_end cells
returns-else-d-b c =
    let a = c.args in
    let h = c.requires.1 in
    let d = c.next_doubleword-d.result in
    let s : a.b.start * 2 ^ 17 % 2 ^ 32 ≡ a.b.start * 2 ^ 17 = omega arith in
    let e : d ≡ doubleword_for a.b (cell_in_bank_at a.b a.row a.column) = simp (s, one_shl 32 (a.b.row_bits + a.b.column_bits) (omega arith), c.cell_in_bank_at.ensures.value) at c.next_doubleword-d.ensures.value in
    let l : (a.b.last + 1) * 2 ^ 17 ≤ d = omega arith in
    sym (address_none a.b a.row a.column h (rw e at l))
