-- A count that passes the last address crosses the end of its doubleword, so that both tests together are the definition's second.
use Prim.Native.Nat.{ℕ, ◌+◌, ◌^◌, ◌≤◌}
use mathlib.Core.Bool.{false, ◌||◌}
use mathlib.Core.Path.{◌≡◌, ◌∙◌}
use native.Mathlib.Omega.{arith}
use lib.Dec.{ltb, eqb}
use borrow.Author.Tests.{lt-ltb, le-ltb, ltb-true, ltb-false}
use Rattle.basics.proofs.Bools.{or_right, and_right, and_not}
use Rattle.basics.proofs.RangeLaws.{by_cases}
use Rattle.calls.specs.Calls.{crosses}
use Rattle.calls.specs.Spans.{by_count}
use Rattle.calls.proofs.SplitLaws.{inside_fits}
use Rattle.access.proofs.arguments.judge_count.Goals as goal

few : (n : ℕ) → (eqb n 0 || ltb 8 n) ≡ false → n ≤ 8
few n h = ltb-false 8 n (or_right (eqb n 0) (ltb 8 n) h)

pub returns-then-count : goal.returns-then-count
unfolding by_count
returns-then-count c = simp c.if-count.true

pub overflow_add-address : goal.overflow_add-address
overflow_add-address c =
    omega (arith, few c.args.count c.if-count.false)

pub returns-then-crosses_end-address : goal.returns-then-crosses_end-address
unfolding by_count
returns-then-crosses_end-address c =
    let a = c.args in
    rw (c.if-count.false, lt-ltb (2 ^ 32) (a.address + a.count) (omega (arith, few a.count c.if-count.false, ltb-true (2 ^ 32) (a.address + a.count) (and_right c.crosses_end.result (ltb (2 ^ 32) (a.address + a.count)) c.if-crosses_end-address.true))))

pub returns : goal.returns
unfolding by_count
returns c =
    let a = c.args in
    let enough = few a.count c.if-count.false in
    let last : a.address + a.count ≤ 2 ^ 32 =
    by_cases (crosses a.address a.count)
    (λ t. omega (arith, ltb-false (2 ^ 32) (a.address + a.count) (and_not c.crosses_end.result (ltb (2 ^ 32) (a.address + a.count)) c.if-crosses_end-address.false (c.crosses_end.ensures ∙ t))))
    (λ t. omega (arith, inside_fits a.address a.count t)) in
    rw (c.if-count.false, le-ltb (2 ^ 32) (a.address + a.count) last)
