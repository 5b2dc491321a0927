-- LIST-6: a burst write renews every doubleword of its cache line, and no other.
use Prim.Native.Nat.{ℕ, ◌+◌, ◌*◌, ◌/◌, ◌%◌}
use mathlib.Core.Path.{◌≡◌, sym, ◌∙◌}
use mathlib.Core.Logic.{◌≢◌}
use mathlib.Core.Bool.{true, false}
use mathlib.Core.List.{List}
use native.Mathlib.Omega.{arith}
use borrow.Author.Tests.{eqb-false, ne_eqb}
use lib.Dec.{eqb}
use Rattle.basics.proofs.RangeLaws.{by_cases}
use Rattle.calls.specs.Calls.{burst_write, beat_address, parts}
use Rattle.calls.proofs.BeatLaws.{beat_in_line, beat_doubleword}
use Rattle.flat.specs.Comparison.{renews, any_of}

module _ (a q : ℕ) (bs : List ℕ) where
  abbrev not_at : ℕ → Type 0
  not_at i = eqb (beat_address a i / 8) q ≡ false

  -- which of the line's doublewords q is, if it is not that of beat i
  other_than : (i : ℕ) → not_at i → q ≢ 4 * (a / 32) + (a / 8 + i) % 4
  other_than i t e = eqb-false (beat_address a i / 8) q t (beat_doubleword a i ∙ sym e)

  -- one of the four beats is at q
  some_beat : q / 4 ≡ a / 32 → not_at 0 → not_at 1 → not_at 2 → not_at 3 → ⊥
  some_beat h t u v w = absurd (omega (arith, other_than 0 t, other_than 1 u, other_than 2 v, other_than 3 w))

  pub burst_renews : q / 4 ≡ a / 32 → any_of (renews q) (parts (burst_write a bs)) ≡ true
  unfolding parts any_of renews
  burst_renews h =
      by_cases (eqb (beat_address a 0 / 8) q) (λ t. rw t)
      (λ t.
      by_cases (eqb (beat_address a 1 / 8) q) (λ u. rw (t, u))
      (λ u. by_cases (eqb (beat_address a 2 / 8) q) (λ v. rw (t, u, v)) (λ v. by_cases (eqb (beat_address a 3 / 8) q) (λ w. rw (t, u, v, w)) (λ w. absurd (some_beat h t u v w)))))

  pub burst_renews_no_other : q / 4 ≢ a / 32 → any_of (renews q) (parts (burst_write a bs)) ≡ false
  unfolding parts any_of renews
  burst_renews_no_other n =
      let other : (i : ℕ) → eqb (beat_address a i / 8) q ≡ false = λ i. ne_eqb (beat_address a i / 8) q (λ e. n (omega (arith, e, beat_in_line a i))) in
      rw (other 0, other 1, other 2, other 3)
