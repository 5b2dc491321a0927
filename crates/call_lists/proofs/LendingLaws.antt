-- Lent bytes beyond those that a list of calls reaches change none of its answers. So a list that stays among the first few cells can be computed
-- with those alone.
use Prim.Native.Nat.{ℕ, ◌+◌, ◌-◌, ◌≤◌}
use mathlib.Core.Path.{◌≡◌, refl, sym, ap, ◌∙◌}
use mathlib.Core.Bool.{Bool, true, ◌&&◌}
use mathlib.Core.List.{List, [], ◌∷◌, ◌++◌}
use native.Mathlib.Omega.{arith}
use lib.ListN.{replicate, replicate-append-replicate}
use Rattle.basics.proofs.Bools.{and_left, and_right}
use Rattle.registers.specs.declared.Registers.{Registers}
use Rattle.calls.specs.Calls.{parts, Call, memory, read_register, write_register}
use Rattle.calls.specs.State.{State, state}
use Rattle.machine.proofs.LendingLaws.{longer, beside, reach, memory_longer}
use Rattle.call_lists.specs.Lists.{call, run}

module _ (cols : List ℕ) where
  -- a call reaches only cells that are lent
  unfoldable pub reach_of : State → Call → Bool
  reach_of st (memory c) = reach cols st (parts c)
  reach_of st (read_register o) = true
  reach_of st (write_register o v) = true

  -- each call of a list, at its turn
  unfoldable pub reach_all : State → List Call → Bool
  reach_all st [] = true
  reach_all st (c ∷ cs) = reach_of st c && reach_all (call cols st c).1 cs

module _ (cols more : List ℕ) where
  call_longer : (st : State) (c : Call) → reach_of cols st c ≡ true → call cols (longer more st) c ≡ beside more (call cols st c)
  unfolding call reach_of
  call_longer st (memory c) h = rw (memory_longer cols more st c h)
  call_longer st (read_register o) h = refl
  call_longer st (write_register o v) h = refl

  run_longer : (cs : List Call) (st : State) → reach_all cols st cs ≡ true → (run cols (longer more st) cs).0 ≡ (run cols st cs).0
  unfolding run reach_all
  run_longer [] st h = refl
  run_longer (c ∷ cs) st h =
      let rest = reach_all cols (call cols st c).1 cs in
      rw (call_longer st c (and_left (reach_of cols st c) rest h), run_longer cs (call cols st c).1 (and_right (reach_of cols st c) rest h))

-- a list that stays among the bytes of `cells`; among the first n of zero bytes
module _ (cols : List ℕ) (r : Registers) (cs : List Call) where
  pub run_first : (cells more : List ℕ) → reach_all cols (state r cells) cs ≡ true
      → (run cols (state r (cells ++ more)) cs).0 ≡ (run cols (state r cells) cs).0
  run_first cells more h = run_longer cols more cs (state r cells) h

  pub run_zeros : (n lent : ℕ) → n ≤ lent → reach_all cols (state r (replicate n 0)) cs ≡ true
      → (run cols (state r (replicate lent 0)) cs).0 ≡ (run cols (state r (replicate n 0)) cs).0
  run_zeros n lent l h =
      let e : lent ≡ n + (lent - n) = omega arith in
      ap (λ (xs : List ℕ). (run cols (state r xs) cs).0)
      (ap (λ (k : ℕ). replicate {A = ℕ} k 0) e ∙ sym (replicate-append-replicate {A = ℕ} n (lent - n) 0))
      ∙ run_first (replicate n 0) (replicate (lent - n) 0) h
