-- The premises on a list as tests that compute, for concrete lists.
use Prim.Native.Nat.{ℕ, zero, suc, ◌/◌, ◌≤◌, ◌<◌, suc-le-suc}
use mathlib.Core.Path.{◌≡◌, refl}
use mathlib.Core.Bool.{Bool, true, false, not, ◌&&◌, ◌||◌}
use mathlib.Core.List.{List, [], ◌∷◌}
use native.Mathlib.Omega.{arith}
use native.Mathlib.Nat.{le_of_suc-le-suc, not-suc-le-zero}
use lib.Dec.{leb, eqb}
use borrow.Author.Tests.{eqb-true, leb-true}
use Rattle.basics.specs.Lists.{All}
use Rattle.basics.proofs.Bools.{and_left, and_right}
use Rattle.basics.proofs.RangeLaws.{by_cases, contra}
use Rattle.register_calls.specs.Calls.{within}
use Rattle.calls.specs.Calls.{Access, read_in, write_in, flip_in, scrub_in, Call, memory, read_register, write_register}
use Rattle.calls.specs.Spans.{Spans}
use Rattle.flat.specs.Comparison.{AtErrorRegisters, accepted_of, flips, renews, any_of, flipped_at, renewed_at, Spaced}

-- ---- register calls at B8 to CB only

unfoldable pub is_at_error_registers : Call → Bool
is_at_error_registers (memory c) = true
is_at_error_registers (read_register o) = within 0xB8 0xCB o
is_at_error_registers (write_register o v) = within 0xB8 0xCB o

unfoldable pub all_at_error_registers : List Call → Bool
all_at_error_registers [] = true
all_at_error_registers (c ∷ cs) = is_at_error_registers c && all_at_error_registers cs

between : (o : ℕ) → within 0xB8 0xCB o ≡ true → (0xB8 ≤ o) × (o ≤ 0xCB)
between o h = (leb-true 0xB8 o (and_left (leb 0xB8 o) (leb o 0xCB) h), leb-true o 0xCB (and_right (leb 0xB8 o) (leb o 0xCB) h))

at_error_registers : (c : Call) → is_at_error_registers c ≡ true → AtErrorRegisters c
unfolding is_at_error_registers
at_error_registers (memory c) h = tt
at_error_registers (read_register o) h = between o h
at_error_registers (write_register o v) h = between o h

pub all_at_error_registers_lem : (cs : List Call) → all_at_error_registers cs ≡ true → All AtErrorRegisters cs
unfolding all_at_error_registers
all_at_error_registers_lem [] h = tt
all_at_error_registers_lem (c ∷ cs) h =
    let here = is_at_error_registers c in
    let rest = all_at_error_registers cs in
    (at_error_registers c (and_left here rest h), all_at_error_registers_lem cs (and_right here rest h))

-- ---- flips of a doubleword with a write or a scrub between

module _ (spans : Spans) where
  -- before the next flip of doubleword q the list has a write or a scrub of it
  unfoldable pub renewed_before : ℕ → List Call → Bool
  renewed_before q [] = true
  renewed_before q (c ∷ cs) = not (any_of (flips q) (accepted_of spans c)) && (any_of (renews q) (accepted_of spans c) || renewed_before q cs)

  -- of each doubleword that the accesses flip
  unfoldable pub each_renewed : List Access → List Call → Bool
  each_renewed [] cs = true
  each_renewed (read_in a n ∷ xs) cs = each_renewed xs cs
  each_renewed (write_in a bs ∷ xs) cs = each_renewed xs cs
  each_renewed (flip_in a b ∷ xs) cs = renewed_before (a / 8) cs && each_renewed xs cs
  each_renewed (scrub_in a ∷ xs) cs = each_renewed xs cs

  unfoldable pub is_spaced : List Call → Bool
  is_spaced [] = true
  is_spaced (c ∷ cs) = each_renewed (accepted_of spans c) cs && is_spaced cs

  waits : (q : ℕ) (cs : List Call) → renewed_before q cs ≡ true
      → (j : ℕ) → flipped_at spans cs q j ≡ true → (k : ℕ) × (k < j) × (renewed_at spans cs q k ≡ true)
  unfolding renewed_before any_of
  waits q [] h j e = contra e refl
  waits q (c ∷ cs) h j e =
      let renewed = any_of (renews q) (accepted_of spans c) in
      let unflipped = not (any_of (flips q) (accepted_of spans c)) in
      go j e (and_left unflipped (renewed || renewed_before q cs) h) renewed refl (and_right unflipped (renewed || renewed_before q cs) h) (waits q cs)
    where
      go : (j : ℕ) → flipped_at spans (c ∷ cs) q j ≡ true → not (any_of (flips q) (accepted_of spans c)) ≡ true
          → (t : Bool) → any_of (renews q) (accepted_of spans c) ≡ t → (t || renewed_before q cs) ≡ true
          → (renewed_before q cs ≡ true → (i : ℕ) → flipped_at spans cs q i ≡ true → (k : ℕ) × (k < i) × (renewed_at spans cs q k ≡ true))
          → (k : ℕ) × (k < j) × (renewed_at spans (c ∷ cs) q k ≡ true)
      go zero e n t u w later = contra (rw e at n) refl
      go (suc j) e n true u w later = (0, omega arith, u)
      go (suc j) e n false u w later = let r = later w j e in (suc r.0, suc-le-suc r.1, r.2)

  each_waits : (q : ℕ) (xs : List Access) (cs : List Call) → each_renewed xs cs ≡ true → any_of (flips q) xs ≡ true → renewed_before q cs ≡ true
  unfolding each_renewed any_of flips
  each_waits q [] cs h e = contra e refl
  each_waits q (read_in a n ∷ xs) cs h e = each_waits q xs cs h e
  each_waits q (write_in a bs ∷ xs) cs h e = each_waits q xs cs h e
  each_waits q (scrub_in a ∷ xs) cs h e = each_waits q xs cs h e
  each_waits q (flip_in a b ∷ xs) cs h e =
      by_cases (eqb (a / 8) q) (λ t. rw (eqb-true (a / 8) q t) at (and_left (renewed_before (a / 8) cs) (each_renewed xs cs) h))
      (λ t. each_waits q xs cs (and_right (renewed_before (a / 8) cs) (each_renewed xs cs) h) (rw t at e))

  pub spaced : (cs : List Call) → is_spaced cs ≡ true → Spaced spans cs
  unfolding is_spaced Spaced any_of
  spaced [] h q i j l e f = contra e refl
  spaced (c ∷ cs) h q i zero l e f = absurd (not-suc-le-zero l)
  spaced (c ∷ cs) h q zero (suc j) l e f =
      let r = waits q cs (each_waits q (accepted_of spans c) cs (and_left (each_renewed (accepted_of spans c) cs) (is_spaced cs) h) e) j f in
      (suc r.0, omega arith, suc-le-suc r.1, r.2)
  spaced (c ∷ cs) h q (suc i) (suc j) l e f =
      let r = spaced cs (and_right (each_renewed (accepted_of spans c) cs) (is_spaced cs) h) q i j (le_of_suc-le-suc l) e f in
      (suc r.0, suc-le-suc r.1, suc-le-suc r.2, r.3)
