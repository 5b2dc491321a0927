-- Refusal 9 as the code judges it, for one, two and four accesses; and what may be accessed.
use Prim.Native.Nat.{ℕ, ◌+◌, ◌*◌, ◌^◌, ◌<◌}
use mathlib.Core.Path.{◌≡◌, refl, sym, ◌∙◌}
use mathlib.Core.Bool.{Bool, true, false, ◌&&◌}
use mathlib.Core.List.{List, [], ◌∷◌}
use mathlib.Core.Option.{none, some}
use native.Mathlib.Omega.{arith}
use borrow.Author.Tests.{eqb-true, lt-leb}
use lib.Dec.{eqb}
use lib.ListN.{length}
use Rattle.std.specs.Prelude.{Some, None}
use Rattle.std.specs.Prelude as code
use Rattle.basics.proofs.Bools.{or_left, or_right}
use Rattle.basics.proofs.RangeLaws.{by_cases, contra}
use Rattle.refusals.specs.Paper.{Declined, ◌else◌}
use Rattle.refusals.proofs.ChainLaws.{else_none, else_assoc}
use Rattle.ecc.specs.Lending.{is_within, is_lent}
use Rattle.calls.specs.Calls.{Access}
use Rattle.machine.specs.Calls.{unlent_at}
use Rattle.address_map.specs.CodeRoute.{target_of}
use Rattle.access.specs.CodeAccess.{lent_cell}
use Rattle.access.specs.CodeAccess.{is_allowed}
use Rattle.targets.specs.CodeTargets.{unlent_any}

-- a test decides refusal 9
abbrev pub Judges : Bool → Declined → Type 0
Judges t d = (t ≡ true → d ≡ none) × (t ≡ false → d ≡ some (9 ∷ []))

pub judges_both : (t u : Bool) (d e : Declined) → Judges t d → Judges u e → Judges (t && u) (d else e)
judges_both true u d e p q = let free : d ≡ none = p.0 refl in rw free q
judges_both false u d e p q = let refuses : d ≡ some (9 ∷ []) = p.1 refl in (λ t. contra t refl, λ t. rw refuses)

-- what may be accessed is a lent cell, or none is meant
pub allowed_lent : (cells : List ℕ) (k : code.Option ℕ) → is_allowed (length cells) k ≡ true → lent_cell cells k ≡ target_of k
unfolding is_lent
allowed_lent cells None t = refl
allowed_lent cells (Some k) t = rw t

pub judges_one : (cells : List ℕ) (k : code.Option ℕ) → Judges (is_allowed (length cells) k) (unlent_at (target_of k) cells)
unfolding unlent_at is_lent
judges_one cells None = (λ t. refl, λ t. contra refl t)
judges_one cells (Some k) = (λ t. rw t, λ t. rw t)

module _ (cells : List ℕ) (k l : code.Option ℕ) (x y : Access) where
  pub one_judged : Judges (is_allowed (length cells) k) (unlent_any cells ((target_of k, x) ∷ []))
  unfolding unlent_any
  one_judged = rw (else_none (unlent_at (target_of k) cells)) (judges_one cells k)

  pub two_judged : Judges (is_allowed (length cells) k && is_allowed (length cells) l) (unlent_any cells ((target_of k, x) ∷ (target_of l, y) ∷ []))
  unfolding unlent_any
  two_judged =
      rw (else_none (unlent_at (target_of l) cells)) (judges_both _ _ _ _ (judges_one cells k) (judges_one cells l))

  pub four_judged : (m n : code.Option ℕ) (z w : Access)
      → Judges ((is_allowed (length cells) k && is_allowed (length cells) l) && (is_allowed (length cells) m && is_allowed (length cells) n))
      (unlent_any cells ((target_of k, x) ∷ (target_of l, y) ∷ (target_of m, z) ∷ (target_of n, w) ∷ []))
  unfolding unlent_any
  four_judged m n z w =
      rw (else_none (unlent_at (target_of n) cells), ← else_assoc (unlent_at (target_of k) cells) (unlent_at (target_of l) cells) (unlent_at (target_of m) cells else unlent_at (target_of n) cells))
      (judges_both _ _ _ _ (judges_both _ _ _ _ (judges_one cells k) (judges_one cells l)) (judges_both _ _ _ _ (judges_one cells m) (judges_one cells n)))

-- what is meant by k is the target j, as many bytes being lent as when j was judged
pub lent_target : (cells : List ℕ) (n : ℕ) → length cells ≡ n → (k j : code.Option ℕ) → k ≡ j → is_allowed n j ≡ true → lent_cell cells k ≡ target_of j
lent_target cells n is k j same t = rw same (allowed_lent cells j (rw is t))
