-- What the code leaves once it has its targets: refused with 9, or one, two or four accesses performed and answered.
use Prim.Native.Nat.{ℕ, ◌^◌, ◌<◌}
use mathlib.Core.Path.{◌≡◌, refl}
use mathlib.Core.Bool.{Bool, true, false}
use mathlib.Core.List.{List, [], ◌∷◌, ◌++◌, append-nil}
use mathlib.Core.Option.{Option}
use lib.ListN.{length}
use Rattle.std.specs.Prelude as code
use Rattle.refusals.specs.Paper.{given}
use Rattle.ecc.specs.Columns.{columns}
use Rattle.calls.specs.declared.Kind.{Kind}
use Rattle.calls.specs.declared.Kinds.{Kinds}
use Rattle.refusals.specs.declared.Refusal.TheVariants.{NotLent}
use Rattle.std.specs.Prelude.{Ok, Err}
use Rattle.calls.specs.Calls.{Access, AccessAnswer}
use Rattle.calls.specs.State.{State}
use Rattle.calls.specs.Answers.{kinds_in, leaves, effect_of}
use Rattle.machine.specs.Calls.{access_at}
use Rattle.address_map.specs.CodeRoute.{target_of}
use Rattle.access.specs.CodeAccess.{lent_cell}
use Rattle.access.specs.CodeAccess.{is_allowed}
use Rattle.targets.specs.CodeTargets.{Target, unlent_any, accesses_at, performed_at, carried_out}
use Rattle.targets.proofs.LendingLaws.{Judges, lent_target}

module _ (st : State) (ts : List Target) {t : Bool} (judged : Judges t (unlent_any st.cells ts)) where
  pub nine_left : t ≡ false → (buffer : List ℕ) → leaves (Err NotLent) st buffer ≡ effect_of (carried_out st ts) buffer
  unfolding performed_at
  nine_left out buffer = rw (judged.1 out)

  carried : t ≡ true → carried_out st ts ≡ (given (accesses_at st ts).0, (accesses_at st ts).1)
  unfolding performed_at
  carried in_all = rw (judged.0 in_all)

-- what an access to o gives and leaves
abbrev pub Does : State → Option ℕ → Access → AccessAnswer → State → Type 0
Does st o x g next = ◌≡◌ {A = AccessAnswer × State} (g, next) (access_at columns o st x)

-- an access to what is meant by k, as many bytes being lent as when its target j was judged
pub on_target_lem : (st next : State) (k : code.Option ℕ) (x : Access) (g : AccessAnswer) → Does st (lent_cell st.cells k) x g next → (n : ℕ) → length st.cells ≡ n
    → (j : code.Option ℕ) → k ≡ j → is_allowed n j ≡ true → (y : Access) → x ≡ y → Does st (target_of j) y g next
on_target_lem st next k x g does n is j same t y e = rw (← e, ← lent_target st.cells n is k j same t) does

one_more : (st next : State) (o : Option ℕ) (x : Access) (g : AccessAnswer) (ts : List Target) → Does st o x g next
    → accesses_at st ((o, x) ∷ ts) ≡ (g ∷ (accesses_at next ts).0, (accesses_at next ts).1)
unfolding accesses_at
one_more st next o x g ts does = rw (← does)

no_more : (st : State) → accesses_at st [] ≡ ([], st)
unfolding accesses_at
no_more st = refl

module _ (s₀ s₁ : State) (o : Option ℕ) (x : Access) {t : Bool} (judged : Judges t (unlent_any s₀.cells ((o, x) ∷ []))) (in_all : t ≡ true)
    {g : AccessAnswer} (does : Does s₀ o x g s₁) where
  pub one_left : (kinds : Kinds) {k : Kind} (buffer new : List ℕ) → kinds_in kinds ≡ k ∷ [] → k ≡ g.kind → new ≡ g.bytes
      → leaves (Ok kinds) s₁ new ≡ effect_of (carried_out s₀ ((o, x) ∷ [])) buffer
  one_left kinds buffer new answers k e =
      rw (carried s₀ _ judged in_all, one_more s₀ s₁ o x g [] does, no_more s₁, answers, k, e, append-nil g.bytes)

module _ (s₀ s₁ s₂ : State) (o p : Option ℕ) (x y : Access) {t : Bool} (judged : Judges t (unlent_any s₀.cells ((o, x) ∷ (p, y) ∷ []))) (in_all : t ≡ true)
    {g h : AccessAnswer} (does : Does s₀ o x g s₁) (does-next : Does s₁ p y h s₂) where
  pub two_left : (kinds : Kinds) {k l : Kind} (buffer new : List ℕ) → kinds_in kinds ≡ k ∷ l ∷ [] → k ≡ g.kind → l ≡ h.kind
      → new ≡ g.bytes ++ (h.bytes ++ []) → leaves (Ok kinds) s₂ new ≡ effect_of (carried_out s₀ ((o, x) ∷ (p, y) ∷ [])) buffer
  two_left kinds buffer new answers k l e =
      rw (carried s₀ _ judged in_all, one_more s₀ s₁ o x g ((p, y) ∷ []) does, one_more s₁ s₂ p y h [] does-next, no_more s₂, answers, k, l, e)

module _ (s₀ s₁ s₂ s₃ s₄ : State) (o₀ o₁ o₂ o₃ : Option ℕ) (x₀ x₁ x₂ x₃ : Access) {t : Bool}
    (judged : Judges t (unlent_any s₀.cells ((o₀, x₀) ∷ (o₁, x₁) ∷ (o₂, x₂) ∷ (o₃, x₃) ∷ []))) (in_all : t ≡ true)
    {g₀ g₁ g₂ g₃ : AccessAnswer} (d₀ : Does s₀ o₀ x₀ g₀ s₁) (d₁ : Does s₁ o₁ x₁ g₁ s₂) (d₂ : Does s₂ o₂ x₂ g₂ s₃) (d₃ : Does s₃ o₃ x₃ g₃ s₄) where
  pub four_left : (kinds : Kinds) {k₀ k₁ k₂ k₃ : Kind} (buffer new : List ℕ) → kinds_in kinds ≡ k₀ ∷ k₁ ∷ k₂ ∷ k₃ ∷ []
      → k₀ ≡ g₀.kind → k₁ ≡ g₁.kind → k₂ ≡ g₂.kind → k₃ ≡ g₃.kind → new ≡ g₀.bytes ++ (g₁.bytes ++ (g₂.bytes ++ (g₃.bytes ++ [])))
      → leaves (Ok kinds) s₄ new ≡ effect_of (carried_out s₀ ((o₀, x₀) ∷ (o₁, x₁) ∷ (o₂, x₂) ∷ (o₃, x₃) ∷ [])) buffer
  four_left kinds buffer new answers k₀ k₁ k₂ k₃ e =
      rw (
        carried s₀ _ judged in_all,
        one_more s₀ s₁ o₀ x₀ g₀ ((o₁, x₁) ∷ (o₂, x₂) ∷ (o₃, x₃) ∷ []) d₀,
        one_more s₁ s₂ o₁ x₁ g₁ ((o₂, x₂) ∷ (o₃, x₃) ∷ []) d₁,
        one_more s₂ s₃ o₂ x₂ g₂ ((o₃, x₃) ∷ []) d₂,
        one_more s₃ s₄ o₃ x₃ g₃ [] d₃,
        no_more s₄,
        answers,
        k₀,
        k₁,
        k₂,
        k₃,
        e,
      )
