-- A call, by the code's two steps: refused before any cell is looked at, or carried out on targets that are the cells of its accesses.
use Prim.Native.Nat.{ℕ, ◌-◌, ◌/◌, ◌%◌, ◌^◌, ◌<◌}
use mathlib.Core.Path.{◌≡◌, refl, sym, ap, ◌∙◌}
use mathlib.Core.Bool.{true, not, cond}
use mathlib.Core.List.{List, [], ◌∷◌}
use mathlib.Core.Option.{none, some}
use lib.Dec.{ltb, eqb}
use native.Mathlib.Omega.{arith}
use lib.ListN.{length, take, drop}
use borrow.Author.Tests.{ltb-true}
use Rattle.basics.specs.Lists.{All}
use Rattle.basics.proofs.RangeLaws.{by_cases}
use Rattle.refusals.specs.Paper.{Declined, refuse, ◌else◌, paper, paper_verdict, ◌gives◌}
use Rattle.refusals.specs.declared.Refusal.{Refusal}
use Rattle.std.specs.Prelude.{Result, Ok, Err, ⊤}
use Rattle.refusals.proofs.ChainLaws.{else_none, else_left, else_right, else_assoc}
use Rattle.registers.specs.declared.Registers.{Registers}
use Rattle.banks.specs.Setup.{Setup, setup_of}
use Rattle.banks.specs.Judge.{not_ready}
use Rattle.banks.specs.Map.{in_span, cell_of}
use Rattle.ecc.specs.Columns.{columns}
use Rattle.calls.specs.Calls.{MemoryCall, read, write, flip, scrub, burst_read, burst_write, Access, read_in, write_in, address_of, crosses, room, next_doubleword, parts}
use Rattle.calls.proofs.SpanLaws.{count_fits}
use Rattle.calls.proofs.SplitLaws.{split_rest, room_ends, next_at}
use Rattle.calls.specs.Spans.{by_count, by_bit, by_burst, by_arguments, by_spans, by_call}
use Rattle.calls.specs.State.{State}
use Rattle.calls.specs.Answers.{leaves, effect_of}
use Rattle.machine.specs.Calls.{setup, spans_of, unlent, refusal, access_at, access, accesses, performed, memory_call, called}
use Rattle.machine.proofs.SetupLaws.{setup_after}
use Rattle.address_map.specs.CodeSelection.{selection}
use Rattle.address_map.specs.CodeRoute.{bank_in, paper_route, Leads}
use Rattle.address_map.proofs.RouteLaws.{route_leads}
use Rattle.address_map.specs.declared.routes.Route.{Route}
use Rattle.targets.specs.CodeTargets.{Target, unlent_any, accesses_at, performed_at, carried_out}

-- ---- before any cell is looked at

-- REF-104: 5, then the refusals by arguments and spans
abbrev pub early : Setup → MemoryCall → Declined
early s c = not_ready s else by_call (spans_of s) c

module _ (s : Setup) (a : ℕ) where
  pub read_early : (n : ℕ) → early s (read a n) ≡ (not_ready s else by_count a n)
  unfolding by_call by_arguments by_spans
  read_early n = rw (else_none (by_count a n))

  pub write_early : (bs : List ℕ) → early s (write a bs) ≡ (not_ready s else by_count a (length bs))
  unfolding by_call by_arguments by_spans
  write_early bs = rw (else_none (by_count a (length bs)))

  pub scrub_early : early s (scrub a) ≡ (not_ready s else none)
  unfolding by_call by_arguments by_spans
  scrub_early = refl

  pub burst_read_early : (n : ℕ) → early s (burst_read a n) ≡ (not_ready s else by_burst a n)
  unfolding by_call by_arguments by_spans
  burst_read_early n = rw (else_none (by_burst a n))

  pub burst_write_early : (bs : List ℕ) → early s (burst_write a bs) ≡ (not_ready s else by_burst a (length bs))
  unfolding by_call by_arguments by_spans
  burst_write_early bs = rw (else_none (by_burst a (length bs)))

  -- 10 by the bank of the route
  pub flip_early : (to : Route) → Leads to s a → (b : ℕ) → early s (flip a b) ≡ (not_ready s else by_bit b else refuse (eqb (bank_in to) 8) (10 ∷ []))
  unfolding by_call by_arguments by_spans
  flip_early to leads b = go (not_ready s) leads.spanned
    where
      go : (d : Declined) → (d ≡ none → eqb (bank_in to) 8 ≡ not (in_span s a))
          → (d else by_bit b else refuse (not (in_span s a)) (10 ∷ [])) ≡ (d else by_bit b else refuse (eqb (bank_in to) 8) (10 ∷ []))
      go (some n) e = refl
      go none e = rw (e refl)

-- the verdict of a route and of the arguments w
module _ (to : Route) (s : Setup) (a : ℕ) (leads : Leads to s a) (v : Result ⊤ Refusal) (d : Declined)
    (judged : paper_verdict v ≡ (refuse (ltb 8 (bank_in to)) (5 ∷ []) else d)) where
  verdict_is : paper_verdict v ≡ (not_ready s else d)
  verdict_is = judged ∙ ap (λ (e : Declined). e else d) leads.not_ready_lem

  pub refused_early : (x : Refusal) → v ≡ Err x → (not_ready s else d) ≡ some (paper x)
  refused_early x e = sym verdict_is ∙ ap paper_verdict e

  pub accepted_early : v ≡ Ok tt → (not_ready s ≡ none) × (d ≡ none)
  accepted_early e =
      let free : (not_ready s else d) ≡ none = sym verdict_is ∙ ap paper_verdict e in
      (else_left (not_ready s) d free, else_right (not_ready s) d free)

-- ---- the call

module _ (st : State) (c : MemoryCall) (buffer : List ℕ) where
  refusal_is : refusal st c ≡ (early (setup st) c else unlent st (parts c))
  unfolding refusal
  refusal_is = sym (else_assoc (not_ready (setup st)) (by_call (spans_of (setup st)) c) (unlent st (parts c)))

  pub refused_left : (x : Refusal) → early (setup st) c ≡ some (paper x) → leaves (Err x) st buffer ≡ called columns st c buffer
  unfolding called memory_call performed
  refused_left x e = rw (refusal_is, e)

-- ---- its accesses

abbrev pub accesses_of : List Target → List Access
accesses_of [] = []
accesses_of (t ∷ ts) = t.1 ∷ accesses_of ts

-- the target of an access is its cell
abbrev pub Right : Setup → Target → Type 0
Right s t = t.0 ≡ cell_of s (address_of t.1)

accesses_right : (ts : List Target) (st : State) → All (Right (setup st)) ts → accesses_at st ts ≡ accesses columns st (accesses_of ts)
unfolding accesses_at accesses access
accesses_right [] st right = refl
accesses_right (t ∷ ts) st right =
    let next = (access_at columns t.0 st t.1).1 in
    let same : setup next ≡ setup st = setup_after columns t.0 st t.1 in
    let rest : accesses_at next ts ≡ accesses columns next (accesses_of ts) = accesses_right ts next (rw same right.1) in
    rw (← right.0, rest)

unlent_right : (ts : List Target) (st : State) → All (Right (setup st)) ts → unlent_any st.cells ts ≡ unlent st (accesses_of ts)
unfolding unlent_any unlent
unlent_right [] st right = refl
unlent_right (t ∷ ts) st right = rw (← right.0, unlent_right ts st right.1)

performed_right : (d : Declined) (ts : List Target) (st : State) → All (Right (setup st)) ts → performed_at d st ts ≡ performed columns d st (accesses_of ts)
unfolding performed_at performed
performed_right none ts st right = rw (accesses_right ts st right)
performed_right (some n) ts st right = refl

-- what is not refused early is carried out on the cells of its accesses
pub carried_left : (st : State) (c : MemoryCall) (buffer : List ℕ) (ts : List Target) → early (setup st) c ≡ none → parts c ≡ accesses_of ts → All (Right (setup st)) ts
    → effect_of (carried_out st ts) buffer ≡ called columns st c buffer
unfolding called memory_call
carried_left st c buffer ts free is right =
    rw (refusal_is st c buffer, free, is, ← unlent_right ts st right, ← performed_right (unlent_any st.cells ts) ts st right)

-- ---- splits

-- MEM-17: the accesses of a split
pub split_read_parts : (a n : ℕ) → crosses a n ≡ true → parts (read a n) ≡ read_in a (room a) ∷ read_in (next_doubleword a) (n - room a) ∷ []
unfolding parts
split_read_parts a n t = rw t

pub split_write_parts : (a : ℕ) (bs : List ℕ) → crosses a (length bs) ≡ true → parts (write a bs) ≡ write_in a (take (room a) bs) ∷ write_in (next_doubleword a) (drop (room a) bs) ∷ []
unfolding parts
split_write_parts a bs t = rw t

-- a split that its arguments do not refuse goes on in a doubleword that has an address
pub next_in_range : (a n : ℕ) → crosses a n ≡ true → by_count a n ≡ none → next_doubleword a < 2 ^ 32
next_in_range a n t e =
    let ends = (count_fits a n e).ends in
    omega (arith, split_rest a n t, next_at a, room_ends a)

pub next_exact : (a m : ℕ) → next_doubleword a < 2 ^ 32 → m ≡ next_doubleword a % 2 ^ 32 → m ≡ next_doubleword a
next_exact a m l e = omega arith

-- the route that `parts::route_after` gives leads on
pub after_leads : (r : Registers) (a : ℕ) (to x : Route) → a < 2 ^ 32 → paper_route to ≡ (not_ready (setup_of r) gives selection (setup_of r) (a / 2 ^ 20))
    → paper_route x ≡ cond (ltb (a / 8 % 2 ^ 17) (2 ^ 17 - 1)) (paper_route to) (not_ready (setup_of r) gives selection (setup_of r) (next_doubleword a % 2 ^ 32 / 2 ^ 20))
    → Leads x (setup_of r) (next_doubleword a % 2 ^ 32)
after_leads r a to x l here e =
    route_leads r (next_doubleword a % 2 ^ 32) x
    (by_cases (ltb (a / 8 % 2 ^ 17) (2 ^ 17 - 1))
    (λ t.
    let near : a / 2 ^ 20 ≡ next_doubleword a % 2 ^ 32 / 2 ^ 20 = omega (arith, next_at a, ltb-true (a / 8 % 2 ^ 17) (2 ^ 17 - 1) t) in
    rw near at (rw t at e ∙ here))
    (λ t. rw t at e))
