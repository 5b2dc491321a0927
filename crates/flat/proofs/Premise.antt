-- The premise on a list gives what the comparison rests on: no flip that is accepted finds a mark.
use Prim.Native.Nat.{ℕ, zero, suc, ◌*◌, ◌/◌, ◌≤◌, ◌<◌, suc-le-suc}
use mathlib.Core.Path.{◌≡◌, refl, sym, ◌∙◌}
use mathlib.Core.Bool.{Bool, true, false, not, cond, ◌&&◌, ◌||◌}
use mathlib.Core.Option.{Option, none, some}
use mathlib.Core.List.{List, [], ◌∷◌, ◌++◌}
use native.Mathlib.Omega.{arith}
use native.Mathlib.Nat.{le_of_suc-le-suc, not-suc-le-zero}
use lib.Dec.{eqb}
use lib.ListN.{length}
use borrow.Author.Tests.{eqb-true, eqb-false, eq-eqb}
use Rattle.basics.proofs.Bools.{and_right, or_left, or_right}
use Rattle.basics.proofs.RangeLaws.{by_cases, contra}
use Rattle.refusals.specs.Paper.{Declined}
use Rattle.calls.specs.Calls.{MemoryCall, read, write, flip, scrub, burst_read, burst_write, Access, read_in, write_in, flip_in, scrub_in, address_of, crosses, parts}
use Rattle.calls.specs.Calls.{Call, memory, read_register, write_register}
use Rattle.calls.specs.Spans.{Spans, by_call, missed}
use Rattle.flat.specs.Flat.{Flat, with_mark, flat_in_span, flat_access, blank}
use Rattle.flat.specs.Comparison.{if_accepted, accepted_of, flips, renews, any_of, flipped_at, renewed_at, Spaced}
use Rattle.flat.proofs.Doubleword.{FindsNoMark}

-- the accepted accesses of a list, in order
unfoldable pub accepted_all : Spans → List Call → List Access
accepted_all spans [] = []
accepted_all spans (c ∷ cs) = accepted_of spans c ++ accepted_all spans cs

-- ---- from places of the list to its accepted accesses

-- before the first flip of doubleword q stands a write or a scrub of it
unfoldable renewed_first : ℕ → List Access → Bool
renewed_first q [] = true
renewed_first q (x ∷ xs) = renews q x || not (flips q x) && renewed_first q xs

-- the same, after each flip
abbrev Apart : List Access → Type 0
Apart [] = Unit {0}
Apart (x ∷ xs) = ((q : ℕ) → flips q x ≡ true → renewed_first q xs ≡ true) × Apart xs

skip : (q : ℕ) (xs ys : List Access) → any_of (flips q) xs ≡ false → (any_of (renews q) xs ≡ false → renewed_first q ys ≡ true)
    → renewed_first q (xs ++ ys) ≡ true
unfolding any_of renewed_first
skip q [] ys n k = k refl
skip q (x ∷ xs) ys n k = go (renews q x) refl (skip q xs ys (or_right (flips q x) (any_of (flips q) xs) n))
  where
    go : (t : Bool) → renews q x ≡ t → ((any_of (renews q) xs ≡ false → renewed_first q ys ≡ true) → renewed_first q (xs ++ ys) ≡ true)
        → (t || not (flips q x) && renewed_first q (xs ++ ys)) ≡ true
    go true e more = refl
    go false e more = rw (or_left (flips q x) (any_of (flips q) xs) n) (more (λ m. k (rw e m)))

-- accesses that flip nothing come before any others
unflipping : (xs ys : List Access) → ((q : ℕ) → any_of (flips q) xs ≡ false) → Apart ys → Apart (xs ++ ys)
unfolding any_of
unflipping [] ys n rest = rest
unflipping (x ∷ xs) ys n rest =
    (λ q t. contra t (or_left (flips q x) (any_of (flips q) xs) (n q)), unflipping xs ys (λ q. or_right (flips q x) (any_of (flips q) xs) (n q)) rest)

-- reads and writes flip nothing, in however many accesses
read_unflipping : (a n q : ℕ) → any_of (flips q) (parts (read a n)) ≡ false
unfolding parts any_of flips
read_unflipping a n q = by_cases (crosses a n) (λ t. rw t) (λ t. rw t)

write_unflipping : (a : ℕ) (bs : List ℕ) (q : ℕ) → any_of (flips q) (parts (write a bs)) ≡ false
unfolding parts any_of flips
write_unflipping a bs q = by_cases (crosses a (length bs)) (λ t. rw t) (λ t. rw t)

-- only a flip flips, and it has one access
apart_parts : (c : MemoryCall) (ys : List Access) → Apart ys → ((q : ℕ) → any_of (flips q) (parts c) ≡ true → renewed_first q ys ≡ true)
    → Apart (parts c ++ ys)
unfolding parts any_of flips
apart_parts (read a n) ys rest k = unflipping (parts (read a n)) ys (read_unflipping a n) rest
apart_parts (write a bs) ys rest k = unflipping (parts (write a bs)) ys (write_unflipping a bs) rest
apart_parts (flip a b) ys rest k = (λ q t. k q (rw t), rest)
apart_parts (scrub a) ys rest k = (λ q t. k q (rw t), rest)
apart_parts (burst_read a n) ys rest k = unflipping (parts (burst_read a n)) ys (λ q. refl) rest
apart_parts (burst_write a bs) ys rest k = unflipping (parts (burst_write a bs)) ys (λ q. refl) rest

module _ (spans : Spans) where
  -- at some place before the next flip of q it takes a write or a scrub
  abbrev Waiting : ℕ → List Call → Type 0
  Waiting q cs = (j : ℕ) → flipped_at spans cs q j ≡ true → (k : ℕ) × (k < j) × (renewed_at spans cs q k ≡ true)

  waiting_tail : (q : ℕ) (c : Call) (cs : List Call) → any_of (renews q) (accepted_of spans c) ≡ false → Waiting q (c ∷ cs) → Waiting q cs
  waiting_tail q c cs n w j e = go (w (suc j) e).0 (w (suc j) e).1 (w (suc j) e).2
    where
      go : (k : ℕ) → k < suc j → renewed_at spans (c ∷ cs) q k ≡ true → (k : ℕ) × (k < j) × (renewed_at spans cs q k ≡ true)
      go zero h t = contra t n
      go (suc k) h t = (k, le_of_suc-le-suc h, t)

  waiting : (q : ℕ) (cs : List Call) → Waiting q cs → renewed_first q (accepted_all spans cs) ≡ true
  unfolding accepted_all renewed_first
  waiting q [] w = refl
  waiting q (c ∷ cs) w =
      skip q (accepted_of spans c) (accepted_all spans cs)
      (by_cases (any_of (flips q) (accepted_of spans c)) (λ t. absurd (not-suc-le-zero (w 0 t).1)) (λ t. t))
      (λ n. waiting q cs (waiting_tail q c cs n w))

  -- a place after the first
  behind : (q : ℕ) (c : Call) (cs : List Call) (i j : ℕ) → (k : ℕ) × (i < k) × (k < suc j) × (renewed_at spans (c ∷ cs) q k ≡ true)
      → (k : ℕ) × (i ≤ k) × (k < j) × (renewed_at spans cs q k ≡ true)
  behind q c cs i j (zero, l, u, t) = absurd (not-suc-le-zero l)
  behind q c cs i j (suc k, l, u, t) = (k, le_of_suc-le-suc l, le_of_suc-le-suc u, t)

  spaced_tail : (c : Call) (cs : List Call) → Spaced spans (c ∷ cs) → Spaced spans cs
  unfolding Spaced
  spaced_tail c cs s q i j h t u = behind q c cs (suc i) j (s q (suc i) (suc j) (suc-le-suc h) t u)

  after_flip : (q : ℕ) (c : Call) (cs : List Call) → Spaced spans (c ∷ cs) → any_of (flips q) (accepted_of spans c) ≡ true → Waiting q cs
  unfolding Spaced
  after_flip q c cs s t j u =
      let r = behind q c cs 0 j (s q 0 (suc j) (omega arith) t u) in
      (r.0, r.2, r.3)

  apart : (cs : List Call) → Spaced spans cs → Apart (accepted_all spans cs)
  unfolding accepted_all accepted_of
  apart [] s = tt
  apart (read_register o ∷ cs) s = apart cs (spaced_tail (read_register o) cs s)
  apart (write_register o v ∷ cs) s = apart cs (spaced_tail (write_register o v) cs s)
  apart (memory c ∷ cs) s = go (by_call spans c) refl (apart cs (spaced_tail (memory c) cs s))
    where
      go : (d : Declined) → by_call spans c ≡ d → Apart (accepted_all spans cs) → Apart (if_accepted d (parts c) ++ accepted_all spans cs)
      go (some n) e rest = rest
      go none e rest = apart_parts c (accepted_all spans cs) rest (λ q t. waiting q cs (after_flip q (memory c) cs s (rw e t)))

-- ---- along the flat machine's run

-- no flip finds a mark already set
abbrev pub NoFlipFindsMark : Spans → Flat → List Access → Type 0
NoFlipFindsMark spans f [] = Unit {0}
NoFlipFindsMark spans f (x ∷ xs) = FindsNoMark f x × NoFlipFindsMark spans (flat_access spans f x).1 xs

-- what a mark that is set on doubleword q requires of the rest of the list
abbrev Due : Spans → Option ℕ → ℕ → List Access → Type 0
Due spans none q xs = Unit {0}
Due spans (some b) q xs = (spans.holds (8 * q) ≡ true) × (renewed_first q xs ≡ true)

due_tail : (spans : Spans) (m : Option ℕ) (q : ℕ) (x : Access) (xs : List Access) → (spans.holds (8 * q) ≡ true → renews q x ≡ false)
    → Due spans m q (x ∷ xs) → Due spans m q xs
unfolding renewed_first
due_tail spans none q x xs n d = tt
due_tail spans (some b) q x xs n d =
    (d.0, and_right (not (flips q x)) (renewed_first q xs) (rw (n d.0) at d.1))

module _ (spans : Spans) (steady : (a b : ℕ) → a / 8 ≡ b / 8 → spans.holds a ≡ spans.holds b) where
  mark_due : (m : ℕ → Option ℕ) (v : Option ℕ) (a : ℕ) (xs : List Access) → Due spans v (a / 8) xs
      → ((q : ℕ) → (a / 8 ≡ q → ⊥) → Due spans (m q) q xs) → (q : ℕ) → Due spans (with_mark m (a / 8) v q) q xs
  unfolding with_mark
  mark_due m v a xs hv hm q = go (eqb q (a / 8)) refl
    where
      go : (t : Bool) → eqb q (a / 8) ≡ t → Due spans (cond t v (m q)) q xs
      go true e = rw (eqb-true q (a / 8) e) hv
      go false e = hm q (λ p. eqb-false q (a / 8) e (sym p))

  holds_agrees : (a q : ℕ) → a / 8 ≡ q → spans.holds a ≡ spans.holds (8 * q)
  holds_agrees a q e = steady a (8 * q) (omega arith)

  other : (a q : ℕ) → (a / 8 ≡ q → ⊥) → eqb (a / 8) q ≡ false
  other a q ne = by_cases (eqb (a / 8) q) (λ t. absurd (ne (eqb-true (a / 8) q t))) (λ t. t)

  -- the marks after an access, by the marks before: where a bank is selected, and where none is
  due_in_span : (f : Flat) (x : Access) (xs : List Access) → spans.holds (address_of x) ≡ true → Apart (x ∷ xs)
      → ((q : ℕ) → Due spans (f.mark q) q (x ∷ xs)) → (q : ℕ) → Due spans ((flat_in_span f x).1.mark q) q xs
  unfolding flat_in_span renews flips
  due_in_span f (read_in a n) xs t s d = λ q. due_tail spans (f.mark q) q (read_in a n) xs (λ w. refl) (d q)
  due_in_span f (write_in a bs) xs t s d = mark_due f.mark none a xs tt (λ q ne. due_tail spans (f.mark q) q (write_in a bs) xs (λ w. other a q ne) (d q))
  due_in_span f (scrub_in a) xs t s d = mark_due f.mark none a xs tt (λ q ne. due_tail spans (f.mark q) q (scrub_in a) xs (λ w. other a q ne) (d q))
  due_in_span f (flip_in a b) xs t s d =
      mark_due f.mark (some b) a xs (sym (holds_agrees a (a / 8) refl) ∙ t, s.0 (a / 8) (eq-eqb (a / 8) (a / 8) refl))
      (λ q ne. due_tail spans (f.mark q) q (flip_in a b) xs (λ w. refl) (d q))

  outside_renews_none : (x : Access) (q : ℕ) → spans.holds (address_of x) ≡ false → spans.holds (8 * q) ≡ true → renews q x ≡ false
  unfolding renews
  outside_renews_none (read_in a n) q h y = refl
  outside_renews_none (write_in a bs) q h y = other a q (λ e. contra (holds_agrees a q e ∙ y) h)
  outside_renews_none (flip_in a b) q h y = refl
  outside_renews_none (scrub_in a) q h y = other a q (λ e. contra (holds_agrees a q e ∙ y) h)

  due_next : (f : Flat) (x : Access) (xs : List Access) → Apart (x ∷ xs) → ((q : ℕ) → Due spans (f.mark q) q (x ∷ xs))
      → (q : ℕ) → Due spans ((flat_access spans f x).1.mark q) q xs
  unfolding flat_access
  due_next f x xs s d q = go (spans.holds (address_of x)) refl
    where
      go : (t : Bool) → spans.holds (address_of x) ≡ t → Due spans ((cond t (flat_in_span f x) (missed x, f)).1.mark q) q xs
      go true e = due_in_span f x xs e s d q
      go false e = due_tail spans (f.mark q) q x xs (outside_renews_none x q e) (d q)

  finds_no_mark : (f : Flat) (x : Access) (xs : List Access) → ((q : ℕ) → Due spans (f.mark q) q (x ∷ xs)) → FindsNoMark f x
  unfolding renewed_first renews flips
  finds_no_mark f (read_in a n) xs d = tt
  finds_no_mark f (write_in a bs) xs d = tt
  finds_no_mark f (scrub_in a) xs d = tt
  finds_no_mark f (flip_in a b) xs d = go (f.mark (a / 8)) (d (a / 8))
    where
      go : (m : Option ℕ) → Due spans m (a / 8) (flip_in a b ∷ xs) → m ≡ none
      go none h = refl
      go (some c) h = contra (rw (eq-eqb (a / 8) (a / 8) refl) at h.1) refl

  no_flip : (xs : List Access) (f : Flat) → Apart xs → ((q : ℕ) → Due spans (f.mark q) q xs) → NoFlipFindsMark spans f xs
  no_flip [] f s d = tt
  no_flip (x ∷ xs) f s d = (finds_no_mark f x xs d, no_flip xs (flat_access spans f x).1 s.1 (due_next f x xs s d))

  pub spaced_no_flip : (cs : List Call) → Spaced spans cs → NoFlipFindsMark spans blank (accepted_all spans cs)
  unfolding blank
  spaced_no_flip cs s = no_flip (accepted_all spans cs) blank (apart spans cs s) (λ q. tt)
