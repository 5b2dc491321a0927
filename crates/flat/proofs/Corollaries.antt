-- What `flat_comparison` says about single answers: none is "uncorrectable", and an answer is "corrected" exactly if a mark is set, at its bit.
use Prim.Native.Nat.{ℕ, zero, suc, ◌*◌, ◌/◌, ◌≤◌}
use mathlib.Core.Path.{◌≡◌, refl, ap₂}
use mathlib.Core.Bool.{Bool, true, false, not, cond, ◌&&◌}
use mathlib.Core.Option.{Option, none, some, none-ne-some}
use mathlib.Core.List.{List, [], ◌∷◌}
use native.Mathlib.Omega.{arith}
use lib.Dec.{eqb}
use lib.ListN.{length, replicate, get_elem?, take}
use Rattle.basics.specs.Lists.{All}
use Rattle.refusals.specs.Paper.{Declined, refused, given}
use Rattle.registers.specs.declared.Registers.{Registers}
use Rattle.banks.specs.Setup.{setup_of}
use Rattle.banks.specs.Map.{cell_count}
use Rattle.ecc.specs.Columns.{accepted}
use Rattle.calls.specs.declared.Kind.{Kind}
use Rattle.calls.specs.declared.Kind.TheVariants.{Clean, Corrected, Uncorrectable, Stored, NoBank, Flipped}
use Rattle.calls.specs.Calls.{MemoryCall, Access, read_in, write_in, flip_in, scrub_in, address_of, parts, AccessAnswer, CallAnswer, Call, memory, read_register, write_register}
use Rattle.calls.specs.Spans.{Spans, by_call, missed}
use Rattle.calls.specs.State.{state}
use Rattle.machine.specs.Calls.{spans_of}
use Rattle.call_lists.specs.Lists.{run}
use Rattle.flat.specs.Flat.{Flat, blank, by_mark, flat_in_span, flat_access, flat_accesses, flat_performed, flat_call, flat_run}
use Rattle.flat.specs.Comparison.{SwitchedOn, AtErrorRegisters, Spaced, FlatComparison}
use Rattle.flat.proofs.Comparison.{comparison}

-- ---- no answer is "uncorrectable"

abbrev pub is_uncorrectable : Kind → Bool
is_uncorrectable Clean = false
is_uncorrectable (Corrected b) = false
is_uncorrectable Uncorrectable = true
is_uncorrectable Stored = false
is_uncorrectable NoBank = false
is_uncorrectable Flipped = false

abbrev pub Certain : Option CallAnswer → Type 0
Certain none = Unit {0}
Certain (some (refused n)) = Unit {0}
Certain (some (given gs)) = All (λ g. is_uncorrectable g.kind ≡ false) gs

mark_certain : (m : Option ℕ) → is_uncorrectable (by_mark m) ≡ false
mark_certain none = refl
mark_certain (some b) = refl

access_certain : (spans : Spans) (f : Flat) (x : Access) → is_uncorrectable (flat_access spans f x).0.kind ≡ false
unfolding flat_access flat_in_span missed
access_certain spans f x = go (spans.holds (address_of x)) x
  where
    full : (t : Bool) (m : Option ℕ) → is_uncorrectable (cond t Stored (by_mark m)) ≡ false
    full true m = refl
    full false m = mark_certain m

    go : (t : Bool) (x : Access) → is_uncorrectable (cond t (flat_in_span f x) (missed x, f)).0.kind ≡ false
    go true (read_in a n) = mark_certain (f.mark (a / 8))
    go true (write_in a bs) = full (eqb (length bs) 8) (f.mark (a / 8))
    go true (flip_in a b) = refl
    go true (scrub_in a) = mark_certain (f.mark (a / 8))
    go false (read_in a n) = refl
    go false (write_in a bs) = refl
    go false (flip_in a b) = refl
    go false (scrub_in a) = refl

accesses_certain : (spans : Spans) (xs : List Access) (f : Flat) → All (λ g. is_uncorrectable g.kind ≡ false) (flat_accesses spans f xs).0
unfolding flat_accesses
accesses_certain spans [] f = tt
accesses_certain spans (x ∷ xs) f = (access_certain spans f x, accesses_certain spans xs (flat_access spans f x).1)

run_certain : (spans : Spans) (cs : List Call) (f : Flat) → All Certain (flat_run spans f cs).0
unfolding flat_run flat_call flat_performed
run_certain spans [] f = tt
run_certain spans (read_register o ∷ cs) f = (tt, run_certain spans cs f)
run_certain spans (write_register o v ∷ cs) f = (tt, run_certain spans cs f)
run_certain spans (memory c ∷ cs) f = (go (by_call spans c), run_certain spans cs (flat_call spans f (memory c)).1)
  where
    go : (d : Declined) → Certain (some (flat_performed d spans f (parts c)).0)
    go none = accesses_certain spans (parts c) f
    go (some n) = tt

-- ---- "corrected" exactly if a mark is set, and at its bit

-- the flip bit of an answer that is "corrected"
abbrev pub corrected_bit : Kind → Option ℕ
corrected_bit Clean = none
corrected_bit (Corrected b) = some b
corrected_bit Uncorrectable = none
corrected_bit Stored = none
corrected_bit NoBank = none
corrected_bit Flipped = none

-- an access that looks at what the doubleword held: a read, a short write, a scrub
abbrev pub looks : Access → Bool
looks (read_in a n) = true
looks (write_in a bs) = not (eqb (length bs) 8)
looks (flip_in a b) = false
looks (scrub_in a) = true

-- the mark that it meets, if it selects a bank
abbrev pub mark_met : Spans → Flat → Access → Option ℕ
mark_met spans f x = cond (looks x && spans.holds (address_of x)) (f.mark (address_of x / 8)) none

mark_corrected : (m : Option ℕ) → corrected_bit (by_mark m) ≡ m
mark_corrected none = refl
mark_corrected (some b) = refl

access_corrected : (spans : Spans) (f : Flat) (x : Access) → corrected_bit (flat_access spans f x).0.kind ≡ mark_met spans f x
unfolding flat_access flat_in_span missed
access_corrected spans f x = go (spans.holds (address_of x)) x
  where
    full : (t : Bool) (m : Option ℕ) → corrected_bit (cond t Stored (by_mark m)) ≡ cond (not t && true) m none
    full true m = refl
    full false m = mark_corrected m

    none_of : (t : Bool) (m : Option ℕ) → none ≡ cond (t && false) m none
    none_of true m = refl
    none_of false m = refl

    go : (t : Bool) (x : Access) → corrected_bit (cond t (flat_in_span f x) (missed x, f)).0.kind ≡ cond (looks x && t) (f.mark (address_of x / 8)) none
    go true (read_in a n) = mark_corrected (f.mark (a / 8))
    go true (write_in a bs) = full (eqb (length bs) 8) (f.mark (a / 8))
    go true (flip_in a b) = refl
    go true (scrub_in a) = mark_corrected (f.mark (a / 8))
    go false (read_in a n) = refl
    go false (write_in a bs) = none_of (not (eqb (length bs) 8)) (f.mark (a / 8))
    go false (flip_in a b) = refl
    go false (scrub_in a) = refl

-- the answer at a place of the list, by what the flat machine holds there
place_of : (spans : Spans) (cs : List Call) (f : Flat) (i : ℕ) (c : Call) → get_elem? cs i ≡ some c
    → get_elem? (flat_run spans f cs).0 i ≡ some (flat_call spans (flat_run spans f (take i cs)).1 c).0
unfolding flat_run
place_of spans [] f i c e = absurd (none-ne-some c e)
place_of spans (d ∷ cs) f zero c e = let z : d ≡ c = cc in rw z
place_of spans (d ∷ cs) f (suc i) c e = place_of spans cs (flat_call spans f d).1 i c e

-- of each access of a call
abbrev pub corrected_bits : List AccessAnswer → List (Option ℕ)
corrected_bits [] = []
corrected_bits (g ∷ gs) = corrected_bit g.kind ∷ corrected_bits gs

abbrev pub marks_met : Spans → Flat → List Access → List (Option ℕ)
marks_met spans f [] = []
marks_met spans f (x ∷ xs) = mark_met spans f x ∷ marks_met spans (flat_access spans f x).1 xs

accesses_corrected : (spans : Spans) (xs : List Access) (f : Flat) → corrected_bits (flat_accesses spans f xs).0 ≡ marks_met spans f xs
unfolding flat_accesses
accesses_corrected spans [] f = refl
accesses_corrected spans (x ∷ xs) f = ap₂ {C = List (Option ℕ)} ◌∷◌ (access_corrected spans f x) (accesses_corrected spans xs (flat_access spans f x).1)

call_got : (spans : Spans) (f : Flat) (c : MemoryCall) (gs : List AccessAnswer) → (flat_call spans f (memory c)).0 ≡ some (given gs) → gs ≡ (flat_accesses spans f (parts c)).0
unfolding flat_call flat_performed
call_got spans f c gs e = go (by_call spans c) e
  where
    go : (d : Declined) → ◌≡◌ {A = Option CallAnswer} (some (flat_performed d spans f (parts c)).0) (some (given gs)) → gs ≡ (flat_accesses spans f (parts c)).0
    go none h = cc
    go (some n) h = let z : ◌≡◌ {A = ℕ} 0 1 = cc in absurd (omega arith)

module _ (cols : List ℕ) (good : accepted cols ≡ true) (r : Registers) (w : SwitchedOn r)
    (lent : ℕ) (h : 9 * cell_count (setup_of r) ≤ lent)
    (cs : List Call) (p : All AtErrorRegisters cs) (sp : Spaced (spans_of (setup_of r)) cs) where
  abbrev answers : List (Option CallAnswer)
  answers = (run cols (state r (replicate lent 0)) cs).0

  same : answers ≡ (flat_run (spans_of (setup_of r)) blank cs).0
  unfolding FlatComparison
  same = comparison cols good r w lent h cs p sp

  pub never_uncorrectable : All Certain answers
  never_uncorrectable = rw same (run_certain (spans_of (setup_of r)) cs blank)

  -- c is the memory call at place i of the list, and gs what its accesses give: each is "corrected" exactly if a mark is set after the i
  -- calls before it and the accesses before it, and the bit is that of the mark
  pub corrected_where_marked : (i : ℕ) (c : MemoryCall) (gs : List AccessAnswer) → get_elem? cs i ≡ some (memory c) → get_elem? answers i ≡ some (some (given gs))
      → corrected_bits gs ≡ marks_met (spans_of (setup_of r)) (flat_run (spans_of (setup_of r)) blank (take i cs)).1 (parts c)
  corrected_where_marked i c gs e a =
      let spans = spans_of (setup_of r) in
      let f = (flat_run spans blank (take i cs)).1 in
      let b : get_elem? (flat_run spans blank cs).0 i ≡ some (some (given gs)) = rw same at a in
      let q : (flat_call spans f (memory c)).0 ≡ some (given gs) = let k = place_of spans cs blank i (memory c) e in cc in
      rw (call_got spans f c gs q) (accesses_corrected spans (parts c) f)
