-- The flat machine: bytes by address, marks by doubleword, and the spans; no cells and no check bytes.
use Rattle.std.specs.Prelude.{ℕ, zero, suc, ◌+◌, ◌-◌, ◌/◌, cond, ◌&&◌, List, [], ◌∷◌, ltb, leb, eqb, length, get_or}
use Rattle.std.proofs.Math.Option.{Option, none, some}
use Rattle.refusals.specs.Paper.{Declined, refused, given}
use Rattle.calls.specs.declared.Kind.{Kind}
use Rattle.calls.specs.declared.Kind.TheVariants.{Clean, Corrected, Stored, Flipped}
use Rattle.calls.specs.Calls.{Access, read_in, write_in, flip_in, scrub_in, address_of, parts, AccessAnswer, got, CallAnswer, Call, memory, read_register, write_register}
use Rattle.calls.specs.Spans.{Spans, by_call, missed}

-- FLAT-1: a byte for each address, and a mark for doubleword q, whose addresses are those from 8 q on. FLAT-5: the mark remembers the flipped bit.
-- Outside the spans nothing is ever read
pub record Flat : Type 0 where
  pub byte : ℕ → ℕ
  pub mark : ℕ → Option ℕ

-- FLAT-1: at first all bytes are 0 and all marks clear
unfoldable pub blank : Flat
blank = record { byte = λ a. 0; mark = λ q. none }

-- FLAT-2 to FLAT-4: clean, or corrected at the bit that the mark remembers
abbrev pub by_mark : Option ℕ → Kind
by_mark none = Clean
by_mark (some b) = Corrected b

-- FLAT-3: the n bytes from the address a on
abbrev pub bytes_from : (ℕ → ℕ) → ℕ → ℕ → List ℕ
bytes_from f a zero = []
bytes_from f a (suc n) = f a ∷ bytes_from f (suc a) n

-- FLAT-2: the bytes with bs written from the address a on
unfoldable pub with_bytes : (ℕ → ℕ) → ℕ → List ℕ → ℕ → ℕ
with_bytes f a bs x = cond (leb a x && ltb x (a + length bs)) (get_or bs (x - a) 0) (f x)

-- FLAT-4, FLAT-5: the marks with that of doubleword q set or cleared
unfoldable pub with_mark : (ℕ → Option ℕ) → ℕ → Option ℕ → ℕ → Option ℕ
with_mark m q v x = cond (eqb x q) v (m x)

-- an accepted access inside the spans. FLAT-3: a read gives bytes and answers by the mark; FLAT-2: a write stores its bytes, answers "stored" or by
-- the mark, and clears it; FLAT-5: a flip sets the mark; FLAT-4: a scrub answers by the mark and clears it
unfoldable pub flat_in_span : Flat → Access → AccessAnswer × Flat
flat_in_span f (read_in a n) = (got (by_mark (f.mark (a / 8))) (bytes_from f.byte a n), f)
flat_in_span f (write_in a bs) = (
  got (cond (eqb (length bs) 8) Stored (by_mark (f.mark (a / 8)))) [],
  record { byte = with_bytes f.byte a bs; mark = with_mark f.mark (a / 8) none },
)
flat_in_span f (flip_in a b) = (got Flipped [], record { byte = f.byte; mark = with_mark f.mark (a / 8) (some b) })
flat_in_span f (scrub_in a) = (got (by_mark (f.mark (a / 8))) [], record { byte = f.byte; mark = with_mark f.mark (a / 8) none })

-- FLAT-7: an access that selects no bank leaves the flat machine as it is
unfoldable pub flat_access : Spans → Flat → Access → AccessAnswer × Flat
flat_access spans f x = cond (spans.holds (address_of x)) (flat_in_span f x) (missed x, f)

-- FLAT-9: accesses, one after the other
unfoldable pub flat_accesses : Spans → Flat → List Access → List AccessAnswer × Flat
flat_accesses spans f [] = ([], f)
flat_accesses spans f (x ∷ xs) =
    let r = flat_access spans f x in
    let rs = flat_accesses spans r.1 xs in
    (r.0 ∷ rs.0, rs.1)

-- FLAT-7: a refused call leaves it as it is
unfoldable pub flat_performed : Declined → Spans → Flat → List Access → CallAnswer × Flat
flat_performed (some n) spans f xs = (refused n, f)
flat_performed none spans f xs = let r = flat_accesses spans f xs in (given r.0, r.1)

-- FLAT-8: register calls leave it as it is
unfoldable pub flat_call : Spans → Flat → Call → Option CallAnswer × Flat
flat_call spans f (memory c) = let r = flat_performed (by_call spans c) spans f (parts c) in (some r.0, r.1)
flat_call spans f (read_register o) = (none, f)
flat_call spans f (write_register o v) = (none, f)

-- LIST-4: each call starts from what the call before it left
unfoldable pub flat_run : Spans → Flat → List Call → List (Option CallAnswer) × Flat
flat_run spans f [] = ([], f)
flat_run spans f (c ∷ cs) =
    let r = flat_call spans f c in
    let rs = flat_run spans r.1 cs in
    (r.0 ∷ rs.0, rs.1)
