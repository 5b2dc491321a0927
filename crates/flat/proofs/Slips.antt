-- DEM-5: flat machines with a mistake, for lists on which they differ from the machine of cells.
use Prim.Native.Nat.{ℕ, ◌*◌, ◌/◌}
use mathlib.Core.Path.{◌≡◌, refl, ap}
use mathlib.Core.Option.{Option, none, some}
use mathlib.Core.List.{List, [], ◌∷◌}
use Rattle.ecc.specs.CheckCode.{flip_bit}
use Rattle.calls.specs.Calls.{read, write, flip, scrub, burst_read, burst_write, CallAnswer, Call, memory, read_register, write_register}
use Rattle.calls.specs.Spans.{Spans}
use Rattle.flat.specs.Flat.{Flat, with_bytes, with_mark, flat_call, flat_run}
use Rattle.flat.proofs.DoublewordBytes.{doubleword_bytes}

-- a slip, that is a mistake: what a call leaves in place of what it should, from the call and from what was there before
abbrev pub Slip : Type 0
Slip = Call → Flat → Flat → Flat

unfoldable pub slipping : Slip → Spans → Flat → List Call → List (Option CallAnswer)
slipping slip spans f [] = []
slipping slip spans f (c ∷ cs) =
    let r = flat_call spans f c in
    r.0 ∷ slipping slip spans (slip c f r.1) cs

-- without a slip it is the flat machine
pub no_slip : (spans : Spans) (f : Flat) (cs : List Call) → slipping (λ c before after. after) spans f cs ≡ (flat_run spans f cs).0
unfolding slipping flat_run
no_slip spans f [] = refl
no_slip spans f (c ∷ cs) = ap ((flat_call spans f c).0 ∷◌) (no_slip spans (flat_call spans f c).1 cs)

-- a write drops its bytes
abbrev pub write_dropped : Slip
write_dropped c before after = record { byte = before.byte; mark = after.mark }

-- the doubleword in which a read begins; the lists for it have no split
abbrev pub read_by : Call → Option ℕ
read_by (memory (read a n)) = some (a / 8)
read_by (memory (write a bs)) = none
read_by (memory (flip a b)) = none
read_by (memory (scrub a)) = none
read_by (memory (burst_read a n)) = none
read_by (memory (burst_write a bs)) = none
read_by (read_register o) = none
read_by (write_register o v) = none

-- a read clears the mark
abbrev pub unmarked : Option ℕ → Flat → Flat
unmarked none f = f
unmarked (some q) f = record { byte = f.byte; mark = with_mark f.mark q none }

abbrev pub mark_cleared : Slip
mark_cleared c before after = unmarked (read_by c) after

-- only the first read corrects: after it the doubleword has the bytes as stored, with the marked bit inverted, and no mark
abbrev pub as_stored : (ℕ → ℕ) → ℕ → Option ℕ → ℕ → ℕ
as_stored f q none = f
as_stored f q (some b) = with_bytes f (8 * q) (flip_bit (doubleword_bytes f q) b)

abbrev pub stored_bytes : Option ℕ → Flat → Flat
stored_bytes none f = f
stored_bytes (some q) f = record { byte = as_stored f.byte q (f.mark q); mark = with_mark f.mark q none }

abbrev pub corrected_once : Slip
corrected_once c before after = stored_bytes (read_by c) after

-- a mark does not remember its bit: every one is taken for bit 0
abbrev pub nameless : Option ℕ → Option ℕ
nameless none = none
nameless (some b) = some 0

abbrev pub bit_forgotten : Slip
bit_forgotten c before after = record { byte = after.byte; mark = λ q. nameless (after.mark q) }
