-- MEM-16: an accepted call is its accesses as single calls, one after the other.
use Prim.Native.Nat.{ℕ, ◌-◌, ◌%◌, ◌^◌, ◌<◌}
use mathlib.Core.Path.{◌≡◌, refl, sym, ◌∙◌}
use mathlib.Core.Bool.{true}
use mathlib.Core.Option.{Option, none, some}
use mathlib.Core.List.{List, [], ◌∷◌}
use native.Mathlib.Omega.{arith}
use lib.ListN.{length, take, drop, length-drop}
use lib.Seq.{length-take-le}
use Rattle.basics.specs.Lists.{All}
use Rattle.basics.proofs.RangeLaws.{by_cases}
use Rattle.refusals.specs.Paper.{Declined, ◌else◌, given}
use Rattle.refusals.proofs.ChainLaws.{else_left, else_right}
use Rattle.banks.specs.Judge.{not_ready}
use Rattle.banks.specs.Map.{cell_of}
use Rattle.ecc.specs.Lending.{cell_at}
use Rattle.ecc.proofs.CellLaws.{lent_same, cell_length}
use Rattle.calls.specs.Calls.{MemoryCall, read, write, flip, scrub, burst_read, burst_write, Access, read_in, write_in, flip_in, scrub_in, address_of, beat_address, beat_bytes, crosses, room, next_doubleword, parts}
use Rattle.calls.specs.Spans.{Spans, by_count, by_burst, by_arguments, by_spans, by_call}
use Rattle.calls.specs.State.{State}
use Rattle.calls.proofs.SpanLaws.{Counted, count_fits, count_accepted, burst_fits}
use Rattle.calls.proofs.BeatLaws.{beat_in_line, beat_aligned, beat_length}
use Rattle.calls.proofs.SplitLaws.{fits_inside, split_rest, room_ends, next_at}
use Rattle.calls.proofs.PartLaws.{Fits, parts_fit}
use Rattle.machine.specs.Cells.{on_cell}
use Rattle.machine.specs.Calls.{setup, spans_of, unlent_at, unlent, refusal, on_target, access_at, access, accesses, performed, memory_call}
use Rattle.machine.specs.InTurn.{single, singles, in_turn, address_given, AcceptedInTurn}
use Rattle.machine.proofs.SetupLaws.{setup_after}
use Rattle.machine.proofs.StoredLaws.{put_at_length, stored_length}
use Rattle.machine.proofs.LendingLaws.{lent_of}

-- ---- what an access leaves as it was

module _ (cols : List ℕ) where
  access_setup : (st : State) (x : Access) → setup (access cols st x).1 ≡ setup st
  unfolding access
  access_setup st x = setup_after cols (cell_of (setup st) (address_of x)) st x

  access_lent : (st : State) (x : Access) → Fits x → unlent_at (cell_of (setup st) (address_of x)) st.cells ≡ none
      → length (access cols st x).1.cells ≡ length st.cells
  unfolding access access_at on_target
  access_lent st x e = go (cell_of (setup st) (address_of x))
    where
      go : (o : Option ℕ) → unlent_at o st.cells ≡ none → length (access_at cols o st x).1.cells ≡ length st.cells
      go none u = refl
      go (some k) u =
          let lent = lent_of st.cells k u in
          put_at_length st.cells k lent (on_cell cols x (cell_at st.cells k)).1 (stored_length cols (cell_at st.cells k) (cell_length st.cells k lent) x e)

unlent_same : (xs : List Access) (st st' : State) → setup st' ≡ setup st → length st'.cells ≡ length st.cells → unlent st' xs ≡ unlent st xs
unfolding unlent unlent_at
unlent_same [] st st' s l = refl
unlent_same (x ∷ xs) st st' s l = rw (s, go (cell_of (setup st) (address_of x)), unlent_same xs st st' s l)
  where
    go : (o : Option ℕ) → unlent_at o st'.cells ≡ unlent_at o st.cells
    go none = refl
    go (some k) = rw (lent_same st'.cells st.cells k l)

-- ---- single calls

-- an access that stays inside its doubleword is the only one of its call
pub single_parts : (x : Access) → Fits x → parts (single x) ≡ x ∷ []
unfolding parts
single_parts (read_in a n) h = rw (fits_inside a n h)
single_parts (write_in a bs) h = rw (fits_inside a (length bs) h)
single_parts (flip_in a b) h = refl
single_parts (scrub_in a) h = refl

-- what refuses the single calls by arguments and spans
abbrev by_singles : Spans → List Access → Declined
by_singles spans [] = none
by_singles spans (x ∷ xs) = by_call spans (single x) else by_singles spans xs

-- a beat ends with its line, which the last address ends too
beat_accepted : (a i n : ℕ) → a < 2 ^ 32 → a % 8 ≡ 0 → n ≡ 8 → by_count (beat_address a i) n ≡ none
beat_accepted a i n l h e = count_accepted (beat_address a i) n (omega arith) (omega arith) (omega (arith, beat_in_line a i, beat_aligned a i h))

-- neither part of a split passes what the whole does not pass
first_accepted : (a n m : ℕ) → Counted a n → crosses a n ≡ true → m ≡ room a → by_count a m ≡ none
first_accepted a n m h t e =
    let more = split_rest a n t in
    let here = room_ends a in
    let few = h.few in
    let ends = h.ends in
    count_accepted a m (omega arith) (omega arith) (omega arith)

rest_accepted : (a n m : ℕ) → Counted a n → crosses a n ≡ true → m ≡ n - room a → by_count (next_doubleword a) m ≡ none
rest_accepted a n m h t e =
    let more = split_rest a n t in
    let at = next_at a in
    let here = room_ends a in
    let few = h.few in
    let ends = h.ends in
    count_accepted (next_doubleword a) m (omega arith) (omega arith) (omega arith)

singles_accepted : (spans : Spans) (c : MemoryCall) → address_given c < 2 ^ 32 → by_call spans c ≡ none → by_singles spans (parts c) ≡ none
unfolding parts by_call by_arguments by_spans
singles_accepted spans (read a n) l e =
    let h = count_fits a n (else_left (by_count a n) none e) in
    by_cases (crosses a n) (λ t. rw (t, first_accepted a n (room a) h t refl, rest_accepted a n (n - room a) h t refl)) (λ t. rw (t, e))
singles_accepted spans (write a bs) l e =
    let n = length bs in
    let h = count_fits a n (else_left (by_count a n) none e) in
    by_cases (crosses a n)
    (λ t.
    let more = split_rest a n t in
    rw (t, first_accepted a n _ h t (length-take-le (room a) bs (omega arith)), rest_accepted a n _ h t (length-drop (room a) bs)))
    (λ t. rw (t, e))
singles_accepted spans (flip a b) l e = rw e
singles_accepted spans (scrub a) l e = refl
singles_accepted spans (burst_read a n) l e =
    let h = (burst_fits a n (else_left (by_burst a n) none e)).0 in
    rw (beat_accepted a 0 8 l h refl, beat_accepted a 1 8 l h refl, beat_accepted a 2 8 l h refl, beat_accepted a 3 8 l h refl)
singles_accepted spans (burst_write a bs) l e =
    let h = burst_fits a (length bs) (else_left (by_burst a (length bs)) none e) in
    let beat : (i : ℕ) → i < 4 → by_count (beat_address a i) (length (beat_bytes bs i)) ≡ none = λ i m. beat_accepted a i _ l h.0 (beat_length bs i h.1 m) in
    rw (beat 0 (omega arith), beat 1 (omega arith), beat 2 (omega arith), beat 3 (omega arith))

single_accepted : (st : State) (x : Access) → Fits x → not_ready (setup st) ≡ none → by_call (spans_of (setup st)) (single x) ≡ none
    → unlent_at (cell_of (setup st) (address_of x)) st.cells ≡ none → refusal st (single x) ≡ none
unfolding refusal unlent
single_accepted st x f r b u = rw (r, b, single_parts x f, u)

single_done : (cols : List ℕ) (st : State) (x : Access) → Fits x → refusal st (single x) ≡ none
    → memory_call cols st (single x) ≡ (given ((access cols st x).0 ∷ []), (access cols st x).1)
unfolding memory_call performed accesses
single_done cols st x f e = rw (e, single_parts x f)

accesses_in_turn : (cols : List ℕ) (xs : List Access) (st : State) → All Fits xs → not_ready (setup st) ≡ none → by_singles (spans_of (setup st)) xs ≡ none → unlent st xs ≡ none
    → performed cols none st xs ≡ in_turn cols st (singles xs)
unfolding performed accesses in_turn unlent by_call
accesses_in_turn cols [] st f r b u = refl
accesses_in_turn cols (x ∷ xs) st f r b u =
    let s = setup st in
    let next = (access cols st x).1 in
    let here = unlent_at (cell_of s (address_of x)) st.cells in
    let free = else_left (by_call (spans_of s) (single x)) (by_singles (spans_of s) xs) b in
    let lent = else_left here (unlent st xs) u in
    let same : setup next ≡ s = access_setup cols st x in
    let rest : performed cols none next xs ≡ in_turn cols next (singles xs) =
    accesses_in_turn cols xs next f.1 (rw same r) (rw same (else_right (by_call (spans_of s) (single x)) (by_singles (spans_of s) xs) b))
    (unlent_same xs st next same (access_lent cols st x f.0 lent) ∙ else_right here (unlent st xs) u) in
    rw (single_done cols st x f.0 (single_accepted st x f.0 r free lent), ← rest)

pub accepted_in_turn : (cols : List ℕ) → AcceptedInTurn cols
unfolding AcceptedInTurn memory_call refusal by_call
accepted_in_turn cols st c l e =
    let s = setup st in
    let later = by_call (spans_of s) c else unlent st (parts c) in
    let rest = else_right (not_ready s) later e in
    let free = else_left (by_call (spans_of s) c) (unlent st (parts c)) rest in
    let fit = parts_fit c (else_left (by_arguments c) (by_spans (spans_of s) c) free) in
    rw e
    (accesses_in_turn cols (parts c) st fit (else_left (not_ready s) later e) (singles_accepted (spans_of s) c l free) (else_right (by_call (spans_of s) c) (unlent st (parts c)) rest))

-- a burst as its four reads, or its four writes
module _ (cols : List ℕ) (st : State) (a : ℕ) (l : a < 2 ^ 32) where
  pub burst_read_in_turn : (n : ℕ) → refusal st (burst_read a n) ≡ none
      → memory_call cols st (burst_read a n) ≡ in_turn cols st (read (beat_address a 0) 8 ∷ read (beat_address a 1) 8 ∷ read (beat_address a 2) 8 ∷ read (beat_address a 3) 8 ∷ [])
  unfolding AcceptedInTurn parts
  burst_read_in_turn n e = accepted_in_turn cols st (burst_read a n) l e

  pub burst_write_in_turn : (bs : List ℕ) → refusal st (burst_write a bs) ≡ none
      → memory_call cols st (burst_write a bs) ≡ in_turn cols st (write (beat_address a 0) (beat_bytes bs 0) ∷ write (beat_address a 1) (beat_bytes bs 1) ∷ write (beat_address a 2) (beat_bytes bs 2) ∷ write (beat_address a 3) (beat_bytes bs 3) ∷ [])
  unfolding AcceptedInTurn parts
  burst_write_in_turn bs e = accepted_in_turn cols st (burst_write a bs) l e

-- a read or write that is not refused has an address
counted_address : (st : State) (c : MemoryCall) (a n : ℕ) → by_arguments c ≡ by_count a n → refusal st c ≡ none → a < 2 ^ 32
unfolding refusal by_call
counted_address st c a n e free =
    let s = setup st in
    let called = by_call (spans_of s) c in
    let call = else_left called (unlent st (parts c)) (else_right (not_ready s) (called else unlent st (parts c)) free) in
    let counted = count_fits a n (sym e ∙ else_left (by_arguments c) (by_spans (spans_of s) c) call) in
    let some = counted.some in
    let ends = counted.ends in
    omega arith

-- MEM-17: a split as its two reads, or its two writes
module _ (cols : List ℕ) (st : State) (a : ℕ) where
  pub split_read_in_turn : (n : ℕ) → crosses a n ≡ true → refusal st (read a n) ≡ none
      → memory_call cols st (read a n) ≡ in_turn cols st (read a (room a) ∷ read (next_doubleword a) (n - room a) ∷ [])
  unfolding AcceptedInTurn parts by_arguments
  split_read_in_turn n t e = rw t at (accepted_in_turn cols st (read a n) (counted_address st (read a n) a n refl e) e)

  pub split_write_in_turn : (bs : List ℕ) → crosses a (length bs) ≡ true → refusal st (write a bs) ≡ none
      → memory_call cols st (write a bs) ≡ in_turn cols st (write a (take (room a) bs) ∷ write (next_doubleword a) (drop (room a) bs) ∷ [])
  unfolding AcceptedInTurn parts by_arguments
  split_write_in_turn bs t e = rw t at (accepted_in_turn cols st (write a bs) (counted_address st (write a bs) a (length bs) refl e) e)
