-- What follows from the arguments of a call and the spans alone; the cells and the flat machine share it.
use Rattle.std.specs.Prelude.{ℕ, ◌+◌, ◌%◌, ◌^◌, Bool, not, ◌||◌, [], ◌∷◌, ltb, eqb, length, replicate}
use Rattle.std.proofs.Math.Option.{none}
use Rattle.refusals.specs.Paper.{Declined, refuse, ◌else◌}
use Rattle.calls.specs.declared.Kind.TheVariants.{NoBank}
use Rattle.calls.specs.Calls.{MemoryCall, read, write, flip, scrub, burst_read, burst_write, Access, read_in, write_in, flip_in, scrub_in, AccessAnswer, got}

-- FLAT-6: which addresses the spans of the enabled banks hold
pub record Spans : Type 0 where
  pub holds : ℕ → Bool

-- REF-6, REF-7: the count, and the last address
unfoldable pub by_count : ℕ → ℕ → Declined
by_count a n = refuse (eqb n 0 || ltb 8 n) (6 ∷ []) else refuse (ltb (2 ^ 32) (a + n)) (7 ∷ [])

-- REF-8: the bit of a flip
unfoldable pub by_bit : ℕ → Declined
by_bit b = refuse (ltb 71 b) (8 ∷ [])

-- REF-19, REF-20: the address of a burst, and how many bytes it has
unfoldable pub by_burst : ℕ → ℕ → Declined
by_burst a n = refuse (not (eqb (a % 8) 0)) (19 ∷ []) else refuse (not (eqb n 32)) (20 ∷ [])

-- FLAT-6: refusals 6, 7, 8, 19 and 20, by the arguments alone
unfoldable pub by_arguments : MemoryCall → Declined
by_arguments (read a n) = by_count a n
by_arguments (write a bs) = by_count a (length bs)
by_arguments (flip a b) = by_bit b
by_arguments (scrub a) = none
by_arguments (burst_read a n) = by_burst a n
by_arguments (burst_write a bs) = by_burst a (length bs)

-- REF-10: a flip that selects no bank
unfoldable pub by_spans : Spans → MemoryCall → Declined
by_spans spans (read a n) = none
by_spans spans (write a bs) = none
by_spans spans (flip a b) = refuse (not (spans.holds a)) (10 ∷ [])
by_spans spans (scrub a) = none
by_spans spans (burst_read a n) = none
by_spans spans (burst_write a bs) = none

-- FLAT-6: the refusals that need neither record nor cells
unfoldable pub by_call : Spans → MemoryCall → Declined
by_call spans c = by_arguments c else by_spans spans c

-- MEM-9: what an access gives if no bank is selected. A flip is refused then, and never gets here
unfoldable pub missed : Access → AccessAnswer
missed (read_in a n) = got NoBank (replicate n 0xFF)
missed (write_in a bs) = got NoBank []
missed (flip_in a b) = got NoBank []
missed (scrub_in a) = got NoBank []
