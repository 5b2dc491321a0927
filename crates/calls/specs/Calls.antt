-- Memory calls, the accesses that they consist of, and what these give.
use Rattle.std.specs.Prelude.{ℕ, ◌+◌, ◌-◌, ◌*◌, ◌/◌, ◌%◌, Bool, cond, List, [], ◌∷◌, ltb, length, take, drop}
use Rattle.refusals.specs.Paper.{Outcome}
use Rattle.calls.specs.declared.Kind.{Kind}

-- MEM-1, MEM-2: a read has an address and a count, the length of its buffer; a write an address and bytes; a flip an address and a bit; a scrub an
-- address. MEM-13, MEM-15: a burst read has what a read has, a burst write what a write has
pub data MemoryCall : Type 0 where
  read : ℕ → ℕ → MemoryCall
  write : ℕ → List ℕ → MemoryCall
  flip : ℕ → ℕ → MemoryCall
  scrub : ℕ → MemoryCall
  burst_read : ℕ → ℕ → MemoryCall
  burst_write : ℕ → List ℕ → MemoryCall

-- MEM-1: an access, which stays inside one doubleword
pub data Access : Type 0 where
  read_in : ℕ → ℕ → Access
  write_in : ℕ → List ℕ → Access
  flip_in : ℕ → ℕ → Access
  scrub_in : ℕ → Access

-- the address of an access
abbrev pub address_of : Access → ℕ
address_of (read_in a n) = a
address_of (write_in a bs) = a
address_of (flip_in a b) = a
address_of (scrub_in a) = a

-- MEM-14: where beat i of a burst at the address a is; the burst wraps inside its cache line
unfoldable pub beat_address : ℕ → ℕ → ℕ
beat_address a i = 32 * (a / 32) + (a % 32 + 8 * i) % 32

-- MEM-15: the bytes of beat i of a burst write
abbrev pub beat_bytes : List ℕ → ℕ → List ℕ
beat_bytes bs i = take 8 (drop (8 * i) bs)

-- MEM-13: the beats of a burst, in order, each made from its number
abbrev pub four_beats : (ℕ → Access) → List Access
four_beats beat = beat 0 ∷ beat 1 ∷ beat 2 ∷ beat 3 ∷ []

-- MEM-17: n bytes at the address a run into the next doubleword
unfoldable pub crosses : ℕ → ℕ → Bool
crosses a n = ltb 8 (a % 8 + n)

-- MEM-17: how many bytes there are from the address a to the end of its doubleword
unfoldable pub room : ℕ → ℕ
room a = 8 - a % 8

-- MEM-17: the address of the doubleword after the one that holds the address a
unfoldable pub next_doubleword : ℕ → ℕ
next_doubleword a = a + room a

-- MEM-1: the accesses of a call, in order. MEM-17, MEM-18: a read or write over the end of a doubleword has two, the lower address first. MEM-13: a
-- burst has four, each of all eight bytes of a doubleword
unfoldable pub parts : MemoryCall → List Access
parts (read a n) = cond (crosses a n) (read_in a (room a) ∷ read_in (next_doubleword a) (n - room a) ∷ []) (read_in a n ∷ [])
parts (write a bs) =
    cond (crosses a (length bs)) (write_in a (take (room a) bs) ∷ write_in (next_doubleword a) (drop (room a) bs) ∷ []) (write_in a bs ∷ [])
parts (flip a b) = flip_in a b ∷ []
parts (scrub a) = scrub_in a ∷ []
parts (burst_read a n) = four_beats (λ i. read_in (beat_address a i) 8)
parts (burst_write a bs) = four_beats (λ i. write_in (beat_address a i) (beat_bytes bs i))

-- LIST-9: what an accepted access gives: its answer, and the bytes that a read puts in its buffer
pub record AccessAnswer : Type 0 where
  pub kind : Kind
  pub bytes : List ℕ

-- the same, made from its two parts
abbrev pub got : Kind → List ℕ → AccessAnswer
got k bs = record { kind = k; bytes = bs }

-- LIST-8, LIST-9: what a memory call gives: the refusal and what comes with it, or what each of its accesses gives
abbrev pub CallAnswer : Type 0
CallAnswer = Outcome (List AccessAnswer)

-- LIST-1: a call of a list: a memory call, or a register read or write
pub data Call : Type 0 where
  memory : MemoryCall → Call
  read_register : ℕ → Call
  write_register : ℕ → ℕ → Call
