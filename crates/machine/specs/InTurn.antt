-- MEM-16: single calls one after the other, which a call of several accesses is compared with.
use Rattle.std.specs.Prelude.{ℕ, ◌^◌, ◌<◌, ◌≡◌, List, [], ◌∷◌, ◌++◌}
use Rattle.std.proofs.Math.Option.{none}
use Rattle.refusals.specs.Paper.{refused, given}
use Rattle.calls.specs.Calls.{MemoryCall, read, write, flip, scrub, burst_read, burst_write, Access, read_in, write_in, flip_in, scrub_in, parts, CallAnswer}
use Rattle.calls.specs.State.{State}
use Rattle.machine.specs.Calls.{refusal, memory_call}

-- an access as a call of its own
abbrev pub single : Access → MemoryCall
single (read_in a n) = read a n
single (write_in a bs) = write a bs
single (flip_in a b) = flip a b
single (scrub_in a) = scrub a

-- the single calls of accesses, in order
abbrev pub singles : List Access → List MemoryCall
singles [] = []
singles (x ∷ xs) = single x ∷ singles xs

-- what a call and those after it give: all that they give, in order, or the first refusal among them
abbrev pub together : CallAnswer → CallAnswer → CallAnswer
together (refused n) rest = refused n
together (given gs) (refused n) = refused n
together (given gs) (given hs) = given (gs ++ hs)

-- calls one after the other, each on what the one before it left
unfoldable pub in_turn : List ℕ → State → List MemoryCall → CallAnswer × State
in_turn cols st [] = (given [], st)
in_turn cols st (c ∷ cs) =
    let r = memory_call cols st c in
    let rs = in_turn cols r.1 cs in
    (together r.0 rs.0, rs.1)

-- MEM-1: the address that a call is given
abbrev pub address_given : MemoryCall → ℕ
address_given (read a n) = a
address_given (write a bs) = a
address_given (flip a b) = a
address_given (scrub a) = a
address_given (burst_read a n) = a
address_given (burst_write a bs) = a

-- MEM-16: an accepted call gives and leaves what its accesses give and leave as single calls, one after the other. MAP-1: an address has 32 bits; a
-- burst beyond would have beats that get 7 as single calls
unfoldable pub AcceptedInTurn : List ℕ → Type 0
AcceptedInTurn cols =
    (st : State) (c : MemoryCall) → address_given c < 2 ^ 32 → refusal st c ≡ none → memory_call cols st c ≡ in_turn cols st (singles (parts c))
