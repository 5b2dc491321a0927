-- What a memory call gives and leaves, as its contract says it.
use Rattle.std.specs.Prelude.{ℕ, List, [], ◌∷◌, ◌++◌, take, Result, Ok, Err}
use Rattle.refusals.specs.Paper.{paper, Outcome, refused, given}
use Rattle.refusals.specs.declared.Refusal.{Refusal}
use Rattle.calls.specs.declared.Kind.{Kind}
use Rattle.calls.specs.declared.Kinds.{Kinds}
use Rattle.calls.specs.Calls.{AccessAnswer, CallAnswer}
use Rattle.calls.specs.State.{State}

-- DEM-1, DEM-4: all that a call gives and leaves: the answer with a kind for each access, the state, and the buffer, which is empty if none is lent
pub record Effect : Type 0 where
  pub answer : Outcome (List Kind)
  pub state : State
  pub buffer : List ℕ

-- what a call returns: why it was refused, or the kinds of its accesses
abbrev pub Answer : Type 0
Answer = Result Kinds Refusal

-- the kinds of the accesses of an accepted call
abbrev pub kinds_in : Kinds → List Kind
kinds_in k = take k.count k.all

-- FORM-7: the number and the values of an answer
abbrev pub paper_answer : Answer → Outcome (List Kind)
paper_answer (Ok k) = given (kinds_in k)
paper_answer (Err x) = refused (paper x)

-- DEM-4: an answer, with the state and the buffer as the call left them
abbrev pub leaves : Answer → State → List ℕ → Effect
leaves x st buffer = record { answer = paper_answer x; state = st; buffer = buffer }

-- the kinds of what the accesses gave
abbrev pub kinds_of : List AccessAnswer → List Kind
kinds_of [] = []
kinds_of (g ∷ gs) = g.kind ∷ kinds_of gs

-- the bytes that the accesses read, in order
abbrev pub bytes_of : List AccessAnswer → List ℕ
bytes_of [] = []
bytes_of (g ∷ gs) = g.bytes ++ bytes_of gs

-- DEM-1: a refused call leaves the buffer as it was; an accepted one fills it
abbrev pub effect_of : CallAnswer × State → List ℕ → Effect
effect_of (refused n, st) buffer = record { answer = refused n; state = st; buffer = buffer }
effect_of (given gs, st) buffer = record { answer = given (kinds_of gs); state = st; buffer = bytes_of gs }
