-- All that an exported memory call returns, gives and leaves (DEM-4).
use Rattle.std.specs.Prelude.{ℕ, List}
use Rattle.calls.specs.State.{State}
use Rattle.calls.specs.Answers.{Effect}
use Rattle.results.specs.Results.{result_of, numbers_after, answer_numbers}

-- what it returns, the record and the cells, the buffer (empty if none is lent), and the numbers lent for the answer
pub record MemoryResult : Type 0 where
  pub result : ℕ
  pub state : State
  pub buffer : List ℕ
  pub answer : List ℕ

-- the same, made from its parts
abbrev pub memory_result : ℕ → State → List ℕ → List ℕ → MemoryResult
memory_result n st buffer answer = record { result = n; state = st; buffer = buffer; answer = answer }

-- the result of a call with this effect; `before` is what the numbers lent for the answer were
abbrev pub result_of_call : Effect → List ℕ → MemoryResult
result_of_call e before = memory_result (result_of e.answer) e.state e.buffer (numbers_after answer_numbers e.answer before)

-- MEM-7: of a flip, which gives no more than its acceptance: what it returns, and the record and the cells after it
abbrev pub flip_result : Effect → ℕ × State
flip_result e = (result_of e.answer, e.state)
