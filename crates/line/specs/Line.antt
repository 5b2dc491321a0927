-- What a line prints, and what it leaves of the record and the cells. The columns of the check code come first.
use Rattle.std.specs.Prelude.{ℕ, List, [], Option, None, Some}
use Rattle.register_calls.specs.Calls.{read_at, declined, written}
use Rattle.calls.specs.Calls.{MemoryCall, Call, memory, read_register, write_register}
use Rattle.calls.specs.State.{State, state}
use Rattle.calls.specs.Answers.{Effect}
use Rattle.machine.specs.Calls.{called}
use Rattle.parser.specs.Format.{parse}
use Rattle.print.specs.Output.{malformed_text, register_write_text, register_read_text, call_text}

-- the bytes printed, with the LF, and the record and cells after them
abbrev pub Printed : Type 0
Printed = List ℕ × State

-- what a memory call with this effect prints and leaves
abbrev pub printed_effect : MemoryCall → Effect → Printed
printed_effect c e = (call_text c e.answer e.buffer, e.state)

module _ (cols : List ℕ) where
  -- LINE-10: a call prints one line
  unfoldable pub call_of : State → Call → Printed
  call_of st (memory c) = printed_effect c (called cols st c [])
  call_of st (read_register o) = (register_read_text (read_at st.registers o), st)
  call_of st (write_register o v) = (register_write_text (declined st.registers o v), state (written st.registers o v) st.cells)

  -- LINE-11, REF-18: a malformed line changes nothing
  unfoldable pub or_malformed : State → Option Call → Printed
  or_malformed st None = (malformed_text, st)
  or_malformed st (Some c) = call_of st c

  -- LINE-10: what one line prints and leaves
  unfoldable pub line_of : State → List ℕ → Printed
  line_of st line = or_malformed st (parse line)
