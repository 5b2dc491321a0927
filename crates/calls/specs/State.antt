-- What a call is given and leaves.
use Rattle.std.specs.Prelude.{ℕ, List}
use Rattle.registers.specs.declared.Registers.{Registers}
use Rattle.registers.specs.Record.{record_of}

-- MEM-1: the record and the lent cells
pub record State : Type 0 where
  pub registers : Registers
  pub cells : List ℕ

-- the same, made from its two parts
abbrev pub state : Registers → List ℕ → State
state r cells = record { registers = r; cells = cells }

-- the state of what a caller lends: the 256 bytes of a record, and cells
abbrev pub lent_state : List ℕ → List ℕ → State
lent_state registers cells = state (record_of registers) cells
