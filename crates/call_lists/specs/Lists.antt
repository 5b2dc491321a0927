-- Lists of memory calls and register calls. The columns of the check code come first.
use Rattle.std.specs.Prelude.{ℕ, List, [], ◌∷◌}
use Rattle.std.proofs.Math.Option.{Option, none, some}
use Rattle.register_calls.specs.Calls.{written}
use Rattle.calls.specs.Calls.{CallAnswer, Call, memory, read_register, write_register}
use Rattle.calls.specs.State.{State, state}
use Rattle.machine.specs.Calls.{memory_call}

module _ (cols : List ℕ) where
  -- LIST-10: a call of a list. The place of a register call stays empty: what it returns is not compared
  unfoldable pub call : State → Call → Option CallAnswer × State
  call st (memory c) = let r = memory_call cols st c in (some r.0, r.1)
  call st (read_register o) = (none, st)
  call st (write_register o v) = (none, state (written st.registers o v) st.cells)

  -- LIST-4: each call starts from what the call before it left
  unfoldable pub run : State → List Call → List (Option CallAnswer) × State
  run st [] = ([], st)
  run st (c ∷ cs) =
      let r = call st c in
      let rs = run r.1 cs in
      (r.0 ∷ rs.0, rs.1)
