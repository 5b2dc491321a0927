-- A flip changes no register.
use mathlib.Core.Path.{◌≡◌, refl}
use mathlib.Core.Bool.{true}
use mathlib.Core.List.{List, []}
use mathlib.Core.Option.{none, some}
use Prim.Native.Nat.{ℕ}
use borrow.Author.Tests.{not-false}
use Rattle.refusals.specs.Paper.{Declined, refused, given}
use Rattle.refusals.proofs.ChainLaws.{else_left, else_right, cause_fails}
use Rattle.registers.specs.declared.Registers.{Registers}
use Rattle.calls.specs.Calls.{flip, flip_in, parts, CallAnswer}
use Rattle.calls.specs.Spans.{by_call, by_arguments, by_spans}
use Rattle.calls.specs.State.{State}
use Rattle.calls.specs.Answers.{effect_of}
use Rattle.banks.specs.Judge.{not_ready}
use Rattle.banks.specs.Map.{in_span, located, cell_of}
use Rattle.error_registers.specs.Errors.{reported}
use Rattle.machine.specs.Cells.{on_cell}
use Rattle.machine.specs.Calls.{setup, spans_of, unlent, refusal, on_target, access_at, access, accesses, performed, memory_call, called}

-- its answer in a cell
pub flip_keeps_registers : (cols : List ℕ) (r : Registers) (cells : List ℕ) (a b k : ℕ) → reported (on_target cols (some k) cells (flip_in a b)).0.kind a r ≡ r
unfolding on_target on_cell reported
flip_keeps_registers cols r cells a b k = refl

module _ (cols : List ℕ) (st : State) (a b : ℕ) where
  -- without a bank it is refused
  flip_finds : refusal st (flip a b) ≡ none → in_span (setup st) a ≡ true
  unfolding refusal by_call by_spans
  flip_finds e =
      let c = else_left (by_call (spans_of (setup st)) (flip a b)) (unlent st (parts (flip a b))) (else_right (not_ready (setup st)) _ e) in
      not-false (in_span (setup st) a) (cause_fails _ _ (else_right (by_arguments (flip a b)) _ c))

  flip_reports : in_span (setup st) a ≡ true → (access cols st (flip_in a b)).1.registers ≡ st.registers
  unfolding access access_at cell_of located
  flip_reports t = rw t (flip_keeps_registers cols st.registers st.cells a b _)

  flip_performs : (d : Declined) → refusal st (flip a b) ≡ d → (performed cols d st (parts (flip a b))).1.registers ≡ st.registers
  unfolding performed accesses parts
  flip_performs none e = flip_reports (flip_finds e)
  flip_performs (some n) e = refl

  -- the whole call
  pub flip_call_keeps_registers : (called cols st (flip a b) []).state.registers ≡ st.registers
  unfolding called memory_call
  flip_call_keeps_registers = go (memory_call cols st (flip a b)) (flip_performs (refusal st (flip a b)) refl)
    where
      go : (x : CallAnswer × State) → x.1.registers ≡ st.registers → (effect_of x []).state.registers ≡ st.registers
      go (refused n, s) h = h
      go (given gs, s) h = h
