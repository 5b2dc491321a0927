-- No output line is longer than `longest_output_line`.
use mathlib.Core.Path.{◌≡◌, refl}
use mathlib.Core.List.{List, [], ◌∷◌, ◌++◌, append-nil}
use mathlib.Core.Option as maybe
use mathlib.Core.Option.{none, some}
use Rattle.std.specs.Prelude.{Option, None, Some}
use Prim.Native.Nat.{ℕ, ◌-◌, ◌≤◌}
use native.Mathlib.Omega.{arith}
use lib.ListN.{length, get_or, take, drop, length-take, length-append, length-replicate}
use Rattle.basics.proofs.RangeLaws.{by_cases}
use Rattle.refusals.specs.Paper.{Declined, Outcome, refused, given}
use Rattle.refusals.proofs.ChainLaws.{else_left, else_right}
use Rattle.register_calls.specs.Calls.{read_at, declined}
use Rattle.calls.specs.declared.Kind.{Kind}
use Rattle.calls.specs.Calls.{MemoryCall, read, write, flip, scrub, burst_read, burst_write, read_in, write_in, scrub_in, crosses, room, next_doubleword, parts, Call, memory, read_register, write_register}
use Rattle.calls.specs.Spans.{by_call, by_arguments, by_count, by_spans, missed}
use Rattle.calls.specs.State.{State}
use Rattle.calls.specs.Answers.{effect_of}
use Rattle.calls.proofs.SpanLaws.{count_fits}
use Rattle.calls.proofs.SplitLaws.{split_rest}
use Rattle.banks.specs.Judge.{not_ready}
use Rattle.banks.specs.Map.{cell_of}
use Rattle.machine.specs.Cells.{on_cell, read_cell}
use Rattle.machine.specs.Calls.{setup, spans_of, unlent, refusal, on_target, access_at, access, accesses, performed, memory_call, called}
use Rattle.parser.specs.Format.{parse}
use Rattle.print.specs.Digits.{hex_pairs}
use Rattle.print.specs.Output.{accepted_text, letter_of, malformed_text, register_write_text, register_read_text, kinds_text, kinds_and_bytes_text, answer_text, call_text}
use Rattle.print.specs.CodePrinted.{longest_output_line}
use Rattle.print.proofs.PrintLaws.{refused_few, kinds_few, pairs_length}
use Rattle.line.specs.Line.{call_of, or_malformed, line_of}

register_write_few : (d : Declined) → length (register_write_text d) ≤ 5
unfolding register_write_text
register_write_few none = omega arith
register_write_few (some n) = refused_few 0x63 (get_or n 0 0)

-- the line of a read, and that of a write or a scrub
read_line_few : (bs : List ℕ) (ks : List Kind) → length bs ≤ 8 → length ks ≤ 4 → length (accepted_text 0x72 (kinds_and_bytes_text bs ks)) ≤ longest_output_line
read_line_few bs ks h l =
    omega (
      arith,
      length-append (kinds_and_bytes_text bs ks) (0x0A ∷ []),
      length-append (kinds_text ks) (0x2C ∷ hex_pairs bs),
      kinds_few ks,
      pairs_length bs,
    )

kinds_line_few : (letter : ℕ) (ks : List Kind) → length ks ≤ 4 → length (accepted_text letter (kinds_text ks)) ≤ longest_output_line
kinds_line_few letter ks l = omega (arith, length-append (kinds_text ks) (0x0A ∷ []), kinds_few ks)

register_read_few : (o : Outcome ℕ) → length (register_read_text o) ≤ 7
unfolding register_read_text
register_read_few (refused n) = let h = refused_few 0x67 (get_or n 0 0) in omega arith
register_read_few (given v) = omega arith

module _ (cols : List ℕ) (st : State) where
  -- a read's access gives no more bytes than it asks for
  read_few : (a n : ℕ) → length (access cols st (read_in a n)).0.bytes ≤ n
  unfolding access access_at on_target on_cell read_cell missed
  read_few a n = go (cell_of (setup st) a)
    where
      go : (o : maybe.Option ℕ) → length (on_target cols o st.cells (read_in a n)).0.bytes ≤ n
      go none = omega (arith, length-replicate {A = ℕ} n 0xFF)
      go (some k) = simp length-take (omega arith)

-- an accepted read has eight bytes at most
count_few : (st : State) (a n : ℕ) → refusal st (read a n) ≡ none → n ≤ 8
unfolding refusal by_call by_arguments
count_few st a n e =
    let c = else_left (by_call (spans_of (setup st)) (read a n)) (unlent st (parts (read a n))) (else_right (not_ready (setup st)) _ e) in
    (count_fits a n (else_left (by_count a n) (by_spans (spans_of (setup st)) (read a n)) c)).few

module _ (cols : List ℕ) (st : State) where
  call_few : (c : MemoryCall) (d : Declined) → refusal st c ≡ d → length (call_text c (effect_of (performed cols d st (parts c)) []).answer (effect_of (performed cols d st (parts c)) []).buffer) ≤ longest_output_line
  unfolding performed accesses call_text answer_text parts
  call_few c (some n) e = let h = refused_few (letter_of c) (get_or n 0 0) in omega arith
  call_few (read a n) none e =
      let few = count_few st a n e in
      by_cases (crosses a n)
      (λ t.
      let first = access cols st (read_in a (room a)) in
      let second = (access cols first.1 (read_in (next_doubleword a) (n - room a))).0 in
      let h = read_few cols st a (room a) in
      let i = read_few cols first.1 (next_doubleword a) (n - room a) in
      let more = split_rest a n t in
      rw (t, append-nil second.bytes) (read_line_few (first.0.bytes ++ second.bytes) (first.0.kind ∷ second.kind ∷ []) (omega (arith, length-append first.0.bytes second.bytes)) (omega arith)))
      (λ t.
      let only = (access cols st (read_in a n)).0 in
      let h = read_few cols st a n in
      rw (t, append-nil only.bytes) (read_line_few only.bytes (only.kind ∷ []) (omega arith) (omega arith)))
  call_few (write a bs) none e =
      by_cases (crosses a (length bs))
      (λ t.
      let first = access cols st (write_in a (take (room a) bs)) in
      let second = (access cols first.1 (write_in (next_doubleword a) (drop (room a) bs))).0 in
      rw t (kinds_line_few 0x77 (first.0.kind ∷ second.kind ∷ []) (omega arith)))
      (λ t. rw t (kinds_line_few 0x77 ((access cols st (write_in a bs)).0.kind ∷ []) (omega arith)))
  call_few (flip a b) none e = omega arith
  call_few (scrub a) none e = kinds_line_few 0x73 ((access cols st (scrub_in a)).0.kind ∷ []) (omega arith)
  call_few (burst_read a n) none e = omega arith
  call_few (burst_write a bs) none e = omega arith

  or_malformed_few : (o : Option Call) → length (or_malformed cols st o).0 ≤ longest_output_line
  unfolding or_malformed call_of called memory_call malformed_text
  or_malformed_few None = let h = refused_few 0x3F 18 in omega arith
  or_malformed_few (Some (memory c)) = call_few c (refusal st c) refl
  or_malformed_few (Some (read_register o)) = let h = register_read_few (read_at st.registers o) in omega arith
  or_malformed_few (Some (write_register o v)) = let h = register_write_few (declined st.registers o v) in omega arith

  pub line_few : (line : List ℕ) → length (line_of cols st line).0 ≤ longest_output_line
  unfolding line_of
  line_few line = or_malformed_few (parse line)
