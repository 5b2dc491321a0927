-- What a line prints and leaves, from what its call returned.
use Rattle.std.specs.Prelude.{Result, ⊤}
use mathlib.Core.Path.{◌≡◌, refl, sym, ap, ◌∙◌}
use mathlib.Core.Bool.{cond}
use mathlib.Core.List.{List, [], ◌∷◌, ◌++◌, append_assoc}
use mathlib.Core.Option.{none, some}
use Rattle.std.specs.Prelude.{Option}
use Prim.Native.Nat.{ℕ, ◌<◌, ◌≤◌}
use native.Mathlib.Omega.{arith}
use lib.Dec.{ltb}
use lib.ListN.{length, take, drop, take-append-drop}
use lib.Seq.{take_all, length-take-le}
use Rattle.std.proofs.lemmas.List.{drop-append-le}
use borrow.Author.Tests.{lt-ltb, ltb-true, ltb-false, ne_eqb, le-leb, lt-leb}
use Rattle.basics.proofs.RangeLaws.{by_cases}
use Rattle.refusals.specs.Paper.{Declined, ◌else◌, paper_verdict, paper_outcome, Outcome, refused, given}
use Rattle.registers.specs.declared.Registers.{Registers}
use Rattle.refusals.specs.declared.Refusal.{Refusal}
use Rattle.register_calls.specs.Calls.{read_at, write_at}
use Rattle.calls.specs.Calls.{MemoryCall, read, flip, CallAnswer, memory, read_register, write_register}
use Rattle.calls.specs.Spans.{by_call, by_arguments, by_count}
use Rattle.calls.specs.State.{State, state}
use Rattle.calls.specs.Answers.{Answer, Effect, paper_answer, leaves, effect_of}
use Rattle.banks.specs.Judge.{not_ready}
use Rattle.machine.specs.Calls.{setup, refusal, performed, memory_call, called}
use Rattle.machine.proofs.FlipLaws.{flip_call_keeps_registers}
use Rattle.parser.specs.declared.request.Request.{Request}
use Rattle.parser.specs.CodeParsed.{parsed_as, meant}
use Rattle.parser.specs.Format.{parse}
use Rattle.parser.proofs.ParsedLaws.{parsed_means}
use Rattle.print.specs.Output.{verdict_text, register_write_text, register_read_text, call_text}
use Rattle.print.specs.CodePrinted.{longest_output_line, print_into, read_line}
use Rattle.print.proofs.PrintLaws.{print_start, read_text, register_write_text_lem}
use Rattle.line.specs.Line.{Printed, printed_effect, call_of, or_malformed, line_of}
use Rattle.line.proofs.LengthLaws.{line_few}
use Rattle.line.specs.CodeLinePrinted.{LineEffect, printed_into, line_into}

-- ---- a memory call

-- the buffer that a call was lent does not matter: a refused one prints no bytes
any_buffer : (cols : List ℕ) (st : State) (c : MemoryCall) (b d : List ℕ) → printed_effect c (called cols st c b) ≡ printed_effect c (called cols st c d)
unfolding called call_text
any_buffer cols st c b d = go (memory_call cols st c)
  where
    go : (x : CallAnswer × State) → printed_effect c (effect_of x b) ≡ printed_effect c (effect_of x d)
    go (refused n, s) = refl
    go (given gs, s) = refl

-- a memory call that answered y
pub memory_line : (cols : List ℕ) (st : State) (c : MemoryCall) (y : Answer) (st' : State) (buffer lent t : List ℕ)
    → leaves y st' buffer ≡ called cols st c lent → call_text c (paper_answer y) buffer ≡ t → (t, st') ≡ call_of cols st (memory c)
unfolding call_of
memory_line cols st c y st' buffer lent t e g =
    ap (λ (u : List ℕ). (u, st')) (sym g) ∙ ap (printed_effect c) e ∙ any_buffer cols st c lent []

-- a flip that answered y, whose record need not be taken back
pub flip_line : (cols : List ℕ) (st : State) (a b : ℕ) (y : Answer) (r : Registers) (cells t : List ℕ) → leaves y (state r cells) [] ≡ called cols st (flip a b) []
    → call_text (flip a b) (paper_answer y) [] ≡ t → (t, state st.registers cells) ≡ call_of cols st (memory (flip a b))
flip_line cols st a b y r cells t e g =
    let same : r ≡ st.registers = ap (λ (x : Effect). x.state.registers) e ∙ flip_call_keeps_registers cols st a b in
    memory_line cols st (flip a b) y (state st.registers cells) [] [] t (rw same at e) g

-- ---- a read

-- its buffer is one of nine bytes, or a part of it
pub buffer_fits : (n m : ℕ) → m ≡ cond (ltb 8 n) 9 n → m ≤ 9
buffer_fits n m e = by_cases (ltb 8 n) (λ t. let f : m ≡ 9 = rw t at e in omega arith) (λ t. let f : m ≡ n = rw t at e in let h = ltb-false 8 n t in omega arith)

-- one of more than 8 bytes is refused in the same way as one of 9

-- the refusal that comes before 6, or 6
abbrev first : Declined → List ℕ
first none = 6 ∷ []
first (some m) = m

module _ (cols : List ℕ) (st : State) (a : ℕ) where
  long_arguments : (n : ℕ) → 8 < n → by_arguments (read a n) ≡ some (6 ∷ [])
  unfolding by_arguments by_count
  long_arguments n h = rw (ne_eqb n 0 (λ e. omega arith), lt-ltb 8 n h)

  long_refusal : (n : ℕ) → 8 < n → refusal st (read a n) ≡ (not_ready (setup st) else some (6 ∷ []))
  unfolding refusal by_call
  long_refusal n h = rw (long_arguments n h)

  long_called : (d : Declined) (n : ℕ) (b : List ℕ) → refusal st (read a n) ≡ (d else some (6 ∷ []))
      → called cols st (read a n) b ≡ record { answer = refused (first d); state = st; buffer = b }
  unfolding called memory_call performed
  long_called none n b e = rw e
  long_called (some m) n b e = rw e

  -- it is executed as one of 9; a refusal prints no bytes
  long_line : (n : ℕ) (y : Answer) (st' : State) (buffer lent bs : List ℕ) → 8 < n → leaves y st' buffer ≡ called cols st (read a 9) lent
      → (read_line y bs, st') ≡ call_of cols st (memory (read a n))
  unfolding call_text
  long_line n y st' buffer lent bs h e =
      let d = not_ready (setup st) in
      let nine = e ∙ long_called d 9 lent (long_refusal 9 (omega arith)) in
      let text : call_text (read a n) (paper_answer y) buffer ≡ read_line y bs = rw (ap (λ (x : Effect). x.answer) nine) in
      memory_line cols st (read a n) y st' buffer lent (read_line y bs) (nine ∙ sym (long_called d n lent (long_refusal n h))) text

  -- a read of n bytes that was lent a buffer of m
  pub read_line_lem : (n m : ℕ) (y : Answer) (st' : State) (buffer lent : List ℕ) → m ≡ cond (ltb 8 n) 9 n → length lent ≡ m → length buffer ≡ m
      → leaves y st' buffer ≡ called cols st (read a (length lent)) lent → (read_line y (take 8 buffer), st') ≡ call_of cols st (memory (read a n))
  read_line_lem n m y st' buffer lent e k l h =
      by_cases (ltb 8 n)
      (λ t.
      let nine : length lent ≡ 9 = k ∙ e ∙ rw t in
      long_line n y st' buffer lent (take 8 buffer) (ltb-true 8 n t) (rw nine at h))
      (λ t.
      let few = ltb-false 8 n t in
      let all : m ≡ n = e ∙ rw t in
      let same : length lent ≡ n = k ∙ all in
      memory_line cols st (read a n) y st' buffer lent _ (rw same at h) (read_text buffer y a n ∙ ap (read_line y) (sym (take_all 8 buffer (omega arith)))))

pub register_write_line : (cols : List ℕ) (r : Registers) (cells : List ℕ) (o v : ℕ) (x : Result ⊤ Refusal) (after : Registers) → (paper_verdict x, after) ≡ write_at r o v
    → (verdict_text 0x63 (paper_verdict x), state after cells) ≡ call_of cols (state r cells) (write_register o v)
unfolding call_of write_at
register_write_line cols r cells o v x after e =
    ap (λ (t : List ℕ). (t, state after cells)) (register_write_text_lem (paper_verdict x))
    ∙ ap (λ (p : Declined × Registers). (register_write_text p.0, state p.1 cells)) e

pub register_read_line : (cols : List ℕ) (r : Registers) (cells : List ℕ) (o : ℕ) (x : Result ℕ Refusal) → paper_outcome x ≡ read_at r o
    → (register_read_text (paper_outcome x), state r cells) ≡ call_of cols (state r cells) (read_register o)
unfolding call_of
register_read_line cols r cells o x e = ap (λ (y : Outcome ℕ). (register_read_text y, state r cells)) e

-- ---- the same at the start of an output with room for it

pub line_printed : (n : ℕ) (out out' t : List ℕ) (st : State) (p : Printed) → longest_output_line ≤ length out → (n, out') ≡ print_into t out → (t, st) ≡ p
    → ◌≡◌ {A = LineEffect} (n, out', st) (printed_into out p)
line_printed n out out' t st p room e f =
    ap (λ (x : ℕ × List ℕ). (x.0, x.1, st)) (e ∙ print_start t out room) ∙ ap (printed_into out) f

-- what was put out to the first bytes of an output, as many as the longest line has, is put out to the output
whole_rest : (t out : List ℕ) → length t ≤ longest_output_line → longest_output_line ≤ length out
    → (t ++ drop (length t) (take longest_output_line out)) ++ drop longest_output_line out ≡ t ++ drop (length t) out
whole_rest t out few h =
    let start = take longest_output_line out in
    let rest = drop longest_output_line out in
    append_assoc t (drop (length t) start) rest
    ∙ ap (λ (l : List ℕ). t ++ l)
    (sym (drop-append-le (length t) start rest (omega (arith, length-take-le longest_output_line out h))) ∙ ap (drop (length t)) (take-append-drop longest_output_line out))

whole_output : (out : List ℕ) (n : ℕ) (ws : List ℕ) (st : State) (p : Printed) → longest_output_line ≤ length out → length p.0 ≤ longest_output_line
    → ◌≡◌ {A = LineEffect} (n, ws, st) (printed_into (take longest_output_line out) p)
    → ◌≡◌ {A = LineEffect} (n, ws ++ drop longest_output_line out, st) (printed_into out p)
whole_output out n ws st p h few e =
    ap (λ (x : LineEffect). (x.0, x.1 ++ drop longest_output_line out, x.2)) e ∙ ap (λ (l : List ℕ). (length p.0, l, p.1)) (whole_rest p.0 out few h)

module _ (cols : List ℕ) (st : State) (line out : List ℕ) where
  pub room_printed : longest_output_line ≤ length out → line_into cols st line out ≡ printed_into out (line_of cols st line)
  unfolding line_into
  room_printed h = rw (le-leb longest_output_line (length out) h)

  pub no_room : length out < longest_output_line → ◌≡◌ {A = LineEffect} (0, out, st) (line_into cols st line out)
  unfolding line_into
  no_room h = rw (lt-leb longest_output_line (length out) h)

  -- what a line prints that asks for nothing, and one that asks for a call, from what the code parsed and put out to the start of the output
  pub executed : (p : Option Request) (start : List ℕ) (n : ℕ) (ws : List ℕ) (st' : State) → longest_output_line ≤ length out → start ≡ take longest_output_line out
      → p ≡ parsed_as (parse line) → ◌≡◌ {A = LineEffect} (n, ws, st') (printed_into start (or_malformed cols st (meant p)))
      → ◌≡◌ {A = LineEffect} (n, ws ++ drop longest_output_line out, st') (line_into cols st line out)
  unfolding line_of
  executed p start n ws st' h s e f =
      let asks : or_malformed cols st (meant p) ≡ line_of cols st line = ap (or_malformed cols st) (ap meant e ∙ parsed_means line) in
      whole_output out n ws st' (line_of cols st line) h (line_few cols st line) (f ∙ rw (s, asks)) ∙ sym (room_printed h)
