-- Laws of a step over a chunk: its lines, its output, what is carried.
use mathlib.Core.Path.{◌≡◌, refl, sym, ap, subst, ◌∙◌}
use mathlib.Core.Bool.{false, cond}
use Rattle.std.specs.Prelude.{None, Some, unwrap_or}
use mathlib.Core.List.{List, [], ◌∷◌, ◌++◌, append_assoc, append-nil}
use Rattle.std.proofs.lemmas.List.{take_min}
use Prim.Native.Nat.{ℕ, min, suc, ◌+◌, ◌*◌, ◌-◌, ◌≤◌, ◌<◌}
use native.Mathlib.Omega.{arith}
use lib.Dec.{leb, eqb}
use lib.ListN.{length, take, drop, length-append, length-drop, drop_of_length-le, take-append-drop}
use lib.Seq.{drop-drop, take_all, take-append-add, take-append_seam, drop-append-add, drop-append_seam, length-take-le}
use borrow.Author.Tests.{eqb-true, ne_eqb, le-leb, lt-leb, lt-ltb}
use borrow.Rule.Slice.PartMut.{mid_of, put_mid}
use Rattle.basics.proofs.RangeLaws.{by_cases}
use Rattle.parser.proofs.PaddedLaws.{zeros, drop_zeros}
use Rattle.print.specs.CodePrinted.{longest_output_line}
use Rattle.line.specs.Line.{Printed, line_of}
use Rattle.calls.specs.State.{State, state}
use Rattle.lines.specs.Text.{most_carried, Fed, carrying, fed_byte, fed, after, ended}
use Rattle.line.specs.CodeLinePrinted.{LineEffect, printed_into, line_into}
use Rattle.line_ends.specs.LineEnd.{line_length}
use Rattle.line_ends.proofs.LineEndLaws.{end_within}
use Rattle.lines.specs.declared.buffers.Carry.{Carry}
use Rattle.lines.specs.declared.feed.Kept.{Kept}
use Rattle.lines.specs.CodeStepped.{carried_of, kept_of, carry_of, kept_as, Appended, Reached, LinesReached, StepEffect, step_of, end_into, carry_after}
use Rattle.line.proofs.LineLaws.{room_printed}
use Rattle.line.proofs.LengthLaws.{line_few}
use Rattle.lines.proofs.TextLaws.{line_take, fed_line, fed_plain}

-- the first LF of a chunk, or its end, lies in it
pub first_end : (chunk : List ℕ) (e : ℕ) → e ≡ 0 + line_length (drop 0 chunk) → e ≡ length (take e chunk)
first_end chunk e h = sym (length-take-le e chunk (end_within chunk 0 e (omega arith) h))

-- ---- what is carried

-- both parts put over zeros, one after the other
placed : (size m k : ℕ) (start part copied last : List ℕ) → k ≡ m → copied ≡ start → last ≡ take k part
    → put_mid (length start) k (copied ++ drop (length start) (zeros size)) last ≡ (start ++ take m part) ++ zeros (size - (length start + m))
placed size m k start part copied last h e f =
    let n = length start in
    let left : size - n - m ≡ size - (n + m) = omega arith in
    rw (e, f, h, take-append_seam start (drop n (zeros size)), drop-append_seam start (drop n (zeros size)), drop_zeros n size, drop_zeros m (size - n), left)
    (sym (append_assoc start (take m part) (zeros (size - (n + m)))))

-- as many bytes of a part as there is room for
room_for : (size m : ℕ) (start part : List ℕ) → length start ≤ size → m ≡ min (size - length start) (length part) → take size (start ++ part) ≡ start ++ take m part
room_for size m start part h e =
    let w : size ≡ length start + (size - length start) = omega arith in
    ap (λ (j : ℕ). take j (start ++ part)) w ∙ take-append-add start part (size - length start)
    ∙ ap (λ (l : List ℕ). start ++ l) (sym (rw e (take_min (size - length start) part)))

pub joined_is : (m k : ℕ) (start part copied last : List ℕ) → length start ≤ most_carried → m ≡ min (most_carried - length start) (length part) → k ≡ m → copied ≡ start → last ≡ take k part
    → ◌≡◌ {A = Carry} (record { bytes = put_mid (length start) k (copied ++ drop (length start) (zeros most_carried)) last; len = length start + m }) (carry_of (take most_carried (start ++ part)))
unfolding carry_of
joined_is m k start part copied last h e i f g =
    let all = start ++ take m part in
    let few : m ≤ length part = omega (arith, e) in
    let size : length all ≡ length start + m = length-append start (take m part) ∙ ap (λ (j : ℕ). length start + j) (length-take-le m part few) in
    let bytes = placed most_carried m k start part copied last i f g ∙ ap (λ (j : ℕ). all ++ zeros (most_carried - j)) (sym size) in
    let same : ◌≡◌ {A = Carry} _ (carry_of all) = λ i. record { bytes = bytes i; len = sym size i } in
    same ∙ ap carry_of (sym (room_for most_carried m start part h e))

-- what is carried is what was put there
pub carried_is : (x : Carry) (c : List ℕ) → x ≡ carry_of c → carried_of x ≡ c
unfolding carry_of
carried_is x c e = ap carried_of e ∙ take-append_seam c (zeros (most_carried - length c))

-- ---- what is put out from a place on

-- a text at the start of the part from n on
append_part : (out t : List ℕ) (n : ℕ) → n + length t ≤ length out → Appended out n t (take n out ++ (t ++ drop (length t) (drop n out))) (n + length t)
append_part out t n h =
    let d = drop (length t) (drop n out) in
    let l : length (take n out) ≡ n = length-take-le n out (omega arith) in
    let w : n + length t ≡ length (take n out) + length t = omega arith in
    let b : length d ≡ length out - n - length t = simp length-drop in
    record {
      place = refl;
      front =
          ap (λ (m : ℕ). take m (take n out ++ (t ++ d))) w
          ∙ take-append-add (take n out) (t ++ d) (length t) ∙ ap (λ (x : List ℕ). take n out ++ x) (take-append_seam t d);
      behind =
          ap (λ (m : ℕ). drop m (take n out ++ (t ++ d))) w
          ∙ drop-append-add (take n out) (t ++ d) (length t) ∙ drop-append_seam t d ∙ drop-drop (length t) n out;
      size = simp length-append (omega arith);
    }

-- a line executed into that part: its text and what it leaves
module _ (cols : List ℕ) (st : State) (line out : List ℕ) (n k : ℕ) (part : List ℕ) (st' : State) (room : n + longest_output_line ≤ length out)
    (e : ◌≡◌ {A = LineEffect} (k, part, st') (line_into cols st line (drop n out))) where
  same : ◌≡◌ {A = LineEffect} (k, part, st') (printed_into (drop n out) (line_of cols st line))
  same = e ∙ room_printed cols st line (drop n out) (simp length-drop (omega arith))

  pub line_leaves : ◌≡◌ {A = Printed} ((line_of cols st line).0, st') (line_of cols st line)
  line_leaves = ap (λ (s : State). ((line_of cols st line).0, s)) (ap (λ (x : LineEffect). x.2) same)

  pub line_appended : Appended out n (line_of cols st line).0 (take n out ++ part) (n + k)
  line_appended =
      let l : k ≡ length (line_of cols st line).0 = ap (λ (x : LineEffect). x.0) same in
      let p : part ≡ (line_of cols st line).0 ++ drop (length (line_of cols st line).0) (drop n out) = ap (λ (x : LineEffect). x.1) same in
      rw (l, p) (append_part out (line_of cols st line).0 n (omega (arith, line_few cols st line)))

pub into_few : (cols : List ℕ) (st : State) (line out : List ℕ) → (line_into cols st line out).0 ≤ longest_output_line
unfolding line_into
into_few cols st line out =
    by_cases (leb longest_output_line (length out)) (λ t. rw t (line_few cols st line)) (λ t. rw t (omega arith))

-- the part from n on, as it is lent and as it comes back
mid_rest : (n : ℕ) (out : List ℕ) → mid_of n (length out - n) out ≡ drop n out
mid_rest n out = take_all (length out - n) (drop n out) (omega (arith, length-drop n out))

part_back : (n : ℕ) (out part : List ℕ) → put_mid n (length out - n) out part ≡ take n out ++ part
part_back n out part =
    ap (λ (l : List ℕ). take n out ++ l)
    (ap (λ (l : List ℕ). part ++ l) (drop_of_length-le (drop n out) {i = length out - n} (omega (arith, length-drop n out))) ∙ append-nil part)

module _ (cols : List ℕ) (f : Fed) (chunk out : List ℕ) where
  pub reached_start : longest_output_line * length chunk ≤ length out → Reached cols f chunk out f 0 out 0
  reached_start h = record { same = refl; behind = refl; size = refl; within = omega arith; room = omega arith }

  module _ (st₁ : State) (c₁ : List ℕ) (i : ℕ) (out₁ : List ℕ) (n : ℕ) (h : Reached cols f chunk out (carrying st₁ c₁) i out₁ n) where
    reached_text : (e : ℕ) → e ≡ i + line_length (drop i chunk) → e < length chunk → (t : List ℕ) (st₂ : State) (out₂ : List ℕ) (m : ℕ)
        → ◌≡◌ {A = Printed} (t, st₂) (line_of cols st₁ (c₁ ++ take (e - i) (drop i chunk)))
        → length t ≤ longest_output_line → Appended out₁ n t out₂ m → Reached cols f chunk out (carrying st₂ []) (e + 1) out₂ m
    reached_text e g k t st₂ out₂ m l few p =
        let xs = drop i chunk in
        let size = h.size in
        let within = h.within in
        let room = h.room in
        let place = p.place in
        let w : length xs ≡ length chunk - i = length-drop i chunk in
        let u : e - i ≡ line_length xs = omega arith in
        let v : i + suc (line_length xs) ≡ e + 1 = omega arith in
        let line : line_of cols st₁ (c₁ ++ take (line_length xs) xs) ≡ (t, st₂) = rw u at (sym l) in
        let one : fed cols (carrying st₁ c₁) xs ≡ after t (fed cols (carrying st₂ []) (drop (e + 1) chunk)) =
        fed_line cols st₁ xs c₁ (omega arith) ∙ rw (line, drop-drop (suc (line_length xs)) i chunk, v) in
        record {
          same =
              h.same ∙ ap (after (take n out₁)) one
              ∙ rw (p.front, append_assoc (take n out₁) t (fed cols (carrying st₂ []) (drop (e + 1) chunk)).0);
          behind = p.behind ∙ rw (place, ← drop-drop (length t) n out₁, h.behind, drop-drop (length t) n out);
          size = p.size ∙ h.size;
          within = omega arith;
          room = omega arith;
        }

    -- one line more, executed into the rest of the output
    pub reached_line : (e : ℕ) → e ≡ i + line_length (drop i chunk) → e < length chunk → (line : List ℕ)
        → line_of cols st₁ line ≡ line_of cols st₁ (c₁ ++ take (e - i) (drop i chunk)) → (k : ℕ) (part : List ℕ) (st₂ : State)
        → ◌≡◌ {A = LineEffect} (k, part, st₂) (line_into cols st₁ line (mid_of n (length out₁ - n) out₁))
        → Reached cols f chunk out (carrying st₂ []) (e + 1) (put_mid n (length out₁ - n) out₁ part) (n + k)
    reached_line e g w line same k part st₂ l =
        let size = h.size in
        let room = h.room in
        let more : n + longest_output_line ≤ length out₁ = omega arith in
        let m : ◌≡◌ {A = LineEffect} (k, part, st₂) (line_into cols st₁ line (drop n out₁)) = l ∙ ap (line_into cols st₁ line) (mid_rest n out₁) in
        reached_text e g w (line_of cols st₁ line).0 st₂ (put_mid n (length out₁ - n) out₁ part) (n + k)
        (line_leaves cols st₁ line out₁ n k part st₂ more m ∙ same) (line_few cols st₁ line)
        (rw (part_back n out₁ part) (line_appended cols st₁ line out₁ n k part st₂ more m))

-- what was carried up to a place: nothing, but at the start
abbrev pub carried_at : List ℕ → ℕ → List ℕ
carried_at c i = cond (eqb i 0) c []

-- the line there
pub line_from : (cols : List ℕ) (st : State) (c chunk first line : List ℕ) (i e : ℕ) → (i ≡ 0 → first ≡ take most_carried (c ++ take e chunk))
    → line ≡ cond (eqb i 0) first (take (e - i) (drop i chunk)) → line_of cols st line ≡ line_of cols st (carried_at c i ++ take (e - i) (drop i chunk))
line_from cols st c chunk first line i e h l =
    by_cases (eqb i 0)
    (λ t.
    let z : i ≡ 0 = eqb-true i 0 t in
    let s : line ≡ first = l ∙ rw t in
    let d : e - i ≡ e = omega arith in
    rw t (ap (line_of cols st) (s ∙ h z) ∙ line_take cols st (c ++ take e chunk) ∙ rw (d, z)))
    (λ t. rw t (ap (line_of cols st) (l ∙ rw t)))

-- ---- the lines of a chunk that has one; `first` is the first with what was carried, and `stop` is where it ends

-- before the line from i to e is executed
pub record Before (cols : List ℕ) (st : State) (first chunk : List ℕ) (stop : ℕ) (out : List ℕ) (st₁ : State) (i e : ℕ) (out₁ : List ℕ) (n : ℕ) : Type 0 where
  pub ends : e ≡ i + line_length (drop i chunk)
  pub more : e < length chunk
  pub start : i ≡ 0 → e ≡ stop
  pub size : length out₁ ≡ length out
  pub room : n + longest_output_line * (length chunk - i) ≤ length out
  pub reached : (c : List ℕ) → first ≡ take most_carried (c ++ take stop chunk) → Reached cols (carrying st c) chunk out (carrying st₁ (carried_at c i)) i out₁ n

module _ (cols : List ℕ) (st : State) (first chunk : List ℕ) (stop : ℕ) (out : List ℕ) where
  pub before_first : stop ≡ 0 + line_length (drop 0 chunk) → stop < length chunk → longest_output_line * length chunk ≤ length out → Before cols st first chunk stop out st 0 stop out 0
  before_first e h k =
      record { ends = e; more = h; start = λ z. refl; size = refl; room = omega arith; reached = λ c f. reached_start cols (carrying st c) chunk out k }

  module _ (st₁ : State) (i e : ℕ) (out₁ : List ℕ) (n : ℕ) (h : Before cols st first chunk stop out st₁ i e out₁ n) (line : List ℕ)
      (l : line ≡ cond (eqb i 0) first (take (e - i) (drop i chunk))) (k : ℕ) (part : List ℕ) (st₂ : State)
      (x : ◌≡◌ {A = LineEffect} (k, part, st₂) (line_into cols st₁ line (mid_of n (length out₁ - n) out₁))) where
    abbrev out₂ : List ℕ
    out₂ = put_mid n (length out₁ - n) out₁ part

    -- what the line leaves
    after_line : (c : List ℕ) → first ≡ take most_carried (c ++ take stop chunk) → Reached cols (carrying st c) chunk out (carrying st₂ []) (e + 1) out₂ (n + k)
    after_line c f =
        reached_line cols (carrying st c) chunk out st₁ (carried_at c i) i out₁ n (h.reached c f) e h.ends h.more line
        (line_from cols st₁ c chunk first line i e (λ z. f ∙ ap (λ (m : ℕ). take most_carried (c ++ take m chunk)) (sym (h.start z))) l) k part st₂ x

    pub lines_reached : LinesReached cols st first chunk stop out st₂ (e + 1) out₂ (n + k)
    unfolding LinesReached
    lines_reached = after_line

    room_here : n + longest_output_line ≤ length out₁
    room_here =
        let size = h.size in
        let room = h.room in
        let ends = h.ends in
        let more = h.more in
        omega arith

    pub same_size : length out₂ ≡ length out
    same_size =
        let m : ◌≡◌ {A = LineEffect} (k, part, st₂) (line_into cols st₁ line (drop n out₁)) = x ∙ ap (line_into cols st₁ line) (mid_rest n out₁) in
        ap length (part_back n out₁ part) ∙ (line_appended cols st₁ line out₁ n k part st₂ room_here m).size ∙ h.size

    pub line_fits : n + k + longest_output_line * (length chunk - (e + 1)) ≤ length out
    line_fits =
        let few : k ≤ longest_output_line = subst (λ (m : ℕ). m ≤ longest_output_line) (sym (ap (λ (y : LineEffect). y.0) x)) (into_few cols st₁ line _) in
        let room = h.room in
        let ends = h.ends in
        let more = h.more in
        omega arith

    pub before_next : (e₂ : ℕ) → e₂ ≡ e + 1 + line_length (drop (e + 1) chunk) → e₂ < length chunk → Before cols st first chunk stop out st₂ (e + 1) e₂ out₂ (n + k)
    before_next e₂ g w =
        let later : eqb (e + 1) 0 ≡ false = ne_eqb (e + 1) 0 (λ z. omega arith) in
        record {
          ends = g;
          more = w;
          start = λ z. absurd (omega arith);
          size = same_size;
          room = line_fits;
          reached = λ c f. rw later (after_line c f);
        }

ended_line : (cols : List ℕ) (st : State) (l : List ℕ) → 0 < length l → ended cols st l ≡ line_of cols st l
unfolding ended
ended_line cols st [] h = absurd (omega arith)
ended_line cols st (b ∷ l) h = refl

-- the end of the input: with a byte carried it is a step over an LF, and with none it is nothing
abbrev pub leaves_of : StepEffect → LineEffect
leaves_of s = (unwrap_or s.0 0, s.2, state s.1.0.registers s.1.1)

pub end_step : (cols : List ℕ) (kept : Kept) (cells out : List ℕ) → 0 < length (carried_of kept.carry)
    → leaves_of (step_of cols kept cells (0x0A ∷ []) out) ≡ end_into cols (state kept.registers cells) (carried_of kept.carry) out
unfolding end_into step_of fed fed_byte
end_step cols kept cells out h =
    let st = state kept.registers cells in
    let l = carried_of kept.carry in
    let e = ended_line cols st l h in
    let n = append-nil (line_of cols st l).0 in
    by_cases (leb longest_output_line (length out)) (λ t. rw (t, e, n)) (λ t. rw t)

pub end_none : (cols : List ℕ) (st : State) (out : List ℕ) → ◌≡◌ {A = LineEffect} (0, out, st) (end_into cols st [] out)
unfolding end_into ended
end_none cols st out = by_cases (leb longest_output_line (length out)) (λ t. rw t) (λ t. rw t)

-- what is carried then
pub end_carry : (cols : List ℕ) (kept : Kept) (cells out : List ℕ) → 0 < kept.carry.len
    → (step_of cols kept cells (0x0A ∷ []) out).1.0.carry ≡ carry_after kept.carry out
unfolding carry_after step_of fed fed_byte
end_carry cols kept cells out h =
    by_cases (leb longest_output_line (length out)) (λ t. rw (t, lt-ltb 0 kept.carry.len h)) (λ t. rw (t, lt-ltb 0 kept.carry.len h))

pub none_after : (c : Carry) (out : List ℕ) → c.len ≡ 0 → c ≡ carry_after c out
unfolding carry_after
none_after c out e = rw e

-- ---- a whole chunk

module _ (cols : List ℕ) (kept : Kept) (cells chunk out : List ℕ) where
  -- taken: what was printed stands at the start of the output
  step_taken : longest_output_line * length chunk ≤ length out → (n : ℕ) (g : Fed) (out₁ : List ℕ) → (take n out₁, g) ≡ fed cols (kept_of kept cells) chunk → n ≤ length out₁ → drop n out₁ ≡ drop n out
      → ◌≡◌ {A = StepEffect} (Some n, kept_as g, out₁) (step_of cols kept cells chunk out)
  unfolding step_of
  step_taken h n g out₁ e k d =
      let l : length (take n out₁) ≡ n = length-take-le n out₁ k in
      rw (le-leb (longest_output_line * length chunk) (length out) h, ← e, l, ← d, take-append-drop n out₁)

  pub step_refused : length out < longest_output_line * length chunk → ◌≡◌ {A = StepEffect} (None, (kept, cells), out) (step_of cols kept cells chunk out)
  unfolding step_of
  step_refused h = rw (lt-leb (longest_output_line * length chunk) (length out) h)

  -- the two ways of a taken chunk: without an LF, and with one; `first` is what is carried with the bytes up to its first LF
  module _ (e : ℕ) (room : longest_output_line * length chunk ≤ length out) (end : e ≡ 0 + line_length (drop 0 chunk))
      (few : length (carried_of kept.carry) ≤ most_carried) where
    abbrev c : List ℕ
    c = carried_of kept.carry

    abbrev st : State
    st = state kept.registers cells

    abbrev pub first : List ℕ
    first = take most_carried (c ++ take e chunk)

    pub step_plain : e ≡ length chunk → ◌≡◌ {A = StepEffect} (Some 0, kept_as (carrying st first), out) (step_of cols kept cells chunk out)
    step_plain h =
        let all : take e chunk ≡ chunk = take_all e chunk (omega arith) in
        step_taken room 0 (carrying st first) out
        (ap (λ (x : List ℕ). ([], carrying st (take most_carried (c ++ x)))) all ∙ sym (fed_plain cols st chunk c (omega arith) few))
        (omega arith) refl

    module _ (st₁ : State) (out₁ : List ℕ) (from at : ℕ) (reached : Reached cols (carrying st c) chunk out (carrying st₁ []) from out₁ at)
        (last : line_length (drop from chunk) ≡ length chunk - from) where
      abbrev rest : List ℕ
      rest = take most_carried (drop from chunk)

      left_over : fed cols (carrying st₁ []) (drop from chunk) ≡ ([], carrying st₁ rest)
      left_over =
          let n : line_length (drop from chunk) ≡ length (drop from chunk) = last ∙ sym (length-drop from chunk) in
          fed_plain cols st₁ (drop from chunk) [] n (omega arith)

      pub step_lines : ◌≡◌ {A = StepEffect} (Some at, kept_as (carrying st₁ rest), out₁) (step_of cols kept cells chunk out)
      step_lines =
          let size = reached.size in
          let within = reached.room in
          let all : (take at out₁, carrying st₁ rest) ≡ fed cols (carrying st c) chunk = rw (left_over, append-nil (take at out₁)) at (sym reached.same) in
          step_taken room at (carrying st₁ rest) out₁ all (omega arith) reached.behind
