-- Laws of printed bytes.
use Rattle.std.proofs.lemmas.List.{take_all, take-append-le, take_min}
use Rattle.std.specs.Prelude.{Ok, Err}
use Rattle.std.specs.Result.{result_and}
use mathlib.Core.Path.{◌≡◌, refl, sym, ap, ◌∙◌}
use mathlib.Core.List.{List, [], ◌∷◌, ◌++◌, append_assoc, append-nil}
use Prim.Native.Nat.{ℕ, zero, suc, min, ◌+◌, ◌*◌, ◌-◌, ◌/◌, ◌%◌, ◌<◌, ◌≤◌}
use native.Mathlib.Omega.{arith}
use lib.Dec.{ltb}
use lib.ListN.{length-take, length, get_or, take, set, length-set, length-append}
use lib.Seq.{take-suc, take-suc-set, take-append-add}
use borrow.Author.Tests.{le-leb}
use Rattle.basics.proofs.RangeLaws.{by_cases}
use Rattle.refusals.specs.declared.Refusal.TheVariants.{MalformedLine}
use Rattle.refusals.specs.Paper.{Declined, paper_verdict}
use Rattle.calls.specs.declared.Kind.{Kind}
use Rattle.calls.specs.declared.Kind.TheVariants.{Clean, Corrected, Uncorrectable, Stored, NoBank, Flipped}
use Rattle.calls.specs.Calls.{read, write, flip, scrub}
use Rattle.calls.specs.Answers.{Answer, paper_answer}
use Rattle.print.specs.Digits.{hex_pair, hex_character, hex_pairs, decimal}
use Rattle.print.specs.Output.{refused_text, verdict_text, malformed_text, register_write_text, bit_text, kind_text, kinds_text, call_text, answer_text}
use Rattle.print.specs.CodePrinted.{cut, longest_output_line, at_start, print_into, kinds_line, read_line}

-- ---- a line that is put together piece by piece

cut_first : (n : ℕ) (a b : List ℕ) → take n (take n a ++ b) ≡ take n (a ++ b)
cut_first zero a b = refl
cut_first (suc n) [] b = refl
cut_first (suc n) (x ∷ a) b = ap (x ∷◌) (cut_first n a b)

-- what was cut needs no cut before more follows
pub cut_more : (a b : List ℕ) → cut (cut a ++ b) ≡ cut (a ++ b)
unfolding cut
cut_more a b = cut_first longest_output_line a b

pub cut_then : (a b c : List ℕ) → cut (cut (a ++ b) ++ c) ≡ cut (a ++ (b ++ c))
cut_then a b c = cut_more (a ++ b) c ∙ ap cut (append_assoc a b c)

pub cut_fits : (text : List ℕ) → length text ≤ longest_output_line → cut text ≡ text
unfolding cut
cut_fits text h = take_all longest_output_line text h

pub cut_none : (text : List ℕ) → length text ≤ longest_output_line → cut (text ++ []) ≡ text
cut_none text h = ap cut (append-nil text) ∙ cut_fits text h

pub cut_full : (text more : List ℕ) → length text ≡ longest_output_line → cut (text ++ more) ≡ text
unfolding cut
cut_full text more h = rw (← h) (take-append-le (length text) text more (omega arith) ∙ take_all (length text) text (omega arith))

pub cut_few : (text : List ℕ) → length (cut text) ≤ longest_output_line
unfolding cut
cut_few text = simp length-take (omega arith)

-- as much of a text as there is room for
pub cut_room : (text more : List ℕ) → length text ≤ longest_output_line → text ++ take (min (longest_output_line - length text) (length more)) more ≡ cut (text ++ more)
unfolding cut
cut_room text more h =
    let room = longest_output_line - length text in
    let whole : length text + room ≡ longest_output_line = omega arith in
    ap (text ++◌) (take_min room more) ∙ sym (take-append-add text more room) ∙ ap (λ (n : ℕ). take n (text ++ more)) whole

-- ---- the pieces

-- two more digits, after those of i bytes
pub two_more : (digits : List ℕ) (i x y : ℕ) → 2 * i + 1 < length digits → take (2 * (i + 1)) (set (set digits (2 * i) x) (2 * i + 1) y) ≡ take (2 * i) digits ++ x ∷ y ∷ []
two_more digits i x y h =
    let two : 2 * (i + 1) ≡ suc (2 * i + 1) = omega arith in
    let one : 2 * i + 1 ≡ suc (2 * i) = omega arith in
    ap (λ (n : ℕ). take n (set (set digits (2 * i) x) (2 * i + 1) y)) two
    ∙ take-suc-set (set digits (2 * i) x) (2 * i + 1) y (omega (arith, length-set digits (2 * i) x))
    ∙ ap (λ (n : ℕ). take n (set digits (2 * i) x) ++ y ∷ []) one
    ∙ ap (λ (l : List ℕ). l ++ y ∷ []) (take-suc-set digits (2 * i) x (omega arith))
    ∙ append_assoc (take (2 * i) digits) (x ∷ []) (y ∷ [])

hex_pairs_append : (xs ys : List ℕ) → hex_pairs (xs ++ ys) ≡ hex_pairs xs ++ hex_pairs ys
hex_pairs_append [] ys = refl
hex_pairs_append (x ∷ xs) ys = ap (λ (l : List ℕ). hex_character (x / 16) ∷ hex_character (x % 16) ∷ l) (hex_pairs_append xs ys)

pub pairs_length : (bs : List ℕ) → length (hex_pairs bs) ≡ 2 * length bs
pairs_length [] = refl
pairs_length (b ∷ bs) = let e = pairs_length bs in omega arith

pub pairs_next : (bytes : List ℕ) (i : ℕ) → i < length bytes → hex_pairs (take (i + 1) bytes) ≡ hex_pairs (take i bytes) ++ hex_pair (get_or bytes i 0)
pairs_next bytes i h =
    let s : i + 1 ≡ suc i = omega arith in
    rw (s, take-suc bytes i 0 h) (hex_pairs_append (take i bytes) (get_or bytes i 0 ∷ []))

kinds_append : (ks more : List Kind) → kinds_text (ks ++ more) ≡ kinds_text ks ++ kinds_text more
kinds_append [] more = refl
kinds_append (k ∷ ks) more = ap (kind_text k ++◌) (kinds_append ks more) ∙ sym (append_assoc (kind_text k) (kinds_text ks) (kinds_text more))

pub kinds_next : (ks : List Kind) (i : ℕ) (d : Kind) → i < length ks → kinds_text (take (i + 1) ks) ≡ kinds_text (take i ks) ++ kind_text (get_or ks i d)
kinds_next ks i d h =
    let s : i + 1 ≡ suc i = omega arith in
    rw (s, take-suc ks i d h) (kinds_append (take i ks) (get_or ks i d ∷ []) ∙ ap (kinds_text (take i ks) ++◌) (append-nil (kind_text (get_or ks i d))))

pub decimal_few : (n : ℕ) → length (decimal n) ≤ 2
unfolding decimal
decimal_few n = by_cases (ltb n 10) (λ t. rw t (omega arith)) (λ t. rw t (omega arith))

-- ---- how long the pieces are

pub refused_few : (l n : ℕ) → length (refused_text l n) ≤ 5
unfolding refused_text
refused_few l n = omega (arith, length-append (decimal n) (0x0A ∷ []), decimal_few n)

kind_few : (k : Kind) → length (kind_text k) ≤ 5
unfolding bit_text
kind_few Clean = omega arith
kind_few (Corrected b) = omega (arith, decimal_few b)
kind_few Uncorrectable = omega arith
kind_few Stored = omega arith
kind_few NoBank = omega arith
kind_few Flipped = omega arith

pub kinds_few : (ks : List Kind) → length (kinds_text ks) ≤ 5 * length ks
kinds_few [] = omega arith
kinds_few (k ∷ ks) = omega (arith, length-append (kind_text k) (kinds_text ks), kind_few k, kinds_few ks)

-- ---- whole lines

pub refused_so_far : (l n : ℕ) → cut (l ∷ 0x2C ∷ decimal n) ≡ l ∷ 0x2C ∷ decimal n
refused_so_far l n = cut_fits (l ∷ 0x2C ∷ decimal n) (let h = decimal_few n in omega arith)

pub refused_whole : (l n : ℕ) → cut (l ∷ 0x2C ∷ decimal n ++ 0x0A ∷ []) ≡ refused_text l n
unfolding refused_text
refused_whole l n = cut_fits (refused_text l n) (let h = refused_few l n in omega arith)

pub kinds_so_far : (l : ℕ) (ks : List Kind) → length ks ≤ 4
    → (cut (l ∷ 0x2C ∷ 0x30 ∷ kinds_text ks) ≡ l ∷ 0x2C ∷ 0x30 ∷ kinds_text ks) × (length (kinds_text ks) ≤ 20)
kinds_so_far l ks h =
    let few = kinds_few ks in
    (cut_fits (l ∷ 0x2C ∷ 0x30 ∷ kinds_text ks) (omega arith), omega arith)

pub kinds_whole : (so_far : List ℕ) → length so_far ≤ 23 → cut (so_far ++ 0x0A ∷ []) ≡ so_far ++ 0x0A ∷ []
kinds_whole so_far h = cut_fits (so_far ++ 0x0A ∷ []) (omega (arith, length-append so_far (0x0A ∷ [])))

pub read_whole : (so_far bs : List ℕ) → length so_far ≤ 23 → length bs ≤ 8
    → cut (cut (cut (so_far ++ 0x2C ∷ []) ++ hex_pairs bs) ++ 0x0A ∷ []) ≡ (so_far ++ 0x2C ∷ hex_pairs bs) ++ 0x0A ∷ []
read_whole so_far bs h k =
    let text = (so_far ++ 0x2C ∷ hex_pairs bs) ++ 0x0A ∷ [] in
    let pairs = pairs_length bs in
    let few : length text ≤ longest_output_line = omega (arith, length-append (so_far ++ 0x2C ∷ hex_pairs bs) (0x0A ∷ []), length-append so_far (0x2C ∷ hex_pairs bs)) in
    ap (λ (t : List ℕ). cut (t ++ 0x0A ∷ [])) (cut_then so_far (0x2C ∷ []) (hex_pairs bs)) ∙ cut_more (so_far ++ 0x2C ∷ hex_pairs bs) (0x0A ∷ []) ∙ cut_fits text few

-- ---- printing where there is room

pub print_start : (text out : List ℕ) → longest_output_line ≤ length out → print_into text out ≡ at_start text out
unfolding print_into
print_start text out h = rw (le-leb longest_output_line (length out) h)

-- ---- the texts of the memory calls, by what a call answered

module _ (bs : List ℕ) (x : Answer) where
  pub write_text : (a : ℕ) (ws : List ℕ) → call_text (write a ws) (paper_answer x) bs ≡ kinds_line 0x77 x
  unfolding call_text answer_text
  write_text a ws = refl

  pub scrub_text : (a : ℕ) → call_text (scrub a) (paper_answer x) bs ≡ kinds_line 0x73 x
  unfolding call_text answer_text
  scrub_text a = refl

  pub read_text : (a n : ℕ) → call_text (read a n) (paper_answer x) bs ≡ read_line x bs
  unfolding call_text answer_text
  read_text a n = refl

-- ---- the texts that are a letter and a verdict

pub flip_text : (bs : List ℕ) (x : Answer) (a b : ℕ) → call_text (flip a b) (paper_answer x) bs ≡ verdict_text 0x66 (paper_verdict (result_and x (Ok tt)))
unfolding call_text answer_text
flip_text bs (Ok k) a b = refl
flip_text bs (Err r) a b = refl

pub register_write_text_lem : (d : Declined) → verdict_text 0x63 d ≡ register_write_text d
unfolding register_write_text
register_write_text_lem d = refl

pub malformed_text_lem : verdict_text 0x3F (paper_verdict (Err MalformedLine)) ≡ malformed_text
unfolding malformed_text
malformed_text_lem = refl
