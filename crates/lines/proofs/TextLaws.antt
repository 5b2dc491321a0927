-- A text that arrives in chunks: it does not matter where it is cut.
use mathlib.Core.Path.{◌≡◌, refl, sym, ap, ◌∙◌}
use mathlib.Core.List.{List, [], ◌∷◌, ◌++◌, append_assoc, append-nil}
use Prim.Native.Nat.{ℕ, zero, suc, ◌<◌, ◌≤◌}
use native.Mathlib.Omega.{arith}
use lib.Dec.{eqb, ltb}
use lib.ListN.{length, take, drop, length-take}
use lib.Seq.{take_all, append_snoc}
use borrow.Author.Tests.{ltb-true, ltb-false}
use Rattle.basics.proofs.RangeLaws.{by_cases}
use Rattle.calls.specs.State.{State}
use Rattle.parser.specs.Format.{prepend_byte, longest_input_line, parse}
use Rattle.line.specs.Line.{Printed, line_of}
use Rattle.lines.specs.Text.{lines_of, joined, most_carried, Fed, carrying, start_state, program_of, printed, text_of, fed_byte, fed, ended, chunked, after}
use Rattle.line_ends.specs.LineEnd.{line_length}
use Rattle.parser.proofs.FormatLaws.{parse_long}

-- ---- the bytes that are carried are enough to know the line

parse_take : (l : List ℕ) → parse (take most_carried l) ≡ parse l
parse_take l =
    by_cases (ltb longest_input_line (length l))
    (λ t.
    let h = ltb-true longest_input_line (length l) t in
    let k : longest_input_line < length (take most_carried l) = simp length-take (omega arith) in
    parse_long (take most_carried l) k ∙ sym (parse_long l h))
    (λ t. ap parse (take_all most_carried l (omega (arith, ltb-false longest_input_line (length l) t))))

take_keep : (n : ℕ) (x y : List ℕ) → take n (take n x ++ y) ≡ take n (x ++ y)
take_keep zero x y = refl
take_keep (suc n) [] y = refl
take_keep (suc n) (a ∷ x) y = ap (λ (l : List ℕ). a ∷ l) (take_keep n x y)

take_more : (c : List ℕ) (b : ℕ) (xs : List ℕ) → take most_carried (take most_carried (c ++ b ∷ []) ++ xs) ≡ take most_carried (c ++ b ∷ xs)
take_more c b xs = take_keep most_carried (c ++ b ∷ []) xs ∙ ap (take most_carried) (append_snoc c b xs)

module _ (cols : List ℕ) where
  pub line_take : (st : State) (l : List ℕ) → line_of cols st (take most_carried l) ≡ line_of cols st l
  unfolding line_of
  line_take st l = rw (parse_take l)

  line_kept : (st : State) (c : List ℕ) (b : ℕ) (y : List ℕ) → line_of cols st (take most_carried (c ++ b ∷ []) ++ y) ≡ line_of cols st (c ++ b ∷ y)
  line_kept st c b y = sym (line_take st (take most_carried (c ++ b ∷ []) ++ y)) ∙ ap (line_of cols st) (take_more c b y) ∙ line_take st (c ++ b ∷ y)

  -- ---- up to the next LF

  -- no LF: the bytes are carried
  pub fed_plain : (st : State) (xs c : List ℕ) → line_length xs ≡ length xs → length c ≤ most_carried → fed cols (carrying st c) xs ≡ ([], carrying st (take most_carried (c ++ xs)))
  unfolding fed fed_byte line_length
  fed_plain st [] c h k = rw (append-nil c, take_all most_carried c k)
  fed_plain st (b ∷ xs) c h k =
      by_cases (eqb b 0x0A) (λ t. let z : 0 ≡ suc (length xs) = rw t at h in absurd (omega arith))
      (λ t.
      let n : suc (line_length xs) ≡ suc (length xs) = rw t at h in
      let m : length (take most_carried (c ++ b ∷ [])) ≤ most_carried = simp length-take (omega arith) in
      rw (t, fed_plain st xs (take most_carried (c ++ b ∷ [])) (omega arith) m, take_more c b xs))

  -- up to an LF: a line
  pub fed_line : (st : State) (xs c : List ℕ) → line_length xs < length xs
      → fed cols (carrying st c) xs
      ≡ after (line_of cols st (c ++ take (line_length xs) xs)).0
      (fed cols (carrying (line_of cols st (c ++ take (line_length xs) xs)).1 []) (drop (suc (line_length xs)) xs))
  unfolding fed fed_byte line_length
  fed_line st [] c h = absurd (omega arith)
  fed_line st (b ∷ xs) c h =
      by_cases (eqb b 0x0A) (λ t. rw (t, append-nil c))
      (λ t.
      let n : suc (line_length xs) < suc (length xs) = rw t at h in
      rw (t, fed_line st xs (take most_carried (c ++ b ∷ [])) (omega arith), line_kept st c b (take (line_length xs) xs)))

  -- ---- any cut

  fed_append : (f : Fed) (xs ys : List ℕ) → fed cols f (xs ++ ys) ≡ after (fed cols f xs).0 (fed cols (fed cols f xs).1 ys)
  unfolding fed
  fed_append f [] ys = refl
  fed_append f (b ∷ xs) ys =
      let r = fed_byte cols f b in
      rw (fed_append r.1 xs ys, append_assoc r.0 (fed cols r.1 xs).0 (fed cols (fed cols r.1 xs).1 ys).0)

  abbrev ended_after : List ℕ × Fed → Printed
  ended_after r = after r.0 (ended cols r.1.state r.1.carried)

  chunked_is : (cs : List (List ℕ)) (f : Fed) → chunked cols f cs ≡ ended_after (fed cols f (joined cs))
  unfolding chunked fed
  chunked_is [] f = refl
  chunked_is (c ∷ cs) f =
      let r = fed cols f c in
      let x = fed cols r.1 (joined cs) in
      rw (fed_append f c (joined cs), chunked_is cs r.1, append_assoc r.0 x.0 (ended cols x.1.state x.1.carried).0)

  printed_first : (st : State) (x y : List ℕ) (ls : List (List ℕ)) → line_of cols st x ≡ line_of cols st y → printed cols st (x ∷ ls) ≡ printed cols st (y ∷ ls)
  unfolding printed
  printed_first st x y ls e = rw e

  append_after : (w : List ℕ) (x : List ℕ × Fed) → ended_after (after w x) ≡ after w (ended_after x)
  append_after w x = rw (append_assoc w x.0 (ended cols x.1.state x.1.carried).0)

  first_printed : (st : State) (c : List ℕ) (ls : List (List ℕ)) → after (line_of cols st c).0 (printed cols (line_of cols st c).1 ls) ≡ printed cols st ((c ++ []) ∷ ls)
  unfolding printed
  first_printed st c ls = rw (append-nil c)

  -- the bytes carried before the first line
  abbrev with_carried : List ℕ → List (List ℕ) → List (List ℕ)
  with_carried [] [] = []
  with_carried [] (l ∷ ls) = l ∷ ls
  with_carried (b ∷ c) [] = (b ∷ c) ∷ []
  with_carried (b ∷ c) (l ∷ ls) = (b ∷ c ++ l) ∷ ls

  with_line : (c l : List ℕ) (ls : List (List ℕ)) → with_carried c (l ∷ ls) ≡ (c ++ l) ∷ ls
  with_line [] l ls = refl
  with_line (b ∷ c) l ls = refl

  with_none : (ls : List (List ℕ)) → with_carried [] ls ≡ ls
  with_none [] = refl
  with_none (l ∷ ls) = refl

  with_byte : (st : State) (c : List ℕ) (b : ℕ) (ls : List (List ℕ))
      → printed cols st (with_carried (take most_carried (c ++ b ∷ [])) ls) ≡ printed cols st (with_carried c (prepend_byte b ls))
  with_byte st [] b [] = refl
  with_byte st (a ∷ c) b [] = printed_first st (take most_carried (a ∷ c ++ b ∷ [])) (a ∷ c ++ b ∷ []) [] (line_take st (a ∷ c ++ b ∷ []))
  with_byte st c b (l ∷ ls) =
      ap (printed cols st) (with_line (take most_carried (c ++ b ∷ [])) l ls)
      ∙ printed_first st (take most_carried (c ++ b ∷ []) ++ l) (c ++ b ∷ l) ls (line_kept st c b l)
      ∙ ap (printed cols st) (sym (with_line c (b ∷ l) ls))

  ended_is : (st : State) (c : List ℕ) → ended cols st c ≡ printed cols st (with_carried c [])
  unfolding ended printed
  ended_is st [] = refl
  ended_is st (b ∷ c) = rw (append-nil (line_of cols st (b ∷ c)).0)

  text_is : (xs c : List ℕ) (st : State) → ended_after (fed cols (carrying st c) xs) ≡ printed cols st (with_carried c (lines_of xs))
  unfolding fed fed_byte lines_of
  text_is [] c st = ended_is st c
  text_is (b ∷ xs) c st = by_cases (eqb b 0x0A) (λ t. rw t (lf xs c st (text_is xs))) (λ t. rw t (text_is xs (take most_carried (c ++ b ∷ [])) st ∙ with_byte st c b (lines_of xs)))
    where
      lf : (xs c : List ℕ) (st : State) → ((c : List ℕ) (st : State) → ended_after (fed cols (carrying st c) xs) ≡ printed cols st (with_carried c (lines_of xs)))
          → ended_after (after (line_of cols st c).0 (fed cols (carrying (line_of cols st c).1 []) xs)) ≡ printed cols st (with_carried c ([] ∷ lines_of xs))
      lf xs c st later =
          let r = line_of cols st c in
          let x = fed cols (carrying r.1 []) xs in
          append_after r.0 x
          ∙ ap (after r.0) (later [] r.1 ∙ ap (printed cols r.1) (with_none (lines_of xs)))
          ∙ first_printed st c (lines_of xs)
          ∙ ap (printed cols st) (sym (with_line c [] (lines_of xs)))

  -- feeding a text in any cut prints what the whole text prints, and leaves the same state
  pub any_cut : (st : State) (cs : List (List ℕ)) → chunked cols (carrying st []) cs ≡ text_of cols st (joined cs)
  unfolding text_of
  any_cut st cs = chunked_is cs (carrying st []) ∙ text_is (joined cs) [] st ∙ ap (printed cols st) (with_none (lines_of (joined cs)))

  -- and so does the program
  pub program_any_cut : (cs : List (List ℕ)) → (chunked cols (carrying start_state []) cs).0 ≡ program_of cols (joined cs)
  unfolding program_of
  program_any_cut cs = ap (λ (p : Printed). p.0) (any_cut start_state cs)
