-- ON-3: the longest bank of each row code, and 12 or 13 of a bank by one comparison with it.
use Rattle.std.proofs.Common.{◌≡◌, ℕ, zero, suc, ◌+◌, ◌-◌, ◌%◌, ◌^◌, ◌<◌, ◌≤◌, ltb, leb, [], ◌∷◌, get_or, sym, refl, ◌∙◌, arith, ltb-false, ltb-true, le-leb, leb-false, leb-true}
use borrow.Author.Tests.{lt-leb}
use Rattle.basics.proofs.RangeLaws.{by_cases}
use Rattle.banks.specs.Setup.{megabytes, row_bits_of, fits, column_limit}
use Rattle.banks.specs.Judge.{inverted, too_long, faulty}
use Rattle.address_map.specs.declared.fields.Fields.{Fields}
use Rattle.address_map.specs.CodeFields.{code_by, longest_of, enabled_by}
use Rattle.banks.proofs.FieldLaws.{fits_in}
use Rattle.address_map.proofs.SetupLaws.{code_below}

-- each of four numbers is below k
pub one_of_four : (a b c d k : ℕ) → a < k → b < k → c < k → d < k → (x : ℕ) → x < 4 → get_or (a ∷ b ∷ c ∷ d ∷ []) x 0 < k
one_of_four a b c d k p q r s zero h = p
one_of_four a b c d k p q r s (suc zero) h = q
one_of_four a b c d k p q r s (suc (suc zero)) h = r
one_of_four a b c d k p q r s (suc (suc (suc zero))) h = s
one_of_four a b c d k p q r s (suc (suc (suc (suc x)))) h = absurd (omega arith)

-- the rule of the code's table, computed
pub table_is : (code : ℕ) → code < 4 → get_or (2 ∷ 8 ∷ 32 ∷ 256 ∷ []) code 0 ≡ longest_of code
unfolding row_bits_of column_limit longest_of
table_is zero h = refl
table_is (suc zero) h = refl
table_is (suc (suc zero)) h = refl
table_is (suc (suc (suc zero))) h = refl
table_is (suc (suc (suc (suc k)))) h = absurd (omega arith)

pub longest_most : (code : ℕ) → code < 4 → longest_of code ≤ 256
longest_most code h =
    omega (arith, table_is code h, one_of_four 2 8 32 256 257 (omega arith) (omega arith) (omega arith) (omega arith) code h)

-- a bank fits exactly if it is no longer than the longest of its row code
pub fits_longest : (code L : ℕ) → code < 4 → fits (row_bits_of code L) L (column_limit (row_bits_of code L)) ≡ leb L (longest_of code)
unfolding row_bits_of column_limit longest_of
fits_longest zero L h = fits_in 9 L 9 (omega arith)
fits_longest (suc zero) L h = fits_in 10 L 10 (omega arith)
fits_longest (suc (suc zero)) L h = fits_in 11 L 11 (omega arith)
fits_longest (suc (suc (suc zero))) L h =
    by_cases (ltb 128 L) (λ t. rw t (fits_in 13 L 12 (omega arith)))
    (λ t.
    let l = ltb-false 128 L t in
    rw t (fits_in 12 L 12 (omega arith) ∙ le-leb L 128 l ∙ sym (le-leb L 256 (omega arith))))
fits_longest (suc (suc (suc (suc k)))) L h = absurd (omega arith)

-- w is the last megabyte of bank n less its start, modulo 2 ^ 32
module _ (f : Fields) (n w : ℕ) (x : get_or f.starts n 0 < 2 ^ 16) (y : get_or f.lasts n 0 < 2 ^ 16) (v : w < 2 ^ 32) (d : (w + get_or f.starts n 0) % 2 ^ 32 ≡ get_or f.lasts n 0) where
  pub faulty_is : faulty (enabled_by f n) ≡ leb (longest_of (code_by f n)) w
  unfolding faulty inverted too_long enabled_by megabytes
  faulty_is =
      let start = get_or f.starts n 0 in
      let last = get_or f.lasts n 0 in
      let m = longest_of (code_by f n) in
      let most = longest_most (code_by f n) (code_below f n) in
      by_cases (ltb last start)
      (λ t. rw t (sym (le-leb m w (omega (arith, ltb-true last start t, most)))))
      (λ t.
      let o = ltb-false last start t in
      let e : last + 1 - start ≡ w + 1 = omega (arith, o) in
      rw (t, e, fits_longest (code_by f n) (w + 1) (code_below f n))
      (by_cases (leb m w)
      (λ u. rw (u, lt-leb (w + 1) m (omega (arith, leb-true m w u))))
      (λ u. rw (u, le-leb (w + 1) m (omega (arith, leb-false m w u))))))
