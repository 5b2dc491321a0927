-- The bytes that the code hands to its accesses, and those that it delivers, are those of the definitions.
use Prim.Native.Nat.{ℕ, ◌+◌, ◌-◌, ◌*◌, ◌/◌, ◌%◌, ◌^◌, ◌≤◌}
use mathlib.Core.Path.{◌≡◌, sym, ap, ◌∙◌}
use mathlib.Core.Logic.{◌≢◌}
use mathlib.Core.Bool.{true, false, cond}
use mathlib.Core.List.{List, [], ◌++◌, append-nil}
use native.Mathlib.Omega.{arith}
use borrow.Author.Tests.{le-leb}
use lib.Dec.{leb}
use lib.ListN.{length, take, drop, length-drop}
use lib.Seq.{take-append-add, take-take, take_all}
use Rattle.eight_bytes.specs.CodeNumber.{bytes_in, eight_across, eight_at}
use Rattle.ecc.specs.Doubleword.{bytes_of_number}
use Rattle.ecc.proofs.DoublewordLaws.{number_length}
use Rattle.calls.specs.Calls.{crosses, room, next_doubleword}
use Rattle.calls.proofs.SplitLaws.{inside_fits, split_rest, room_ends, next_aligned}
use Rattle.merging.proofs.GatherLaws.{Gathered, gathered_first, gathered_rest}
use Rattle.access.specs.CodeAccess.{short_bytes}

-- ---- reads

pub all_taken : (d a : ℕ) → a % 8 ≡ 0 → take 8 (drop (a % 8) (bytes_of_number d)) ≡ bytes_of_number d
all_taken d a h = rw (h, take_all 8 (bytes_of_number d) (omega (arith, number_length d)))

-- the bytes that a split reads, of the two doublewords x and y, as `byte_lanes::copy_across` delivers them
module _ (x y a n : ℕ) (old : List ℕ) (t : crosses a n ≡ true) (few : n ≤ 8) where
  pub across_taken : cond (leb n 8) (take n (eight_across x y a)) old
      ≡ take (room a) (drop (a % 8) (bytes_of_number x)) ++ (take (n - room a) (drop (next_doubleword a % 8) (bytes_of_number y)) ++ [])
  unfolding eight_across bytes_of_number
  across_taken =
      let first = drop (a % 8) (bytes_of_number x) in
      let second = bytes_of_number y in
      let whole : length first ≡ room a = length-drop (a % 8) (bytes_of_number x) ∙ omega (arith, number_length x, room_ends a) in
      let more = split_rest a n t in
      let sum : n ≡ length first + (n - room a) = omega arith in
      rw (le-leb n 8 few, next_aligned a)
      (ap (λ (k : ℕ). take k (first ++ take (a % 8) second)) sum
      ∙ take-append-add first (take (a % 8) second) (n - room a)
      ∙ rw (take_all (room a) first (omega arith), take-take (n - room a) (a % 8) second (omega (arith, room_ends a)), append-nil (take (n - room a) second)))

-- ---- writes

module _ (x : ℕ) (bs : List ℕ) (few : length bs ≤ 8) (g : Gathered x bs) where
  -- all eight
  pub full_bytes : length bs ≡ 8 → bytes_of_number x ≡ bs
  full_bytes e =
      let all : take 8 (bytes_of_number x) ≡ bytes_of_number x = take_all 8 (bytes_of_number x) (omega (arith, number_length x)) in
      sym all ∙ ap (λ (n : ℕ). take n (bytes_of_number x)) (sym e) ∙ gathered_first x bs few g

  -- inside one doubleword
  pub short_bytes_lem : (a : ℕ) → crosses a (length bs) ≡ false → length bs ≢ 8 → short_bytes a (length bs) x ≡ bs
  short_bytes_lem a t ne =
      let same : length bs % 8 ≡ length bs = omega arith in
      let fits = inside_fits a (length bs) t in
      let ends = room_ends a in
      rw (same, gathered_first x bs few g, take_all (room a) bs (omega arith))

  -- the two parts of a split
  module _ (a : ℕ) (t : crosses a (length bs) ≡ true) where
    pub first_bytes : short_bytes a (room a) x ≡ take (room a) bs
    first_bytes =
        let more = split_rest a (length bs) t in
        let ends = room_ends a in
        let same : room a % 8 ≡ room a = omega arith in
        rw (same, take-take (room a) (room a) (bytes_of_number x) (omega arith))
        (sym (take-take (room a) (length bs) (bytes_of_number x) (omega arith)) ∙ ap (take (room a)) (gathered_first x bs few g))

    pub rest_bytes : short_bytes (next_doubleword a) (length bs - room a) (x / 2 ^ (8 * room a)) ≡ drop (room a) bs
    unfolding room
    rest_bytes =
        let more = split_rest a (length bs) t in
        let ends = room_ends a in
        let same : (length bs - room a) % 8 ≡ length bs - room a = omega arith in
        let part = gathered_rest x bs few g (room a) (omega arith) (omega arith) in
        rw (same, next_aligned a, part, take_all 8 (drop (room a) bs) (omega (arith, length-drop (room a) bs)))

-- a beat of a burst write
pub beat_number : (bs : List ℕ) (i d : ℕ) → i + 8 ≤ length bs → bytes_in 8 d ≡ eight_at bs i → bytes_of_number d ≡ take 8 (drop i bs)
unfolding bytes_of_number eight_at
beat_number bs i d h e = e ∙ rw (le-leb (i + 8) (length bs) h)
