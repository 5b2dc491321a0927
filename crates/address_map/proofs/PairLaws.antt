-- Whether banks meet, from a comparison of every pair.
use Rattle.std.proofs.Common.{◌≡◌, ℕ, ◌+◌, ◌<◌, Bool, true, not, ◌&&◌, ltb, leb, get_or, sym, refl, ◌∙◌, add-one, arith, ltb-false, ltb-true, le-leb}
use borrow.Author.Tests.{lt-leb, not-true}
use Rattle.basics.specs.Range.{first, every}
use Rattle.basics.proofs.RangeLaws.{by_cases, contra, first_passes, first_before, every_at, every_all}
use Rattle.basics.proofs.Zeros.{is_set}
use Rattle.banks.specs.Setup.{Setup, bank}
use Rattle.banks.specs.Judge.{meets, meets_lower, lowest_meeting}
use Rattle.address_map.specs.declared.fields.Fields.{Fields}
use Rattle.address_map.specs.CodeFields.{enabled_by, bank_by, setup_by}
use Rattle.address_map.proofs.SetupLaws.{bank_by_lem}

-- ---- a loop that asks every number below n
pub every_none : (p : ℕ → Bool) → every p 0 ≡ true
unfolding every
every_none p = refl

pub every_more : (p : ℕ → Bool) (n : ℕ) → every p (n + 1) ≡ (every p n && p n)
unfolding every
every_more p n = rw add-one

-- none passes where a search finds none
none_first : (p : ℕ → Bool) (n : ℕ) → every (λ k. not (p k)) n ≡ leb n (first p n 0)
none_first p n =
    let f = first p n 0 in
    by_cases (ltb f n)
    (λ t.
    let l = ltb-true f n t in
    by_cases (every (λ k. not (p k)) n)
    (λ u. contra (first_passes p n 0 l) (not-true (p f) (every_at (λ k. not (p k)) n u f l)))
    (λ u. u ∙ sym (lt-leb n f l)))
    (λ t.
    let l = ltb-false f n t in
    every_all (λ k. not (p k)) n (λ k h. let z = first_before p n 0 k (omega arith) (omega (arith, l)) in rw z) ∙ sym (le-leb n f l))

leb_not : (n f : ℕ) → leb n f ≡ not (ltb f n)
leb_not n f = by_cases (ltb f n) (λ t. rw (t, lt-leb n f (ltb-true f n t))) (λ t. rw (t, le-leb n f (ltb-false f n t)))

-- ---- pairs of banks
pub meeting_in :
    (f : Fields) (n m : ℕ) → n < 8 → m < 8
    → (((bank (setup_by f) n).enabled && (bank (setup_by f) m).enabled) && (leb (get_or f.starts m 0) (get_or f.lasts n 0) && leb (get_or f.starts n 0) (get_or f.lasts m 0)))
    ≡ ((bank (setup_by f) n).enabled && meets (bank (setup_by f) n) (bank (setup_by f) m))
unfolding meets bank_by enabled_by
meeting_in f n m l k =
    rw (bank_by_lem f n l, bank_by_lem f m k)
    (by_cases (is_set f.enables n)
    (λ t. by_cases (is_set f.enables m) (λ u. rw (t, u)) (λ u. rw (t, u)))
    (λ t. rw t))

pub clear_is : (s : Setup) (n : ℕ) → every (λ m. not ((bank s n).enabled && meets (bank s n) (bank s m))) n ≡ not (meets_lower s n)
unfolding meets_lower
clear_is s n =
    by_cases (bank s n).enabled
    (λ t. rw t (none_first (λ m. meets (bank s n) (bank s m)) n ∙ leb_not n (first (λ m. meets (bank s n) (bank s m)) n 0)))
    (λ t. rw t (every_all (λ m. true) n (λ k l. refl)))

pub none_meets : (s : Setup) → every (λ n. not (meets_lower s n)) 8 ≡ leb 8 (lowest_meeting s)
unfolding lowest_meeting
none_meets s = none_first (meets_lower s) 8
