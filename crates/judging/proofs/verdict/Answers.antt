-- The chain of `judged`: 11, then 12 or 13, then 14, each by its search.
use Rattle.std.proofs.Common.{◌≡◌, ℕ, ◌<◌, ◌≤◌, Bool, true, false, rules, arith}
use borrow.Author.Tests.{lt-ltb, le-ltb, lt-leb}
use Rattle.basics.specs.Range.{first}
use Rattle.basics.proofs.RangeLaws.{first_at}
use Rattle.banks.specs.Setup.{bank}
use Rattle.banks.specs.Judge.{lowest, faulty, meets_lower, lowest_meeting, judged}
use Rattle.address_map.specs.CodeFields.{setup_by}
use Rattle.judging.proofs.verdict.Goals as goal

-- a search from bank 0 on
searched : (p : ℕ → Bool) (n : ℕ) → n ≤ 8 → (n < 8 → p n ≡ true) → ((k : ℕ) → k < n → p k ≡ false) → first p 8 0 ≡ n
searched p n most found least = first_at p 8 0 n (omega arith) most found (λ j _ l. least j l)

pub returns-then-lowest-eq8 : goal.returns-then-lowest-eq8
unfolding judged lowest
returns-then-lowest-eq8 c =
    let s = setup_by c.args.fields.now in
    let on : first (λ n. (bank s n).enabled) 8 0 ≡ c.lowest.result = searched (λ n. (bank s n).enabled) _ c.lowest.ensures.least.0 (λ l. (let h = c.lowest.ensures.found l in search rules)) (λ k l. (let h = c.lowest.ensures.least.1 k l in search rules)) in
    rw (on, c.if-lowest-eq8.true)

pub returns-then-n-lt8 : goal.returns-then-n-lt8
unfolding judged lowest
returns-then-n-lt8 c =
    let s = setup_by c.args.fields.now in
    let on : first (λ n. (bank s n).enabled) 8 0 ≡ c.lowest.result = searched (λ n. (bank s n).enabled) _ c.lowest.ensures.least.0 (λ l. (let h = c.lowest.ensures.found l in search rules)) (λ k l. (let h = c.lowest.ensures.least.1 k l in search rules)) in
    let bad : first (λ n. faulty (bank s n)) 8 0 ≡ c.lowest-n.result = searched (λ n. faulty (bank s n)) _ c.lowest-n.ensures.least.0 (λ l. (let h = c.lowest-n.ensures.found l in search rules)) (λ k l. (let h = c.lowest-n.ensures.least.1 k l in search rules)) in
    rw (on, lt-leb 8 c.lowest.result (omega (arith, c.lowest.ensures.least.0, c.if-lowest-eq8.false)), bad, lt-ltb _ 8 c.if-n-lt8.true, c.fault.ensures, c.bank_in.ensures, c.from.ensures)

pub returns-then-m-lt8 : goal.returns-then-m-lt8
unfolding judged lowest lowest_meeting
returns-then-m-lt8 c =
    let s = setup_by c.args.fields.now in
    let on : first (λ n. (bank s n).enabled) 8 0 ≡ c.lowest.result = searched (λ n. (bank s n).enabled) _ c.lowest.ensures.least.0 (λ l. (let h = c.lowest.ensures.found l in search rules)) (λ k l. (let h = c.lowest.ensures.least.1 k l in search rules)) in
    let bad : first (λ n. faulty (bank s n)) 8 0 ≡ c.lowest-n.result = searched (λ n. faulty (bank s n)) _ c.lowest-n.ensures.least.0 (λ l. (let h = c.lowest-n.ensures.found l in search rules)) (λ k l. (let h = c.lowest-n.ensures.least.1 k l in search rules)) in
    let meeting : first (meets_lower s) 8 0 ≡ c.lowest-m.result = searched (meets_lower s) _ c.lowest-m.ensures.least.0 (λ l. (let h = c.lowest-m.ensures.found l in search rules)) (λ k l. (let h = c.lowest-m.ensures.least.1 k l in search rules)) in
    rw (on, lt-leb 8 c.lowest.result (omega (arith, c.lowest.ensures.least.0, c.if-lowest-eq8.false)), bad, le-ltb _ 8 c.if-n-lt8.false, meeting, lt-ltb _ 8 c.if-m-lt8.true)

pub returns : goal.returns
unfolding judged lowest lowest_meeting
returns c =
    let s = setup_by c.args.fields.now in
    let on : first (λ n. (bank s n).enabled) 8 0 ≡ c.lowest.result = searched (λ n. (bank s n).enabled) _ c.lowest.ensures.least.0 (λ l. (let h = c.lowest.ensures.found l in search rules)) (λ k l. (let h = c.lowest.ensures.least.1 k l in search rules)) in
    let bad : first (λ n. faulty (bank s n)) 8 0 ≡ c.lowest-n.result = searched (λ n. faulty (bank s n)) _ c.lowest-n.ensures.least.0 (λ l. (let h = c.lowest-n.ensures.found l in search rules)) (λ k l. (let h = c.lowest-n.ensures.least.1 k l in search rules)) in
    let meeting : first (meets_lower s) 8 0 ≡ c.lowest-m.result = searched (meets_lower s) _ c.lowest-m.ensures.least.0 (λ l. (let h = c.lowest-m.ensures.found l in search rules)) (λ k l. (let h = c.lowest-m.ensures.least.1 k l in search rules)) in
    rw (on, lt-leb 8 c.lowest.result (omega (arith, c.lowest.ensures.least.0, c.if-lowest-eq8.false)), bad, le-ltb _ 8 c.if-n-lt8.false, meeting, le-ltb _ 8 c.if-m-lt8.false)
