-- What a route says about the map. `route_leads` is for those who hold a route, and `leads_beside` carries it to another address of the megabyte;
-- both follow from `found`, `no_bank` and `not_ready_lem`, which take the equation of `route` apart.
use Rattle.std.proofs.Common.{◌≡◌, ℕ, zero, suc, ◌+◌, ◌*◌, ◌/◌, ◌%◌, ◌^◌, ◌<◌, ◌≤◌, true, false, ltb, [], ◌∷◌, sym, ap, ◌∙◌, arith, ltb-false, ltb-true, le-ltb, lt-ltb, ne_eqb}
use mathlib.Core.Option.{Option, none, some}
use borrow.Author.Tests.{lt-leb}
use Rattle.basics.proofs.RangeLaws.{by_cases, never, sum_zero, sum_more}
use Rattle.refusals.specs.Paper.{refuse, ◌gives◌}
use Rattle.refusals.proofs.ChainLaws.{gives_given, gives_refused}
use Rattle.registers.specs.Record.{at}
use Rattle.registers.specs.declared.Registers.{Registers}
use Rattle.banks.specs.declared.Bank.{Bank}
use Rattle.banks.specs.Setup.{fewest_row_bits, Setup, setup_of, bank}
use Rattle.address_map.specs.declared.fields.Fields.{Fields}
use Rattle.address_map.specs.CodeFields.{code_by, enabled_by, bank_by, setup_by}
use Rattle.banks.specs.Judge.{not_ready}
use Rattle.banks.specs.Map.{most_cells, bank_at, selected, cell_in_bank, share, cells_below, cell_count, in_span, located, place_of, cell_of}
use Rattle.address_map.specs.CodeSelection.{megabyte_bits, selection, InBank}
use Rattle.address_map.specs.CodeRoute.{bank_in, first_in, bits_in, paper_route, cell_by, target_of, Leads}
use Rattle.address_map.specs.declared.routes.Route.{Route}
use Rattle.banks.proofs.FieldLaws.{Decoded, decoded, bounded, cells_within}
use Rattle.banks.proofs.SpanLaws.{bank_held, none_past}
use Rattle.address_map.proofs.SetupLaws.{bank_by_lem}
use Rattle.banks.proofs.CellLaws.{cell_in_bank_most}
use Rattle.address_map.proofs.SizeLaws.{cells_bits, rows_by_bits}
use Rattle.address_map.proofs.PassLaws.{enabled_at}

-- the cells of banks that have at most so many each
pub cells_bound : (s : Setup) → ((n : ℕ) → Decoded (bank s n)) → (n : ℕ) → cells_below s n ≤ n * most_cells
unfolding cells_below share
cells_bound s h zero = omega (arith, sum_zero (λ m. share (bank s m)))
cells_bound s h (suc n) =
    let e : suc n ≡ n + 1 = omega arith in
    rw (e, sum_more)
    (by_cases (bank s n).enabled (λ t. rw t (omega (arith, cells_bound s h n, cells_within (bank s n) (h n).rows_most (h n).columns_narrow))) (λ t. rw t (omega (arith, cells_bound s h n))))

-- the number of an address within a bank, from the bank's bits
pub cell_is : (b : Bank) → Decoded b → (bits a : ℕ) → bits ≡ megabyte_bits b → a / 8 % 2 ^ (17 + bits) ≡ cell_in_bank b a
unfolding cell_in_bank
cell_is b h bits a e = rw (e, cells_bits b h)

-- the row bits of an enabled bank, from its row code and its bits
pub rows_are :
    (f : Fields) (n : ℕ)
    → n < 8
    → (bank (setup_by f) n).enabled ≡ true → fewest_row_bits + code_by f n + megabyte_bits (bank (setup_by f) n) / 8 ≡ (bank (setup_by f) n).row_bits
unfolding bank_by
rows_are f n l on =
    let e : bank (setup_by f) n ≡ enabled_by f n = rw (bank_by_lem f n l, sym (enabled_at f n l) ∙ on) in
    rw e (sym (rows_by_bits f n))

abbrev triple_of : Option (ℕ × ℕ × ℕ) → ℕ × ℕ × ℕ
triple_of none = (0, 0, 0)
triple_of (some p) = p

-- the bank of a route is the one that the address selects
pub record Found (to : Route) (s : Setup) (a : ℕ) : Type 0 where
  pub on : not_ready s ≡ none
  pub bank_is : selected s a ≡ bank_in to
  pub inside : InBank s (bank_in to) (first_in to) (bits_in to)

-- ---- what the equation of a route says
module _ (to : Route) (s : Setup) (a : ℕ) (e : paper_route to ≡ (not_ready s gives selection s (a / 2 ^ 20))) where
  pub found : bank_in to < 8 → Found to s a
  unfolding selection
  found l =
      let m = bank_at s (a / 2 ^ 20) in
      let n = bank_in to in
      let g = gives_given (not_ready s) (selection s (a / 2 ^ 20)) (some (n, first_in to, bits_in to)) (sym (rw (le-ltb 8 n (omega arith), lt-ltb n 8 l) at e)) in
      by_cases (ltb m 8)
      (λ t.
      let z : some (m, cells_below s m, megabyte_bits (bank s m)) ≡ some (n, first_in to, bits_in to) = rw t at g.1 in
      let q : m ≡ n = ap (λ (o : Option (ℕ × ℕ × ℕ)). (triple_of o).0) z in
      let b : cells_below s m ≡ first_in to = ap (λ (o : Option (ℕ × ℕ × ℕ)). (triple_of o).1) z in
      let k : megabyte_bits (bank s m) ≡ bits_in to = ap (λ (o : Option (ℕ × ℕ × ℕ)). (triple_of o).2) z in
      record {
        on = g.0;
        bank_is = q;
        inside =
            record {
              below = l;
              enabled = rw q at (bank_held s (a / 2 ^ 20) (ltb-true m 8 t)).on;
              first = sym b ∙ ap (cells_below s) q;
              size = sym k ∙ ap (λ (i : ℕ). megabyte_bits (bank s i)) q;
            };
      })
      (λ t. let z : none ≡ some (n, first_in to, bits_in to) = rw t at g.1 in never (cc))

  pub no_bank : bank_in to ≡ 8 → (not_ready s ≡ none) × (in_span s a ≡ false)
  unfolding selection in_span
  no_bank h =
      let m = bank_at s (a / 2 ^ 20) in
      let g = gives_given (not_ready s) (selection s (a / 2 ^ 20)) none (sym (rw h at e)) in
      by_cases (ltb m 8)
      (λ t. let z : some (m, cells_below s m, megabyte_bits (bank s m)) ≡ none = rw t at g.1 in never (cc))
      (λ t. (g.0, t))

  pub not_ready_lem : 8 < bank_in to → not_ready s ≡ some (5 ∷ [])
  not_ready_lem l =
      gives_refused (not_ready s) (selection s (a / 2 ^ 20)) (5 ∷ []) (sym (rw (lt-ltb 8 (bank_in to) l) at e))

  -- the place of an address, by its route
  pub located_found : bank_in to < 8 → located s a ≡ some (place_of s (bank_in to) a)
  unfolding located in_span
  located_found l = rw ((found l).bank_is, lt-ltb (bank_in to) 8 l)

  -- the cells of the other addresses of the megabyte
  module _ (d : (n : ℕ) → Decoded (bank s n)) (b : ℕ) (near : b / 2 ^ 20 ≡ a / 2 ^ 20) where
    cell_found : bank_in to < 8 → target_of (cell_by to b) ≡ cell_of s b
    unfolding cell_by cell_of located in_span place_of
    cell_found l =
        let n = bank_in to in
        let f = found l in
        let w = cell_is (bank s n) (d n) (bits_in to) b f.inside.size in
        rw (lt-leb 8 n l, f.inside.first, w, near, f.bank_is, lt-ltb n 8 l)

    cell_missing : bank_in to ≡ 8 → target_of (cell_by to b) ≡ cell_of s b
    unfolding cell_by cell_of located in_span
    cell_missing h = rw (h, near, (no_bank h).1)

  pub leads : ((n : ℕ) → Decoded (bank s n)) → Leads to s a
  unfolding in_span
  leads d =
      let n = bank_in to in
      by_cases (ltb 8 n)
      (λ t.
      let r = not_ready_lem (ltb-true 8 n t) in
      record { not_ready_lem = rw (t, r); spanned = λ h. never (cc); cell = λ h. never (cc) })
      (λ t.
      by_cases (ltb n 8)
      (λ u.
      let l = ltb-true n 8 u in
      let f = found l in
      record {
        not_ready_lem = rw (t, f.on);
        spanned = λ _. rw (f.bank_is, u, ne_eqb n 8 (λ z. omega (arith, z, l)));
        cell = λ _ b near. cell_found d b near l;
      })
      (λ u.
      let h : n ≡ 8 = omega (arith, ltb-false 8 n t, ltb-false n 8 u) in
      record {
        not_ready_lem = rw (t, (no_bank h).0);
        spanned = λ _. rw (h, (no_bank h).1);
        cell = λ _ b near. cell_missing d b near h;
      }))

-- the route of a record's address leads to its cell
pub route_leads : (r : Registers) (a : ℕ) (to : Route) → paper_route to ≡ (not_ready (setup_of r) gives selection (setup_of r) (a / 2 ^ 20)) → Leads to (setup_of r) a
route_leads r a to e =
    leads to (setup_of r) a e (decoded r)

-- and serves every address of the same megabyte
pub leads_beside : (to : Route) (s : Setup) (a b : ℕ) → b / 2 ^ 20 ≡ a / 2 ^ 20 → Leads to s a → Leads to s b
unfolding in_span
leads_beside to s a b near h =
    record {
      not_ready_lem = h.not_ready_lem;
      spanned = λ z. rw near (h.spanned z);
      cell = λ z c beside. h.cell z c (beside ∙ near);
    }

-- no bank of a record reaches the last megabyte of the addresses, so its route tells the number of all cells
pub last_counted :
    (r : Registers) → ((o : ℕ) → o < 256 → at r o < 256) → (to : Route)
    → paper_route to ≡ (not_ready (setup_of r) gives selection (setup_of r) 0xFFF)
    → (bank_in to ≡ 8 → first_in to ≡ cell_count (setup_of r))
    → (refuse (ltb 8 (bank_in to)) (5 ∷ []) gives first_in to) ≡ (not_ready (setup_of r) gives cell_count (setup_of r))
last_counted r bytes to e count =
    let s = setup_of r in
    let n = bank_in to in
    let none = none_past s 1024 (λ m _. (bounded r bytes m).last_most) 0xFFF (omega arith) in
    by_cases (ltb 8 n)
    (λ t. rw (t, not_ready_lem to s 0xFFF00000 e (ltb-true 8 n t)))
    (λ t.
    by_cases (ltb n 8)
    (λ u. let l = ltb-true n 8 u in absurd (omega (arith, none, l, (found to s 0xFFF00000 e l).bank_is)))
    (λ u.
    let h : n ≡ 8 = omega (arith, ltb-false 8 n t, ltb-false n 8 u) in
    rw (t, (no_bank to s 0xFFF00000 e h).0, count h)))
