-- The whole memory: an access keeps every cell in step with the flat machine, since distinct doublewords have distinct cells.
use Prim.Native.Nat.{ℕ, ◌*◌, ◌/◌, ◌≤◌, ◌<◌}
use mathlib.Core.Path.{◌≡◌, refl, sym, ap, ap₂, ◌∙◌}
use mathlib.Core.Logic.{◌≢◌}
use mathlib.Core.Bool.{true, cond}
use mathlib.Core.Option.{Option, none, some}
use mathlib.Core.List.{List}
use native.Mathlib.Omega.{arith}
use native.Mathlib.Decide.{ℕ_discrete}
use lib.ListN.{length, replicate, length-replicate}
use Rattle.registers.specs.declared.Registers.{Registers}
use Rattle.banks.specs.Setup.{Setup, setup_of}
use Rattle.banks.specs.Map.{cell_of, cell_count}
use Rattle.banks.proofs.MapLaws.{is_some, MapLaws}
use Rattle.ecc.specs.Columns.{accepted}
use Rattle.ecc.specs.Cell.{encode}
use Rattle.ecc.specs.Lending.{cell_at, is_lent}
use Rattle.ecc.proofs.Laws.{encode_zeros}
use Rattle.ecc.proofs.CellLaws.{fits_lent, put_same, put_other, cell_zeros}
use Rattle.calls.specs.Calls.{Access, address_of, AccessAnswer}
use Rattle.calls.specs.Spans.{missed}
use Rattle.calls.proofs.PartLaws.{Fits}
use Rattle.calls.specs.State.{State, state}
use Rattle.error_registers.specs.Errors.{reported}
use Rattle.machine.specs.Cells.{on_cell}
use Rattle.machine.specs.Calls.{spans_of, put_at, on_target, access, access_at}
use Rattle.flat.specs.Flat.{Flat, flat_in_span, flat_access, blank}
use Rattle.flat.proofs.DoublewordBytes.{doubleword_bytes, doubleword_bytes_length, doubleword_bytes_zero}
use Rattle.flat.proofs.Doubleword.{FindsNoMark, MarksBelow72, marks_below, Untouched, others_untouched, coded, coded_length, StandsFor, Agree, agree}
use Rattle.machine.proofs.SetupLaws.{setup_reported}
use Rattle.machine.proofs.StoredLaws.{after, put_at_length}

-- the cells after what an access stored in cell k
module _ (cells : List ℕ) (k : ℕ) (lent : is_lent cells k ≡ true) where
  put_at_same : (o : Option (List ℕ)) → length (after o (cell_at cells k)) ≡ 9 → cell_at (put_at o cells k) k ≡ after o (cell_at cells k)
  put_at_same none h = refl
  put_at_same (some cell) h = put_same cells k cell lent h

  put_at_other : (o : Option (List ℕ)) → length (after o (cell_at cells k)) ≡ 9
      → (j : ℕ) → j ≢ k → is_lent cells j ≡ true → cell_at (put_at o cells k) j ≡ cell_at cells j
  put_at_other none h j ne l = refl
  put_at_other (some cell) h j ne l = put_other cells k cell lent h j ne l

module _ (cols : List ℕ) (good : accepted cols ≡ true) (s : Setup) (map : MapLaws s) where
  -- the cells of the set-up s hold what the flat machine holds
  pub record InStep (st : State) (f : Flat) : Type 0 where
    pub unchanged : setup_of st.registers ≡ s
    pub lent : 9 * cell_count s ≤ length st.cells
    pub marks : MarksBelow72 f
    pub stored : (a k : ℕ) → cell_of s a ≡ some k → StandsFor cols good f (a / 8) (cell_at st.cells k)

  pub start : (r : Registers) (n : ℕ) → setup_of r ≡ s → 9 * cell_count s ≤ n → InStep (state r (replicate n 0)) blank
  unfolding blank
  start r n e h =
      record {
        unchanged = e;
        lent = rw length-replicate h;
        marks = λ q. tt;
        stored = λ a k i.
            let w : k < cell_count s = map.within a k i in
            cell_zeros n k (omega arith) ∙ sym (ap (encode cols) (doubleword_bytes_zero (a / 8)) ∙ encode_zeros cols);
      }

  pub is_lent_lem : (st : State) (f : Flat) → InStep st f → (a k : ℕ) → cell_of s a ≡ some k → is_lent st.cells k ≡ true
  is_lent_lem st f m a k i = let w : k < cell_count s = map.within a k i in fits_lent st.cells k (omega (arith, m.lent))

  -- an access to cell k
  module _ (st : State) (f : Flat) (m : InStep st f) (x : Access) (r : Fits x) (fr : FindsNoMark f x) (k : ℕ) (i : cell_of s (address_of x) ≡ some k) where
    abbrev old : List ℕ
    old = cell_at st.cells k

    abbrev new : Option (List ℕ)
    new = (on_cell cols x old).1

    abbrev flat_after : Flat
    flat_after = (flat_in_span f x).1

    agreed : Agree cols good f x old
    agreed = agree cols good f m.marks old x r fr (m.stored (address_of x) k i)

    lent_here : is_lent st.cells k ≡ true
    lent_here = is_lent_lem st f m (address_of x) k i

    nine_bytes : length (after new old) ≡ 9
    nine_bytes =
        ap length agreed.stands
        ∙ coded_length cols good (flat_after.mark (address_of x / 8)) (doubleword_bytes flat_after.byte (address_of x / 8)) (doubleword_bytes_length flat_after.byte (address_of x / 8))

    all_stored : (a j : ℕ) → cell_of s a ≡ some j → StandsFor cols good flat_after (a / 8) (cell_at (put_at new st.cells k) j)
    all_stored a j ij = go (ℕ_discrete (a / 8) (address_of x / 8))
      where
        go : Dec (a / 8 ≡ address_of x / 8) → StandsFor cols good (flat_in_span f x).1 (a / 8) (cell_at (put_at new st.cells k) j)
        go (yes e) =
            let jk : j ≡ k = let p : cell_of s a ≡ cell_of s (address_of x) = map.same a (address_of x) e in cc in
            ap (cell_at (put_at new st.cells k)) jk ∙ put_at_same st.cells k lent_here new nine_bytes ∙ rw e agreed.stands
        go (no ne) =
            let jk : j ≢ k = λ e. ne (map.apart a (address_of x) k (ij ∙ ap some e) i) in
            let al : Untouched f (flat_in_span f x).1 (a / 8) = others_untouched f x r (a / 8) ne in
            put_at_other st.cells k lent_here new nine_bytes j jk (is_lent_lem st f m a j ij)
            ∙ m.stored a j ij ∙ sym (ap₂ (coded cols good) al.mark al.bytes)

    step_on : InStep (state (reported (on_cell cols x old).0.kind (address_of x) st.registers) (put_at new st.cells k)) flat_after
    step_on =
        record {
          unchanged = setup_reported (on_cell cols x old).0.kind (address_of x) st.registers ∙ m.unchanged;
          lent = rw (put_at_length st.cells k lent_here new nine_bytes) m.lent;
          marks = marks_below f x r m.marks;
          stored = all_stored;
        }

  -- what the two give at an access, and that they stay in step
  pub record Alike (p : AccessAnswer × State) (q : AccessAnswer × Flat) : Type 0 where
    pub answer : p.0 ≡ q.0
    pub next : InStep p.1 q.1

  pub access_agrees : (st : State) (f : Flat) → InStep st f → (x : Access) → Fits x → FindsNoMark f x
      → Alike (access cols st x) (flat_access (spans_of s) f x)
  unfolding access access_at on_target flat_access
  access_agrees st f m x r fr = rw (m.unchanged, map.spanned (address_of x)) (go (cell_of s (address_of x)) refl)
    where
      go : (o : Option ℕ) → cell_of s (address_of x) ≡ o → Alike (access_at cols o st x) (cond (is_some o) (flat_in_span f x) (missed x, f))
      go none i =
          record {
            answer = refl;
            next =
                record {
                  unchanged = setup_reported (missed x).kind (address_of x) st.registers ∙ m.unchanged;
                  lent = m.lent;
                  marks = m.marks;
                  stored = m.stored;
                };
          }
      go (some k) i = record { answer = (agreed st f m x r fr k i).answer; next = step_on st f m x r fr k i }
