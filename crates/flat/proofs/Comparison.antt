-- The comparison of a list with the flat machine.
use Prim.Native.Nat.{ℕ, ◌/◌}
use mathlib.Core.Path.{◌≡◌, refl, sym, ap, ap₂, ◌∙◌}
use mathlib.Core.Bool.{true}
use mathlib.Core.Option.{Option, none, some}
use mathlib.Core.List.{List, [], ◌∷◌, ◌++◌}
use lib.ListN.{replicate}
use Rattle.basics.specs.Lists.{All}
use Rattle.refusals.specs.Paper.{Declined, given}
use Rattle.refusals.proofs.ChainLaws.{else_none, else_left}
use Rattle.registers.specs.declared.Registers.{Registers}
use Rattle.banks.specs.Setup.{Setup, setup_of}
use Rattle.banks.specs.Judge.{ready, not_ready}
use Rattle.banks.specs.Map.{cell_of}
use Rattle.banks.proofs.MapLaws.{is_some, MapLaws, map_laws}
use Rattle.register_calls.proofs.SwitchLaws.{setup_written, ready_written}
use Rattle.ecc.specs.Columns.{columns, accepted}
use Rattle.ecc.proofs.ColumnLaws.{columns_accepted}
use Rattle.calls.specs.Calls.{MemoryCall, Access, address_of, parts, AccessAnswer, CallAnswer, Call, memory, read_register, write_register}
use Rattle.calls.specs.Spans.{Spans, by_arguments, by_spans, by_call}
use Rattle.calls.specs.State.{State, state}
use Rattle.calls.proofs.PartLaws.{Fits, parts_fit}
use Rattle.machine.specs.Calls.{spans_of, unlent_at, unlent, refusal, access, accesses, performed, memory_call}
use Rattle.call_lists.specs.Lists.{call, run}
use Rattle.flat.specs.Flat.{Flat, blank, flat_access, flat_accesses, flat_performed, flat_call, flat_run}
use Rattle.flat.specs.Comparison.{SwitchedOn, AtErrorRegisters, if_accepted, accepted_of, FlatComparison}
use Rattle.flat.proofs.Simulation.{InStep, start, is_lent_lem, Alike, access_agrees}
use Rattle.flat.proofs.Premise.{accepted_all, NoFlipFindsMark, spaced_no_flip}

-- the accesses of a call that is not refused
call_fits : (spans : Spans) (c : MemoryCall) → by_call spans c ≡ none → All Fits (parts c)
unfolding by_call
call_fits spans c e = parts_fit c (else_left (by_arguments c) (by_spans spans c) e)

no_flip_append : (spans : Spans) (f : Flat) (xs ys : List Access) → NoFlipFindsMark spans f (xs ++ ys)
    → NoFlipFindsMark spans f xs × NoFlipFindsMark spans (flat_accesses spans f xs).1 ys
unfolding flat_accesses
no_flip_append spans f [] ys g = (tt, g)
no_flip_append spans f (x ∷ xs) ys g =
    let r = no_flip_append spans (flat_access spans f x).1 xs ys g.1 in
    ((g.0, r.0), r.1)

module _ (cols : List ℕ) (good : accepted cols ≡ true) (s : Setup) (map : MapLaws s) (on : ready s ≡ true) where
  abbrev spans : Spans
  spans = spans_of s

  abbrev Step : State → Flat → Type 0
  Step = InStep cols good s map

  accesses_agrees : (xs : List Access) (st : State) (f : Flat) → Step st f → All Fits xs → NoFlipFindsMark spans f xs
      → ((accesses cols st xs).0 ≡ (flat_accesses spans f xs).0) × Step (accesses cols st xs).1 (flat_accesses spans f xs).1
  unfolding accesses flat_accesses
  accesses_agrees [] st f m r g = (refl, m)
  accesses_agrees (x ∷ xs) st f m r g =
      let now : Alike cols good s map (access cols st x) (flat_access spans f x) = access_agrees cols good s map st f m x r.0 g.0 in
      let more = accesses_agrees xs (access cols st x).1 (flat_access spans f x).1 now.next r.1 g.1 in
      (ap₂ {C = List AccessAnswer} ◌∷◌ now.answer more.0, more.1)

  all_lent : (st : State) (f : Flat) → Step st f → (xs : List Access) → unlent st xs ≡ none
  unfolding unlent unlent_at
  all_lent st f m [] = refl
  all_lent st f m (x ∷ xs) = rw (m.unchanged, first_lent (cell_of s (address_of x)) refl) (all_lent st f m xs)
    where
      first_lent : (o : Option ℕ) → cell_of s (address_of x) ≡ o → unlent_at o st.cells ≡ none
      first_lent none e = refl
      first_lent (some k) e = rw (is_lent_lem cols good s map st f m (address_of x) k e)

  refusal_agrees : (st : State) (f : Flat) → Step st f → (c : MemoryCall) → refusal st c ≡ by_call spans c
  unfolding refusal not_ready
  refusal_agrees st f m c = rw (all_lent st f m (parts c), m.unchanged, on) (else_none (by_call spans c))

  -- what the two give at a call, that they stay in step, and what is left of the premise
  record Same {A : Type 0} (p : A × State) (q : A × Flat) (ys : List Access) : Type 0 where
    answer : p.0 ≡ q.0
    next : Step p.1 q.1
    rest : NoFlipFindsMark spans q.1 ys

  performed_agrees : (st : State) (f : Flat) → Step st f → (c : MemoryCall) (ys : List Access) → NoFlipFindsMark spans f (if_accepted (by_call spans c) (parts c) ++ ys)
      → Same (memory_call cols st c) (flat_performed (by_call spans c) spans f (parts c)) ys
  unfolding memory_call performed flat_performed
  performed_agrees st f m c ys g = rw (refusal_agrees st f m c) (go (by_call spans c) refl g)
    where
      go : (d : Declined) → by_call spans c ≡ d → NoFlipFindsMark spans f (if_accepted d (parts c) ++ ys)
          → Same (performed cols d st (parts c)) (flat_performed d spans f (parts c)) ys
      go (some n) e h = record { answer = refl; next = m; rest = h }
      go none e h =
          let k = no_flip_append spans f (parts c) ys h in
          let r = accesses_agrees (parts c) st f m (call_fits spans c e) k.0 in
          record { answer = ap given r.0; next = r.1; rest = k.1 }

  call_agrees : (st : State) (f : Flat) → Step st f → (c : Call) (cs : List Call) → AtErrorRegisters c → NoFlipFindsMark spans f (accepted_all spans (c ∷ cs))
      → Same (call cols st c) (flat_call spans f c) (accepted_all spans cs)
  unfolding call flat_call accepted_all accepted_of
  call_agrees st f m (memory c) cs p g =
      let r : Same (memory_call cols st c) (flat_performed (by_call spans c) spans f (parts c)) (accepted_all spans cs) = performed_agrees st f m c (accepted_all spans cs) g in
      record { answer = ap some r.answer; next = r.next; rest = r.rest }
  call_agrees st f m (read_register o) cs p g = record { answer = refl; next = m; rest = g }
  call_agrees st f m (write_register o v) cs p g =
      record {
        answer = refl;
        next =
            record {
              unchanged = setup_written st.registers o v p.0 p.1 ∙ m.unchanged;
              lent = m.lent;
              marks = m.marks;
              stored = m.stored;
            };
        rest = g;
      }

  run_agrees : (cs : List Call) (st : State) (f : Flat) → Step st f → All AtErrorRegisters cs → NoFlipFindsMark spans f (accepted_all spans cs)
      → (run cols st cs).0 ≡ (flat_run spans f cs).0
  unfolding run flat_run
  run_agrees [] st f m p g = refl
  run_agrees (c ∷ cs) st f m p g =
      let now : Same (call cols st c) (flat_call spans f c) (accepted_all spans cs) = call_agrees st f m c cs p.0 g in
      ap₂ {C = List (Option CallAnswer)} ◌∷◌ now.answer (run_agrees cs (call cols st c).1 (flat_call spans f c).1 now.next p.1 now.rest)

-- a doubleword lies in a span as a whole
holds_whole : (s : Setup) → MapLaws s → (a b : ℕ) → a / 8 ≡ b / 8 → (spans_of s).holds a ≡ (spans_of s).holds b
holds_whole s map a b e = map.spanned a ∙ ap is_some (map.same a b e) ∙ sym (map.spanned b)

-- a record that was switched on is ready
switched_ready : (r : Registers) → SwitchedOn r → ready (setup_of r) ≡ true
switched_ready r w = rw w.returned (ready_written w.before w.whole w.off w.accepted)

-- the comparison under any accepted columns
pub comparison : (cols : List ℕ) → accepted cols ≡ true → FlatComparison cols
unfolding FlatComparison
comparison cols good r w n h cs p sp =
    let s : Setup = setup_of r in
    let on : ready s ≡ true = switched_ready r w in
    let map : MapLaws s = map_laws r on in
    run_agrees cols good s map on cs (state r (replicate n 0)) blank (start cols good s map r n refl h) p
    (spaced_no_flip (spans_of s) (holds_whole s map) cs sp)

-- DEM-3: the comparison under the model's own columns (ECC-2)
pub flat_comparison : FlatComparison columns
flat_comparison = comparison columns columns_accepted
