-- What an accepted switching on leaves, and which register writes leave the set-up of the banks as it was.
use mathlib.Core.Path.{◌≡◌, refl}
use mathlib.Core.Bool.{Bool, true, false, not, cond, true≢false}
use mathlib.Core.Option.{none, some}
use Prim.Native.Nat.{ℕ, ◌≤◌}
use native.Mathlib.Omega.{arith}
use lib.ListN.{length}
use lib.Seq.{get_or-set_same}
use Rattle.refusals.specs.Paper.{Declined}
use Rattle.registers.specs.declared.Registers.{Registers}
use Rattle.banks.specs.Setup.{Setup, setup_of}
use Rattle.banks.specs.Judge.{lowest, meets_lower, lowest_meeting, judged, ready}
use Rattle.banks.proofs.StoreLaws.{setup_between, banks_switched}
use Rattle.register_calls.specs.Calls.{listed, read_only, bad_value, locked, clearing, switches_on, declined, new_byte, record_after, written}

-- a register write at B8 to CB, refused or not
pub setup_written : (r : Registers) (o v : ℕ) → 0xB8 ≤ o → o ≤ 0xCB → setup_of (written r o v) ≡ setup_of r
unfolding written
setup_written r o v l h = go (declined r o v)
  where
    go : (d : Declined) → setup_of (record_after d r o v) ≡ setup_of r
    go none = setup_between r o (new_byte r o v) (omega arith) (omega arith)
    go (some x) = refl

-- judging looks at the banks alone
judged_banks : (s t : Setup) → s.banks ≡ t.banks → judged s ≡ judged t
unfolding judged lowest lowest_meeting meets_lower
judged_banks s t e = rw e

chosen : (t : Bool) → t ≡ false → (x : Declined) → cond (not t) x none ≡ none → x ≡ none
chosen true e x h = absurd (true≢false e)
chosen false e x h = h

module _ (r : Registers) (whole : length r.bytes ≡ 256) (off : (setup_of r).on ≡ false) (accepted : declined r 0xF2 8 ≡ none) where
  -- none of 11 to 14 was found
  judged_none : judged (setup_of r) ≡ none
  unfolding declined listed read_only bad_value locked switches_on
  judged_none = chosen (setup_of r).on off (judged (setup_of r)) accepted

  on_written : (setup_of (written r 0xF2 8)).on ≡ true
  unfolding written new_byte clearing setup_of
  on_written = rw (accepted, get_or-set_same r.bytes 0xF2 8 0 (omega arith))

  banks_written : (setup_of (written r 0xF2 8)).banks ≡ (setup_of r).banks
  unfolding written new_byte clearing
  banks_written = rw accepted (banks_switched r 8)

  -- the record that an accepted switching on returns (LIST-2)
  pub ready_written : ready (setup_of (written r 0xF2 8)) ≡ true
  unfolding ready
  ready_written = rw (judged_banks (setup_of (written r 0xF2 8)) (setup_of r) banks_written, judged_none, on_written)
