-- The register calls, with refusals 1 to 4 and those of switching on.
use Rattle.std.specs.Prelude.{ℕ, ◌-◌, Bool, not, cond, ◌&&◌, ◌||◌, [], ◌∷◌, ltb, leb, eqb}
use Rattle.std.proofs.Math.Option.{none, some}
use Rattle.std.specs.Int.Bits.{bit_and}
use Rattle.refusals.specs.Paper.{paper_verdict, Declined, refuse, ◌else◌, Outcome, ◌gives◌}
use Rattle.registers.specs.Record.{at, stored}
use Rattle.registers.specs.declared.Registers.{Registers}
use Rattle.banks.specs.Setup.{setup_of}
use Rattle.banks.specs.Judge.{judged}
use Rattle.register_calls.specs.declared.Written.{Written}

-- whether o is from low to high, both included
abbrev pub within : ℕ → ℕ → ℕ → Bool
within low high o = leb low o && leb o high

-- REG-2, REF-1: there is a register at the offset
unfoldable pub listed : ℕ → Bool
listed o =
    within 0x80 0xA0 o || within 0xB8 0xB9 o || within 0xC0 0xC1 o || within 0xC4 0xC5 o || within 0xC8 0xCB o || within 0xF0 0xF2 o

-- REG-11, REF-2: the error address
unfoldable pub read_only : ℕ → Bool
read_only o = within 0xC8 0xCB o

-- REF-3: an extended byte above 3, or a value that F2 does not take. Other registers take any value (REG-8, REG-9)
unfoldable pub bad_value : ℕ → ℕ → Bool
bad_value o v = (within 0x88 0x8F o || within 0x98 0x9F o) && ltb 3 v || eqb o 0xF2 && (not (eqb v 0) && not (eqb v 8))

-- REF-4: registers of the banks, which cannot be written while memory is on
unfoldable pub locked : ℕ → Bool
locked o = within 0x80 0xA0 o || within 0xF0 0xF1 o

-- REG-10: error detection 1 and 2
unfoldable pub clearing : ℕ → Bool
clearing o = eqb o 0xC1 || eqb o 0xC5

-- ON-1, ON-4: 8 is written to F2 while memory is off; only this judges the banks. ON-5: while memory is on nothing is checked
unfoldable pub switches_on : Registers → ℕ → ℕ → Bool
switches_on r o v = eqb o 0xF2 && eqb v 8 && not (setup_of r).on

-- REG-17: the byte as it stands, or REF-1
unfoldable pub read_at : Registers → ℕ → Outcome ℕ
read_at r o = refuse (not (listed o)) (1 ∷ []) gives at r o

-- REF-102, REF-104: why a write is refused, if it is. No cause applies to 0 at F2 (ON-6)
unfoldable pub declined : Registers → ℕ → ℕ → Declined
declined r o v =
    refuse (not (listed o)) (1 ∷ [])
    else refuse (read_only o) (2 ∷ [])
    else refuse (bad_value o v) (3 ∷ [])
    else refuse (locked o && (setup_of r).on) (4 ∷ [])
    else cond (switches_on r o v) (judged (setup_of r)) none

-- REG-10, REG-18: the byte that an accepted write leaves
unfoldable pub new_byte : Registers → ℕ → ℕ → ℕ
new_byte r o v = cond (clearing o) (bit_and (at r o) (255 - v)) v

-- REG-18: the record after a write; a refused one leaves it as it was
abbrev pub record_after : Declined → Registers → ℕ → ℕ → Registers
record_after none r o v = stored r o (new_byte r o v)
record_after (some x) r o v = r

-- REG-18: the record after a write, accepted or refused
unfoldable pub written : Registers → ℕ → ℕ → Registers
written r o v = record_after (declined r o v) r o v

-- REG-18: what a write returns and leaves
unfoldable pub write_at : Registers → ℕ → ℕ → Declined × Registers
write_at r o v = (declined r o v, written r o v)

-- FORM-7: the verdict as the rules number it, and the record
abbrev pub paper_written : Written → Declined × Registers
paper_written w = (paper_verdict w.verdict, w.registers)
