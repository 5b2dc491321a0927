-- What an answer does to the error registers.
use Rattle.std.specs.Prelude.{ℕ, ◌+◌, ◌/◌, ◌%◌, ◌^◌, Bool, cond, ◌&&◌, ltb, eqb}
use Rattle.std.specs.Int.Bits.{bit_or}
use Rattle.registers.specs.Record.{at, stored}
use Rattle.registers.specs.declared.Registers.{Registers}
use Rattle.calls.specs.declared.Kind.{Kind}
use Rattle.calls.specs.declared.Kind.TheVariants.{Clean, Corrected, Uncorrectable, Stored, NoBank, Flipped}

-- REG-3: bit j of the byte at an offset is 1
unfoldable pub bit_set : Registers → ℕ → ℕ → Bool
bit_set r o j = eqb (at r o / 2 ^ j % 2) 1

-- ERR-6: both bytes of error detection are 00
unfoldable pub undetected : Registers → Bool
undetected r = eqb (at r 0xC1) 0 && eqb (at r 0xC5) 0

-- ERR-5, REG-11: the record with this error address, lowest byte at C8
unfoldable pub with_error_address : Registers → ℕ → Registers
with_error_address r a =
    stored (stored (stored (stored r 0xC8 (a % 2 ^ 8)) 0xC9 (a / 2 ^ 8 % 2 ^ 8)) 0xCA (a / 2 ^ 16 % 2 ^ 8)) 0xCB (a / 2 ^ 24 % 2 ^ 8)

-- ERR-5, ERR-7: bit j of C1 or C5 is set; the address is stored too if both bytes were 00
unfoldable pub detected : Registers → ℕ → ℕ → ℕ → Registers
detected r o j a =
    let s = stored r o (bit_or (at r o) (2 ^ j)) in
    cond (undetected r) (with_error_address s a) s

-- ERR-2, REG-8: in a record whose counter has just risen, it is equal to its trigger, and this is to be reported
unfoldable pub triggered : Registers → Bool
triggered r = eqb (at r 0xB8) (at r 0xB9) && bit_set r 0xC0 2

-- ERR-2: the counter has risen
unfoldable pub rose : Registers → ℕ → Registers
rose r a = cond (triggered r) (detected r 0xC1 2 a) r

-- ERR-1: one more correction; at 255 nothing changes
unfoldable pub counted : Registers → ℕ → Registers
counted r a = cond (ltb (at r 0xB8) 255) (rose (stored r 0xB8 (at r 0xB8 + 1)) a) r

-- ERR-1, ERR-3, ERR-4, ERR-8: what each answer does to the record; C0 and C4 decide it by three bits (REG-9)
unfoldable pub reported : Kind → ℕ → Registers → Registers
reported Clean a r = r
reported (Corrected b) a r = counted r a
reported Uncorrectable a r = cond (bit_set r 0xC4 3) (detected r 0xC5 3 a) r
reported Stored a r = r
reported NoBank a r = cond (bit_set r 0xC0 5) (detected r 0xC1 5 a) r
reported Flipped a r = r
