-- What the pass finds, for the contracts of its functions.
use Rattle.std.specs.Prelude.{◌≡◌, ℕ, ◌+◌, ◌-◌, ◌<◌, true, cond, nat_lt, Some, None}
use Rattle.std.specs.Prelude as code
use Rattle.std.proofs.Math.Option.{Option, none, some}
use Rattle.banks.specs.declared.Bank.{Bank}
use Rattle.banks.specs.Setup.{Setup, row_bits_of, column_bits_of, bank}
use Rattle.address_map.specs.CodeFields.{longest_of}
use Rattle.banks.specs.Judge.{faulty}
use Rattle.banks.specs.Map.{bank_at, cells_below}

-- if a span of span + 1 megabytes with this row code is not too long, its bank has 2 ^ (17 + k) cells
abbrev pub SizeBits : ℕ → ℕ → ℕ → Type 0
SizeBits span code k = span < longest_of code → 17 + k ≡ row_bits_of code (span + 1) + column_bits_of (row_bits_of code (span + 1)) (span + 1)

-- how many bits number the megabytes of a bank's cells
unfoldable pub megabyte_bits : Bank → ℕ
megabyte_bits b = b.row_bits + b.column_bits - 17

-- the same, unless the bank is faulty
unfoldable pub bits_unless_faulty : Bank → code.Option ℕ
bits_unless_faulty b = cond (faulty b) None (Some (megabyte_bits b))

-- the bank that holds a megabyte, the number of its first cell and its bits, if there is such a bank
unfoldable pub selection : Setup → ℕ → Option (ℕ × ℕ × ℕ)
selection s m = cond (nat_lt (bank_at s m) 8) (some (bank_at s m, cells_below s (bank_at s m), megabyte_bits (bank s (bank_at s m)))) none

-- bank n is enabled, and its first cell and its bits are these
pub record InBank (s : Setup) (n base bits : ℕ) : Type 0 where
  pub below : n < 8
  pub enabled : (bank s n).enabled ≡ true
  pub first : base ≡ cells_below s n
  pub size : bits ≡ megabyte_bits (bank s n)
