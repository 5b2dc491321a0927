-- What the code takes out of a record: its numbers, from which it reads each bank. They are no part of what the rules say.
use Rattle.std.specs.Prelude.{ℕ, ◌+◌, ◌-◌, ◌*◌, ◌/◌, ◌%◌, ◌^◌, cond, [], ◌∷◌, ◌==◌, slice_index}
use Rattle.registers.specs.Record.{at}
use Rattle.registers.specs.declared.Registers.{Registers}
use Rattle.banks.specs.declared.Bank.{Bank}
use Rattle.address_map.specs.declared.fields.Fields.{Fields}
use Rattle.banks.specs.Setup.{Setup, start_of, last_of, row_bits_of, column_limit, bank_from, off_bank}

-- eight starts, eight last megabytes, the bank enables, both bytes of row codes, and F2
unfoldable pub fields_of : Registers → Fields
fields_of r =
    record {
      starts =
          start_of r 0 ∷ start_of r 1 ∷ start_of r 2 ∷ start_of r 3 ∷ start_of r 4 ∷ start_of r 5 ∷ start_of r 6 ∷ start_of r 7 ∷ [];
      lasts = last_of r 0 ∷ last_of r 1 ∷ last_of r 2 ∷ last_of r 3 ∷ last_of r 4 ∷ last_of r 5 ∷ last_of r 6 ∷ last_of r 7 ∷ [];
      enables = at r 0xA0;
      codes = at r 0xF0 + 256 * at r 0xF1;
      memory = at r 0xF2;
    }

-- the row code of bank n
unfoldable pub code_by : Fields → ℕ → ℕ
code_by f n = f.codes / 2 ^ (2 * n) % 4

-- ON-3: the longest bank of a row code, in megabytes: as many as the row bits of a long span and the most column bits beside them number
unfoldable pub longest_of : ℕ → ℕ
longest_of code = 2 ^ (row_bits_of code 1024 + column_limit (row_bits_of code 1024) - 17)

-- bank n, as it is when enabled
unfoldable pub enabled_by : Fields → ℕ → Bank
enabled_by f n = bank_from (slice_index f.starts n) (slice_index f.lasts n) (code_by f n)

-- bank n
unfoldable pub bank_by : Fields → ℕ → Bank
bank_by f n = cond (f.enables / 2 ^ n % 2 == 1) (enabled_by f n) off_bank

-- the set-up that the numbers describe; for those of a record it is the record's
unfoldable pub setup_by : Fields → Setup
setup_by f =
    record {
      on = (f.memory / 2 ^ 3 % 2 == 1);
      banks = bank_by f 0 ∷ bank_by f 1 ∷ bank_by f 2 ∷ bank_by f 3 ∷ bank_by f 4 ∷ bank_by f 5 ∷ bank_by f 6 ∷ bank_by f 7 ∷ [];
    }
