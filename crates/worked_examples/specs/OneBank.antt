-- Records with one bank, for the worked examples about its length.
use Rattle.std.specs.Prelude.{ℕ, ◌/◌, ◌%◌}
use Rattle.registers.specs.Record.{fresh, stored}
use Rattle.banks.specs.declared.Bank.{Bank}
use Rattle.banks.specs.Setup.{Setup, setup_of, bank}

-- EX-9, EX-12: bank 0 spans MB start to last with this row code, and start is below 256; the others are disabled, and memory is on
unfoldable pub one_bank : ℕ → ℕ → ℕ → Setup
one_bank start last code =
    setup_of (stored (stored (stored (stored (stored (stored fresh 0x80 start) 0x90 (last % 256)) 0x98 (last / 256)) 0xF0 code) 0xA0 1) 0xF2 8)

-- its bank
abbrev pub only_bank : ℕ → ℕ → ℕ → Bank
only_bank start last code = bank (one_bank start last code) 0
