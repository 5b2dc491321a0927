-- The record of the worked examples.
use Rattle.registers.specs.Record.{fresh, stored}
use Rattle.registers.specs.declared.Registers.{Registers}
use Rattle.banks.specs.Setup.{Setup, setup_of}

-- EX-3: bank 0 spans MB 0 to 1 with 9 row bits, bank 1 MB 2 to 4 with 10; memory is on
unfoldable pub two_banks : Registers
two_banks = stored (stored (stored (stored (stored (stored fresh 0x90 1) 0x81 2) 0x91 4) 0xF0 4) 0xA0 3) 0xF2 8

-- its set-up
abbrev pub setup : Setup
setup = setup_of two_banks
