-- What the two machines answer to a few short lists, computed, and that the lists keep the premise.
use Prim.Native.Nat.{ℕ, ◌+◌}
use mathlib.Core.Path.{◌≡◌, refl}
use mathlib.Core.Bool.{true}
use mathlib.Core.List.{List, [], ◌∷◌, ◌++◌}
use mathlib.Core.Option.{Option, none, some}
use lib.ListN.{replicate}
use Rattle.basics.specs.Range.{first_of, first, sum}
use Rattle.refusals.specs.Paper.{refused, given}
use Rattle.banks.specs.Setup.{start_of, last_of, enabled_of, row_code, megabytes, row_bits_of, fits, column_limit, column_bits_of, enabled_bank, bank_of, setup_of}
use Rattle.banks.specs.Judge.{lowest, inverted, too_long, faulty, fault_of, meets, meets_lower, lowest_meeting, judged, ready, not_ready}
use Rattle.banks.specs.Map.{holds, bank_at, cells, cell_in_bank, row_of, column_of, share, cells_below, place_of, in_span, located, cell_of}
use Rattle.register_calls.specs.Calls.{listed, read_only, bad_value, locked, clearing, switches_on, declined, new_byte, written}
use Rattle.ecc.specs.Columns.{columns}
use Rattle.ecc.specs.CheckCode.{bit_at, data_bit, flip_column, xor_of, check_of, syndrome_of, bit_reading, reading_of, mask_of, flip_bit}
use Rattle.ecc.specs.Cell.{encode, right_by, cell_reading, load_of}
use Rattle.ecc.specs.Lending.{cell_at, put_cell, is_lent}
use Rattle.error_registers.specs.Errors.{bit_set, undetected, with_error_address, detected, triggered, rose, counted, reported}
use Rattle.calls.specs.declared.Kind.{Kind}
use Rattle.calls.specs.declared.Kind.TheVariants.{Clean, Corrected, Uncorrectable, Stored, NoBank, Flipped}
use Rattle.calls.specs.Calls.{read, write, flip, scrub, burst_read, burst_write, beat_address, crosses, room, next_doubleword, parts, AccessAnswer, got, CallAnswer, Call, memory, read_register, write_register}
use Rattle.calls.specs.Spans.{Spans, by_count, by_bit, by_burst, by_arguments, by_spans, by_call, missed}
use Rattle.calls.specs.State.{state}
use Rattle.machine.specs.Cells.{merge, read_cell, merge_cell, write_cell, scrub_cell, on_cell}
use Rattle.machine.specs.Calls.{spans_of, unlent_at, unlent, refusal, on_target, access_at, access, accesses, performed, memory_call}
use Rattle.call_lists.specs.Lists.{call, run}
use Rattle.flat.specs.Flat.{blank, with_bytes, with_mark, flat_in_span, flat_access, flat_accesses, flat_performed, flat_call, flat_run}
use Rattle.flat.specs.Comparison.{accepted_of, flips, renews, any_of}
use Rattle.machine.proofs.LendingLaws.{reach}
use Rattle.call_lists.proofs.LendingLaws.{reach_of, reach_all}
use Rattle.flat.proofs.PremiseTests.{is_at_error_registers, all_at_error_registers, renewed_before, each_renewed, is_spaced}
use Rattle.flat.proofs.DoublewordBytes.{doubleword_bytes}
use Rattle.flat.proofs.Slips.{slipping, write_dropped, mark_cleared, corrected_once, bit_forgotten}
use Rattle.flat.proofs.OneBank.{bank_off, bank_on}

-- the answer of a call that consists of one access
abbrev pub answered : Kind → List ℕ → Option CallAnswer
answered k bs = some (given (got k bs ∷ []))

abbrev pub declined_with : ℕ → Option CallAnswer
declined_with n = some (refused (n ∷ []))

-- ---- lists for the counterexamples

-- a doubleword of zeros, read
abbrev zeros : Kind → AccessAnswer
zeros k = got k (replicate 8 0)

abbrev pub read_once : List Call
read_once = memory (read 0 1) ∷ []

-- two flips of a doubleword, and between them nothing that renews it: a read, a scrub of the next doubleword, a burst read, a split read, refused
-- writes of each kind
abbrev pub flipped_twice : List Call
flipped_twice =
    memory (scrub 0)
    ∷ memory (flip 0 0)
    ∷ memory (read 0 1)
    ∷ memory (scrub 8)
    ∷ memory (burst_read 8 32)
    ∷ memory (read 7 2)
    ∷ memory (write 0 [])
    ∷ memory (write 0xFFFFFFFF (0 ∷ 0 ∷ []))
    ∷ memory (burst_write 4 (replicate 32 0))
    ∷ memory (flip 0 1)
    ∷ memory (read 0 1)
    ∷ []

-- its answers, except the last
abbrev pub flipped_twice_then : Option CallAnswer → List (Option CallAnswer)
flipped_twice_then last =
    answered Clean []
    ∷ answered Flipped []
    ∷ answered (Corrected 0) (0 ∷ [])
    ∷ answered Clean []
    ∷ some (given (zeros Clean ∷ zeros Clean ∷ zeros Clean ∷ zeros (Corrected 0) ∷ []))
    ∷ some (given (got (Corrected 0) (0 ∷ []) ∷ got Clean (0 ∷ []) ∷ []))
    ∷ declined_with 6
    ∷ declined_with 7
    ∷ declined_with 19
    ∷ answered Flipped []
    ∷ last
    ∷ []

abbrev pub switched_off : List Call
switched_off = write_register 0xF2 0 ∷ memory (read 0 1) ∷ []

abbrev pub written_then_read : List Call
written_then_read = memory (write 0 (0x12 ∷ [])) ∷ memory (read 0 1) ∷ []

abbrev pub flipped_then_read_twice : List Call
flipped_then_read_twice = memory (flip 0 1) ∷ memory (read 0 1) ∷ memory (read 0 1) ∷ []

-- a cell that is not zero, though it reads as clean
abbrev pub other_cell : List ℕ
other_cell = encode columns (0x80 ∷ replicate 7 0)

-- ---- one long list: full and short writes, reads, flips of data and check bits, scrubs, bursts, splits, no bank, refusals 6, 7, 8, 10, 19 and 20,
-- and register calls, some of them refused with 1 and 2. Between the flips of bits 63 and 1 at 10 stands a burst write that starts at 18; between the
-- last flips at 08 and at 10, two of each, a split write

abbrev outside : ℕ
outside = 0x00100000

-- the bytes of a burst write: eight of each number, in the order of the beats
abbrev line : List ℕ
line = replicate 8 1 ++ replicate 8 2 ++ replicate 8 3 ++ replicate 8 4

abbrev ones : AccessAnswer
ones = got NoBank (replicate 8 0xFF)

-- each call beside its answer
abbrev long_steps : List (Call × Option CallAnswer)
long_steps =
    (write_register 0xC0 0x24, none)
    ∷ (write_register 0xB9 2, none)
    ∷ (memory (write 0x10 (0x80 ∷ 1 ∷ 2 ∷ 3 ∷ 4 ∷ 5 ∷ 6 ∷ 7 ∷ [])), answered Stored [])
    ∷ (memory (flip 0x10 2), answered Flipped [])
    ∷ (memory (read 0x10 8), answered (Corrected 2) (0x80 ∷ 1 ∷ 2 ∷ 3 ∷ 4 ∷ 5 ∷ 6 ∷ 7 ∷ []))
    ∷ (memory (write 0x12 (0xAB ∷ 0xCD ∷ [])), answered (Corrected 2) [])
    ∷ (memory (read 0x11 4), answered Clean (1 ∷ 0xAB ∷ 0xCD ∷ 4 ∷ []))
    ∷ (read_register 0xB8, none)
    ∷ (memory (flip 0x17 71), answered Flipped [])
    ∷ (memory (flip 0x10 72), declined_with 8)
    ∷ (memory (scrub 0x14), answered (Corrected 71) [])
    ∷ (memory (scrub 0x14), answered Clean [])
    ∷ (memory (flip 0x08 5), answered Flipped [])
    ∷ (memory (flip 0x10 63), answered Flipped [])
    ∷ (memory (write 0x08 (replicate 8 0xFF)), answered Stored [])
    ∷ (memory (write 0x0F (0 ∷ [])), answered Clean [])
    ∷ (memory (read 0x0E 2), answered Clean (0xFF ∷ 0 ∷ []))
    ∷ (memory (read 0x17 1), answered (Corrected 63) (7 ∷ []))
    ∷ (memory (read 0x10 0), declined_with 6)
    ∷ (memory (write 0x10 (replicate 9 0)), declined_with 6)
    ∷ (memory (read 0x17 2), some (given (got (Corrected 63) (7 ∷ []) ∷ got Clean (0 ∷ []) ∷ [])))
    ∷ (memory (read 0xFFFFFFFC 4), answered NoBank (replicate 4 0xFF))
    ∷ (memory (read 0xFFFFFFFC 5), declined_with 7)
    ∷ (memory (flip outside 0), declined_with 10)
    ∷ (memory (read outside 2), answered NoBank (0xFF ∷ 0xFF ∷ []))
    ∷ (memory (write outside (1 ∷ [])), answered NoBank [])
    ∷ (memory (read (outside + 5) 4), some (given (got NoBank (replicate 3 0xFF) ∷ got NoBank (0xFF ∷ []) ∷ [])))
    ∷ (memory (scrub outside), answered NoBank [])
    ∷ (read_register 0xBA, none)
    ∷ (write_register 0xC8 1, none)
    ∷ (write_register 0xC1 0xFF, none)
    ∷ (memory (read 0x00 8), answered Clean (replicate 8 0))
    ∷ (memory (flip 0x18 9), answered Flipped [])
    ∷ (
      memory (burst_read 0x10 32),
      some (given (got (Corrected 63) (0x80 ∷ 1 ∷ 0xAB ∷ 0xCD ∷ 4 ∷ 5 ∷ 6 ∷ 7 ∷ []) ∷ zeros (Corrected 9) ∷ zeros Clean ∷ got Clean (replicate 7 0xFF ++ 0 ∷ []) ∷ [])),
    )
    ∷ (memory (burst_write 0x18 line), some (given (got Stored [] ∷ got Stored [] ∷ got Stored [] ∷ got Stored [] ∷ [])))
    ∷ (memory (flip 0x10 1), answered Flipped [])
    ∷ (
      memory (burst_read 0x08 32),
      some (given (got Clean (replicate 8 3) ∷ got (Corrected 1) (replicate 8 4) ∷ got Clean (replicate 8 1) ∷ got Clean (replicate 8 2) ∷ [])),
    )
    ∷ (memory (flip 0x08 3), answered Flipped [])
    ∷ (memory (write 0x0E (0x21 ∷ 0x22 ∷ 0x23 ∷ 0x24 ∷ [])), some (given (got (Corrected 3) [] ∷ got (Corrected 1) [] ∷ [])))
    ∷ (memory (flip 0x0F 70), answered Flipped [])
    ∷ (memory (flip 0x13 0), answered Flipped [])
    ∷ (memory (read 0x0C 8), some (given (got (Corrected 70) (3 ∷ 3 ∷ 0x21 ∷ 0x22 ∷ []) ∷ got (Corrected 0) (0x23 ∷ 0x24 ∷ 4 ∷ 4 ∷ []) ∷ [])))
    ∷ (memory (burst_read 0x0C 31), declined_with 19)
    ∷ (memory (burst_read 0x08 31), declined_with 20)
    ∷ (memory (burst_write 0x08 []), declined_with 20)
    ∷ (memory (burst_read outside 32), some (given (ones ∷ ones ∷ ones ∷ ones ∷ [])))
    ∷ []

abbrev pub calls_of : List (Call × Option CallAnswer) → List Call
calls_of [] = []
calls_of (s ∷ ss) = s.0 ∷ calls_of ss

abbrev pub answers_of : List (Call × Option CallAnswer) → List (Option CallAnswer)
answers_of [] = []
answers_of (s ∷ ss) = s.1 ∷ answers_of ss

abbrev pub long_list : List Call
long_list = calls_of long_steps

abbrev pub long_answers : List (Option CallAnswer)
long_answers = answers_of long_steps

abbrev pub spans : Spans
spans = spans_of (setup_of bank_on)

abbrev cells_answer : List ℕ → List Call → List (Option CallAnswer)
cells_answer cells cs = (run columns (state bank_on cells) cs).0

abbrev Reached : List ℕ → List Call → Type 0
Reached cells cs = reach_all columns (state bank_on cells) cs ≡ true

abbrev zero_cell : List ℕ
zero_cell = replicate 9 0

pub record Computed : Type 0 where
  -- a read: of zeros, with no cell lent, of another cell, with memory off
  pub once_spaced : is_spaced spans read_once ≡ true
  pub once_flat : (flat_run spans blank read_once).0 ≡ answered Clean (0 ∷ []) ∷ []
  pub once_unlent : cells_answer [] read_once ≡ declined_with 9 ∷ []
  pub once_other_reached : Reached other_cell read_once
  pub once_other : cells_answer other_cell read_once ≡ answered Clean (0x80 ∷ []) ∷ []
  pub once_off_spaced : is_spaced (spans_of (setup_of bank_off)) read_once ≡ true
  pub once_off_flat : (flat_run (spans_of (setup_of bank_off)) blank read_once).0 ≡ answered Clean (0 ∷ []) ∷ []
  pub once_off_cells : (cells : List ℕ) → (run columns (state bank_off cells) read_once).0 ≡ declined_with 5 ∷ []
  -- two flips with no write or scrub of the doubleword between
  pub twice_reached : Reached (replicate 36 0) flipped_twice
  pub twice_cells : cells_answer (replicate 36 0) flipped_twice ≡ flipped_twice_then (answered Uncorrectable (0xC0 ∷ []))
  pub twice_flat : (flat_run spans blank flipped_twice).0 ≡ flipped_twice_then (answered (Corrected 1) (0 ∷ []))
  -- memory is switched off, and a read
  pub off_spaced : is_spaced spans switched_off ≡ true
  pub off_cells : (cells : List ℕ) → cells_answer cells switched_off ≡ none ∷ declined_with 5 ∷ []
  pub off_flat : (flat_run spans blank switched_off).0 ≡ none ∷ answered Clean (0 ∷ []) ∷ []
  -- a write and a read
  pub written_spaced : is_spaced spans written_then_read ≡ true
  pub written_reached : Reached zero_cell written_then_read
  pub written_cells : cells_answer zero_cell written_then_read ≡ answered Clean [] ∷ answered Clean (0x12 ∷ []) ∷ []
  pub written_dropped : slipping write_dropped spans blank written_then_read ≡ answered Clean [] ∷ answered Clean (0 ∷ []) ∷ []
  -- a flip and two reads
  pub read_spaced : is_spaced spans flipped_then_read_twice ≡ true
  pub read_reached : Reached zero_cell flipped_then_read_twice
  pub read_cells : cells_answer zero_cell flipped_then_read_twice ≡ answered Flipped [] ∷ answered (Corrected 1) (0 ∷ []) ∷ answered (Corrected 1) (0 ∷ []) ∷ []
  pub read_cleared : slipping mark_cleared spans blank flipped_then_read_twice ≡ answered Flipped [] ∷ answered (Corrected 1) (0 ∷ []) ∷ answered Clean (0 ∷ []) ∷ []
  pub read_once_lem : slipping corrected_once spans blank flipped_then_read_twice ≡ answered Flipped [] ∷ answered (Corrected 1) (0 ∷ []) ∷ answered Clean (0x40 ∷ []) ∷ []
  pub read_nameless : slipping bit_forgotten spans blank flipped_then_read_twice ≡ answered Flipped [] ∷ answered (Corrected 0) (0 ∷ []) ∷ answered (Corrected 0) (0 ∷ []) ∷ []
  -- the long list
  pub long_registers : all_at_error_registers long_list ≡ true
  pub long_spaced : is_spaced spans long_list ≡ true
  pub long_reached : Reached (replicate 36 0) long_list
  pub long_cells : cells_answer (replicate 36 0) long_list ≡ long_answers
  pub long_flat : (flat_run spans blank long_list).0 ≡ long_answers

pub computed : Computed
unfolding bank_off bank_on start_of last_of enabled_of row_code megabytes row_bits_of fits column_limit column_bits_of enabled_bank bank_of setup_of first_of first sum lowest inverted too_long
    faulty fault_of meets meets_lower lowest_meeting judged ready not_ready holds bank_at cells cell_in_bank row_of column_of share cells_below place_of in_span located
    cell_of listed read_only bad_value locked clearing switches_on declined new_byte written bit_at data_bit flip_column xor_of check_of syndrome_of bit_reading reading_of
    mask_of flip_bit encode right_by cell_reading load_of cell_at put_cell is_lent bit_set undetected with_error_address detected triggered rose counted reported beat_address crosses
    room next_doubleword parts by_count by_bit by_burst by_arguments by_spans by_call missed merge read_cell merge_cell write_cell scrub_cell on_cell unlent_at unlent refusal on_target access_at access accesses
    performed memory_call call run blank with_bytes with_mark flat_in_span flat_access flat_accesses flat_performed flat_call flat_run accepted_of flips renews any_of
    reach reach_of reach_all slipping doubleword_bytes is_at_error_registers all_at_error_registers renewed_before each_renewed is_spaced
computed =
    record {
      once_spaced = refl;
      once_flat = refl;
      once_unlent = refl;
      once_other_reached = refl;
      once_other = refl;
      once_off_spaced = refl;
      once_off_flat = refl;
      once_off_cells = λ cells. refl;
      twice_reached = refl;
      twice_cells = refl;
      twice_flat = refl;
      off_spaced = refl;
      off_cells = λ cells. refl;
      off_flat = refl;
      written_spaced = refl;
      written_reached = refl;
      written_cells = refl;
      written_dropped = refl;
      read_spaced = refl;
      read_reached = refl;
      read_cells = refl;
      read_cleared = refl;
      read_once_lem = refl;
      read_nameless = refl;
      long_registers = refl;
      long_spaced = refl;
      long_reached = refl;
      long_cells = refl;
      long_flat = refl;
    }
