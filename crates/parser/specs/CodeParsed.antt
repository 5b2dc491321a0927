-- What the answers of the code mean. Only contracts use it.
use Rattle.std.specs.Prelude.{ℕ, ◌-◌, cond, ◌&&◌, List, ◌++◌, ltb, eqb, length, take, drop, get_or, replicate, Option, None, Some, option_map}
use Rattle.calls.specs.Calls.{read, write, flip, scrub, burst_read, burst_write, Call, memory, read_register, write_register}
use Rattle.hex_digits.specs.Digits.{on_some, hex_from, decimal_field}
use Rattle.parser.specs.declared.request.WrittenBytes.{WrittenBytes}
use Rattle.parser.specs.declared.request.Request.{Request}
use Rattle.parser.specs.declared.request.Request.TheVariants as request

-- an array of n bytes that begins with these and has zeros after them
abbrev pub padded : ℕ → List ℕ → List ℕ
padded n bs = bs ++ replicate (n - length bs) 0

-- the bytes of a write as the code has them, if there are any
abbrev pub written : List ℕ → WrittenBytes
written bs = record { bytes = padded 8 bs; count = length bs }

abbrev pub written_of : Option (List ℕ) → Option WrittenBytes
written_of o = option_map written o

-- an address of eight digits and, after a comma, another field
unfoldable pub address_and_field : List ℕ → Option (ℕ × List ℕ)
address_and_field x = cond (ltb 8 (length x) && eqb (get_or x 8 0) 0x2C) (on_some (hex_from 0 (take 8 x)) (λ a. Some (a, drop 9 x))) None

-- the same with a decimal number as the other field
abbrev pub address_and_number : List ℕ → Option (ℕ × ℕ)
address_and_number x = on_some (address_and_field x) (λ p. on_some (decimal_field p.1) (λ n. Some (p.0, n)))

-- what a request asks for
abbrev pub asked : Request → Call
asked (request.WriteRegister o v) = write_register o v
asked (request.ReadRegister o) = read_register o
asked (request.Write a w) = memory (write a (take w.count w.bytes))
asked (request.Read a n) = memory (read a n)
asked (request.Flip a b) = memory (flip a b)
asked (request.Scrub a) = memory (scrub a)

-- the code's answer to a line that asks for this call, down to each byte. No line asks for a burst
abbrev pub request_of : Call → Option Request
request_of (write_register o v) = Some (request.WriteRegister o v)
request_of (read_register o) = Some (request.ReadRegister o)
request_of (memory (read a n)) = Some (request.Read a n)
request_of (memory (write a bs)) = Some (request.Write a (written bs))
request_of (memory (flip a b)) = Some (request.Flip a b)
request_of (memory (scrub a)) = Some (request.Scrub a)
request_of (memory (burst_read a n)) = None
request_of (memory (burst_write a bs)) = None

-- the code's answer to what a line asks for
abbrev pub parsed_as : Option Call → Option Request
parsed_as o = on_some o request_of

-- the call that a parsed line asks for
abbrev pub meant : Option Request → Option Call
meant p = option_map asked p
