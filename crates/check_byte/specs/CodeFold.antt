-- The check byte of a doubleword under the columns of ECC-2, as the code folds it: every check bit is the parity of some data bits. Masks select them,
-- and numbers of 64 bits are rotated and laid over each other, until all that counts for one check bit stands at the same bit of every byte.
use Rattle.std.specs.Prelude.{ℕ, ◌-◌, ◌*◌, ◌/◌, ◌%◌, ◌^◌}
use Rattle.std.specs.Int.Bits.{bit_and, bit_xor}

-- rotated to the left by n of 64 bits
unfoldable pub rotated : ℕ → ℕ → ℕ
rotated x n = bit_xor (x * 2 ^ n % 2 ^ 64) (x / 2 ^ (64 - n))

-- the bits of x under one mask and those of y under another
unfoldable pub masked : ℕ → ℕ → ℕ → ℕ → ℕ
masked x y k l = bit_xor (bit_and x k) (bit_and y l)

-- a, and over it b, rotated
unfoldable pub folded : ℕ → ℕ → ℕ → ℕ
folded a b n = bit_xor a (rotated b n)

-- a number laid over itself, shifted
unfoldable pub over_shifted : ℕ → ℕ → ℕ
over_shifted x n = bit_xor x (x / 2 ^ n)

-- a number in which bit j of every byte counts for check bit j: the rotations, by sums of 4, 2 and 1, bring each data bit to such a bit, each under a
-- mask that selects the data bits that count for the check bit they then stand at
unfoldable pub folded_masks : ℕ → ℕ
folded_masks x =
    let y = rotated x 4 in
    let a = masked x y 0x3f809a6450372207 0x18caa18c604f201f in
    let b = masked x y 0xcf30610294008bc4 0x1c3568201cd5c3c0 in
    let c = masked x y 0x9f6448212d92148a 0xa17055c53aac178f in
    let d = masked x y 0xe43a9491284925e3 0xe4921efaa7008107 in
    folded (folded a b 2) (folded c d 2) 1

-- the eight bytes of a number, laid over each other
unfoldable pub laid_over : ℕ → ℕ
laid_over x = over_shifted (over_shifted (over_shifted x 32) 16) 8 % 256

-- ECC-4: the check byte, as the code computes it
unfoldable pub folded_check : ℕ → ℕ
folded_check x = laid_over (folded_masks x)
