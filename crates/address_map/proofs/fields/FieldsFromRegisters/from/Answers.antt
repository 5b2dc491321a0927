-- Each number is the one that `fields_of` names: eight megabyte numbers of one offset and eight of another, and three numbers of bytes.
use Rattle.std.proofs.Common.{rules, ◌≡◌, ℕ, zero, suc, ◌+◌, ◌*◌, ◌%◌, ◌<◌, List, [], ◌∷◌, length, get_or, arith, mul_comm}
use Rattle.std.proofs.lemmas.List.{ext_get_or}
use Rattle.banks.specs.Setup.{start_of, last_of}
use Rattle.address_map.specs.CodeFields.{fields_of}
use Rattle.address_map.proofs.fields.FieldsFromRegisters.from.Goals as goal

-- eight numbers, each by its index
eight : (g : ℕ → ℕ) (xs : List ℕ) → length xs ≡ 8 → ((i : ℕ) → i < 8 → get_or xs i 0 ≡ g i)
    → xs ≡ g 0 ∷ g 1 ∷ g 2 ∷ g 3 ∷ g 4 ∷ g 5 ∷ g 6 ∷ g 7 ∷ []
eight g xs l h = ext_get_or 0 xs (g 0 ∷ g 1 ∷ g 2 ∷ g 3 ∷ g 4 ∷ g 5 ∷ g 6 ∷ g 7 ∷ []) l (λ i k. of_eight i (omega arith))
  where
    of_eight : (i : ℕ) → i < 8 → get_or xs i 0 ≡ get_or (g 0 ∷ g 1 ∷ g 2 ∷ g 3 ∷ g 4 ∷ g 5 ∷ g 6 ∷ g 7 ∷ []) i 0
    of_eight zero k = h 0 (omega arith)
    of_eight (suc zero) k = h 1 (omega arith)
    of_eight (suc (suc zero)) k = h 2 (omega arith)
    of_eight (suc (suc (suc zero))) k = h 3 (omega arith)
    of_eight (suc (suc (suc (suc zero)))) k = h 4 (omega arith)
    of_eight (suc (suc (suc (suc (suc zero))))) k = h 5 (omega arith)
    of_eight (suc (suc (suc (suc (suc (suc zero)))))) k = h 6 (omega arith)
    of_eight (suc (suc (suc (suc (suc (suc (suc zero))))))) k = h 7 (omega arith)
    of_eight (suc (suc (suc (suc (suc (suc (suc (suc i)))))))) k = absurd (omega arith)

pub returns : goal.returns
unfolding fields_of start_of last_of
returns c =
    let r = c.args.r in
    let starts : (i : ℕ) → i < 8 → get_or c.from_fn.result i 0 ≡ get_or r.bytes (0x80 + i) 0 + 256 * (get_or r.bytes (0x80 + i + 8) 0 % 4) =
    λ i l. (let h = c.from_fn.ensures.items.at i 0 l in search rules) in
    let lasts : (i : ℕ) → i < 8 → get_or c.from_fn-2.result i 0 ≡ get_or r.bytes (0x90 + i) 0 + 256 * (get_or r.bytes (0x90 + i + 8) 0 % 4) =
    λ i l. (let h = c.from_fn-2.ensures.items.at i 0 l in search rules) in
    let s = eight _ c.from_fn.result c.from_fn.ensures.items.long starts in
    let l = eight _ c.from_fn-2.result c.from_fn-2.ensures.items.long lasts in
    simp (s, l, c.from.ensures, c.from_le_bytes.ensures, c.from-2.ensures, mul_comm (get_or r.bytes 241 0) 256)
