-- Pairs of digits that are read one by one.
use Rattle.std.proofs.Common.{◌≡◌, ℕ, ◌+◌, ◌*◌, suc, zero, List, [], ◌∷◌, ◌++◌, length, get_or, Some, None, Option, refl, ap, append_assoc, arith}
use Rattle.std.specs.Simd.{first_chunks}
use Rattle.frames.specs.Hexadecimal.{byte_of, before, bytes_of_pairs}

-- the bytes of pairs that stand side by side
abbrev pub bytes_of_chunks : List (List ℕ) → Option (List ℕ)
bytes_of_chunks [] = Some []
bytes_of_chunks (p ∷ ps) = before (byte_of (get_or p 0 0) (get_or p 1 0)) (bytes_of_chunks ps)

pub whole : (k : ℕ) (s : List ℕ) → length s ≡ k * 2 → bytes_of_chunks (first_chunks 2 k s) ≡ bytes_of_pairs s
whole zero [] even = refl
whole zero (a ∷ s) even = absurd (omega arith)
whole (suc k) [] even = absurd (omega arith)
whole (suc k) (a ∷ []) even = absurd (omega arith)
whole (suc k) (a ∷ b ∷ s) even = ap (before (byte_of a b)) (whole k s (omega arith))

pub odd : (k : ℕ) (s : List ℕ) → length s ≡ k * 2 + 1 → bytes_of_pairs s ≡ None
odd k [] one = absurd (omega arith)
odd k (a ∷ []) one = refl
odd zero (a ∷ b ∷ s) one = absurd (omega arith)
odd (suc k) (a ∷ b ∷ s) one = let none = odd k s (omega arith) in grind arith

-- the bytes read so far, and then those still to be read
abbrev pub onto : List ℕ → Option (List ℕ) → Option (List ℕ)
onto xs None = None
onto xs (Some ys) = Some (xs ++ ys)

pub onto_before : (xs : List ℕ) (b : ℕ) (o : Option (List ℕ)) → onto (xs ++ b ∷ []) o ≡ onto xs (before (Some b) o)
onto_before xs b o = grind (arith, append_assoc)
