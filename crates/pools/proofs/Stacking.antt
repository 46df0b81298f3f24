-- The order of a new stack. Assumes nothing.
use Rattle.std.proofs.Common.{◌≡◌, ℕ, ◌+◌, ◌-◌, ◌<◌, ◌≤◌, List, length, get_or, take, reverse, sym, ap, ◌∙◌, arith, length-take-le}
use Rattle.std.proofs.lemmas.List.{ext_get_or, get_or-reverse, get_or-take, length-reverse}
use Rattle.std.proofs.lemmas.List.FromFn.{length-range_with_len, get_or-range_with_len}
use Rattle.std.specs.List.{range_with_len}

-- items written from one record down are issued from the last of them upward
pub stacked_new : (items : List ℕ) (m n : ℕ) → n ≤ m → n ≤ length items → ((k : ℕ) → k < n → get_or items k 0 ≡ m - 1 - k) → reverse (take n items) ≡ range_with_len (m - n) n
stacked_new items m n few long f = ext_get_or 0 (reverse (take n items)) (range_with_len (m - n) n) (whole ∙ sym (length-range_with_len (m - n) n)) at
  where
    some : length (take n items) ≡ n
    some = length-take-le n items long

    whole : length (reverse (take n items)) ≡ n
    whole = length-reverse (take n items) ∙ some

    at : (i : ℕ) → i < length (reverse (take n items)) → get_or (reverse (take n items)) i 0 ≡ get_or (range_with_len (m - n) n) i 0
    at i l =
        let below : i < n = omega (arith, whole) in
        let back : m - 1 - (n - 1 - i) ≡ (m - n) + i = omega arith in
        get_or-reverse (take n items) i 0 (omega (arith, some, below))
        ∙ ap (λ m. get_or (take n items) (m - 1 - i) 0) some
        ∙ get_or-take n items (n - 1 - i) 0 (omega (arith, below))
        ∙ f (n - 1 - i) (omega (arith, below))
        ∙ back
        ∙ sym (get_or-range_with_len (m - n) n i 0 below)
