-- One turn of the writer of a line.
use Rattle.std.proofs.Common.{◌≡◌, ℕ, ◌+◌, ◌/◌, ◌%◌, ◌<◌, ◌≤◌, List, [], ◌∷◌, ◌++◌, length, get_or, take, drop, set, sym, ap, ◌∙◌, append_assoc, arith, length-set}
use Rattle.std.proofs.lemmas.List.{take_more_set, at_drop_more, at_drop_all, append-nil}
use Rattle.frames.specs.Hexadecimal.{capital_of, written}

-- two digits are put at the end
pub turn : (signs items : List ℕ) (n i h l : ℕ) → n + 1 < length signs → i < length items → h ≡ capital_of (get_or items i 0 / 16) → l ≡ capital_of (get_or items i 0 % 16) → take n signs ++ written (drop i items) ≡ written items → take (n + 2) (set (set signs n h) (n + 1) l) ++ written (drop (i + 1) items) ≡ written items
turn signs items n i h l room more high low inv =
    let wide : n + 1 < length (set signs n h) = simp length-set (omega arith) in
    let grow : n + 2 ≡ n + 1 + 1 = omega arith in
    let first : take (n + 1) (set signs n h) ≡ take n signs ++ h ∷ [] = take_more_set signs n h (omega arith) in
    let both : take (n + 2) (set (set signs n h) (n + 1) l) ≡ (take n signs ++ h ∷ []) ++ l ∷ [] = ap (λ k. take k (set (set signs n h) (n + 1) l)) grow ∙ take_more_set (set signs n h) (n + 1) l wide ∙ ap (λ t. t ++ l ∷ []) first in
    ap (λ t. t ++ written (drop (i + 1) items)) both
    ∙ append_assoc (take n signs ++ h ∷ []) (l ∷ []) (written (drop (i + 1) items))
    ∙ append_assoc (take n signs) (h ∷ []) (l ∷ written (drop (i + 1) items))
    ∙ ap (λ x. take n signs ++ x ∷ l ∷ written (drop (i + 1) items)) high
    ∙ ap (λ x. take n signs ++ capital_of (get_or items i 0 / 16) ∷ x ∷ written (drop (i + 1) items)) low
    ∙ sym (ap (λ t. take n signs ++ t) (at_drop_more written items i 0 more))
    ∙ inv

-- nothing is left
pub all_written : (signs items : List ℕ) (n i : ℕ) → length items ≤ i → take n signs ++ written (drop i items) ≡ written items → take n signs ≡ written items
all_written signs items n i done inv =
    sym (append-nil (take n signs)) ∙ sym (ap (λ t. take n signs ++ t) (at_drop_all written items i done)) ∙ inv
