-- The order of a ring as items are written and taken. Assumes nothing.
use Rattle.std.proofs.Common.{◌≡◌, ℕ, zero, suc, false, ◌+◌, ◌-◌, ◌<◌, ◌≤◌, List, [], ◌∷◌, ◌++◌, length, get_or, set, sym, refl, ap, ◌∙◌, add-one, arith, get_or-set_other, get_or-set_same}
use Rattle.std.proofs.lemmas.Bool.{cond-false}
use Rattle.std.proofs.lemmas.Bool.Decides.{nat_tests}
use Rattle.std.specs.List.{range_with_len}
use Rattle.pools.specs.Orders.{listed, put_last, queued, wrapped}

pub length_queued : (items : List ℕ) (h n : ℕ) → length (queued items h n) ≡ n
length_queued items h zero = refl
length_queued items h (suc n) = ap suc (length_queued items (wrapped (h + 1)) n)

pub wrapped_in : (h : ℕ) → h < 256 → wrapped h < 128
wrapped_in h l = grind (arith, nat_tests)

wrapped_here : (h : ℕ) → h < 128 → wrapped (h + 0) ≡ h
wrapped_here h l = grind (arith, nat_tests)

-- a place further on, by one step and the others
wrapped_step : (h k : ℕ) → h < 128 → k < 128 → wrapped (wrapped (h + 1) + k) ≡ wrapped (h + suc k)
wrapped_step h k l m = grind (arith, nat_tests)

-- two places less than a round apart differ
wrapped_apart : (h k n : ℕ) → h < 128 → k < n → n < 128 → wrapped (h + k) ≡ wrapped (h + n) → ⊥
wrapped_apart h k n l m o = grind (arith, nat_tests)

pub queued_top : (items : List ℕ) (h n : ℕ) → 0 < n → queued items h n ≡ get_or items h 0 ∷ queued items (wrapped (h + 1)) (n - 1)
queued_top items h n l = let e : suc (n - 1) ≡ n = omega arith in sym (ap (queued items h) e)

-- a write at none of its places is not seen
queued_set : (items : List ℕ) (i v h n : ℕ) → h < 128 → n ≤ 128 → ((k : ℕ) → k < n → wrapped (h + k) ≡ i → ⊥) → queued (set items i v) h n ≡ queued items h n
queued_set items i v h zero l m f = refl
queued_set items i v h (suc n) l m f =
    let e : get_or (set items i v) h 0 ≡ get_or items h 0 = get_or-set_other items i h v 0 (λ q. f 0 (omega arith) (wrapped_here h l ∙ q)) in
    let ih : queued (set items i v) (wrapped (h + 1)) n ≡ queued items (wrapped (h + 1)) n = queued_set items i v (wrapped (h + 1)) n (wrapped_in (h + 1) (omega arith)) (omega arith) (λ k o q. f (suc k) (omega arith) (sym (wrapped_step h k l (omega arith)) ∙ q)) in
    cc

-- one item more, at the end
queued_more : (items : List ℕ) (h n : ℕ) → h < 128 → n < 128 → queued items h (suc n) ≡ queued items h n ++ get_or items (wrapped (h + n)) 0 ∷ []
queued_more items h zero l m = ap (λ k. get_or items k 0 ∷ []) (sym (wrapped_here h l))
queued_more items h (suc n) l m =
    ap (λ r. get_or items h 0 ∷ r) (queued_more items (wrapped (h + 1)) n (wrapped_in (h + 1) (omega arith)) (omega arith) ∙ ap (λ k. queued items (wrapped (h + 1)) n ++ get_or items k 0 ∷ []) (wrapped_step h n l (omega arith)))

pub queued_push : (items : List ℕ) (v h n : ℕ) → h < 128 → n < 128 → length items ≡ 128 → queued (set items (wrapped (h + n)) v) h (n + 1) ≡ queued items h n ++ v ∷ []
queued_push items v h n l m long =
    let w = wrapped (h + n) in
    let in' : wrapped (h + n) < length items = omega (arith, wrapped_in (h + n) (omega arith)) in
    let e : get_or (set items w v) w 0 ≡ v = get_or-set_same items w v 0 in' in
    let same : queued (set items w v) h n ≡ queued items h n = queued_set items w v h n l (omega arith) (λ k o. wrapped_apart h k n l o m) in
    ap (queued (set items w v) h) (add-one n) ∙ queued_more (set items w v) h n l m ∙ cc

-- a record that joins lies in the place behind the last
pub queued_joined : (items : List ℕ) (v h n place : ℕ) → h < 128 → length (queued items h n) < 128 → length items ≡ 128 → place ≡ wrapped (h + n) → listed (queued items h n) v ≡ false → queued (set items place v) h (n + 1) ≡ put_last (queued items h n) v
queued_joined items v h n place l m long e new =
    ap (λ p. queued (set items p v) h (n + 1)) e ∙ queued_push items v h n l (omega (arith, length_queued items h n)) long ∙ sym (cond-false (listed (queued items h n) v) _ _ new)

-- a new ring issues from 0 upward
pub queued_new : (items : List ℕ) (a n : ℕ) → a + n ≤ 128 → ((k : ℕ) → k < a + n → get_or items k 0 ≡ k) → queued items a n ≡ range_with_len a n
queued_new items a zero l f = refl
queued_new items a (suc zero) l f = ap (λ x. x ∷ []) (f a (omega arith))
queued_new items a (suc (suc n)) l f =
    let e : get_or items a 0 ≡ a = f a (omega arith) in
    let w : wrapped (a + 1) ≡ a + 1 = grind (arith, nat_tests) in
    let ih : queued items (a + 1) (suc n) ≡ range_with_len (a + 1) (suc n) = queued_new items (a + 1) (suc n) (omega arith) (λ k o. f k (omega arith)) in
    let ih' : queued items (wrapped (a + 1)) (suc n) ≡ range_with_len (a + 1) (suc n) = ap (λ p. queued items p (suc n)) w ∙ ih in
    ap (λ x. x ∷ queued items (wrapped (a + 1)) (suc n)) e ∙ ap (λ r. a ∷ r) ih'
