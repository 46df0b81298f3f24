-- Amounts and their bytes, two for each. Assumes nothing.
use Rattle.std.proofs.Common.{◌≡◌, ℕ, zero, suc, ◌+◌, ◌*◌, ◌<◌, List, [], ◌∷◌, ◌++◌, length, replicate, get_or, refl, ap, ◌∙◌, arith}
use Rattle.std.specs.List.{flat_map}
use Rattle.std.specs.Simd.{first_chunks}
use Rattle.cards.specs.Fields.{numbers, bytes_of, written}
use Rattle.cards.specs.Layouts.{amount_field}
use Rattle.cards.specs.Recipes.{recipe_of, recipe_reading}
use Rattle.cards.specs.RecipeLaws.{recipe_in}

-- pairs that are the bytes of one amount after another are the bytes of all
pub written_pairs : (vs : List ℕ) (pairs : List (List ℕ)) (n : ℕ) → length vs ≡ n → length pairs ≡ n
    → ((i : ℕ) → i < n → get_or pairs i [] ≡ bytes_of 2 (get_or vs i 0))
    → flat_map (λ p. p) pairs ≡ written (replicate n amount_field) vs
written_pairs [] [] zero l m e = refl
written_pairs (v ∷ vs) (pair ∷ pairs) (suc n) l m e =
    let first : pair ≡ bytes_of 2 v = e 0 (omega arith) in
    let rest = written_pairs vs pairs n (omega arith) (omega arith) (λ i h. e (suc i) (omega arith)) in
    λ j. first j ++ rest j
written_pairs [] pairs (suc n) l m e = absurd (omega arith)
written_pairs (v ∷ vs) pairs zero l m e = absurd (omega arith)
written_pairs vs [] (suc n) l m e = absurd (omega arith)
written_pairs vs (pair ∷ pairs) zero l m e = absurd (omega arith)

-- the numbers of one pair after another are the numbers of all
numbers_pairs : (n : ℕ) (bs vs : List ℕ) → length bs ≡ 2 * n → length vs ≡ n
    → ((i : ℕ) → i < n → get_or vs i 0 ≡ get_or (get_or (first_chunks 2 n bs) i []) 0 0 * 256 + get_or (get_or (first_chunks 2 n bs) i []) 1 0)
    → vs ≡ numbers (replicate n amount_field) bs
numbers_pairs zero bs [] l m e = refl
numbers_pairs (suc n) (a ∷ b ∷ bs) (v ∷ vs) l m e =
    let first : v ≡ (0 * 256 + a) * 256 + b = omega (arith, e 0 (omega arith)) in
    let rest = numbers_pairs n bs vs (omega arith) (omega arith) (λ i h. e (suc i) (omega arith)) in
    λ j. first j ∷ rest j
numbers_pairs zero bs (v ∷ vs) l m e = absurd (omega arith)
numbers_pairs (suc n) [] vs l m e = absurd (omega arith)
numbers_pairs (suc n) (a ∷ []) vs l m e = absurd (omega arith)
numbers_pairs (suc n) (a ∷ b ∷ bs) [] l m e = absurd (omega arith)

pub read_pairs : (bs vs : List ℕ) (pairs : List (List ℕ)) (n : ℕ) → n ≡ 12 → length bs ≡ 2 * n → length vs ≡ n → pairs ≡ first_chunks 2 n bs
    → ((i : ℕ) → i < n → get_or vs i 0 ≡ get_or (get_or pairs i []) 0 0 * 256 + get_or (get_or pairs i []) 1 0)
    → recipe_of vs ≡ recipe_reading bs
read_pairs bs vs pairs n k l m p e =
    let each : (i : ℕ) → i < n → get_or vs i 0 ≡ get_or (get_or (first_chunks 2 n bs) i []) 0 0 * 256 + get_or (get_or (first_chunks 2 n bs) i []) 1 0 =
    λ i h. e i h ∙ ap (λ ps. get_or (get_or ps i []) 0 0 * 256 + get_or (get_or ps i []) 1 0) p in
    ap recipe_of (numbers_pairs n bs vs l m each ∙ ap (λ q. numbers (replicate q amount_field) bs) k) ∙ recipe_in bs (omega arith)
