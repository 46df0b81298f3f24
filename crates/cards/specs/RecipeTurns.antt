-- A recipe taken one amount at a time: what stands after the first i amounts were looked at, read or written, what one more
-- adds, and what stands at the end. The code goes over all amounts at once, so no proof of this crate needs these; one of a
-- loop over the amounts may. Assumes nothing.
use Rattle.std.specs.Prelude.{◌≡◌, ℕ, ◌+◌, ◌*◌, ◌/◌, ◌%◌, ◌<◌, ◌≤◌, Bool, true, false, cond, ◌&&◌, T, List, [], ◌∷◌, ◌++◌, length, take, drop, Ok, Err, nat_le, slice_index, slice_index_or, slice_set, refl}
use Rattle.std.proofs.Common.{sym, ap, ◌∙◌, append_assoc, append-nil, arith, length-set}
use Rattle.std.proofs.lemmas.List.{drop_more, drop_all, take_all, take_more_set, get_or-replicate}
use Rattle.std.proofs.lemmas.Bool.{le-leb, lt-leb}
use Rattle.cards.specs.declared.fault.CardFault.TheVariants.{Field}
use Rattle.cards.specs.Fields.{numbers, written, within, first_over}
use Rattle.cards.specs.Layouts.{amount_field, recipe_fields}
use Rattle.cards.specs.Recipes.{recipe_made, recipe_of}
use Rattle.cards.specs.Truths.{truly, checked_fail}

-- the fields from one amount on
fields_at : (i : ℕ) → i < 12 → drop i recipe_fields ≡ amount_field ∷ drop (i + 1) recipe_fields
fields_at i h = drop_more recipe_fields i amount_field h ∙ ap (λ f. f ∷ drop (i + 1) recipe_fields) (get_or-replicate 12 i amount_field amount_field h)

-- The first i amounts are within their limit, so the rest decides.
pub record Fine (vs : List ℕ) (i : ℕ) : Type 0 where
  pub rest : within (drop i recipe_fields) (drop i vs) ≡ within recipe_fields vs
  pub over : 2 * i + first_over (drop i recipe_fields) (drop i vs) ≡ first_over recipe_fields vs

pub fine_none : (vs : List ℕ) → Fine vs 0
fine_none vs = record { rest = refl; over = omega arith }

module _ (vs : List ℕ) (i : ℕ) (h : i < 12) (l : i < length vs) where
  rest_at : within (drop i recipe_fields) (drop i vs) ≡ (within (drop (i + 1) recipe_fields) (drop (i + 1) vs) && nat_le (slice_index vs i) 9999)
  rest_at = λ j. within (fields_at i h j) (drop_more vs i 0 l j)

  over_at : first_over (drop i recipe_fields) (drop i vs) ≡ cond (nat_le (slice_index vs i) 9999) (2 + first_over (drop (i + 1) recipe_fields) (drop (i + 1) vs)) 0
  over_at = λ j. first_over (fields_at i h j) (drop_more vs i 0 l j)

and_true : (a b : Bool) → b ≡ true → (a && b) ≡ a
and_true true b e = e
and_true false b e = refl

and_false : (a b : Bool) → b ≡ false → (a && b) ≡ false
and_false true b e = e
and_false false b e = refl

pub fine_more : (vs : List ℕ) (i : ℕ) → i < 12 → i < length vs → slice_index vs i ≤ 9999 → Fine vs i → Fine vs (i + 1)
fine_more vs i h l low f =
    let test = le-leb (slice_index vs i) 9999 low in
    let more : first_over (drop i recipe_fields) (drop i vs) ≡ 2 + first_over (drop (i + 1) recipe_fields) (drop (i + 1) vs) =
    over_at vs i h l ∙ ap (λ t. cond t (2 + first_over (drop (i + 1) recipe_fields) (drop (i + 1) vs)) 0) test in
    record {
      rest = sym (and_true _ _ test) ∙ sym (rest_at vs i h l) ∙ f.rest;
      over = omega (arith, f.over);
    }

-- an amount above the limit is the first such one
pub fine_over : (vs : List ℕ) (i : ℕ) → i < 12 → i < length vs → 9999 < slice_index vs i → Fine vs i → recipe_of vs ≡ Err (Field (2 * i))
fine_over vs i h l high f =
    let test = lt-leb (slice_index vs i) 9999 high in
    let none : first_over (drop i recipe_fields) (drop i vs) ≡ 0 =
    over_at vs i h l ∙ ap (λ t. cond t (2 + first_over (drop (i + 1) recipe_fields) (drop (i + 1) vs)) 0) test in
    let at : first_over recipe_fields vs ≡ 2 * i = omega (arith, f.over) in
    checked_fail (within recipe_fields vs) (λ fit. Ok (recipe_made vs fit)) _ (sym f.rest ∙ rest_at vs i h l ∙ and_false _ _ test)
    ∙ ap (λ n. Err (Field n)) at

pub fine_all : (vs : List ℕ) (i : ℕ) → 12 ≤ i → length vs ≡ 12 → Fine vs i → T (within recipe_fields vs)
fine_all vs i h l f =
    let no_fields : drop i recipe_fields ≡ [] = drop_all i recipe_fields h in
    let no_amounts : drop i vs ≡ [] = drop_all i vs (omega arith) in
    truly (within recipe_fields vs) (sym f.rest ∙ (λ j. within (no_fields j) (no_amounts j)))

-- one amount more is read
pub read_more : (bs vs : List ℕ) (i v : ℕ) → i < 12 → i < length vs → length bs ≡ 24 → v ≡ slice_index bs (2 * i) * 256 + slice_index bs (2 * i + 1)
    → take i vs ++ numbers (drop i recipe_fields) (drop (2 * i) bs) ≡ numbers recipe_fields bs
    → take (i + 1) (slice_set vs i v) ++ numbers (drop (i + 1) recipe_fields) (drop (2 * (i + 1)) bs) ≡ numbers recipe_fields bs
read_more bs vs i v h l n e inv =
    let x = slice_index_or bs (2 * i) 0 in
    let y = slice_index_or bs (2 * i + 1) 0 in
    let two : drop (2 * i) bs ≡ x ∷ y ∷ drop (2 * i + 1 + 1) bs =
    drop_more bs (2 * i) 0 (omega arith) ∙ ap (λ t. x ∷ t) (drop_more bs (2 * i + 1) 0 (omega arith)) in
    let next : 2 * i + 1 + 1 ≡ 2 * (i + 1) = omega arith in
    let value : (0 * 256 + x) * 256 + y ≡ v = omega arith in
    let rest : numbers (drop i recipe_fields) (drop (2 * i) bs) ≡ v ∷ numbers (drop (i + 1) recipe_fields) (drop (2 * (i + 1)) bs) =
    (λ j. numbers (fields_at i h j) (two j)) ∙ (λ j. value j ∷ numbers (drop (i + 1) recipe_fields) (drop (next j) bs)) in
    ap (λ t. t ++ numbers (drop (i + 1) recipe_fields) (drop (2 * (i + 1)) bs)) (take_more_set vs i v l)
    ∙ append_assoc (take i vs) (v ∷ []) _
    ∙ ap (λ t. take i vs ++ t) (sym rest)
    ∙ inv

pub read_all : (bs vs : List ℕ) (i : ℕ) → 12 ≤ i → length vs ≡ 12 → take i vs ++ numbers (drop i recipe_fields) (drop (2 * i) bs) ≡ numbers recipe_fields bs → vs ≡ numbers recipe_fields bs
read_all bs vs i h l inv =
    let none : drop i recipe_fields ≡ [] = drop_all i recipe_fields h in
    let all : take i vs ≡ vs = take_all i vs (omega arith) in
    sym (append-nil vs) ∙ (λ j. sym all j ++ numbers (sym none j) (drop (2 * i) bs)) ∙ inv

-- the bytes of one amount more are written
pub write_more : (vs out : List ℕ) (i : ℕ) → i < 12 → i < length vs → length out ≡ 24
    → take (2 * i) out ++ written (drop i recipe_fields) (drop i vs) ≡ written recipe_fields vs
    → take (2 * (i + 1)) (slice_set (slice_set out (2 * i) (slice_index vs i / 256 % 256)) (2 * i + 1) (slice_index vs i % 256)) ++ written (drop (i + 1) recipe_fields) (drop (i + 1) vs) ≡ written recipe_fields vs
write_more vs out i h l n inv =
    let high = slice_index vs i / 256 % 256 in
    let low = slice_index vs i % 256 in
    let rest = written (drop (i + 1) recipe_fields) (drop (i + 1) vs) in
    let next : 2 * (i + 1) ≡ 2 * i + 1 + 1 = omega arith in
    let second : 2 * i + 1 < length (slice_set out (2 * i) high) = simp length-set (omega arith) in
    let front : take (2 * (i + 1)) (slice_set (slice_set out (2 * i) high) (2 * i + 1) low) ≡ (take (2 * i) out ++ high ∷ []) ++ low ∷ [] =
    ap (λ k. take k (slice_set (slice_set out (2 * i) high) (2 * i + 1) low)) next
    ∙ take_more_set (slice_set out (2 * i) high) (2 * i + 1) low second
    ∙ ap (λ t. t ++ low ∷ []) (take_more_set out (2 * i) high (omega arith)) in
    let here : written (drop i recipe_fields) (drop i vs) ≡ high ∷ low ∷ rest = λ j. written (fields_at i h j) (drop_more vs i 0 l j) in
    ap (λ t. t ++ rest) front
    ∙ append_assoc (take (2 * i) out ++ high ∷ []) (low ∷ []) rest
    ∙ append_assoc (take (2 * i) out) (high ∷ []) (low ∷ rest)
    ∙ ap (λ t. take (2 * i) out ++ t) (sym here)
    ∙ inv

pub write_all : (vs out : List ℕ) (i : ℕ) → 12 ≤ i → length out ≡ 24 → take (2 * i) out ++ written (drop i recipe_fields) (drop i vs) ≡ written recipe_fields vs → out ≡ written recipe_fields vs
write_all vs out i h n inv =
    let none : drop i recipe_fields ≡ [] = drop_all i recipe_fields h in
    let all : take (2 * i) out ≡ out = take_all (2 * i) out (omega arith) in
    sym (append-nil out) ∙ (λ j. sym all j ++ written (sym none j) (drop i vs)) ∙ inv
