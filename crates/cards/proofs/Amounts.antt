-- The first amount above the limit, as a position and as the first bad field. Assumes nothing.
use Rattle.std.proofs.Common.{◌≡◌, ℕ, ◌*◌, Bool, true, false, cond, T, Some, None, List, [], ◌∷◌, length, replicate, Err, nat_lt, nat_le, refl, ap, subst, ◌∙◌, arith}
use Rattle.std.specs.List.{position, position_or_len}
use Rattle.cards.specs.declared.fault.CardFault.TheVariants.{Field}
use Rattle.cards.specs.Fields.{within, first_over}
use Rattle.cards.specs.Layouts.{most_amount, amount_field, recipe_fields}
use Rattle.cards.specs.Recipes.{recipe_of}
use Rattle.cards.specs.Truths.{checked_fail}
use Rattle.std.proofs.lemmas.Bool.Decides.{nat_tests}
use Rattle.std.proofs.lemmas.Float.{T_from_true}

abbrev pub is_over : ℕ → Bool
is_over amount = nat_lt most_amount amount

-- the offset is twice the position
first_over_is : (vs : List ℕ) → first_over (replicate (length vs) amount_field) vs ≡ 2 * position_or_len is_over vs
first_over_is [] = refl
first_over_is (v ∷ vs) = let e = first_over_is vs in grind (arith, nat_tests)

within_is : (vs : List ℕ) → within (replicate (length vs) amount_field) vs ≡ nat_le (length vs) (position_or_len is_over vs)
within_is [] = refl
within_is (v ∷ vs) = let e = within_is vs in grind (arith, nat_tests)

-- what an answer says of the test before it
when_none : (b : Bool) (p : ℕ) → cond b (Some p) None ≡ None → b ≡ false
when_none true p e = cc
when_none false p e = refl

when_some : (b : Bool) (p i : ℕ) → cond b (Some p) None ≡ Some i → (b ≡ true) × (p ≡ i)
when_some true p i e = (refl, cc)
when_some false p i e = cc

pub none_over : (vs : List ℕ) → length vs ≡ 12 → position is_over vs ≡ None → T (within recipe_fields vs)
none_over vs l e =
    let past = when_none _ _ e in
    let all : nat_le (length vs) (position_or_len is_over vs) ≡ true = grind (arith, nat_tests) in
    T_from_true _ (subst (λ n. within (replicate n amount_field) vs ≡ true) l (within_is vs ∙ all))

pub found_over : (vs : List ℕ) (i : ℕ) → length vs ≡ 12 → position is_over vs ≡ Some i → recipe_of vs ≡ Err (Field (2 * i))
found_over vs i l e =
    let found = when_some _ _ _ e in
    let some : nat_le (length vs) (position_or_len is_over vs) ≡ false = grind (arith, nat_tests) in
    checked_fail _ _ _ (subst (λ n. within (replicate n amount_field) vs ≡ false) l (within_is vs ∙ some))
    ∙ ap (λ n. Err (Field n)) (subst (λ n. first_over (replicate n amount_field) vs ≡ 2 * i) l (first_over_is vs ∙ ap (λ n. 2 * n) found.1))
