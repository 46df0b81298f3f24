-- The recipe is a kind of card, and each of its amounts has its limit. Assumes nothing.
use Rattle.std.specs.Prelude.{◌≡◌, ℕ, ◌<◌, ◌≤◌, List, length, Some, None, Ok, Option, MatchOption, nat_lt, slice_index, refl}
use Rattle.std.proofs.Common.{sym, subst, lit≤}
use Rattle.std.proofs.lemmas.List.{get_or-replicate}
use Rattle.std.proofs.lemmas.Bool.{cond-true, cond_both, eq-eqb, ltb-true, ltb-false}
use Rattle.cards.specs.declared.recipe.Recipe.{Recipe}
use Rattle.cards.specs.Fields.{numbers, within}
use Rattle.cards.specs.Kinds.{Lawful}
use Rattle.cards.specs.Layouts.{amount_field, recipe_fields}
use Rattle.cards.specs.Recipes.{recipe_size, recipe_made, recipe_of, recipe_reading, recipe_writing, amount_at}
use Rattle.cards.specs.Laws.{lawful_fields}
use Rattle.cards.specs.Numbers.{within_at}
use Rattle.cards.specs.Truths.{checked_pass}

pub recipe_lawful : Lawful recipe_size recipe_reading recipe_writing
recipe_lawful = lawful_fields recipe_fields recipe_made (λ r. r.amounts) tt (lit≤ tt) (λ r. r.fits) (λ vs fit. refl) (λ r. refl)

pub recipe_fine : (r : Recipe) → recipe_of r.amounts ≡ Ok r
recipe_fine r = checked_pass (within recipe_fields r.amounts) (λ fit. Ok (recipe_made r.amounts fit)) _ r.fits

amount_low : (r : Recipe) (i : ℕ) → i < 12 → slice_index r.amounts i ≤ 9999
amount_low r i h =
    let low = within_at recipe_fields r.amounts i amount_field r.fits h in
    subst (λ f. slice_index r.amounts i ≤ f.most) (get_or-replicate 12 i amount_field amount_field h) low

pub amount_bound : (r : Recipe) (i : ℕ) (o : Option ℕ) → o ≡ amount_at r i → MatchOption o (12 ≤ i) (λ a. a ≤ 9999)
amount_bound r i o e =
    subst (λ p. MatchOption p (12 ≤ i) (λ a. a ≤ 9999)) (sym e)
    (cond_both (nat_lt i 12) (Some (slice_index r.amounts i)) None (λ p. MatchOption p (12 ≤ i) (λ a. a ≤ 9999)) (λ t. amount_low r i (ltb-true i 12 t)) (λ t. ltb-false i 12 t))

pub recipe_in : (bs : List ℕ) → length bs ≡ 24 → recipe_of (numbers recipe_fields bs) ≡ recipe_reading bs
recipe_in bs h = sym (cond-true _ _ _ (eq-eqb (length bs) 24 h))
