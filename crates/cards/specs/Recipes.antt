-- The recipe as a kind of card. Assumes nothing.
use Rattle.std.specs.Prelude.{ℕ, cond, T, List, replicate, Some, None, Option, Result, nat_lt, slice_index}
use Rattle.cards.specs.declared.fault.CardFault.{CardFault}
use Rattle.cards.specs.declared.recipe.Recipe.{Recipe}
use Rattle.cards.specs.Fields.{size_of, written, within, card_of, card_in}
use Rattle.cards.specs.Layouts.{recipe_fields}

abbrev pub recipe_size : ℕ
recipe_size = size_of recipe_fields

-- the recipe of twelve amounts
abbrev pub recipe_made : (vs : List ℕ) → T (within recipe_fields vs) → Recipe
recipe_made vs fit = record { amounts = vs; fits = fit }

abbrev pub recipe_blank : Recipe
recipe_blank = recipe_made (replicate 12 0) tt

abbrev pub recipe_of : List ℕ → Result Recipe CardFault
recipe_of = card_of recipe_fields recipe_made

abbrev pub recipe_reading : List ℕ → Result Recipe CardFault
recipe_reading = card_in recipe_fields recipe_made

abbrev pub recipe_writing : Recipe → List ℕ
recipe_writing r = written recipe_fields r.amounts

-- the amount of one of the twelve colorants, counted from 0
abbrev pub amount_at : Recipe → ℕ → Option ℕ
amount_at r i = cond (nat_lt i 12) (Some (slice_index r.amounts i)) None
