use Rattle.std.proofs.Common.{rules, sym}
use Rattle.cards.specs.RecipeLaws.{recipe_fine}
use Rattle.cards.proofs.Amounts.{none_over, found_over}
use Rattle.cards.proofs.recipe.Recipe.new.Goals as goal

pub invariant_of-result : goal.invariant_of-result
invariant_of-result c = record { fits = none_over c.args.amounts (search rules) (search rules) }

pub returns-in-Some : goal.returns-in-Some
returns-in-Some c = record { value = sym (found_over c.args.amounts c.in-Some.i (search rules) (search rules)) }

pub returns-in-None : goal.returns-in-None
returns-in-None c = record { value = sym (recipe_fine _) }
