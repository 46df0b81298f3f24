use Rattle.std.proofs.Common.{rules}
use Rattle.cards.specs.RecipeLaws.{amount_bound}
use Rattle.cards.proofs.recipe.Recipe.amount.Goals as goal

pub returns-clause-bound : goal.returns-clause-bound
returns-clause-bound c = amount_bound c.args.self.now c.args.colorant c.copied.result (search rules)
