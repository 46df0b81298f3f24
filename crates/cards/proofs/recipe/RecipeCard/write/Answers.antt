use Rattle.std.proofs.Common.{rules, ◌≡◌, ◌<◌, ℕ, [], get_or}
use Rattle.std.proofs.lemmas.List.{take_all}
use Rattle.cards.specs.Fields.{bytes_of}
use Rattle.cards.proofs.Pairs.{written_pairs}
use Rattle.cards.proofs.recipe.RecipeCard.write.Goals as goal

pub returns : goal.returns
returns c =
    let each : (i : ℕ) → i < 12 → get_or c.map.result i [] ≡ bytes_of 2 (get_or c.args.self.now.amounts i 0) =
    λ i h. let k = c.map.ensures.items.at i 0 [] h in search rules in
    let all = written_pairs c.args.self.now.amounts c.map.result 12 (search rules) (search rules) each in
    search (rules, take_all)
