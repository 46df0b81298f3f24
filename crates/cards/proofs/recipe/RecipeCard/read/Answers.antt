use Rattle.std.proofs.Common.{rules, ◌≡◌, ◌/◌, ◌*◌, [], length, arith}
use Rattle.cards.proofs.Pairs.{read_pairs}
use Rattle.cards.proofs.recipe.RecipeCard.read.Goals as goal

pub returns : goal.returns
returns c =
    let count : length c.args.bytes.now / 2 ≡ 12 = search rules in
    let even : length c.args.bytes.now ≡ 2 * (length c.args.bytes.now / 2) = search rules in
    let pairs = read_pairs c.args.bytes.now c.map.result c.in-Ok.pairs (length c.args.bytes.now / 2) count even (search rules) (search rules)
    (λ i h. let k = c.map.ensures.items.at i [] 0 (omega arith) in search rules) in
    search rules
