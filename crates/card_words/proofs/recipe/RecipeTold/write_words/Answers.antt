use Rattle.std.proofs.Common.{◌≤◌, length, arith, rules}
use Rattle.card_words.proofs.RecipeTexts.{poured_none, poured_more, poured_nothing}
use Rattle.card_words.proofs.recipe.RecipeTold.write_words.Goals as goal

pub loop-i-init : goal.loop-i-init
loop-i-init g c = (search rules, λ plain. poured_none g.W.Write.write_str_gives c.args.f.now c.amounts.result plain)

pub loop-i-preserved : goal.loop-i-preserved
loop-i-preserved g c = (
  search rules,
  λ plain.
      let sofar = c.loop-i.invariant.1 plain in
      poured_more g.W.Write.write_str_gives c.args.f.now c.amounts.result c.loop-i.f c.write.new.self c.loop-i.separator.now c.loop-i.i (search rules) (λ e. omega (arith, c.if-amount-eq0.false))
      (c.write.ensures.writes sofar.put.plain (search rules)) sofar,
)

pub returns-then-is_empty : goal.returns-then-is_empty
returns-then-is_empty g c =
    λ plain ok.
    let sofar = c.loop-i.invariant.1 plain in
    let done : length c.amounts.result ≤ c.loop-i.i = search rules in
    poured_nothing g.W.Write.write_str_gives c.args.f.now c.amounts.result c.args.self.now.amounts c.amounts.ensures.value c.loop-i.f c.loop-i.separator.now c.loop-i.i done sofar c.write-then-is_empty.new.self (search rules)
    (c.write-then-is_empty.ensures.writes sofar.put.plain ok)
