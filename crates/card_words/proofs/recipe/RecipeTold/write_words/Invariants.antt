use denote.Text.{Utf8}
use denote.Shadow.{shadow}
use Rattle.std.specs.Fmt.{IsPlainFormatter}
use Rattle.card_words.proofs.RecipeTexts.{Poured}
use Rattle.card_words.proofs.recipe.RecipeTold.write_words.Given as goal

abbrev pub invariant-loop-i : goal.invariant-loop-i
invariant-loop-i g l = shadow (Utf8 l.separator) × (IsPlainFormatter l.initial.f → Poured g.W.Write.write_str_gives l.initial.f l.f l.separator l.amount-items l.i)
