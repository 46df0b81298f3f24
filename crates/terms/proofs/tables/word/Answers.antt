use Rattle.std.proofs.Common.{rules}
use Rattle.std.proofs.lemmas.Option.{unwrap_or-slice_get}
use Rattle.terms.specs.Words.{reads}
use Rattle.terms.proofs.tables.word.Goals as goal

pub returns : goal.returns
unfolding reads
returns g c = search (rules, unwrap_or-slice_get)
