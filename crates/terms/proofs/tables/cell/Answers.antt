use Rattle.std.proofs.Common.{rules}
use Rattle.std.proofs.lemmas.Option.{get_or_from_slice_get}
use Rattle.std.proofs.lemmas.List.{get_or_past}
use Rattle.terms.specs.Words.{reads, cells}
use Rattle.terms.proofs.tables.cell.Goals as goal

pub returns-in-Some : goal.returns-in-Some
unfolding reads cells
returns-in-Some g c = search (rules, get_or_from_slice_get)

pub returns-in-None : goal.returns-in-None
unfolding reads cells
returns-in-None g c = search (rules, get_or_past)
