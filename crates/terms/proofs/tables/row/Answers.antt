use Rattle.std.proofs.Common.{rules, ◌≡◌, ◌∙◌, ap, List, replicate}
use Rattle.std.proofs.lemmas.Option.{get_or_from_slice_get}
use Rattle.std.proofs.lemmas.List.{get_or_past}
use Rattle.terms.specs.Words.{reads}
use Rattle.terms.proofs.Puts.{row_at, row_read}
use Rattle.terms.proofs.tables.row.Goals as goal

pub returns-in-Some : goal.returns-in-Some
returns-in-Some g c = search (rules, row_at, get_or_from_slice_get)

pub returns-in-None : goal.returns-in-None
unfolding reads
returns-in-None g c =
    let past : replicate g.row.W c.args.default ≡ reads (replicate g.row.W c.args.default) c.args.rows.now c.args.i = search (rules, get_or_past) in
    ap (λ (l : List g.row.T.Denot). reads c.args.default l) past ∙ row_read g.row.W c.args.rows.now c.args.i c.args.default
