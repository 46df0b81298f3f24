use Rattle.terms.proofs.Puts.{cells_replicate}
use Rattle.terms.proofs.tables.rows_filled.Goals as goal

pub returns : goal.returns
returns g c = cells_replicate c.args.v g.row.H _ c.filled.ensures
