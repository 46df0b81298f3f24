use Rattle.terms.proofs.Puts.{reads_replicate}
use Rattle.terms.proofs.tables.filled.Goals as goal

pub returns : goal.returns
returns g c = reads_replicate c.args.v g.row.W
