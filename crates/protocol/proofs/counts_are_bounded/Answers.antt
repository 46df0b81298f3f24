use Rattle.protocol.proofs.counts_are_bounded.Goals as goal
use Rattle.protocol.proofs.Promises.{bounded}

pub returns : goal.returns
returns c = bounded
