use Rattle.protocol.proofs.standings_rise.Goals as goal
use Rattle.protocol.proofs.Changes.{rises}

pub returns : goal.returns
returns c = rises
