use Rattle.protocol.proofs.standings_change.Goals as goal
use Rattle.protocol.proofs.Changes.{changes}

pub returns : goal.returns
returns c = changes
