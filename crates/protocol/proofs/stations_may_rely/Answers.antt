use Rattle.protocol.proofs.stations_may_rely.Goals as goal
use Rattle.protocol.proofs.Changes.{rely}

pub returns : goal.returns
returns c = rely
