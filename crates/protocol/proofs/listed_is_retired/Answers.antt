use Rattle.protocol.proofs.listed_is_retired.Goals as goal
use Rattle.protocol.proofs.Promises.{listed_once}

pub returns : goal.returns
returns c = listed_once
