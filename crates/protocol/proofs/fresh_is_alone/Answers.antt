use Rattle.protocol.proofs.fresh_is_alone.Goals as goal
use Rattle.protocol.proofs.Promises.{fresh_alone}

pub returns : goal.returns
returns c = fresh_alone
