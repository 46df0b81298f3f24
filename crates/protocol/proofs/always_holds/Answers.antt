use Rattle.protocol.proofs.always_holds.Goals as goal
use Rattle.protocol.proofs.All.{always}

pub returns : goal.returns
returns c = always
