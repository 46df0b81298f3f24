use Rattle.protocol.proofs.steps_keep.Goals as goal
use Rattle.protocol.proofs.All.{keeps}

pub returns : goal.returns
returns c = keeps
