use Rattle.protocol.proofs.marked_is_retired.Goals as goal
use Rattle.protocol.proofs.Promises.{marked_retired}

pub returns : goal.returns
returns c = marked_retired
