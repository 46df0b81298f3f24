use Rattle.protocol.proofs.touched_is_not_pooled.Goals as goal
use Rattle.protocol.proofs.Promises.{touches_live}

pub returns : goal.returns
returns c = touches_live
