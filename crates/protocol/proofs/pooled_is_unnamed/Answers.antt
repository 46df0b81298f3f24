use Rattle.protocol.proofs.pooled_is_unnamed.Goals as goal
use Rattle.protocol.proofs.Promises.{all_safe}

pub returns : goal.returns
returns c = all_safe
