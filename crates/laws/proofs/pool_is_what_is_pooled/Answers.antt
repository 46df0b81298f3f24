use Rattle.laws.proofs.pool_is_what_is_pooled.Goals as goal
use Rattle.laws.proofs.Promises.{sound_pool}

pub returns : goal.returns
returns c = sound_pool
