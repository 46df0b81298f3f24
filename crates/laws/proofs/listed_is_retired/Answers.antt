use Rattle.laws.proofs.listed_is_retired.Goals as goal
use Rattle.laws.proofs.Promises.{sound_lists}

pub returns : goal.returns
returns c = sound_lists
