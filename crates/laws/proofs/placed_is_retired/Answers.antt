use Rattle.laws.proofs.placed_is_retired.Goals as goal
use Rattle.laws.proofs.Promises.{sound_places}

pub returns : goal.returns
returns c = sound_places
