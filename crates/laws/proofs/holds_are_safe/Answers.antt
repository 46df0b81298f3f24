use Rattle.laws.proofs.holds_are_safe.Goals as goal
use Rattle.laws.proofs.Promises.{sound_holds}

pub returns : goal.returns
returns c = sound_holds
