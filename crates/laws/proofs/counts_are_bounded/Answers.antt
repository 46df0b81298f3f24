use Rattle.laws.proofs.counts_are_bounded.Goals as goal
use Rattle.laws.proofs.Promises.{sound_bounded}

pub returns : goal.returns
returns c = sound_bounded
