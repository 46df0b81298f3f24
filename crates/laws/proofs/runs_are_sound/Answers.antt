use Rattle.laws.proofs.runs_are_sound.Goals as goal
use Rattle.laws.proofs.Promises.{runs_sound}

pub returns : goal.returns
returns c = runs_sound
