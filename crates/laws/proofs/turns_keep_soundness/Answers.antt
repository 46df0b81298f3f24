use Rattle.laws.proofs.turns_keep_soundness.Goals as goal
use Rattle.laws.proofs.Turning.{turn_sound}

pub returns : goal.returns
returns c = turn_sound
