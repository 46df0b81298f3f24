use Rattle.laws.proofs.beginnings_keep_soundness.Goals as goal
use Rattle.laws.proofs.Beginning.{begin_sound}

pub returns : goal.returns
returns c = begin_sound
