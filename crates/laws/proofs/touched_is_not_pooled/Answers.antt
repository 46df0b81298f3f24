use Rattle.laws.proofs.touched_is_not_pooled.Goals as goal
use Rattle.laws.proofs.Touching.{touches_sound}

pub returns : goal.returns
returns c = touches_sound
