use Rattle.laws.proofs.idle_has_a_place.Goals as goal
use Rattle.laws.proofs.Places.{idle_place}

pub returns : goal.returns
returns c = idle_place
