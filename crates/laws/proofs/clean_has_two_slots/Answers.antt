use Rattle.laws.proofs.clean_has_two_slots.Goals as goal
use Rattle.laws.proofs.Promises.{clean_room}

pub returns : goal.returns
returns c = clean_room
