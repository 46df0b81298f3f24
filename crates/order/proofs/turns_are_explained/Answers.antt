use Rattle.order.proofs.turns_are_explained.Goals as goal
use Rattle.order.proofs.Turns.{turns_explained}

pub returns : goal.returns
returns c = turns_explained
