use Rattle.protocol.proofs.turns_keep.Goals as goal
use Rattle.protocol.proofs.Turns.{turns}

pub returns : goal.returns
returns c = turns
