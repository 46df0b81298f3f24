use Rattle.protocol.proofs.a_record_comes_back.Goals as goal
use Rattle.protocol.proofs.Cycle.{cycle}

pub returns : goal.returns
returns c = cycle
