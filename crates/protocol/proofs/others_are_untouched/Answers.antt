use Rattle.protocol.proofs.others_are_untouched.Goals as goal
use Rattle.protocol.proofs.Others.{untouched}

pub returns : goal.returns
returns c = untouched
