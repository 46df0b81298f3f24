use Rattle.protocol.proofs.new_table_has_it.Goals as goal
use Rattle.protocol.proofs.All.{starts}

pub returns : goal.returns
returns c = starts
