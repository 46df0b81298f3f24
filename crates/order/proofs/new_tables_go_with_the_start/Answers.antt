use Rattle.order.proofs.new_tables_go_with_the_start.Goals as goal
use Rattle.order.proofs.Starts.{new_related}

pub returns : goal.returns
returns c = new_related
