use Rattle.order.proofs.beginnings_are_explained.Goals as goal
use Rattle.order.proofs.Withdraws.{beginnings_explained}

pub returns : goal.returns
returns c = beginnings_explained
