use Rattle.order.proofs.runs_are_explained.Goals as goal
use Rattle.order.proofs.Runs.{runs_explained}

pub returns : goal.returns
returns c = runs_explained
