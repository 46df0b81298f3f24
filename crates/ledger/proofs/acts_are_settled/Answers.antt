use Rattle.ledger.proofs.acts_are_settled.Goals as goal
use Rattle.ledger.proofs.Limits.{acts_settled}

pub returns : goal.returns
returns c = acts_settled
