use Rattle.ledger.proofs.acts_can_be_judged.Goals as goal
use Rattle.ledger.proofs.Judge.{acts_can_be_judged, silent_acts_can_be_judged}

pub returns : goal.returns
returns c = record { acts = acts_can_be_judged; silent = silent_acts_can_be_judged }
