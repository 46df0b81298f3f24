use Rattle.ledger.proofs.silent_acts_have_limits.Goals as goal
use Rattle.ledger.proofs.Limits.{lead_limits, return_limits}

pub returns : goal.returns
returns c = record { leads = lead_limits; pools = return_limits }
