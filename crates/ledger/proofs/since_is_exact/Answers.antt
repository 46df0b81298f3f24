use Rattle.ledger.proofs.since_is_exact.Goals as goal
use Rattle.ledger.proofs.Since.{since_is_what_was_named}

pub returns : goal.returns
returns c = since_is_what_was_named
