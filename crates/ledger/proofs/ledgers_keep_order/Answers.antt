use Rattle.ledger.proofs.ledgers_keep_order.Goals as goal
use Rattle.ledger.proofs.Order.{ledgers_keep_order}

pub returns : goal.returns
returns c = ledgers_keep_order
