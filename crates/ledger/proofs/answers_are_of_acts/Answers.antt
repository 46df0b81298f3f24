use Rattle.ledger.proofs.answers_are_of_acts.Goals as goal
use Rattle.ledger.proofs.Runs.{earlier_is_explained, ends_as_it_acted, one_operation, empty_root}

pub returns : goal.returns
returns c = record { earlier = earlier_is_explained; answer = ends_as_it_acted; single = one_operation; empty = empty_root }
