use Rattle.ledger.proofs.small_runs_are_explained.Goals as goal
use Rattle.ledger.proofs.Reused.{reused_explained}
use Rattle.ledger.proofs.LedPast.{led_past_explained}

pub returns : goal.returns
returns c = record { reused = reused_explained; passed = led_past_explained }
