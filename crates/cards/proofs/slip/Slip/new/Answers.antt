use Rattle.std.proofs.Common.{sym}
use Rattle.cards.specs.SlipLaws.{slip_fine}
use Rattle.cards.proofs.slip.Slip.new.Goals as goal

pub returns : goal.returns
returns c = record { value = sym (slip_fine _) }
