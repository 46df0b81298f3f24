use Rattle.machine.proofs.Solo.{swap_one}
use Rattle.machine.proofs.swap_of_none_takes_one.Goals as goal

pub returns : goal.returns
returns c = swap_one
