use Rattle.machine.proofs.Solo.{store_takes}
use Rattle.machine.proofs.store_takes_two_to_five.Goals as goal

pub returns : goal.returns
returns c = store_takes
