use Rattle.machine.proofs.Solo.{deref_three}
use Rattle.machine.proofs.deref_takes_three.Goals as goal

pub returns : goal.returns
returns c = deref_three
