use Rattle.laws.proofs.new_tables_are_sound.Goals as goal
use Rattle.laws.proofs.Checks.{new_sound}

pub returns : goal.returns
returns c = new_sound
