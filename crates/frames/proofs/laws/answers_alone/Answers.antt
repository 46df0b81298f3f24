use Rattle.frames.proofs.AloneLaws.{answers_alone}
use Rattle.frames.proofs.laws.answers_alone.Goals as goal

pub returns : goal.returns
returns c = answers_alone
