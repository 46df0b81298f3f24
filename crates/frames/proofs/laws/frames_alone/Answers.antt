use Rattle.frames.proofs.AloneLaws.{frames_alone}
use Rattle.frames.proofs.laws.frames_alone.Goals as goal

pub returns : goal.returns
returns c = frames_alone
