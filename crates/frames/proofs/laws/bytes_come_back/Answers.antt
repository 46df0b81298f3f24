use Rattle.frames.proofs.LineLaws.{bytes_back}
use Rattle.frames.proofs.laws.bytes_come_back.Goals as goal

pub returns : goal.returns
returns c = bytes_back
