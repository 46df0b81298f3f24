use Rattle.frames.proofs.LineLaws.{capitals}
use Rattle.frames.proofs.laws.only_capitals.Goals as goal

pub returns : goal.returns
returns c = capitals
