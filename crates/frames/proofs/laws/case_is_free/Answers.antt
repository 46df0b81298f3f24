use Rattle.frames.proofs.LineLaws.{case_free}
use Rattle.frames.proofs.laws.case_is_free.Goals as goal

pub returns : goal.returns
returns c = case_free
