use Rattle.frames.proofs.FrameLaws.{frame_lines_back}
use Rattle.frames.proofs.laws.frame_lines_come_back.Goals as goal

pub returns : goal.returns
returns c = frame_lines_back
