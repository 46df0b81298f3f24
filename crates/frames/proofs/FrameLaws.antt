-- The laws of frames: written and read.
use Rattle.std.proofs.Common.{arith}
use Rattle.frames.specs.Frames.{frame_bytes}
use Rattle.frames.specs.Laws.{FramesComeBack, FrameLinesComeBack}
use Rattle.frames.proofs.LineLaws.{bytes_back}

frames_back : FramesComeBack
frames_back f = grind arith

pub frame_lines_back : FrameLinesComeBack
frame_lines_back f all short = (frame_bytes f, bytes_back (frame_bytes f) all short, frames_back f)
