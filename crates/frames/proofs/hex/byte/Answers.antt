-- The library's digits below 16 are those of either case.
use Rattle.std.proofs.Common.{arith}
use Rattle.std.proofs.lemmas.Bool.Decides.{nat_tests}
use Rattle.frames.proofs.hex.byte.Goals as goal

pub returns : goal.returns
returns c = grind (arith, nat_tests)
