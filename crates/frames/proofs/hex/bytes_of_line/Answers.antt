-- A line of an odd length has no bytes; the loop begins with none and each turn adds one.
use Rattle.std.proofs.Common.{◌/◌, length, arith}
use Rattle.std.proofs.lemmas.Bool.Decides.{nat_tests}
use Rattle.std.proofs.lemmas.Grind.{common_steps}
use Rattle.frames.proofs.Decoding.{whole, odd, onto_before}
use Rattle.frames.proofs.hex.bytes_of_line.Goals as goal

pub returns-in_default : goal.returns-in_default
returns-in_default c =
    let none = odd (length c.args.line.now / 2) c.args.line.now (omega arith) in grind (arith, nat_tests)

pub loop-high-init : goal.loop-high-init
loop-high-init c =
    let all = whole (length c.args.line.now / 2) c.args.line.now (omega arith) in grind arith

pub loop-high-preserved : goal.loop-high-preserved
loop-high-preserved c = grind (arith, common_steps, onto_before)
