use Rattle.std.proofs.Common.{true, false, replicate, length-take-le, ap, ◌∙◌, arith}
use mathlib.Core.Path.{fun_ext}
use Rattle.pools.proofs.Starting.{marks_of}
use Rattle.pools.proofs.members.first_members.Goals as goal

pub returns-clause-marks : goal.returns-clause-marks
returns-clause-marks c =
    let m = c.args.records in
    fun_ext (λ x. marks_of c.fill.new.self m x (c.fill.ensures.after (λ y is. is) ∙ ap (λ n. replicate n true) (length-take-le m (replicate 128 false) (omega arith))))
