use Rattle.std.proofs.Common.{rules, arith}
use Rattle.terms.proofs.Lowest.{lowest_is}
use Rattle.work.proofs.parts.lowest_empty.Goals as goal
use Rattle.work.proofs.parts.lowest_empty.Goals.{then-i-count-via-then-i-count, then-i-count-via-else-i-count+then-empty}

pub returns : goal.returns
returns c = lowest_is _ c.args.count c.loop-i.i c.loop-i.invariant.0 c.loop-i.invariant.1 (λ h. elim c.then-i-count.branch [
  | then-i-count-via-then-i-count w ↦ absurd (omega (arith, w.if-i-count))
  | then-i-count-via-else-i-count+then-empty w ↦ search rules
])
