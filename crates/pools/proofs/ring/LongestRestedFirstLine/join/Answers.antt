use Rattle.std.proofs.Common.{rules}
use Rattle.pools.proofs.Queueing.{queued_joined}
use Rattle.pools.proofs.ring.LongestRestedFirstLine.join.Goals as goal

pub returns : goal.returns
returns c = search (rules, queued_joined)
