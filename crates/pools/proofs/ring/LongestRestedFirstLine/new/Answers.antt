use Rattle.std.proofs.Common.{◌<◌, arith, rules}
use Rattle.pools.proofs.Queueing.{queued_new}
use Rattle.pools.proofs.ring.LongestRestedFirstLine.new.Goals as goal

pub returns : goal.returns
returns c = queued_new c.from_fn.result 0 c.args.settings.now.records (omega arith) (λ k l. let h : k < 128 = omega arith in search (rules, c.from_fn.ensures.items.at k 0 h))
