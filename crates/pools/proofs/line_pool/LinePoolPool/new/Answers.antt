use Rattle.pools.proofs.Starting.{kept_new}
use Rattle.pools.proofs.line_pool.LinePoolPool.new.Goals as goal

pub invariant_of-result : goal.invariant_of-result
invariant_of-result g c =
    let records = c.args.settings.now.records in
    record { kept = kept_new (g.L.Line.order c.new.result) c.first_members.result records c.new.ensures c.first_members.ensures.marks c.args.settings.now.records_in.1 c.first_members.ensures.len }
