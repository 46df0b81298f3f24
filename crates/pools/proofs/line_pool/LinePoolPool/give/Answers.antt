use Rattle.pools.proofs.Keeping.{room}
use Rattle.pools.proofs.line_pool.LinePoolPool.give.Goals as goal

pub join-requires-clause-room : goal.join-requires-clause-room
join-requires-clause-room g c =
    let s = c.args.self.now in
    room (g.L.Line.order s.line) s.members s.size c.args.node s.kept c.if-node-self.false c.if-not-self-node.true
