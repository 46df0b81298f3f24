use Rattle.std.proofs.Common.{◌≡◌, ◌-◌, ◌≤◌, length}
use Rattle.rooms.specs.Held.{held}
use Rattle.pools.proofs.Draining.{Drained}
use Rattle.pools.proofs.laws.drain.Given as goal

abbrev pub invariant-loop-node : goal.invariant-loop-node
invariant-loop-node g l =
    Drained (g.P.Pool.has l.initial.pool) (held l.nodes) (g.P.Pool.has l.pool)
    × (g.P.Pool.size l.pool ≡ g.P.Pool.size l.initial.pool)
    × (length (held l.nodes) ≤ 128)

abbrev pub decreases-loop-node : goal.decreases-loop-node
decreases-loop-node g l = 128 - length (held l.nodes)
