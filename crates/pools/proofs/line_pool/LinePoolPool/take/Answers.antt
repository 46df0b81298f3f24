-- What the line gave is the first of the order, which goes.
use Rattle.std.proofs.Common.{sym, set, false, subst, arith}
use Rattle.pools.specs.Orders.{Kept}
use Rattle.pools.proofs.Keeping.{kept_front, kept_rest}
use Rattle.pools.proofs.line_pool.LinePoolPool.take.Goals as goal

pub bounds-self-node : goal.bounds-self-node
bounds-self-node g c =
    let s = c.args.self.now in
    omega (arith, kept_front (g.L.Line.order s.line) s.members s.size c.in_ok-node.node s.kept (sym c.in_ok-node.ensures.value), s.kept.few)

pub invariant_of-self-2 : goal.invariant_of-self-2
invariant_of-self-2 g c =
    let s = c.args.self.now in
    record { kept = subst (λ order. Kept order (set s.members c.in_ok-node.node false) s.size) (sym c.take.ensures.after) (kept_rest (g.L.Line.order s.line) s.members s.size c.in_ok-node.node s.kept (sym c.in_ok-node.ensures.value)) }
