-- Each take moves one member from the pool to the list.
use Rattle.std.proofs.Common.{◌≡◌, ◌<◌, true, [], ◌∷◌, length, sym, ◌∙◌, subst, arith, rules}
use Rattle.rooms.specs.Held.{held, LetsIn}
use Rattle.pools.proofs.Draining.{drained_more, drained_room}
use Rattle.pools.proofs.laws.drain.Given.{Over}
use Rattle.pools.proofs.laws.drain.Goals as goal
use Rattle.pools.proofs.laws.drain.Goals.{In-Some}

-- what was taken was a member
member : (g : Over) (c : In-Some g) → g.P.Pool.has c.loop-node.pool c.in-Some.node ≡ true
member g c = g.met.P.Pool.picks c.loop-node.pool c.in-Some.node (sym c.in-Some.ensures.value)

room : (g : Over) (c : In-Some g) → length (held c.loop-node.nodes) < 128
room g c =
    let few : length (held c.loop-node.nodes) < g.P.Pool.size c.args.pool.now = drained_room _ _ _ c.in-Some.node _ c.loop-node.invariant.0 (member g c) (g.met.P.Pool.inside c.args.pool.now) in
    omega (arith, few, g.met.P.Pool.few c.args.pool.now)

pub unwrap-requires : goal.unwrap-requires
unwrap-requires g c = let few = room g (goal.at.unwrap-requires g c).In-Some in search rules

pub loop-node-preserved : goal.loop-node-preserved
loop-node-preserved g c =
    let came = subst (λ r. LetsIn 128 (held c.loop-node.nodes) (c.in-Some.node ∷ []) r (held c.push.new.self)) c.unwrap.ensures c.push.ensures in (
      rw (came.0, c.in-Some.ensures.after, ← c.in-Some.ensures.value) (drained_more _ _ _ c.in-Some.node c.loop-node.invariant.0 (member g (goal.at.loop-node-preserved g c).In-Some)),
      c.take.ensures.size ∙ c.loop-node.invariant.1,
      came.1,
    )
