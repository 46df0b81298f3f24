-- What was given is a member, and each member is issued.
use Rattle.std.proofs.Common.{ℕ, Bool, ltb, refl, ap, ◌∙◌}
use Rattle.std.proofs.lemmas.Bool.{cond-true, lt-ltb, or_left, eq-eqb}
use Rattle.pools.specs.Sets.{adding}
use Rattle.pools.proofs.laws.give_and_drain.Goals as goal

pub returns-clause-again : goal.returns-clause-again
returns-clause-again g c =
    let s = g.P.Pool.has c.args.pool.now in
    let size = g.P.Pool.size c.args.pool.now in
    let node = c.args.node in
    let l = c.in_ok-give.ensures.answer in
    let all = c.drain.ensures.all ∙ c.give.ensures.after ∙ cond-true (ltb node size) (adding node s) s (lt-ltb node size l) in
    (l, ap (λ (t : ℕ → Bool). t node) all ∙ or_left _ (s node) (eq-eqb node node refl), c.drain.ensures.once, all, c.drain.ensures.empty)
