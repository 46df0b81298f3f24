-- The order of a pool, whichever its line. At a stack it is `stack_order`, at a ring `ring_order`. Assumes nothing.
use Rattle.std.specs.Prelude.{ℕ, List}
use Rattle.pools.specs.declared.line_pool.LinePool.{LinePool}

abbrev pub order_of : {L : Type 0} {D : _} → LinePool L D → List ℕ
order_of {D = d} p = d.order p.line
