-- The order of a ring. Assumes nothing.
use Rattle.std.specs.Prelude.{ℕ, List}
use Rattle.pools.specs.declared.line_pool.LinePool.{LinePool}
use Rattle.pools.specs.declared.ring.LongestRestedFirst.{LongestRestedFirst}
use Rattle.pools.specs.Orders.{queued}

-- of its line, the items from the head on
abbrev pub longest_rested_first : LongestRestedFirst → List ℕ
longest_rested_first line = queued line.items line.head line.len

-- a `Ring`, since antt has no name for an alias
abbrev pub ring_order : {D : _} → LinePool LongestRestedFirst D → List ℕ
ring_order s = longest_rested_first s.line
