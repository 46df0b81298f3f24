-- The order of a stack. Assumes nothing.
use Rattle.std.specs.Prelude.{ℕ, List, reverse}
use Rattle.rooms.specs.Held.{held}
use Rattle.pools.specs.declared.line_pool.LinePool.{LinePool}
use Rattle.pools.specs.declared.stack.LatestFirst.{LatestFirst}

-- of its line, the last item first
abbrev pub latest_first : LatestFirst → List ℕ
latest_first line = reverse (held line.items)

-- a `Stack`, since antt has no name for an alias
abbrev pub stack_order : {D : _} → LinePool LatestFirst D → List ℕ
stack_order s = latest_first s.line
