-- The records that a pool issued, as a list. Assumes nothing.
use Rattle.std.specs.Prelude.{◌≡◌, ℕ, ◌<◌, ◌≤◌, Bool, true, List, Ok, Err, Result}
use Rattle.rooms.specs.Held.{held}
use Rattle.pools.specs.declared.issued.Issued.{Issued}
use Rattle.pools.specs.declared.pool.OutOfPool.{OutOfPool}
use Rattle.pools.specs.Sets.{nothing, adding}
use Rattle.pools.specs.Orders.{listed, apart}

abbrev pub issued : Issued → List ℕ
issued i = held i.nodes

-- A record is given to a pool with the members `s`, and then all are taken, which leaves the members `t`: the record is
-- among those issued, each of which was a member or the record itself, once each, and the pool is empty. A number that
-- is no record of the table is refused, and nothing is taken.
abbrev pub IssuesAgain : (size node : ℕ) (s : ℕ → Bool) → Result Issued OutOfPool → (t : ℕ → Bool) → Type 0
IssuesAgain size node s (Ok i) t =
    (node < size)
    × (listed (issued i) node ≡ true)
    × (apart (issued i) ≡ true)
    × (listed (issued i) ≡ adding node s)
    × (t ≡ nothing)
IssuesAgain size node s (Err e) t = (size ≤ node) × (e.node ≡ node) × (t ≡ s)
