-- Link positions and what follows each. Assumes nothing.
use Rattle.std.specs.Prelude.{ℕ, cond, Some, None, Option, nat_lt}

-- what follows a position; none where there is no such position
abbrev pub following_of : ℕ → (ℕ → ℕ) → ℕ → Option ℕ
following_of positions follow x = cond (nat_lt x positions) (Some (follow x)) None
