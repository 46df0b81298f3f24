-- Functions from numbers with one point changed, and how often one of them names a number.
use Rattle.std.specs.Prelude.{ℕ, zero, suc, ◌+◌, ◌<◌, cond, Some, None, Option, ◌==◌, ◌≢◌}

-- f with v at i.
unfoldable pub upd : {A : Type 0} → (ℕ → A) → ℕ → A → ℕ → A
upd f i v j = cond (i == j) v (f j)

-- A row of words, each of which names a number or none.
abbrev pub Names : Type 0
Names = ℕ → Option ℕ

-- 1 where the name is r, else 0.
unfoldable pub once_if : Option ℕ → ℕ → ℕ
once_if None r = 0
once_if (Some a) r = cond (a == r) 1 0

-- How many of the first n words name r.
unfoldable pub times : ℕ → Names → ℕ → ℕ
times zero f r = 0
times (suc n) f r = once_if (f n) r + times n f r

-- None of the first n words names r.
abbrev pub Nowhere : ℕ → Names → ℕ → Type 0
Nowhere n f r = (i : ℕ) → i < n → f i ≢ Some r
