-- Words that the definitions of the machine share: functions from numbers with one point
-- changed, the lowest number that passes a test, equality of names, and what a name makes of a standing.
use Rattle.std.specs.Prelude.{ℕ, zero, suc, Bool, true, false, cond, ◌&&◌, List, [], Some, None, Option, ◌==◌, nat_lt, slice_index_or}
use Rattle.terms.specs.declared.Record.{Record}
use Rattle.terms.specs.declared.Standing.{Standing}
use Rattle.terms.specs.declared.Standing.TheVariants.{Pooled, Fresh, Linked, Retired}

-- What a list holds at each index, and d past its end.
unfoldable pub reads : {A : Type 0} → A → List A → ℕ → A
reads d xs i = slice_index_or xs i d

-- The same of rows: what row i holds at x.
unfoldable pub cells : {A : Type 0} → A → List (List A) → ℕ → ℕ → A
cells d rows i x = slice_index_or (slice_index_or rows i []) x d

-- f with v at i. An i at or past n changes nothing.
unfoldable pub put : {A : Type 0} → ℕ → (ℕ → A) → ℕ → A → ℕ → A
put n f i v j = cond (i == j && nat_lt i n) v (f j)

-- f with v at i, x, of h rows that are w wide.
unfoldable pub put_in : {A : Type 0} → ℕ → ℕ → (ℕ → ℕ → A) → ℕ → ℕ → A → ℕ → ℕ → A
put_in h w f i x v = put h f i (put w (f i) x v)

-- The first number from i on that passes the test, of at most n; where none does, the one after them.
unfoldable pub first_from : (ℕ → Bool) → ℕ → ℕ → ℕ
first_from test i zero = i
first_from test i (suc n) = cond (test i) i (first_from test (suc i) n)

-- The lowest number below n that passes the test, or n where none does.
unfoldable pub lowest : (ℕ → Bool) → ℕ → ℕ
lowest test n = first_from test 0 n

-- Whether two names are the same.
abbrev pub same_name : Option Record → Option Record → Bool
same_name None None = true
same_name None (Some b) = false
same_name (Some a) None = false
same_name (Some a) (Some b) = a.number == b.number

-- Whether a name is none.
abbrev pub is_none : Option Record → Bool
is_none None = true
is_none (Some r) = false

-- A record's standing once a spot names it: a fresh one becomes linked, the others stay so.
abbrev pub once_named : Standing → Standing
once_named Pooled = Pooled
once_named Fresh = Linked
once_named Linked = Linked
once_named Retired = Retired
