-- The order in which a pool issues its members, as a list: the first is the next to be taken. Assumes nothing.
use Rattle.std.specs.Prelude.{◌≡◌, ℕ, zero, suc, ◌+◌, ◌-◌, ◌<◌, ◌≤◌, Bool, true, false, cond, not, ◌&&◌, ◌||◌, List, [], ◌∷◌, ◌++◌, length, Some, None, Option, ◌==◌, nat_lt, slice_index, slice_index_or}

-- a number stands in the list
abbrev pub listed : List ℕ → ℕ → Bool
listed [] x = false
listed (y ∷ ys) x = x == y || listed ys x

-- no number stands in the list twice
abbrev pub apart : List ℕ → Bool
apart [] = true
apart (x ∷ xs) = not (listed xs x) && apart xs

-- the first, if there is one
abbrev pub front : List ℕ → Option ℕ
front [] = None
front (x ∷ xs) = Some x

-- all but the first
abbrev pub rest : List ℕ → List ℕ
rest [] = []
rest (x ∷ xs) = xs

-- the latest given is taken first; a member stays where it is
abbrev pub put_first : List ℕ → ℕ → List ℕ
put_first xs x = cond (listed xs x) xs (x ∷ xs)

-- the latest given is taken last; a member stays where it is
abbrev pub put_last : List ℕ → ℕ → List ℕ
put_last xs x = cond (listed xs x) xs (xs ++ x ∷ [])

-- places run from 0 to 127, and 0 follows 127
abbrev pub wrapped : ℕ → ℕ
wrapped place = cond (nat_lt place 128) place (place - 128)

-- the n items from a place on
abbrev pub queued : List ℕ → ℕ → ℕ → List ℕ
queued items place zero = []
queued items place (suc n) = slice_index items place ∷ queued items (wrapped (place + 1)) n

-- the numbers whose place in a row of marks is marked
abbrev pub marked : List Bool → ℕ → Bool
marked members x = slice_index_or members x false

-- What a pool keeps from call to call: its order has no number twice, `members` tells for each number whether it
-- stands in the order, and each that does is below the size.
pub record Kept (order : List ℕ) (members : List Bool) (size : ℕ) : Type 0 where
  pub once : apart order ≡ true
  pub marks : (x : ℕ) → marked members x ≡ listed order x
  pub inside : (x : ℕ) → listed order x ≡ true → x < size
  pub few : size ≤ 128
  pub places : length members ≡ 128
