-- Sets of record numbers, as tests, and what a pool's calls do to one. Assumes nothing.
use Rattle.std.specs.Prelude.{◌≡◌, ℕ, Bool, true, false, cond, not, ◌&&◌, ◌||◌, Some, None, Option, ◌==◌, nat_lt}

-- no number
abbrev pub nothing : ℕ → Bool
nothing = λ x. false

-- the numbers from 0 to n - 1
abbrev pub numbers_below : ℕ → ℕ → Bool
numbers_below n = λ x. nat_lt x n

-- the set with one number more
abbrev pub adding : ℕ → (ℕ → Bool) → ℕ → Bool
adding node s = λ x. (x == node) || s x

-- the set with one number less, if one is named
abbrev pub without : Option ℕ → (ℕ → Bool) → ℕ → Bool
without None s = s
without (Some node) s = λ x. s x && not (x == node)

-- the set after a give: only a number below the size is added
abbrev pub given : (size node : ℕ) → (ℕ → Bool) → ℕ → Bool
given size node s = cond (nat_lt node size) (adding node s) s

-- what a take does to a set: none exactly from the empty one; else a member, which goes
abbrev pub Takes : (ℕ → Bool) → Option ℕ → (ℕ → Bool) → Type 0
Takes s None t = (s ≡ nothing) × (t ≡ s)
Takes s (Some node) t = (s node ≡ true) × (t ≡ without (Some node) s) × (t node ≡ false)
