-- What the lowest number that passes a test is known by.
use Rattle.std.proofs.Common.{◌≡◌, ℕ, zero, suc, ◌+◌, ◌<◌, ◌≤◌, Bool, true, false, cond, sym, refl, ap, ◌∙◌, inl, inr, arith}
use Rattle.std.proofs.lemmas.Bool.{cases_eq, cases_order, true≢false}
use Rattle.terms.specs.Words.{first_from, lowest}

-- Where i does not pass, the search goes on behind it.
pub from_on : (test : ℕ → Bool) (i n : ℕ) → test i ≡ false → first_from test i (suc n) ≡ first_from test (suc i) n
unfolding first_from
from_on test i n e = rw e refl

pub from_here : (test : ℕ → Bool) (i n : ℕ) → test i ≡ true → first_from test i (suc n) ≡ i
unfolding first_from
from_here test i n e = rw e refl

pub from_end : (test : ℕ → Bool) (i : ℕ) → first_from test i 0 ≡ i
unfolding first_from
from_end test i = refl

-- The first from i on: it lies from i to i + n, nothing before it passes, and it passes unless it is i + n.
abbrev pub First : (ℕ → Bool) → ℕ → ℕ → ℕ → Type 0
First test i n k = (i ≤ k) × (k ≤ i + n) × ((j : ℕ) → i ≤ j → j < k → test j ≡ false) × (k < i + n → test k ≡ true)

pub from_known : (test : ℕ → Bool) (i n : ℕ) → First test i n (first_from test i n)
unfolding first_from
from_known test i zero = (omega arith, omega arith, λ j a b. absurd (omega arith), λ a. absurd (omega arith))
from_known test i (suc n) = go (test i) refl (from_known test (suc i) n)
  where
    go : (b : Bool) → test i ≡ b → First test (suc i) n (first_from test (suc i) n) → First test i (suc n) (cond b i (first_from test (suc i) n))
    go true e k = (omega arith, omega arith, λ j a b. absurd (omega arith), λ a. e)
    go false e (low, high, before, at) = (
      omega arith,
      omega arith,
      λ j a b. elim (cases_eq i j) [ inl t ↦ ap test (sym t) ∙ e | inr d ↦ before j (omega arith) b ],
      λ a. at (omega arith),
    )

pub lowest_bound : (test : ℕ → Bool) (n : ℕ) → lowest test n ≤ n
unfolding lowest
lowest_bound test n = let k = (from_known test 0 n).1 in omega arith

pub lowest_before : (test : ℕ → Bool) (n j : ℕ) → j < lowest test n → test j ≡ false
unfolding lowest
lowest_before test n j h = (from_known test 0 n).2 j (omega arith) h

pub lowest_at : (test : ℕ → Bool) (n : ℕ) → lowest test n < n → test (lowest test n) ≡ true
unfolding lowest
lowest_at test n h = (from_known test 0 n).3 (omega arith)

-- A number below n that passes bounds the lowest.
pub lowest_below : (test : ℕ → Bool) (n j : ℕ) → j < n → test j ≡ true → lowest test n ≤ j
lowest_below test n j h t = grind (arith, lowest_before test n j)

-- A number that nothing below passes, and that passes unless it is n, is the lowest.
pub lowest_is : (test : ℕ → Bool) (n i : ℕ) → i ≤ n → ((j : ℕ) → j < i → test j ≡ false) → (i < n → test i ≡ true) → i ≡ lowest test n
lowest_is test n i h before at = elim (cases_order i (lowest test n)) [
  | inl e ↦ e
  | inr (inl l) ↦
      let b = lowest_bound test n in
      absurd (true≢false (sym (at (omega arith)) ∙ lowest_before test n i l))
  | inr (inr l) ↦ absurd (true≢false (sym (lowest_at test n (omega arith)) ∙ before (lowest test n) l))
]
