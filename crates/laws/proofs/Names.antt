-- Names of the table as numbers, the slot that a release empties, and sums that stay in their bounds.
use Rattle.std.proofs.Common.{◌≡◌, ℕ, ◌+◌, ◌<◌, ◌≤◌, min, true, ℤ, pos, negsuc, ◌≤ℤ◌, Some, None, Option, sym, refl, ap, arith}
use Rattle.std.specs.Int.{saturate_to_bits}
use Rattle.std.proofs.lemmas.Int.{ints}
use Rattle.std.proofs.lemmas.Bool.{eq-eqb, eqb-true, false≢true}
use Rattle.terms.specs.declared.Record.{Record}
use Rattle.terms.specs.Words.{same_name}
use Rattle.terms.proofs.Lowest.{lowest_below, lowest_at}
use Rattle.memory.specs.Shared.{lowest_naming}
use Rattle.protocol.proofs.Words.{none_some, some_same}
use Rattle.laws.specs.Agree.{num}

pub same_num : (v u : Option Record) → same_name v u ≡ true → num v ≡ num u
same_num None None e = refl
same_num None (Some b) e = absurd (false≢true e)
same_num (Some a) None e = absurd (false≢true e)
same_num (Some a) (Some b) e = ap Some (eqb-true a.number b.number e)

pub num_same : (v u : Option Record) → num v ≡ num u → same_name v u ≡ true
num_same None None e = refl
num_same None (Some b) e = absurd (none_some e)
num_same (Some a) None e = absurd (none_some (sym e))
num_same (Some a) (Some b) e = eq-eqb a.number b.number (some_same e)

-- Where a slot names r, the lowest that does is one of the eight, and names r.
module _ (f : ℕ → Option Record) (r : Record) (i : ℕ) (l : i < 8) (e : num (f i) ≡ Some r.number) where
  pub naming_below : lowest_naming f r < 8
  naming_below = let k = lowest_below (λ j. same_name (f j) (Some r)) 8 i l (num_same (f i) (Some r) e) in omega arith

  pub naming_names : num (f (lowest_naming f r)) ≡ Some r.number
  naming_names = same_num (f (lowest_naming f r)) (Some r) (lowest_at (λ j. same_name (f j) (Some r)) 8 naming_below)

-- A number far inside 16 bits is kept as it is.
pub plain_sum : (z : ℤ) → negsuc 999 ≤ℤ z → z ≤ℤ pos 999 → saturate_to_bits 15 z ≡ z
plain_sum (pos n) l h = ap pos (omega (arith, ints))
plain_sum (negsuc n) l h = ap negsuc (omega (arith, ints))

-- A claim number far inside a byte is counted up as it is.
pub plain_claim : (n : ℕ) → n ≤ 8 → min (n + 1) 255 ≡ n + 1
plain_claim n h = omega arith
