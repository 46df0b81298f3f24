-- How the slots, the places and the spots of a table are numbered in one row each. A table has at most 8 stations with
-- 8 slots and 64 places each, 16 roots, and 128 records with 4 links each; what a table does not have is none for ever.
use Rattle.std.specs.Prelude.{◌≡◌, ℕ, ◌+◌, ◌-◌, ◌*◌, ◌/◌, ◌%◌, ◌<◌, ◌≤◌, cond, ◌⊎◌, Some, None, Option, nat_lt}
use Rattle.std.proofs.Common.{sym, ◌∙◌, inl, inr, arith}
use Rattle.std.proofs.lemmas.Bool.{cases_lt, cond-true, cond-false, lt-ltb, le-ltb}
use Rattle.terms.specs.declared.Spot.{Spot}
use Rattle.terms.specs.declared.Spot.TheVariants as at
use Rattle.protocol.specs.Shape.{Shape}
use Rattle.protocol.proofs.Words.{none_some, some_same}

-- The slots of station 0 come first, then those of station 1, and so on: the order in which a scan reads them.
abbrev pub slot_number : ℕ → ℕ → ℕ
slot_number z i = 8 * z + i

-- The first places of all stations come first, then their second ones, and so on.
abbrev pub place_number : ℕ → ℕ → ℕ
place_number z j = 8 * j + z

-- The roots come first, then the links of record 0, and so on.
abbrev pub link_number : ℕ → ℕ → ℕ
link_number r x = 16 + 4 * r + x

abbrev pub spot_number : Spot → ℕ
spot_number (at.Root g) = g.index
spot_number (at.Link r x) = link_number r.number x.index

-- the record that a spot is a link of
unfoldable pub owner_of : ℕ → Option ℕ
owner_of q = cond (nat_lt q 16) None (Some ((q - 16) / 4))

pub owner_tells : (q : ℕ) → ((owner_of q ≡ None) × (q < 16)) ⊎ ((owner_of q ≡ Some ((q - 16) / 4)) × (16 ≤ q))
unfolding owner_of
owner_tells q = elim (cases_lt q 16) [
  | inl l ↦ inl (cond-true _ None (Some ((q - 16) / 4)) (lt-ltb q 16 l), l)
  | inr l ↦ inr (cond-false _ None (Some ((q - 16) / 4)) (le-ltb q 16 l), l)
]

pub owned : (q r : ℕ) → owner_of q ≡ Some r → (16 ≤ q) × ((q - 16) / 4 ≡ r)
owned q r e = elim (owner_tells q) [
  | inl (y, l) ↦ absurd (none_some (sym y ∙ e))
  | inr (y, l) ↦ (l, some_same (sym y ∙ e))
]

pub one_link_at : (q i r : ℕ) → owner_of q ≡ Some r → owner_of i ≡ Some r → (q - 16) % 4 ≡ (i - 16) % 4 → q ≡ i
one_link_at q i r e f p = let (a, b) = owned q r e in let (c, d) = owned i r f in omega arith

-- the shape of every table
abbrev pub shape : Shape
shape = record {
  spots = 528;
  stations = 8;
  slots = 64;
  places = 512;
  of = λ c. c / 8;
  ofp = λ w. w % 8;
  owner = owner_of;
  position = λ q. (q - 16) % 4;
  one_link = λ q i r _ _ e f p. one_link_at q i r e f p;
}
