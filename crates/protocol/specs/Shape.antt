-- How large a table is and how its rows are laid out, and the few functions that the words are changed by.
use Rattle.std.specs.Prelude.{◌≡◌, ℕ, ◌<◌, Bool, true, false, ◌⊎◌, Some, None, Option}
use Rattle.terms.specs.declared.Standing.{Standing}
use Rattle.terms.specs.declared.Standing.TheVariants.{Linked, Retired}
use Rattle.terms.specs.Words.{once_named}
use Rattle.protocol.specs.Words.{Names, upd}
use Rattle.protocol.specs.State.{Phase, resting, marking, passed, gone, emptied, giving}

pub record Shape : Type 0 where
  -- How many spots (roots and links), stations, slots and list places there are.
  pub spots : ℕ
  pub stations : ℕ
  pub slots : ℕ
  pub places : ℕ
  -- The station of a slot, and of a place.
  pub of : ℕ → ℕ
  pub ofp : ℕ → ℕ
  -- The record that a spot is a link of (none for a root), and its position among that record's links.
  pub owner : ℕ → Option ℕ
  pub position : ℕ → ℕ
  -- A record has one link at a position.
  pub one_link : (q i r : ℕ) → q < spots → i < spots → owner q ≡ Some r → owner i ≡ Some r → position q ≡ position i → q ≡ i

-- Linked or retired: neither pooled nor fresh.
abbrev pub Used : Standing → Type 0
Used a = (a ≡ Linked) ⊎ (a ≡ Retired)

-- The standings once the name n is written into a spot.
unfoldable pub linking : Option ℕ → (ℕ → Standing) → ℕ → Standing
linking None f = f
linking (Some r) f = upd f r (once_named (f r))

-- What a scan has found in slots, once it read the name v.
unfoldable pub seeing : Option ℕ → (ℕ → Bool) → ℕ → Bool
seeing None f = f
seeing (Some r) f = upd f r true

-- The scan's second pass has let the record through.
abbrev pub through : Phase → Bool
through resting = false
through marking = false
through passed = false
through gone = true
through emptied = true
through giving = true

-- And has emptied its place.
abbrev pub vacated : Phase → Bool
vacated resting = false
vacated marking = false
vacated passed = false
vacated gone = false
vacated emptied = true
vacated giving = true

-- The station p holds r in one of its slots, verified.
abbrev pub Holds : Shape → Names → ℕ → ℕ → Type 0
Holds h held p r = (c : ℕ) × (c < h.slots) × (h.of c ≡ p) × (held c ≡ Some r)

-- The station p holds what n names, if anything.
abbrev pub Carries : Shape → Names → ℕ → Option ℕ → Type 0
Carries h held p n = (r : ℕ) → n ≡ Some r → Holds h held p r
