-- What one station has of its own: in a slot, under a place, and for itself. Nobody else changes it.
use Rattle.std.specs.Prelude.{◌≡◌, ℕ, Bool, Option, ◌≢◌}
use Rattle.protocol.specs.State.{State, Phase}
use Rattle.protocol.specs.Shape.{Shape}

pub record SlotWords : Type 0 where
  pub slot : Option ℕ
  pub held : Option ℕ

pub record PlaceWords : Type 0 where
  pub place : Option ℕ
  pub lists : Option ℕ
  pub phase : Phase
  pub low : ℕ

pub record StationWords : Type 0 where
  pub owes_up : Option ℕ
  pub owes_clear : Option ℕ
  pub owes_down : Option ℕ
  pub hand : Option ℕ
  pub wiped : Bool
  pub storing : Option ℕ
  pub known : Bool
  pub saved : Option ℕ
  pub read : ℕ
  pub seen : ℕ → Bool
  pub claiming : Option ℕ
  pub valid : Option ℕ

abbrev pub slot_words : State → ℕ → SlotWords
slot_words s c = record { slot = s.slot c; held = s.held c }

abbrev pub place_words : State → ℕ → PlaceWords
place_words s w = record { place = s.place w; lists = s.lists w; phase = s.phase w; low = s.low w }

abbrev pub station_words : State → ℕ → StationWords
station_words s z = record {
  owes_up = s.owes_up z;
  owes_clear = s.owes_clear z;
  owes_down = s.owes_down z;
  hand = s.hand z;
  wiped = s.wiped z;
  storing = s.storing z;
  known = s.known z;
  saved = s.saved z;
  read = s.read z;
  seen = s.seen z;
  claiming = s.claiming z;
  valid = s.valid z;
}

-- From s to t only p has moved: the slots, the places and the words of every other station are as they were.
pub record Untouched (h : Shape) (s : State) (p : ℕ) (t : State) : Type 0 where
  pub slots : (c : ℕ) → (h.of c ≢ p) → slot_words t c ≡ slot_words s c
  pub places : (w : ℕ) → (h.ofp w ≢ p) → place_words t w ≡ place_words s w
  pub stations : (z : ℕ) → (z ≢ p) → station_words t z ≡ station_words s z
