-- The state that the argument speaks of: the words that all stations share, and what each station knows
-- for itself. Spots, slots and list places are numbered in one row each; a word is a function from such a
-- number, or from a record's or a station's number.
use Rattle.std.specs.Prelude.{ℕ, Bool, ℤ}
use Rattle.terms.specs.declared.Standing.{Standing}
use Rattle.protocol.specs.Words.{Names}

-- How far a scan is with one of its station's places.
pub data Phase : Type 0 where
  -- No scan, or none that came to it yet.
  resting : Phase
  -- The count was 0 at the first look; whether it is still so after the marking is not decided.
  marking : Phase
  -- The first pass is done with it.
  passed : Phase
  -- The second pass found its record marked and in no slot.
  gone : Phase
  -- And the place is emptied.
  emptied : Phase
  -- And nobody claimed the place: its record is being given back.
  giving : Phase

pub record State : Type 0 where
  -- * The words that all stations share.
  -- What a spot names.
  pub names : Names
  -- A record's count.
  pub count : ℕ → ℤ
  -- A record's trace mark.
  pub trace : ℕ → Bool
  -- A record's deleted mark.
  pub deleted : ℕ → Bool
  -- Where a record is in its life.
  pub standing : ℕ → Standing
  -- What a slot names, verified or not.
  pub slot : Names
  -- What a list place names for everybody.
  pub place : Names
  -- A place's claim number.
  pub claims : ℕ → ℕ
  -- * Of a slot, its station's own.
  -- What a slot holds: the record that it names, once that is verified.
  pub held : Names
  -- * Of a station, its own.
  -- The record to whose count the station still has to add 1.
  pub owes_up : Names
  -- The record whose trace mark the station still has to clear after it named it in a spot.
  pub owes_clear : Names
  -- The record from whose count the station still has to take 1.
  pub owes_down : Names
  -- The record that the station took from the pool and has not written into a slot yet.
  pub hand : Names
  -- Whether the deleted mark of the record in hand is cleared already.
  pub wiped : ℕ → Bool
  -- The spot that the station is about to overwrite without comparing.
  pub storing : Names
  -- Whether the station has read that spot already.
  pub known : ℕ → Bool
  -- The name that it read there.
  pub saved : Names
  -- * Of a place, its station's own.
  -- The record that the station withdrew and has under this place, from the start of its DELETE to the give.
  pub lists : Names
  -- How far a scan is with this place.
  pub phase : ℕ → Phase
  -- While the record is given back: the position of the next link to clear.
  pub low : ℕ → ℕ
  -- * Of a station, its own.
  -- How many slots the station's scan has read.
  pub read : ℕ → ℕ
  -- Whether the station's scan has found this record in a slot.
  pub seen : ℕ → ℕ → Bool
  -- The place that the station has a claim on.
  pub claiming : Names
  -- The record that the station found in that place after it claimed it.
  pub valid : Names
