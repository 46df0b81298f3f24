-- What is always so, clause by clause. Each clause is over just the words that it speaks of, so that an access
-- which leaves those words alone keeps the clause.
use Rattle.std.specs.Prelude.{◌≡◌, ℕ, ◌+◌, ◌<◌, ◌≤◌, Bool, true, false, ◌⊎◌, ℤ, pos, ◌+ℤ◌, Some, None, Option, ◌≢◌}
use Rattle.terms.specs.declared.Standing.{Standing}
use Rattle.terms.specs.declared.Standing.TheVariants.{Pooled, Fresh, Linked, Retired}
use Rattle.protocol.specs.Words.{Names, times, Nowhere}
use Rattle.protocol.specs.State.{Phase, resting, marking, passed, giving}
use Rattle.protocol.specs.Shape.{Shape, Used, Holds, through, vacated}

-- Counts. A record's count, together with what stations still have to add to it, is the number of spots that
-- name the record together with the number of stations that still have to take 1 off.
pub record Counted (h : Shape) (names : Names) (count : ℕ → ℤ) (owes_up owes_down : Names) : Type 0 where
  pub sum : (r : ℕ) → count r +ℤ pos (times h.stations owes_up r) ≡ pos (times h.spots names r + times h.stations owes_down r)

-- Spots. A spot names only records that are linked or retired.
pub record Named (h : Shape) (names : Names) (standing : ℕ → Standing) : Type 0 where
  pub used : (q r : ℕ) → q < h.spots → names q ≡ Some r → Used (standing r)

-- Holds.
pub record Held (h : Shape) (standing : ℕ → Standing) (slot held hand : Names) : Type 0 where
  -- No pooled record is held.
  pub live : (c r : ℕ) → c < h.slots → held c ≡ Some r → standing r ≢ Pooled
  -- A fresh record is held by one station only.
  pub alone : (c d r : ℕ) → c < h.slots → d < h.slots → held c ≡ Some r → held d ≡ Some r → standing r ≡ Fresh → h.of c ≡ h.of d
  -- A record in hand is fresh,
  pub fresh : (p r : ℕ) → p < h.stations → hand p ≡ Some r → standing r ≡ Fresh
  -- nobody holds it,
  pub free : (p c r : ℕ) → p < h.stations → c < h.slots → hand p ≡ Some r → held c ≢ Some r
  -- and it is in no other hand.
  pub one_hand : (p z r : ℕ) → p < h.stations → z < h.stations → hand p ≡ Some r → hand z ≡ Some r → p ≡ z
  -- What a slot holds, it names: a scan that reads the slot sees it.
  pub shown : (c r : ℕ) → c < h.slots → held c ≡ Some r → slot c ≡ Some r

-- Lists.
pub record Listed (h : Shape) (standing : ℕ → Standing) (lists : Names) (phase : ℕ → Phase) : Type 0 where
  -- A listed record is retired,
  pub retired : (w r : ℕ) → w < h.places → lists w ≡ Some r → standing r ≡ Retired
  -- and is listed under one place only.
  pub once : (v w r : ℕ) → v < h.places → w < h.places → lists v ≡ Some r → lists w ≡ Some r → v ≡ w
  -- A scan is nowhere with a place that lists nothing.
  pub idle : (w : ℕ) → w < h.places → lists w ≡ None → phase w ≡ resting

-- Marks. The deleted mark of a fresh or linked record is clear; only that of a record in hand may still wait
-- for its clearing.
pub record Marks (h : Shape) (standing : ℕ → Standing) (deleted : ℕ → Bool) (hand : Names) (wiped : ℕ → Bool) : Type 0 where
  pub clear : (r : ℕ) → (standing r ≡ Fresh) ⊎ (standing r ≡ Linked) →
      (deleted r ≡ false) ⊎ ((p : ℕ) × (p < h.stations) × (hand p ≡ Some r) × (wiped p ≡ false))

-- What is owed.
pub record Owed (h : Shape) (standing : ℕ → Standing) (held owes_up owes_clear owes_down : Names) : Type 0 where
  -- Who has to raise a count still has to clear the trace mark of the same record,
  pub first : (z r : ℕ) → z < h.stations → owes_up z ≡ Some r → owes_clear z ≡ Some r
  -- and who has to clear a trace mark holds the record.
  pub kept : (z r : ℕ) → z < h.stations → owes_clear z ≡ Some r → Holds h held z r
  -- A count still to be lowered is that of a linked or retired record.
  pub left : (z r : ℕ) → z < h.stations → owes_down z ≡ Some r → Used (standing r)

-- Why p alone may write the links of r: r is fresh and p holds it, or p is giving r back.
pub data SoleWriter (h : Shape) (standing : ℕ → Standing) (held lists : Names) (phase : ℕ → Phase) (p r : ℕ) : Type 0 where
  making : standing r ≡ Fresh → Holds h held p r → SoleWriter h standing held lists phase p r
  giving_back : (w : ℕ) → w < h.places → h.ofp w ≡ p → lists w ≡ Some r → phase w ≡ giving → SoleWriter h standing held lists phase p r

-- The station p is about to overwrite the spot q; k says whether it has read the spot, and o is what it read.
pub record Save (h : Shape) (names : Names) (standing : ℕ → Standing) (held lists : Names) (phase : ℕ → Phase) (p q : ℕ) (k : Bool) (o : Option ℕ) : Type 0 where
  pub below : q < h.spots
  -- The spot is a link of a record,
  pub container : ℕ
  pub link : h.owner q ≡ Some container
  -- whose links nobody else may write,
  pub sole : SoleWriter h standing held lists phase p container
  -- and so what was read there still stands there.
  pub same : k ≡ true → names q ≡ o

-- Saved names. Every spot about to be overwritten is as its station read it.
pub record Saved (h : Shape) (names : Names) (standing : ℕ → Standing) (held lists : Names) (phase : ℕ → Phase) (storing : Names) (known : ℕ → Bool) (saved : Names) : Type 0 where
  pub save : (p q : ℕ) → p < h.stations → storing p ≡ Some q → Save h names standing held lists phase p q (known p) (saved p)

-- Claims.
pub record Claimed (h : Shape) (lists : Names) (phase : ℕ → Phase) (place : Names) (claims : ℕ → ℕ) (claiming valid : Names) : Type 0 where
  -- A place's claim number is the number of stations that have a claim on it.
  pub number : (w : ℕ) → w < h.places → claims w ≡ times h.stations claiming w
  -- What was found in a claimed place is still listed there, and is not being given back.
  pub listed : (p r : ℕ) → p < h.stations → valid p ≡ Some r →
      (w : ℕ) × (w < h.places) × (claiming p ≡ Some w) × (lists w ≡ Some r) × (phase w ≢ giving)
  -- A place names only what is listed under it,
  pub placed : (w r : ℕ) → w < h.places → place w ≡ Some r → lists w ≡ Some r
  -- and names nothing from its emptying on.
  pub empty : (w : ℕ) → w < h.places → vacated (phase w) ≡ true → place w ≡ None

-- Nothing names r but slots: no spot does, and nobody owes a change of its count.
pub record Unnamed (h : Shape) (names owes_up owes_down : Names) (r : ℕ) : Type 0 where
  pub spots : Nowhere h.spots names r
  pub ups : Nowhere h.stations owes_up r
  pub downs : Nowhere h.stations owes_down r

-- Why a scan that has read the first k slots makes no mistake with a marked record r (s says whether it saw r): it
-- saw r; or a station that has named r in a spot still owes the clearing of the mark, and holds r in a slot not
-- read yet; or nothing but slots names r, and no slot read so far holds it.
pub data Cover (h : Shape) (names owes_up owes_clear owes_down held : Names) (k : ℕ) (s : Bool) (r : ℕ) : Type 0 where
  seen_before : s ≡ true → Cover h names owes_up owes_clear owes_down held k s r
  owed : (c : ℕ) → c < h.slots → k ≤ c → held c ≡ Some r → owes_clear (h.of c) ≡ Some r → Cover h names owes_up owes_clear owes_down held k s r
  unnamed_yet : Unnamed h names owes_up owes_down r → ((c : ℕ) → c < h.slots → held c ≡ Some r → k ≤ c) → Cover h names owes_up owes_clear owes_down held k s r

-- The station that lists r is between finding the count 0 and finding it so again.
abbrev pub Marking : Shape → Names → (ℕ → Phase) → ℕ → Type 0
Marking h lists phase r = (w : ℕ) × (w < h.places) × (lists w ≡ Some r) × (phase w ≡ marking)

-- The trace mark. A record with its trace mark set is being marked, or is covered with no slot read yet.
pub record Traced (h : Shape) (names : Names) (trace' : ℕ → Bool) (owes_up owes_clear owes_down held lists : Names) (phase : ℕ → Phase) : Type 0 where
  pub covered : (r : ℕ) → trace' r ≡ true → Marking h lists phase r ⊎ Cover h names owes_up owes_clear owes_down held 0 false r

-- The scan. A record that the first pass is done with, and whose mark is set, is covered by what the scan has read.
pub record Scanned (h : Shape) (names : Names) (trace' : ℕ → Bool) (owes_up owes_clear owes_down held lists : Names) (phase : ℕ → Phase) (read' : ℕ → ℕ) (seen' : ℕ → ℕ → Bool) : Type 0 where
  pub covered : (w r : ℕ) → w < h.places → phase w ≡ passed → lists w ≡ Some r → trace' r ≡ true →
      Cover h names owes_up owes_clear owes_down held (read' (h.ofp w)) (seen' (h.ofp w) r) r

-- No spot names r, no slot holds it, nobody owes anything on it.
pub record Unreferenced (h : Shape) (names owes_up owes_clear owes_down held : Names) (r : ℕ) : Type 0 where
  pub spots : Nowhere h.spots names r
  pub ups : Nowhere h.stations owes_up r
  pub clears : Nowhere h.stations owes_clear r
  pub downs : Nowhere h.stations owes_down r
  pub slots : Nowhere h.slots held r

-- Gone. A record that the second pass has let through is out of reach of everybody but the station that lists it.
pub record Gone (h : Shape) (names owes_up owes_clear owes_down held lists : Names) (phase : ℕ → Phase) : Type 0 where
  pub unreferenced : (w r : ℕ) → w < h.places → through (phase w) ≡ true → lists w ≡ Some r → Unreferenced h names owes_up owes_clear owes_down held r

-- Links cleared. While a record is given back, its links below the one to clear next are none.
pub record Cleared (h : Shape) (names lists : Names) (phase : ℕ → Phase) (low : ℕ → ℕ) : Type 0 where
  pub none : (w r q : ℕ) → w < h.places → phase w ≡ giving → lists w ≡ Some r → q < h.spots → h.owner q ≡ Some r → h.position q < low w → names q ≡ None
