-- What is proved of the steps and of the invariant, each as one statement.
use Rattle.std.specs.Prelude.{◌≡◌, ℕ, ◌+◌, ◌<◌, ◌≤◌, true, false, ◌⊎◌, ℤ, pos, neg_ℤ, ◌≤ℤ◌, Some, None, ◌≢◌}
use Rattle.terms.specs.declared.Standing.{Standing}
use Rattle.terms.specs.declared.Standing.TheVariants.{Pooled, Fresh, Linked, Retired}
use Rattle.protocol.specs.State.{State, resting, giving}
use Rattle.terms.specs.Words.{once_named}
use Rattle.protocol.specs.Shape.{Shape, Used, Holds}
use Rattle.protocol.specs.Invariant.{Inv}
use Rattle.protocol.specs.Steps.{Step, Moves}
use Rattle.protocol.specs.Own.{Untouched}

-- Every step of every station keeps the invariant.
abbrev pub Kept : Type 0
Kept = (h : Shape) (s : State) (p : ℕ) → p < h.stations → Inv h s → (t : State) → Step h s p t → Inv h t

-- A new table: all none, zero and clear, every record pooled.
abbrev pub start : State
start = record {
  names = λ _. None;
  count = λ _. pos 0;
  trace = λ _. false;
  deleted = λ _. false;
  standing = λ _. Pooled;
  slot = λ _. None;
  place = λ _. None;
  claims = λ _. 0;
  held = λ _. None;
  owes_up = λ _. None;
  owes_clear = λ _. None;
  owes_down = λ _. None;
  hand = λ _. None;
  wiped = λ _. false;
  storing = λ _. None;
  known = λ _. false;
  saved = λ _. None;
  lists = λ _. None;
  phase = λ _. resting;
  low = λ _. 0;
  read = λ _. 0;
  seen = λ _ _. false;
  claiming = λ _. None;
  valid = λ _. None;
}

abbrev pub Starts : Type 0
Starts = (h : Shape) → Inv h start

-- What any steps of any stations lead to from a state.
pub data Run (h : Shape) (s : State) : State → Type 0 where
  begins : Run h s s
  goes : {t : State} → Run h s t → (p : ℕ) → p < h.stations → (u : State) → Step h t p u → Run h s u

-- After any run of a new table the invariant holds.
abbrev pub Always : Type 0
Always = (h : Shape) (s : State) → Run h start s → Inv h s

-- Every count lies between minus the number of stations and the number of spots and stations.
pub record Within (h : Shape) (k : ℤ) : Type 0 where
  pub low : neg_ℤ (pos h.stations) ≤ℤ k
  pub high : k ≤ℤ pos (h.spots + h.stations)

-- And a claim number is at most the number of stations.
pub record Bounds (h : Shape) (s : State) : Type 0 where
  pub counts : (r : ℕ) → Within h (s.count r)
  pub claims : (w : ℕ) → w < h.places → s.claims w ≤ h.stations

abbrev pub Bounded : Type 0
Bounded = (h : Shape) (s : State) → Inv h s → Bounds h s

-- No spot names a pooled record, and no slot holds one.
pub record Safe (h : Shape) (s : State) : Type 0 where
  pub spots : (q r : ℕ) → q < h.spots → s.names q ≡ Some r → s.standing r ≢ Pooled
  pub slots : (c r : ℕ) → c < h.slots → s.held c ≡ Some r → s.standing r ≢ Pooled

abbrev pub AllSafe : Type 0
AllSafe = (h : Shape) (s : State) → Run h start s → Safe h s

-- The records that a station may touch: what it holds, lists, has found in a claimed place, has to lower the
-- count of, or has in hand.
pub data MayTouch (h : Shape) (s : State) (p r : ℕ) : Type 0 where
  as_held : Holds h s.held p r → MayTouch h s p r
  as_listed : (w : ℕ) → w < h.places → h.ofp w ≡ p → s.lists w ≡ Some r → MayTouch h s p r
  as_claimed : s.valid p ≡ Some r → MayTouch h s p r
  as_owed : s.owes_down p ≡ Some r → MayTouch h s p r
  in_hand : s.hand p ≡ Some r → MayTouch h s p r

-- None of them is pooled.
abbrev pub TouchesLive : Type 0
TouchesLive = (h : Shape) (s : State) (p : ℕ) → p < h.stations → Inv h s → (r : ℕ) → MayTouch h s p r → s.standing r ≢ Pooled

-- A fresh record is held by one station only, and a record in hand by none.
pub record Alone (h : Shape) (s : State) : Type 0 where
  pub holder : (p z r : ℕ) → Holds h s.held p r → Holds h s.held z r → s.standing r ≡ Fresh → p ≡ z
  pub unheld : (p z r : ℕ) → p < h.stations → s.hand p ≡ Some r → Holds h s.held z r → ⊥

abbrev pub FreshAlone : Type 0
FreshAlone = (h : Shape) (s : State) → Inv h s → Alone h s

-- A listed record is retired and listed once.
pub record Single (h : Shape) (s : State) : Type 0 where
  pub retired : (w r : ℕ) → w < h.places → s.lists w ≡ Some r → s.standing r ≡ Retired
  pub once : (v w r : ℕ) → v < h.places → w < h.places → s.lists v ≡ Some r → s.lists w ≡ Some r → v ≡ w

abbrev pub ListedOnce : Type 0
ListedOnce = (h : Shape) (s : State) → Inv h s → Single h s

-- A record that somebody holds and whose deleted mark is set is retired.
abbrev pub MarkedRetired : Type 0
MarkedRetired = (h : Shape) (s : State) → Inv h s → (p r : ℕ) → Holds h s.held p r → s.deleted r ≡ true → s.standing r ≡ Retired

-- How a step of p may change the standing of r.
pub data Change (h : Shape) (s : State) (p : ℕ) (t : State) (r : ℕ) : Type 0 where
  same : t.standing r ≡ s.standing r → Change h s p t r
  taken : s.standing r ≡ Pooled → t.standing r ≡ Fresh → Change h s p t r
  linked : Holds h s.held p r → t.standing r ≡ once_named (s.standing r) → Change h s p t r
  withdrawn : Holds h s.held p r → t.standing r ≡ Retired → Change h s p t r
  given : (w : ℕ) → w < h.places → h.ofp w ≡ p → s.lists w ≡ Some r → s.phase w ≡ giving → t.standing r ≡ Pooled → Change h s p t r

abbrev pub Changes : Type 0
Changes = (h : Shape) (s : State) (p : ℕ) (t : State) → Step h s p t → (r : ℕ) → Change h s p t r

-- While a record is held, linked or retired stays so over any step, and retired stays so.
pub record Rise (a b : Standing) : Type 0 where
  pub used : Used a → Used b
  pub retired : a ≡ Retired → b ≡ Retired

abbrev pub Rises : Type 0
Rises = (h : Shape) (s : State) (p : ℕ) → Inv h s → (t : State) → Step h s p t → (z r : ℕ) → Holds h s.held z r → Rise (s.standing r) (t.standing r)

-- What a station holds keeps its standing over what another does, but for linked that becomes retired.
abbrev pub Stays : Standing → Standing → Type 0
Stays a b = (b ≡ a) ⊎ ((a ≡ Linked) × (b ≡ Retired))

abbrev pub Rely : Type 0
Rely = (h : Shape) (s : State) (p : ℕ) → Inv h s → (t : State) → Step h s p t → (z r : ℕ) → (z ≢ p) → Holds h s.held z r → Stays (s.standing r) (t.standing r)

-- A step of p leaves what every other station has of its own.
abbrev pub OthersUntouched : Type 0
OthersUntouched = (h : Shape) (s : State) (p : ℕ) (t : State) → Step h s p t → Untouched h s p t

-- The same of all that a station does in one turn, or in many.
pub record Turn (h : Shape) (s : State) (p : ℕ) (t : State) : Type 0 where
  pub inv : Inv h t
  pub others : Untouched h s p t
  pub rely : (z r : ℕ) → (z ≢ p) → Holds h s.held z r → Stays (s.standing r) (t.standing r)

abbrev pub TurnsKeep : Type 0
TurnsKeep = (h : Shape) (s : State) (p : ℕ) → p < h.stations → Inv h s → (t : State) → Moves h s p t → Turn h s p t

-- The steps are not empty: in some table a record is taken from the pool, held, withdrawn and given back, and
-- its trace mark is still set from the scan.
pub record Cycle : Type 0 where
  pub shape : Shape
  pub held : State
  pub listed : State
  pub back : State
  pub takes : Run shape start held
  pub withdraws : Run shape held listed
  pub gives : Run shape listed back
  pub fresh : held.standing 0 ≡ Fresh
  pub retired : listed.standing 0 ≡ Retired
  pub pooled : back.standing 0 ≡ Pooled
  pub traced : back.trace 0 ≡ true
