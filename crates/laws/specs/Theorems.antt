-- What is proved of whole tables, each as one statement.
use Rattle.std.specs.Prelude.{◌≡◌, ℕ, ◌<◌, ◌≤◌, true, ◌⊎◌, [], length, pos, neg_ℤ, ◌≤ℤ◌, Some, None, Option, ◌≢◌}
use Rattle.terms.specs.declared.Record.{Record}
use Rattle.terms.specs.declared.Spot.{Spot}
use Rattle.terms.specs.declared.Operation.{Operation}
use Rattle.terms.specs.declared.Standing.TheVariants.{Pooled, Fresh, Retired}
use Rattle.memory.specs.declared.access.Access.{Access}
use Rattle.memory.specs.Perform.{touched, given}
use Rattle.work.specs.declared.work.Clean.{Clean}
use Rattle.work.specs.declared.work.AfterLook.TheVariants as look
use Rattle.work.specs.declared.work.Point.TheVariants.{Look}
use Rattle.work.specs.Plans.{Plan, plan, access_of}
use Rattle.machine.specs.Tables.{Sizes, Table, new_table}
use Rattle.machine.specs.Steps.{turned}
use Rattle.machine.specs.Begin.{begin_refusal, begun, place_free}
use Rattle.machine.specs.Holds.{Hold}
use Rattle.laws.specs.Lists.{node_of}
use Rattle.laws.specs.Fits.{Lawful, Sound, Follows}

-- What the pool picks lies in it.
abbrev pub FromPool : Table → Option ℕ → Type 0
FromPool t pick = (r : ℕ) → pick ≡ Some r → t.pool r ≡ true

-- A new table is sound.
abbrev pub NewIsSound : Type 0
NewIsSound = (z : Sizes) → Lawful z → Sound (new_table z)

-- A turn of a busy station is made of moves that the protocol allows, whatever record of the pool is picked, and keeps
-- the table sound.
abbrev pub TurnsKeep : Type 0
TurnsKeep = (t : Table) (k : Sound t) → (p : ℕ) → p < t.sizes.stations → (w : Plan) → (t.seats p).work ≡ Some w → (pick : Option ℕ) → FromPool t pick → Follows t k p (turned t pick p w)

-- So does a beginning that is not refused.
abbrev pub BeginningsKeep : Type 0
BeginningsKeep = (t : Table) (k : Sound t) → (p : ℕ) (o : Operation) → begin_refusal t p o ≡ None → Follows t k p (begun t p o)

-- What stations may lead to from a new table, in any order.
pub data Run (z : Sizes) : Table → Type 0 where
  fresh_table : Run z (new_table z)
  begins : {t : Table} → Run z t → (p : ℕ) (o : Operation) → begin_refusal t p o ≡ None → Run z (begun t p o)
  turns : {t : Table} → Run z t → (p : ℕ) → p < t.sizes.stations → (w : Plan) → (t.seats p).work ≡ Some w → (pick : Option ℕ) → FromPool t pick → Run z (turned t pick p w)

-- So every table that is reached is sound.
abbrev pub RunsAreSound : Type 0
RunsAreSound = (z : Sizes) → Lawful z → (t : Table) → Run z t → Sound t

-- A count lies from −8 to 536, and a claim number is at most 8: sums in 16 bits and in 8 bits are plain sums.
pub record Bounded (t : Table) : Type 0 where
  pub low : (r : ℕ) → neg_ℤ (pos 8) ≤ℤ t.shared.counts r
  pub high : (r : ℕ) → t.shared.counts r ≤ℤ pos 536
  pub claims : (p i : ℕ) → p < 8 → i < 64 → t.shared.claims p i ≤ 8

abbrev pub SoundIsBounded : Type 0
SoundIsBounded = (t : Table) → Sound t → Bounded t

-- No root and no link names a record that is pooled or fresh.
pub record SpotsSafe (t : Table) : Type 0 where
  pub roots : (g : ℕ) (r : Record) → g < 16 → t.shared.roots g ≡ Some r → (t.standing r.number ≢ Pooled) × (t.standing r.number ≢ Fresh)
  pub links : (q x : ℕ) (r : Record) → q < 128 → x < 4 → t.shared.links q x ≡ Some r → (t.standing r.number ≢ Pooled) × (t.standing r.number ≢ Fresh)

abbrev pub SoundIsSafe : Type 0
SoundIsSafe = (t : Table) → Sound t → SpotsSafe t

-- What a station holds, at rest or at work, is not pooled, and a fresh record is held by one station only.
pub record HoldsSafe (t : Table) : Type 0 where
  pub live : (p i : ℕ) (r : Record) → Hold t p i r → t.standing r.number ≢ Pooled
  pub alone : (p q i j : ℕ) (r : Record) → Hold t p i r → Hold t q j r → t.standing r.number ≡ Fresh → p ≡ q

abbrev pub SoundHolds : Type 0
SoundHolds = (t : Table) → Sound t → HoldsSafe t

-- The station p is idle, and k is an index of its list.
pub record IdleEntry (t : Table) (p k : ℕ) : Type 0 where
  pub station : p < t.sizes.stations
  pub idle : (t.seats p).work ≡ None
  pub below : k < length (t.seats p).notes.list

-- A listed record is retired, and listed once.
pub record ListsSafe (t : Table) : Type 0 where
  pub retired : (p k : ℕ) → IdleEntry t p k → t.standing (node_of (t.seats p).notes.list k) ≡ Retired
  pub once : (p q k l : ℕ) → IdleEntry t p k → IdleEntry t q l → node_of (t.seats p).notes.list k ≡ node_of (t.seats q).notes.list l → (p ≡ q) × (k ≡ l)

abbrev pub SoundLists : Type 0
SoundLists = (t : Table) → Sound t → ListsSafe t

-- A record in a place, of a station at rest or at work, is retired, and stands in no other place.
pub record PlacesSafe (t : Table) : Type 0 where
  pub retired : (p j : ℕ) (r : Record) → p < 8 → j < 64 → t.shared.places p j ≡ Some r → t.standing r.number ≡ Retired
  pub once : (p q i j : ℕ) (r : Record) → p < 8 → q < 8 → i < 64 → j < 64 → t.shared.places p i ≡ Some r → t.shared.places q j ≡ Some r → (p ≡ q) × (i ≡ j)

abbrev pub SoundPlaces : Type 0
SoundPlaces = (t : Table) → Sound t → PlacesSafe t

-- Where CLEAN looks at a link, two slots of its station are empty.
pub record TwoEmpty (t : Table) (p : ℕ) : Type 0 where
  pub one : ℕ
  pub other : ℕ
  pub apart : one ≡ other → ⊥
  pub one_below : one < t.sizes.each
  pub other_below : other < t.sizes.each
  pub one_empty : t.shared.slots p one ≡ None
  pub other_empty : t.shared.slots p other ≡ None

abbrev pub CleanHasRoom : Type 0
CleanHasRoom = (t : Table) → Sound t → (p : ℕ) → p < t.sizes.stations → (q : Spot) (c : Clean) → (t.seats p).work ≡ Some (plan [] (Look q (look.CleanLink c))) → TwoEmpty t p

-- A record that an access touches or gives back is not pooled.
abbrev pub TouchesLive : Type 0
TouchesLive = (t : Table) → Sound t → (p : ℕ) → p < t.sizes.stations → (w : Plan) → (t.seats p).work ≡ Some w → (x : Access) → access_of w ≡ Some x →
    (r : Record) → (touched x ≡ Some r) ⊎ (given x ≡ Some r) → t.standing r.number ≢ Pooled

-- An idle station has an empty place in its list, so no DELETE is refused for want of one.
abbrev pub IdleHasPlace : Type 0
IdleHasPlace = (t : Table) → Sound t → (p : ℕ) → p < t.sizes.stations → (t.seats p).work ≡ None → place_free t p ≡ true

-- A record of the table lies in the pool just where it is pooled.
pub record PoolTold (t : Table) : Type 0 where
  pub pooled : (r : ℕ) → t.pool r ≡ true → t.standing r ≡ Pooled
  pub complete : (r : ℕ) → r < t.sizes.records → t.standing r ≡ Pooled → t.pool r ≡ true

abbrev pub SoundPool : Type 0
SoundPool = (t : Table) → Sound t → PoolTold t
