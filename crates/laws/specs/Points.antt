-- What a station has of its own at each decision, once it owes nothing.
use Rattle.std.specs.Prelude.{◌≡◌, ℕ, ◌+◌, ◌<◌, ◌≤◌, true, [], length, Some, None, Option, ◌≢◌}
use Rattle.terms.specs.declared.Record.{Record}
use Rattle.terms.specs.declared.Station.{Station}
use Rattle.terms.specs.declared.Place.{Place}
use Rattle.terms.specs.declared.Position.{Position}
use Rattle.terms.specs.declared.Spot.{Spot}
use Rattle.terms.specs.declared.Spot.TheVariants as at
use Rattle.work.specs.declared.work.Round.{Round}
use Rattle.work.specs.declared.work.Round.TheVariants.{Own, All}
use Rattle.work.specs.declared.work.Clean.{Clean}
use Rattle.work.specs.declared.work.AfterLook.{AfterLook}
use Rattle.work.specs.declared.work.AfterLook.TheVariants as look
use Rattle.work.specs.declared.work.AfterSwap.{AfterSwap}
use Rattle.work.specs.declared.work.AfterSwap.TheVariants as swap
use Rattle.work.specs.declared.work.AfterStore.{AfterStore}
use Rattle.work.specs.declared.work.AfterStore.TheVariants as store
use Rattle.work.specs.declared.work.Point.{Point}
use Rattle.work.specs.declared.work.Point.TheVariants.{End, Take, Look, LookAgain, Verify, Swap, Save, Overwrite, AskDeleted, AskPlace, AskDone, AskPlaceAgain, CountFirst, CountAgain, AskSlot, CountSecond, AskTrace, AskClaims, AskLink, Give}
use Rattle.work.specs.Plans.{Notes, position}
use Rattle.machine.specs.Tables.{Sizes}
use Rattle.protocol.specs.Words.{Names}
use Rattle.protocol.specs.State.{Phase, marking, passed, emptied, giving}
use Rattle.laws.specs.Numbers.{slot_number, place_number, spot_number}
use Rattle.laws.specs.Agree.{num}
use Rattle.laws.specs.Mine.{Mine, Quiet}
use Rattle.laws.specs.Lists.{Unscanned, Stands, First, Second, Through, place_of, node_of, Filed, Settled}

-- Every slot holds what it names.
abbrev pub Firm : (slot held : Names) → Type 0
Firm slot held = (i : ℕ) → held i ≡ slot i

-- The slot i is being dereferenced into; every other one holds what it names.
pub record Opened (each : ℕ) (slot held : Names) (i : ℕ) : Type 0 where
  pub below : i < each
  pub unheld : held i ≡ None
  pub others : (k : ℕ) → (k ≢ i) → held k ≡ slot k

-- an empty slot
pub record Empty (each : ℕ) (slot : Names) (i : ℕ) : Type 0 where
  pub below : i < each
  pub none : slot i ≡ None

-- a slot that names r
pub record Naming (each : ℕ) (slot : Names) (r : Option ℕ) (i : ℕ) : Type 0 where
  pub below : i < each
  pub names : slot i ≡ r

-- one empty slot, two of them, and one beside i
abbrev pub Room : ℕ → Names → Type 0
Room each slot = (i : ℕ) × Empty each slot i

abbrev pub TwoRooms : ℕ → Names → Type 0
TwoRooms each slot = (i : ℕ) × (j : ℕ) × (i ≢ j) × Empty each slot i × Empty each slot j

abbrev pub RoomBeside : ℕ → Names → ℕ → Type 0
RoomBeside each slot i = (k : ℕ) × (k ≢ i) × Empty each slot k

-- some slot holds r
abbrev pub HeldHere : Names → ℕ → Type 0
HeldHere held r = (k : ℕ) × (k < 8) × (held k ≡ Some r)

abbrev pub Carried : Names → Option Record → Type 0
Carried held v = (r : ℕ) → num v ≡ Some r → HeldHere held r

-- A spot that an operation may name: a root, or a link of a record that the station holds.
abbrev pub Within : Sizes → Names → Spot → Type 0
Within z held (at.Root g) = g.index < 16
Within z held (at.Link r x) = (x.index < z.positions) × HeldHere held r.number

-- A station whose list is shorter than T1, as it is outside DELETE, and that claims nothing.
pub record Steady (z : Sizes) (n : Notes) (lists place : Names) (phase : ℕ → Phase) (claiming : Option ℕ) : Type 0 where
  pub unscanned : Unscanned z.t1 n lists place phase
  pub short : length n.list < z.t1
  pub claimless : claiming ≡ None

-- Why a record may be cleaned: it is in the own list, or was found in a claimed place.
abbrev pub Cleanable : Sizes → Notes → (claiming valid : Option ℕ) → ℕ → Round → Type 0
Cleanable z n claiming valid r (Own left) = (claiming ≡ None) × (left < length n.list) × (node_of n.list left ≡ r)
Cleanable z n claiming valid r (All q i) = (claiming ≡ Some (place_number q.number i.index)) × (valid ≡ Some r) × (q.number < z.stations) × (i.index < z.t1)

-- A CLEAN at one link of such a record.
pub record CleaningBy (z : Sizes) (n : Notes) (lists place : Names) (phase : ℕ → Phase) (claiming valid : Option ℕ) (c : Clean) : Type 0 where
  pub unscanned : Unscanned z.t1 n lists place phase
  pub below : c.position.index < z.positions
  pub cleanable : Cleanable z n claiming valid c.node.number c.round

abbrev pub Cleaning : Sizes → Notes → Mine → Clean → Type 0
Cleaning z n m c = CleaningBy z n m.lists m.place m.phase m.claiming m.valid c

abbrev pub clean_spot : Clean → Spot
clean_spot c = Spot.Link c.node c.position

abbrev pub next_spot : Sizes → Clean → Record → Spot
next_spot z c r = Spot.Link r (position (z.follow c.position.index))

-- Before the slot of a dereference is chosen,
abbrev pub Before : Sizes → Notes → Mine → Spot → AfterLook → Type 0
Before z n m q look.Answer = Steady z n m.lists m.place m.phase m.claiming × Within z m.held q × TwoRooms z.each m.slot
Before z n m q (look.CleanLink c) = Cleaning z n m c × (q ≡ clean_spot c) × TwoRooms z.each m.slot
Before z n m q (look.CleanNext c r) = Cleaning z n m c × (q ≡ next_spot z c r) × Room z.each m.slot × ((l : ℕ) × Naming z.each m.slot (Some r.number) l)

-- and while it is the slot i.
abbrev pub During : Sizes → Notes → Mine → Spot → ℕ → AfterLook → Type 0
During z n m q i look.Answer = Steady z n m.lists m.place m.phase m.claiming × Within z m.held q × RoomBeside z.each m.slot i
During z n m q i (look.CleanLink c) = Cleaning z n m c × (q ≡ clean_spot c) × RoomBeside z.each m.slot i
During z n m q i (look.CleanNext c r) = Cleaning z n m c × (q ≡ next_spot z c r) × ((l : ℕ) × (l ≢ i) × Naming z.each m.slot (Some r.number) l)

-- At a swap, by where it goes on.
abbrev pub Swapping : Sizes → Notes → Mine → Spot → (old new : Option Record) → AfterSwap → Type 0
Swapping z n m q old new swap.Answer = Steady z n m.lists m.place m.phase m.claiming × Within z m.held q × Carried m.held new × Room z.each m.slot
Swapping z n m q old new (swap.CleanSwap c r t) =
    Cleaning z n m c × (q ≡ clean_spot c) × (old ≡ Some r) × (new ≡ t) ×
    ((l : ℕ) × (k : ℕ) × (l ≢ k) × Naming z.each m.slot (Some r.number) l × Naming z.each m.slot (num t) k)
Swapping z n m q old new (swap.ClearLink e x) =
    Stands n e × Through z.t1 n m e emptied × (x.index < z.positions) × (q ≡ Spot.Link e.entry.node x) × (new ≡ None) × (m.claiming ≡ None) × TwoRooms z.each m.slot

-- What a station that is about to store is known by: it owes nothing and has nothing in hand.
pub record Storing (m : Mine) (q : Spot) : Type 0 where
  pub ups : m.owes_up ≡ None
  pub clears : m.owes_clear ≡ None
  pub downs : m.owes_down ≡ None
  pub hands : m.hand ≡ None
  pub spot : m.storing ≡ Some (spot_number q)

-- STORE is known to overwrite from its beginning on; in giving back each store begins with its read.
abbrev pub Saving : Mine → Spot → AfterStore → Type 0
Saving m q store.Answer = Storing m q
Saving m q (store.GiveBack e x) = Quiet m

-- At a store, by where it goes on.
abbrev pub Into : Sizes → Notes → Mine → Spot → Option Record → AfterStore → Type 0
Into z n m q new store.Answer =
    Steady z n m.lists m.place m.phase m.claiming × ((r : Record) × (x : Position) × (q ≡ Spot.Link r x) × (x.index < z.positions) × HeldHere m.held r.number) × Carried m.held new × Room z.each m.slot
Into z n m q new (store.GiveBack e x) =
    Stands n e × Through z.t1 n m e giving × (x.index < z.positions) × (q ≡ Spot.Link e.entry.node x) × (new ≡ None) × (m.low e.entry.place.index ≡ x.index) × (m.claiming ≡ None) × TwoRooms z.each m.slot

-- In CLEAN ALL, at a place of a station.
pub record RoundingBy (z : Sizes) (n : Notes) (lists place : Names) (phase : ℕ → Phase) (claiming : Option ℕ) (slot : Names) (q : Station) (i : Place) (c : Option ℕ) : Type 0 where
  pub unscanned : Unscanned z.t1 n lists place phase
  pub station_in : q.number < z.stations
  pub place_in : i.index < z.t1
  pub claim : claiming ≡ c
  pub rooms : TwoRooms z.each slot

abbrev pub Rounding : Sizes → Notes → Mine → Station → Place → Option ℕ → Type 0
Rounding z n m q i c = RoundingBy z n m.lists m.place m.phase m.claiming m.slot q i c

-- In SCAN: no claim, and two empty slots.
abbrev pub Scanning : Sizes → Mine → Type 0
Scanning z m = (m.claiming ≡ None) × TwoRooms z.each m.slot

-- Each decision. An operation that has ended leaves its station as at End.
abbrev pub AtPoint : Sizes → Notes → Point → Mine → Type 0
AtPoint z n (End o) m = Quiet m × Firm m.slot m.held × Steady z n m.lists m.place m.phase m.claiming × Room z.each m.slot
AtPoint z n Take m = Quiet m × Firm m.slot m.held × Steady z n m.lists m.place m.phase m.claiming × TwoRooms z.each m.slot
AtPoint z n (Look q g) m = Quiet m × Firm m.slot m.held × Before z n m q g
AtPoint z n (LookAgain q i g) m = Quiet m × Opened z.each m.slot m.held i.index × During z n m q i.index g
AtPoint z n (Verify q i v g) m = Quiet m × Opened z.each m.slot m.held i.index × During z n m q i.index g × (m.slot i.index ≡ num v)
AtPoint z n (Swap q o v g) m = Quiet m × Firm m.slot m.held × Swapping z n m q o v g
AtPoint z n (Save q v g) m = Saving m q g × Firm m.slot m.held × Into z n m q v g
AtPoint z n (Overwrite q o v g) m = Storing m q × Firm m.slot m.held × Into z n m q v g × (m.known ≡ true) × (m.saved ≡ num o)
AtPoint z n (AskDeleted c r) m = Quiet m × Firm m.slot m.held × Cleaning z n m c × Room z.each m.slot × ((l : ℕ) × Naming z.each m.slot (Some r.number) l)
AtPoint z n (AskPlace q i) m = Quiet m × Firm m.slot m.held × Rounding z n m q i None
AtPoint z n (AskDone q i r) m = Quiet m × Firm m.slot m.held × Rounding z n m q i None
AtPoint z n (AskPlaceAgain q i r) m = Quiet m × Firm m.slot m.held × Rounding z n m q i (Some (place_number q.number i.index))
AtPoint z n (CountFirst e) m =
    Quiet m × Firm m.slot m.held × Scanning z m × Unscanned z.t1 n m.lists m.place m.phase × Stands n e × First n m.phase m.read m.seen (e.left + 1)
AtPoint z n (CountAgain e) m =
    Quiet m × Firm m.slot m.held × Scanning z m × Stands n e × (m.phase e.entry.place.index ≡ marking) ×
    ((f : ℕ → Phase) × Unscanned z.t1 n m.lists m.place f × First n f m.read m.seen (e.left + 1) × ((j : ℕ) → (j ≢ e.entry.place.index) → m.phase j ≡ f j))
AtPoint z n (AskSlot q i) m =
    Quiet m × Firm m.slot m.held × Scanning z m × Filed z.t1 m.lists n.list (length n.list) [] × (n.kept ≡ []) × ((j : ℕ) → m.place j ≡ m.lists j) × Settled m.phase ×
    (0 < length n.list) × ((k : ℕ) → k < length n.list → m.phase (place_of n.list k) ≡ passed) × (q.number < z.stations) × (i.index < z.each) × (m.read ≡ slot_number q.number i.index) ×
    ((r : ℕ) → r < 128 → m.seen r ≡ n.seen r)
AtPoint z n (CountSecond e) m = Quiet m × Firm m.slot m.held × Scanning z m × Stands n e × Second z.t1 n m (e.left + 1)
AtPoint z n (AskTrace e) m = Quiet m × Firm m.slot m.held × Scanning z m × Stands n e × Second z.t1 n m (e.left + 1)
AtPoint z n (AskClaims e) m = Quiet m × Firm m.slot m.held × Scanning z m × Stands n e × Through z.t1 n m e emptied
AtPoint z n (AskLink e x) m = Quiet m × Firm m.slot m.held × Scanning z m × Stands n e × Through z.t1 n m e emptied × (x.index < z.positions)
AtPoint z n (Give e) m = Quiet m × Firm m.slot m.held × Scanning z m × Stands n e × Through z.t1 n m e giving × (z.positions ≤ m.low e.entry.place.index)
