-- How a station's notes tell what it lists, and how far a scan has come.
use Rattle.std.specs.Prelude.{◌≡◌, ℕ, ◌+◌, ◌<◌, ◌≤◌, Bool, false, ◌⊎◌, List, [], length, Some, None, ◌≢◌, slice_index_or}
use Rattle.work.specs.declared.work.Entry.{Entry}
use Rattle.work.specs.declared.work.Reached.{Reached}
use Rattle.work.specs.Plans.{Notes, place}
use Rattle.protocol.specs.Words.{Names}
use Rattle.protocol.specs.State.{Phase, resting, passed}
use Rattle.laws.specs.Mine.{Mine}

-- the entry at index k of a list, its place and its record
abbrev pub entry_at : List Entry → ℕ → Entry
entry_at es k = slice_index_or es k (record { place = place 0; node = record { number = 0 } })

abbrev pub place_of : List Entry → ℕ → ℕ
place_of es k = (entry_at es k).place.index

abbrev pub node_of : List Entry → ℕ → ℕ
node_of es k = (entry_at es k).node.number

-- What is listed is what the first n entries of es and the entries of ks say, each under a place of its own.
pub record Filed (t1 : ℕ) (lists : Names) (es : List Entry) (n : ℕ) (ks : List Entry) : Type 0 where
  pub inside : n ≤ length es
  pub room : n + length ks ≤ t1
  pub front : (k : ℕ) → k < n → lists (place_of es k) ≡ Some (node_of es k)
  pub back : (k : ℕ) → k < length ks → lists (place_of ks k) ≡ Some (node_of ks k)
  pub front_low : (k : ℕ) → k < n → place_of es k < t1
  pub back_low : (k : ℕ) → k < length ks → place_of ks k < t1
  pub front_apart : (k l : ℕ) → k < n → l < n → place_of es k ≡ place_of es l → k ≡ l
  pub back_apart : (k l : ℕ) → k < length ks → l < length ks → place_of ks k ≡ place_of ks l → k ≡ l
  pub apart : (k l : ℕ) → k < n → l < length ks → place_of es k ≢ place_of ks l
  pub only : (j r : ℕ) → lists j ≡ Some r → ((k : ℕ) × (k < n) × (place_of es k ≡ j)) ⊎ ((k : ℕ) × (k < length ks) × (place_of ks k ≡ j))

-- No scan is in the middle of anything: every place rests or was passed.
abbrev pub Settled : (ℕ → Phase) → Type 0
Settled phase = (j : ℕ) → (phase j ≡ resting) ⊎ (phase j ≡ passed)

-- Outside a scan: the whole list is filed, nothing is kept or seen, and every place names what is listed under it.
pub record Unscanned (t1 : ℕ) (n : Notes) (lists place : Names) (phase : ℕ → Phase) : Type 0 where
  pub filed : Filed t1 lists n.list (length n.list) []
  pub kept : n.kept ≡ []
  pub unseen : (r : ℕ) → n.seen r ≡ false
  pub named : (j : ℕ) → place j ≡ lists j
  pub settled : Settled phase

-- The walk stands at this entry of the list.
pub record Stands (n : Notes) (e : Reached) : Type 0 where
  pub below : e.left < length n.list
  pub here : e.entry ≡ entry_at n.list e.left

-- A scan whose first pass has still k entries before it: these rest, the others are passed; no slot is read.
pub record First (n : Notes) (phase : ℕ → Phase) (read : ℕ) (seen : ℕ → Bool) (k : ℕ) : Type 0 where
  pub ahead : (i : ℕ) → i < k → phase (place_of n.list i) ≡ resting
  pub behind : (i : ℕ) → i < length n.list → k ≤ i → phase (place_of n.list i) ≡ passed
  pub unread : read ≡ 0
  pub none_seen : (r : ℕ) → seen r ≡ false

-- The second pass with k entries before it: these are passed; every slot is read; what was seen is noted.
pub record SecondBy (t1 : ℕ) (n : Notes) (lists place : Names) (phase : ℕ → Phase) (read : ℕ) (seen : ℕ → Bool) (k : ℕ) : Type 0 where
  pub filed : Filed t1 (lists) n.list k n.kept
  pub ahead : (i : ℕ) → i < k → phase (place_of n.list i) ≡ passed
  pub all_read : 64 ≤ read
  pub saw : (r : ℕ) → r < 128 → seen r ≡ n.seen r
  pub named : (j : ℕ) → place j ≡ lists j
  pub settled : Settled (phase)

abbrev pub Second : ℕ → Notes → Mine → ℕ → Type 0
Second t1 n m k = SecondBy t1 n m.lists m.place m.phase m.read m.seen k

-- The same at an entry that the scan let through: its place is empty, and its phase is f.
pub record ThroughBy (t1 : ℕ) (n : Notes) (lists place : Names) (phase : ℕ → Phase) (read : ℕ) (seen : ℕ → Bool) (e : Reached) (f : Phase) : Type 0 where
  pub filed : Filed t1 (lists) n.list (e.left + 1) n.kept
  pub ahead : (i : ℕ) → i < e.left → phase (place_of n.list i) ≡ passed
  pub all_read : 64 ≤ read
  pub saw : (r : ℕ) → r < 128 → seen r ≡ n.seen r
  pub here : phase e.entry.place.index ≡ f
  pub empty : place e.entry.place.index ≡ None
  pub named : (j : ℕ) → (j ≢ e.entry.place.index) → place j ≡ lists j
  pub settled : (j : ℕ) → (j ≢ e.entry.place.index) → (phase j ≡ resting) ⊎ (phase j ≡ passed)

abbrev pub Through : ℕ → Notes → Mine → Reached → Phase → Type 0
Through t1 n m e f = ThroughBy t1 n m.lists m.place m.phase m.read m.seen e f
