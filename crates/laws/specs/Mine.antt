-- What one station has of its own in a state of the protocol: what nobody else changes.
use Rattle.std.specs.Prelude.{◌≡◌, ℕ, Bool, cond, None, Option, nat_lt}
use Rattle.protocol.specs.Words.{Names}
use Rattle.protocol.specs.State.{State, Phase}
use Rattle.laws.specs.Numbers.{slot_number, place_number}

pub record Mine : Type 0 where
  -- what each of its slots names, and holds
  pub slot : Names
  pub held : Names
  -- what each of its places names and lists, and how far a scan is with it
  pub place : Names
  pub lists : Names
  pub phase : ℕ → Phase
  pub low : ℕ → ℕ
  -- what it owes, has in hand, is about to store and knows of a scan, and its claim
  pub owes_up : Option ℕ
  pub owes_clear : Option ℕ
  pub owes_down : Option ℕ
  pub hand : Option ℕ
  pub wiped : Bool
  pub storing : Option ℕ
  pub known : Bool
  pub saved : Option ℕ
  pub read : ℕ
  pub seen : ℕ → Bool
  pub claiming : Option ℕ
  pub valid : Option ℕ

-- the row of station p's eight slots
unfoldable pub row : Names → ℕ → Names
row f p i = cond (nat_lt i 8) (f (slot_number p i)) None

-- the row of its places
abbrev pub column : {A : Type 0} → (ℕ → A) → ℕ → ℕ → A
column f p j = f (place_number p j)

abbrev pub mine : State → ℕ → Mine
mine a p = record {
  slot = row a.slot p;
  held = row a.held p;
  place = column a.place p;
  lists = column a.lists p;
  phase = column a.phase p;
  low = column a.low p;
  owes_up = a.owes_up p;
  owes_clear = a.owes_clear p;
  owes_down = a.owes_down p;
  hand = a.hand p;
  wiped = a.wiped p;
  storing = a.storing p;
  known = a.known p;
  saved = a.saved p;
  read = a.read p;
  seen = a.seen p;
  claiming = a.claiming p;
  valid = a.valid p;
}

-- It owes nothing, is about to overwrite nothing, and has nothing in hand.
pub record Quiet (m : Mine) : Type 0 where
  pub ups : m.owes_up ≡ None
  pub clears : m.owes_clear ≡ None
  pub downs : m.owes_down ≡ None
  pub stores : m.storing ≡ None
  pub hands : m.hand ≡ None

-- One word of them set and the others left.
abbrev pub put_slot : Names → Mine → Mine
put_slot v m = record { slot = v; held = m.held; place = m.place; lists = m.lists; phase = m.phase; low = m.low; owes_up = m.owes_up; owes_clear = m.owes_clear; owes_down = m.owes_down; hand = m.hand; wiped = m.wiped; storing = m.storing; known = m.known; saved = m.saved; read = m.read; seen = m.seen; claiming = m.claiming; valid = m.valid }

abbrev pub put_held : Names → Mine → Mine
put_held v m = record { slot = m.slot; held = v; place = m.place; lists = m.lists; phase = m.phase; low = m.low; owes_up = m.owes_up; owes_clear = m.owes_clear; owes_down = m.owes_down; hand = m.hand; wiped = m.wiped; storing = m.storing; known = m.known; saved = m.saved; read = m.read; seen = m.seen; claiming = m.claiming; valid = m.valid }

abbrev pub put_place : Names → Mine → Mine
put_place v m = record { slot = m.slot; held = m.held; place = v; lists = m.lists; phase = m.phase; low = m.low; owes_up = m.owes_up; owes_clear = m.owes_clear; owes_down = m.owes_down; hand = m.hand; wiped = m.wiped; storing = m.storing; known = m.known; saved = m.saved; read = m.read; seen = m.seen; claiming = m.claiming; valid = m.valid }

abbrev pub put_lists : Names → Mine → Mine
put_lists v m = record { slot = m.slot; held = m.held; place = m.place; lists = v; phase = m.phase; low = m.low; owes_up = m.owes_up; owes_clear = m.owes_clear; owes_down = m.owes_down; hand = m.hand; wiped = m.wiped; storing = m.storing; known = m.known; saved = m.saved; read = m.read; seen = m.seen; claiming = m.claiming; valid = m.valid }

abbrev pub put_phase : (ℕ → Phase) → Mine → Mine
put_phase v m = record { slot = m.slot; held = m.held; place = m.place; lists = m.lists; phase = v; low = m.low; owes_up = m.owes_up; owes_clear = m.owes_clear; owes_down = m.owes_down; hand = m.hand; wiped = m.wiped; storing = m.storing; known = m.known; saved = m.saved; read = m.read; seen = m.seen; claiming = m.claiming; valid = m.valid }

abbrev pub put_low : (ℕ → ℕ) → Mine → Mine
put_low v m = record { slot = m.slot; held = m.held; place = m.place; lists = m.lists; phase = m.phase; low = v; owes_up = m.owes_up; owes_clear = m.owes_clear; owes_down = m.owes_down; hand = m.hand; wiped = m.wiped; storing = m.storing; known = m.known; saved = m.saved; read = m.read; seen = m.seen; claiming = m.claiming; valid = m.valid }

abbrev pub put_owes_up : (Option ℕ) → Mine → Mine
put_owes_up v m = record { slot = m.slot; held = m.held; place = m.place; lists = m.lists; phase = m.phase; low = m.low; owes_up = v; owes_clear = m.owes_clear; owes_down = m.owes_down; hand = m.hand; wiped = m.wiped; storing = m.storing; known = m.known; saved = m.saved; read = m.read; seen = m.seen; claiming = m.claiming; valid = m.valid }

abbrev pub put_owes_clear : (Option ℕ) → Mine → Mine
put_owes_clear v m = record { slot = m.slot; held = m.held; place = m.place; lists = m.lists; phase = m.phase; low = m.low; owes_up = m.owes_up; owes_clear = v; owes_down = m.owes_down; hand = m.hand; wiped = m.wiped; storing = m.storing; known = m.known; saved = m.saved; read = m.read; seen = m.seen; claiming = m.claiming; valid = m.valid }

abbrev pub put_owes_down : (Option ℕ) → Mine → Mine
put_owes_down v m = record { slot = m.slot; held = m.held; place = m.place; lists = m.lists; phase = m.phase; low = m.low; owes_up = m.owes_up; owes_clear = m.owes_clear; owes_down = v; hand = m.hand; wiped = m.wiped; storing = m.storing; known = m.known; saved = m.saved; read = m.read; seen = m.seen; claiming = m.claiming; valid = m.valid }

abbrev pub put_hand : (Option ℕ) → Mine → Mine
put_hand v m = record { slot = m.slot; held = m.held; place = m.place; lists = m.lists; phase = m.phase; low = m.low; owes_up = m.owes_up; owes_clear = m.owes_clear; owes_down = m.owes_down; hand = v; wiped = m.wiped; storing = m.storing; known = m.known; saved = m.saved; read = m.read; seen = m.seen; claiming = m.claiming; valid = m.valid }

abbrev pub put_wiped : Bool → Mine → Mine
put_wiped v m = record { slot = m.slot; held = m.held; place = m.place; lists = m.lists; phase = m.phase; low = m.low; owes_up = m.owes_up; owes_clear = m.owes_clear; owes_down = m.owes_down; hand = m.hand; wiped = v; storing = m.storing; known = m.known; saved = m.saved; read = m.read; seen = m.seen; claiming = m.claiming; valid = m.valid }

abbrev pub put_storing : (Option ℕ) → Mine → Mine
put_storing v m = record { slot = m.slot; held = m.held; place = m.place; lists = m.lists; phase = m.phase; low = m.low; owes_up = m.owes_up; owes_clear = m.owes_clear; owes_down = m.owes_down; hand = m.hand; wiped = m.wiped; storing = v; known = m.known; saved = m.saved; read = m.read; seen = m.seen; claiming = m.claiming; valid = m.valid }

abbrev pub put_known : Bool → Mine → Mine
put_known v m = record { slot = m.slot; held = m.held; place = m.place; lists = m.lists; phase = m.phase; low = m.low; owes_up = m.owes_up; owes_clear = m.owes_clear; owes_down = m.owes_down; hand = m.hand; wiped = m.wiped; storing = m.storing; known = v; saved = m.saved; read = m.read; seen = m.seen; claiming = m.claiming; valid = m.valid }

abbrev pub put_saved : (Option ℕ) → Mine → Mine
put_saved v m = record { slot = m.slot; held = m.held; place = m.place; lists = m.lists; phase = m.phase; low = m.low; owes_up = m.owes_up; owes_clear = m.owes_clear; owes_down = m.owes_down; hand = m.hand; wiped = m.wiped; storing = m.storing; known = m.known; saved = v; read = m.read; seen = m.seen; claiming = m.claiming; valid = m.valid }

abbrev pub put_read : ℕ → Mine → Mine
put_read v m = record { slot = m.slot; held = m.held; place = m.place; lists = m.lists; phase = m.phase; low = m.low; owes_up = m.owes_up; owes_clear = m.owes_clear; owes_down = m.owes_down; hand = m.hand; wiped = m.wiped; storing = m.storing; known = m.known; saved = m.saved; read = v; seen = m.seen; claiming = m.claiming; valid = m.valid }

abbrev pub put_seen : (ℕ → Bool) → Mine → Mine
put_seen v m = record { slot = m.slot; held = m.held; place = m.place; lists = m.lists; phase = m.phase; low = m.low; owes_up = m.owes_up; owes_clear = m.owes_clear; owes_down = m.owes_down; hand = m.hand; wiped = m.wiped; storing = m.storing; known = m.known; saved = m.saved; read = m.read; seen = v; claiming = m.claiming; valid = m.valid }

abbrev pub put_claiming : (Option ℕ) → Mine → Mine
put_claiming v m = record { slot = m.slot; held = m.held; place = m.place; lists = m.lists; phase = m.phase; low = m.low; owes_up = m.owes_up; owes_clear = m.owes_clear; owes_down = m.owes_down; hand = m.hand; wiped = m.wiped; storing = m.storing; known = m.known; saved = m.saved; read = m.read; seen = m.seen; claiming = v; valid = m.valid }

abbrev pub put_valid : (Option ℕ) → Mine → Mine
put_valid v m = record { slot = m.slot; held = m.held; place = m.place; lists = m.lists; phase = m.phase; low = m.low; owes_up = m.owes_up; owes_clear = m.owes_clear; owes_down = m.owes_down; hand = m.hand; wiped = m.wiped; storing = m.storing; known = m.known; saved = m.saved; read = m.read; seen = m.seen; claiming = m.claiming; valid = v }
