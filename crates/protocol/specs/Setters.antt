-- One word of the state set and the others left: a step's outcome is built of these. (The language has no update of
-- a record's field, so each is written out.)
use Rattle.std.specs.Prelude.{ℕ, Bool, ℤ}
use Rattle.terms.specs.declared.Standing.{Standing}
use Rattle.protocol.specs.Words.{Names}
use Rattle.protocol.specs.State.{State, Phase}

abbrev pub set_names : Names → State → State
set_names v s = record { names = v; count = s.count; trace = s.trace; deleted = s.deleted; standing = s.standing; slot = s.slot; place = s.place; claims = s.claims; held = s.held; owes_up = s.owes_up; owes_clear = s.owes_clear; owes_down = s.owes_down; hand = s.hand; wiped = s.wiped; storing = s.storing; known = s.known; saved = s.saved; lists = s.lists; phase = s.phase; low = s.low; read = s.read; seen = s.seen; claiming = s.claiming; valid = s.valid }

abbrev pub set_count : (ℕ → ℤ) → State → State
set_count v s = record { names = s.names; count = v; trace = s.trace; deleted = s.deleted; standing = s.standing; slot = s.slot; place = s.place; claims = s.claims; held = s.held; owes_up = s.owes_up; owes_clear = s.owes_clear; owes_down = s.owes_down; hand = s.hand; wiped = s.wiped; storing = s.storing; known = s.known; saved = s.saved; lists = s.lists; phase = s.phase; low = s.low; read = s.read; seen = s.seen; claiming = s.claiming; valid = s.valid }

abbrev pub set_trace : (ℕ → Bool) → State → State
set_trace v s = record { names = s.names; count = s.count; trace = v; deleted = s.deleted; standing = s.standing; slot = s.slot; place = s.place; claims = s.claims; held = s.held; owes_up = s.owes_up; owes_clear = s.owes_clear; owes_down = s.owes_down; hand = s.hand; wiped = s.wiped; storing = s.storing; known = s.known; saved = s.saved; lists = s.lists; phase = s.phase; low = s.low; read = s.read; seen = s.seen; claiming = s.claiming; valid = s.valid }

abbrev pub set_deleted : (ℕ → Bool) → State → State
set_deleted v s = record { names = s.names; count = s.count; trace = s.trace; deleted = v; standing = s.standing; slot = s.slot; place = s.place; claims = s.claims; held = s.held; owes_up = s.owes_up; owes_clear = s.owes_clear; owes_down = s.owes_down; hand = s.hand; wiped = s.wiped; storing = s.storing; known = s.known; saved = s.saved; lists = s.lists; phase = s.phase; low = s.low; read = s.read; seen = s.seen; claiming = s.claiming; valid = s.valid }

abbrev pub set_standing : (ℕ → Standing) → State → State
set_standing v s = record { names = s.names; count = s.count; trace = s.trace; deleted = s.deleted; standing = v; slot = s.slot; place = s.place; claims = s.claims; held = s.held; owes_up = s.owes_up; owes_clear = s.owes_clear; owes_down = s.owes_down; hand = s.hand; wiped = s.wiped; storing = s.storing; known = s.known; saved = s.saved; lists = s.lists; phase = s.phase; low = s.low; read = s.read; seen = s.seen; claiming = s.claiming; valid = s.valid }

abbrev pub set_slot : Names → State → State
set_slot v s = record { names = s.names; count = s.count; trace = s.trace; deleted = s.deleted; standing = s.standing; slot = v; place = s.place; claims = s.claims; held = s.held; owes_up = s.owes_up; owes_clear = s.owes_clear; owes_down = s.owes_down; hand = s.hand; wiped = s.wiped; storing = s.storing; known = s.known; saved = s.saved; lists = s.lists; phase = s.phase; low = s.low; read = s.read; seen = s.seen; claiming = s.claiming; valid = s.valid }

abbrev pub set_place : Names → State → State
set_place v s = record { names = s.names; count = s.count; trace = s.trace; deleted = s.deleted; standing = s.standing; slot = s.slot; place = v; claims = s.claims; held = s.held; owes_up = s.owes_up; owes_clear = s.owes_clear; owes_down = s.owes_down; hand = s.hand; wiped = s.wiped; storing = s.storing; known = s.known; saved = s.saved; lists = s.lists; phase = s.phase; low = s.low; read = s.read; seen = s.seen; claiming = s.claiming; valid = s.valid }

abbrev pub set_claims : (ℕ → ℕ) → State → State
set_claims v s = record { names = s.names; count = s.count; trace = s.trace; deleted = s.deleted; standing = s.standing; slot = s.slot; place = s.place; claims = v; held = s.held; owes_up = s.owes_up; owes_clear = s.owes_clear; owes_down = s.owes_down; hand = s.hand; wiped = s.wiped; storing = s.storing; known = s.known; saved = s.saved; lists = s.lists; phase = s.phase; low = s.low; read = s.read; seen = s.seen; claiming = s.claiming; valid = s.valid }

abbrev pub set_held : Names → State → State
set_held v s = record { names = s.names; count = s.count; trace = s.trace; deleted = s.deleted; standing = s.standing; slot = s.slot; place = s.place; claims = s.claims; held = v; owes_up = s.owes_up; owes_clear = s.owes_clear; owes_down = s.owes_down; hand = s.hand; wiped = s.wiped; storing = s.storing; known = s.known; saved = s.saved; lists = s.lists; phase = s.phase; low = s.low; read = s.read; seen = s.seen; claiming = s.claiming; valid = s.valid }

abbrev pub set_owes_up : Names → State → State
set_owes_up v s = record { names = s.names; count = s.count; trace = s.trace; deleted = s.deleted; standing = s.standing; slot = s.slot; place = s.place; claims = s.claims; held = s.held; owes_up = v; owes_clear = s.owes_clear; owes_down = s.owes_down; hand = s.hand; wiped = s.wiped; storing = s.storing; known = s.known; saved = s.saved; lists = s.lists; phase = s.phase; low = s.low; read = s.read; seen = s.seen; claiming = s.claiming; valid = s.valid }

abbrev pub set_owes_clear : Names → State → State
set_owes_clear v s = record { names = s.names; count = s.count; trace = s.trace; deleted = s.deleted; standing = s.standing; slot = s.slot; place = s.place; claims = s.claims; held = s.held; owes_up = s.owes_up; owes_clear = v; owes_down = s.owes_down; hand = s.hand; wiped = s.wiped; storing = s.storing; known = s.known; saved = s.saved; lists = s.lists; phase = s.phase; low = s.low; read = s.read; seen = s.seen; claiming = s.claiming; valid = s.valid }

abbrev pub set_owes_down : Names → State → State
set_owes_down v s = record { names = s.names; count = s.count; trace = s.trace; deleted = s.deleted; standing = s.standing; slot = s.slot; place = s.place; claims = s.claims; held = s.held; owes_up = s.owes_up; owes_clear = s.owes_clear; owes_down = v; hand = s.hand; wiped = s.wiped; storing = s.storing; known = s.known; saved = s.saved; lists = s.lists; phase = s.phase; low = s.low; read = s.read; seen = s.seen; claiming = s.claiming; valid = s.valid }

abbrev pub set_hand : Names → State → State
set_hand v s = record { names = s.names; count = s.count; trace = s.trace; deleted = s.deleted; standing = s.standing; slot = s.slot; place = s.place; claims = s.claims; held = s.held; owes_up = s.owes_up; owes_clear = s.owes_clear; owes_down = s.owes_down; hand = v; wiped = s.wiped; storing = s.storing; known = s.known; saved = s.saved; lists = s.lists; phase = s.phase; low = s.low; read = s.read; seen = s.seen; claiming = s.claiming; valid = s.valid }

abbrev pub set_wiped : (ℕ → Bool) → State → State
set_wiped v s = record { names = s.names; count = s.count; trace = s.trace; deleted = s.deleted; standing = s.standing; slot = s.slot; place = s.place; claims = s.claims; held = s.held; owes_up = s.owes_up; owes_clear = s.owes_clear; owes_down = s.owes_down; hand = s.hand; wiped = v; storing = s.storing; known = s.known; saved = s.saved; lists = s.lists; phase = s.phase; low = s.low; read = s.read; seen = s.seen; claiming = s.claiming; valid = s.valid }

abbrev pub set_storing : Names → State → State
set_storing v s = record { names = s.names; count = s.count; trace = s.trace; deleted = s.deleted; standing = s.standing; slot = s.slot; place = s.place; claims = s.claims; held = s.held; owes_up = s.owes_up; owes_clear = s.owes_clear; owes_down = s.owes_down; hand = s.hand; wiped = s.wiped; storing = v; known = s.known; saved = s.saved; lists = s.lists; phase = s.phase; low = s.low; read = s.read; seen = s.seen; claiming = s.claiming; valid = s.valid }

abbrev pub set_known : (ℕ → Bool) → State → State
set_known v s = record { names = s.names; count = s.count; trace = s.trace; deleted = s.deleted; standing = s.standing; slot = s.slot; place = s.place; claims = s.claims; held = s.held; owes_up = s.owes_up; owes_clear = s.owes_clear; owes_down = s.owes_down; hand = s.hand; wiped = s.wiped; storing = s.storing; known = v; saved = s.saved; lists = s.lists; phase = s.phase; low = s.low; read = s.read; seen = s.seen; claiming = s.claiming; valid = s.valid }

abbrev pub set_saved : Names → State → State
set_saved v s = record { names = s.names; count = s.count; trace = s.trace; deleted = s.deleted; standing = s.standing; slot = s.slot; place = s.place; claims = s.claims; held = s.held; owes_up = s.owes_up; owes_clear = s.owes_clear; owes_down = s.owes_down; hand = s.hand; wiped = s.wiped; storing = s.storing; known = s.known; saved = v; lists = s.lists; phase = s.phase; low = s.low; read = s.read; seen = s.seen; claiming = s.claiming; valid = s.valid }

abbrev pub set_lists : Names → State → State
set_lists v s = record { names = s.names; count = s.count; trace = s.trace; deleted = s.deleted; standing = s.standing; slot = s.slot; place = s.place; claims = s.claims; held = s.held; owes_up = s.owes_up; owes_clear = s.owes_clear; owes_down = s.owes_down; hand = s.hand; wiped = s.wiped; storing = s.storing; known = s.known; saved = s.saved; lists = v; phase = s.phase; low = s.low; read = s.read; seen = s.seen; claiming = s.claiming; valid = s.valid }

abbrev pub set_phase : (ℕ → Phase) → State → State
set_phase v s = record { names = s.names; count = s.count; trace = s.trace; deleted = s.deleted; standing = s.standing; slot = s.slot; place = s.place; claims = s.claims; held = s.held; owes_up = s.owes_up; owes_clear = s.owes_clear; owes_down = s.owes_down; hand = s.hand; wiped = s.wiped; storing = s.storing; known = s.known; saved = s.saved; lists = s.lists; phase = v; low = s.low; read = s.read; seen = s.seen; claiming = s.claiming; valid = s.valid }

abbrev pub set_low : (ℕ → ℕ) → State → State
set_low v s = record { names = s.names; count = s.count; trace = s.trace; deleted = s.deleted; standing = s.standing; slot = s.slot; place = s.place; claims = s.claims; held = s.held; owes_up = s.owes_up; owes_clear = s.owes_clear; owes_down = s.owes_down; hand = s.hand; wiped = s.wiped; storing = s.storing; known = s.known; saved = s.saved; lists = s.lists; phase = s.phase; low = v; read = s.read; seen = s.seen; claiming = s.claiming; valid = s.valid }

abbrev pub set_read : (ℕ → ℕ) → State → State
set_read v s = record { names = s.names; count = s.count; trace = s.trace; deleted = s.deleted; standing = s.standing; slot = s.slot; place = s.place; claims = s.claims; held = s.held; owes_up = s.owes_up; owes_clear = s.owes_clear; owes_down = s.owes_down; hand = s.hand; wiped = s.wiped; storing = s.storing; known = s.known; saved = s.saved; lists = s.lists; phase = s.phase; low = s.low; read = v; seen = s.seen; claiming = s.claiming; valid = s.valid }

abbrev pub set_seen : (ℕ → ℕ → Bool) → State → State
set_seen v s = record { names = s.names; count = s.count; trace = s.trace; deleted = s.deleted; standing = s.standing; slot = s.slot; place = s.place; claims = s.claims; held = s.held; owes_up = s.owes_up; owes_clear = s.owes_clear; owes_down = s.owes_down; hand = s.hand; wiped = s.wiped; storing = s.storing; known = s.known; saved = s.saved; lists = s.lists; phase = s.phase; low = s.low; read = s.read; seen = v; claiming = s.claiming; valid = s.valid }

abbrev pub set_claiming : Names → State → State
set_claiming v s = record { names = s.names; count = s.count; trace = s.trace; deleted = s.deleted; standing = s.standing; slot = s.slot; place = s.place; claims = s.claims; held = s.held; owes_up = s.owes_up; owes_clear = s.owes_clear; owes_down = s.owes_down; hand = s.hand; wiped = s.wiped; storing = s.storing; known = s.known; saved = s.saved; lists = s.lists; phase = s.phase; low = s.low; read = s.read; seen = s.seen; claiming = v; valid = s.valid }

abbrev pub set_valid : Names → State → State
set_valid v s = record { names = s.names; count = s.count; trace = s.trace; deleted = s.deleted; standing = s.standing; slot = s.slot; place = s.place; claims = s.claims; held = s.held; owes_up = s.owes_up; owes_clear = s.owes_clear; owes_down = s.owes_down; hand = s.hand; wiped = s.wiped; storing = s.storing; known = s.known; saved = s.saved; lists = s.lists; phase = s.phase; low = s.low; read = s.read; seen = s.seen; claiming = s.claiming; valid = v }
