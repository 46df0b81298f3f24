-- What a room holds.
use Rattle.std.specs.Prelude.{◌≡◌, ℕ, ◌+◌, ◌<◌, ◌≤◌, List, ◌++◌, length, take, Result, Ok, Err}
use Rattle.rooms.specs.declared.room.Room.{Room}
use Rattle.rooms.specs.declared.room.Full.{Full}

-- its items, from the first on
abbrev pub held : {T : Type 0} {N : ℕ} → Room T N → List T
held r = take r.len r.places

-- items come in behind the others, or there are too few places and the others stay
abbrev pub LetsIn : {T : Type 0} → ℕ → List T → List T → Result Unit Full → List T → Type 0
LetsIn n before more (Ok u) after = (after ≡ before ++ more) × (length after ≤ n)
LetsIn n before more (Err e) after = (after ≡ before) × (n < length before + length more)
