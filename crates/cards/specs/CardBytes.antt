-- The bytes that a place of fixed size holds. Assumes nothing.
use Rattle.std.specs.Prelude.{ℕ, List}
use Rattle.rooms.specs.Held.{held as items_of}
use Rattle.cards.specs.declared.card_bytes.CardBytes.{CardBytes}

abbrev pub held : CardBytes → List ℕ
held b = items_of b.bytes
