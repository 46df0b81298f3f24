-- Where a card's fault is told. Assumes nothing.
use Rattle.std.specs.Prelude.{ℕ, ◌+◌, min}
use Rattle.cards.specs.declared.fault.CardFault.{CardFault}
use Rattle.cards.specs.declared.fault.CardFault.TheVariants.{Length, Field}

-- In a line the card starts at byte 3. A wrong length is told there, a bad field at its own first byte. A place
-- is one byte, so it ends at 255; no kind's fault comes near that.
abbrev pub place_in_line : CardFault → ℕ
place_in_line Length = 3
place_in_line (Field offset) = min (3 + offset) 255
