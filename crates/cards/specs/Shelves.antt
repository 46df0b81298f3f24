-- What is done to a shelf of cards, whatever their kind. Assumes nothing.
use Rattle.std.specs.Prelude.{◌≡◌, ℕ, ◌<◌, ◌≤◌, List, length, Some, None, Ok, Err, Option, Result, slice_index_or, slice_set}
use Rattle.cards.specs.declared.card_bytes.CardBytes.{CardBytes}
use Rattle.cards.specs.declared.fault.CardFault.{CardFault}
use Rattle.cards.specs.declared.shelf.ShelfFault.{ShelfFault}
use Rattle.cards.specs.declared.shelf.ShelfFault.TheVariants.{NoCard, Card}
use Rattle.cards.specs.CardBytes.{held}

-- Filling the card at an index from bytes: the answer, and the shelf before and after. The index is looked at
-- before the bytes.
abbrev pub Fills : {C : Type 0} → (List ℕ → Result C CardFault) → (C → List ℕ) → List C → ℕ → List ℕ → Result (Unit {0}) ShelfFault → List C → Type 0
Fills {C} reading writing before index bytes (Ok done) after =
    (index < length before) × ((card : C) × (reading bytes ≡ Ok card) × (writing card ≡ bytes) × (after ≡ slice_set before index card))
Fills reading writing before index bytes (Err NoCard) after = (length before ≤ index) × (after ≡ before)
Fills reading writing before index bytes (Err (Card fault)) after = (index < length before) × (reading bytes ≡ Err fault) × (after ≡ before)

-- the bytes of the card at an index; none exactly past the end
abbrev pub ReadAt : {C : Type 0} → (C → List ℕ) → C → List C → ℕ → Option CardBytes → Type 0
ReadAt writing blank cards index None = length cards ≤ index
ReadAt writing blank cards index (Some b) = (index < length cards) × (held b ≡ writing (slice_index_or cards index blank))
