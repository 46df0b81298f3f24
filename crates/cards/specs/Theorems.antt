-- What is shown of cards, whatever their kind, and of the blank ones. Assumes nothing.
use Rattle.std.specs.Prelude.{◌≡◌, ℕ, ◌+◌, ◌<◌, ◌≤◌, List, replicate, Some, Ok, Err, Result}
use Rattle.cards.specs.declared.card_bytes.CardBytes.{CardBytes}
use Rattle.cards.specs.declared.fault.CardFault.{CardFault}
use Rattle.cards.specs.declared.fault.CardFault.TheVariants.{Field}
use Rattle.cards.specs.declared.shelf.ShelfFault.{ShelfFault}
use Rattle.cards.specs.CardBytes.{held}
use Rattle.cards.specs.Faults.{place_in_line}
use Rattle.cards.specs.Recipes.{recipe_size, recipe_blank, recipe_writing}
use Rattle.cards.specs.Shelves.{Fills, ReadAt}
use Rattle.cards.specs.Slips.{slip_size, slip_blank, slip_writing}

-- what is read after a fill is the bytes filled
abbrev pub FillReadsBack : {C : Type 0} → (List ℕ → Result C CardFault) → (C → List ℕ) → C → Type 0
FillReadsBack {C} reading writing blank =
    (before after : List C) (index : ℕ) (bytes : List ℕ) (b : CardBytes) → Fills reading writing before index bytes (Ok tt) after → ReadAt writing blank after index (Some b) → held b ≡ bytes

-- a refused fill changes no card
abbrev pub RefusedKeeps : {C : Type 0} → (List ℕ → Result C CardFault) → (C → List ℕ) → Type 0
RefusedKeeps {C} reading writing =
    (before after : List C) (index : ℕ) (bytes : List ℕ) (fault : ShelfFault) → Fills reading writing before index bytes (Err fault) after → after ≡ before

-- a bad field is told at its own first byte, which is one of the card's in a line of at most 64 bytes
abbrev pub FaultsInLine : {C : Type 0} → ℕ → (List ℕ → Result C CardFault) → Type 0
FaultsInLine size reading =
    (bytes : List ℕ) (offset : ℕ) → reading bytes ≡ Err (Field offset) → (place_in_line (Field offset) ≡ 3 + offset) × (3 + offset < 3 + size) × (3 + size ≤ 64)

-- the blank card of either kind is written as zeros
abbrev pub BlanksAreZero : Type 0
BlanksAreZero = (slip_writing slip_blank ≡ replicate slip_size 0) × (recipe_writing recipe_blank ≡ replicate recipe_size 0)
