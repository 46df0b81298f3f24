-- What is wrong with bytes that should be a card, in words. Assumes nothing.
use Rattle.std.specs.Prelude.{ℕ, ◌+◌, ◌/◌, List, ◌++◌, length, Ok, Err, codes, decimal, Result}
use Rattle.cards.specs.declared.fault.CardFault.{CardFault}
use Rattle.cards.specs.declared.fault.CardFault.TheVariants.{Length, Field}
use Rattle.cards.specs.Layouts.{most_amount, most_can}
use Rattle.cards.specs.Recipes.{recipe_reading, recipe_size}
use Rattle.cards.specs.Slips.{slip_reading, slip_size}
use Rattle.words.specs.Quantities.{byte_count}
use Rattle.card_words.specs.Words.{tenths, slip_name, slip_words, recipe_name, recipe_words}

-- what is wrong with a card of so many bytes, of a kind with this name and size, and with these words of a field above its limit
abbrev pub fault_words : List ℕ → ℕ → (ℕ → List ℕ) → CardFault → ℕ → List ℕ
fault_words name size bad_field Length given = codes "the card has " ++ (byte_count given ++ (codes ", " ++ (name ++ (codes " has " ++ decimal size))))
fault_words name size bad_field (Field byte) given = bad_field byte

-- four bytes hold any order number, so a slip's bad field is the can size
abbrev pub slip_bad_field : ℕ → List ℕ
slip_bad_field byte =
    codes "the can size is above " ++ (tenths most_can ++ (codes " l (byte " ++ (decimal byte ++ codes " of the card)")))

-- a recipe's amounts have two bytes each and are counted from 1
abbrev pub recipe_bad_field : ℕ → List ℕ
recipe_bad_field byte =
    codes "amount " ++ (decimal (byte / 2 + 1) ++ (codes " is above " ++ (tenths most_amount ++ (codes " g (byte " ++ (decimal byte ++ codes " of the card)")))))

-- what is wrong with a slip or a recipe of so many bytes
abbrev pub slip_fault_words : CardFault → ℕ → List ℕ
slip_fault_words = fault_words slip_name slip_size slip_bad_field

abbrev pub recipe_fault_words : CardFault → ℕ → List ℕ
recipe_fault_words = fault_words recipe_name recipe_size recipe_bad_field

-- the words of a card, or of what is wrong with it
abbrev pub told : {C : Type 0} → (C → List ℕ) → (CardFault → ℕ → List ℕ) → Result C CardFault → ℕ → List ℕ
told words fault_words (Ok card) given = words card
told words fault_words (Err fault) given = fault_words fault given

-- what bytes say as a card of a kind
abbrev pub card_told : {C : Type 0} → List ℕ → ℕ → (C → List ℕ) → (ℕ → List ℕ) → (List ℕ → Result C CardFault) → List ℕ → List ℕ
card_told name size words bad_field reading bs = told words (fault_words name size bad_field) (reading bs) (length bs)

-- what bytes say as a slip, and as a recipe
abbrev pub slip_told : List ℕ → List ℕ
slip_told bs = told slip_words slip_fault_words (slip_reading bs) (length bs)

abbrev pub recipe_told : List ℕ → List ℕ
recipe_told bs = told recipe_words recipe_fault_words (recipe_reading bs) (length bs)
