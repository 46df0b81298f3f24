-- The fields of the two kinds. Assumes nothing.
use Rattle.std.specs.Prelude.{ℕ, List, [], ◌∷◌, replicate}
use Rattle.cards.specs.Fields.{NumberField}

-- the largest can, 25.0 l, in tenths of a litre
abbrev pub most_can : ℕ
most_can = 250

-- the largest amount of a colorant, 999.9 g, in tenths of a gram
abbrev pub most_amount : ℕ
most_amount = 9999

-- an order number, any that four bytes can hold, and a can size
abbrev pub slip_fields : List NumberField
slip_fields = record { width = 4; most = 4294967295 } ∷ record { width = 2; most = most_can } ∷ []

-- the amount of one colorant
abbrev pub amount_field : NumberField
amount_field = record { width = 2; most = most_amount }

-- twelve of them, one for each colorant
abbrev pub recipe_fields : List NumberField
recipe_fields = replicate 12 amount_field
