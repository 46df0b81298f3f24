-- The words of cards, as bytes. Assumes nothing.
use Rattle.std.specs.Prelude.{ℕ, ◌+◌, ◌/◌, ◌%◌, Bool, true, false, cond, List, [], ◌∷◌, ◌++◌, codes, decimal, ◌==◌}
use Rattle.cards.specs.declared.recipe.Recipe.{Recipe}
use Rattle.cards.specs.declared.slip.Slip.{Slip}

-- tenths of a unit, with one digit after the point
abbrev pub tenths : ℕ → List ℕ
tenths n = decimal (n / 10) ++ (codes "." ++ decimal (n % 10))

-- what the two kinds are called
abbrev pub slip_name : List ℕ
slip_name = codes "a slip"

abbrev pub recipe_name : List ℕ
recipe_name = codes "a recipe"

abbrev pub slip_words : Slip → List ℕ
slip_words s = codes "order " ++ (decimal s.order ++ (codes ", can " ++ (tenths s.can ++ codes " l")))

-- what is poured of one colorant; a comma stands before it unless it is the first
abbrev pub pour : Bool → ℕ → ℕ → List ℕ
pour true colorant amount = codes "colorant " ++ (decimal colorant ++ (codes ": " ++ (tenths amount ++ codes " g")))
pour false colorant amount = codes ", colorant " ++ (decimal colorant ++ (codes ": " ++ (tenths amount ++ codes " g")))

-- what is poured of the colorants from this one on; those of which there is nothing are left out
abbrev pub pours : Bool → ℕ → List ℕ → List ℕ
pours first colorant [] = cond first (codes "nothing to pour") []
pours first colorant (amount ∷ rest) =
    cond (amount == 0) (pours first (colorant + 1) rest) (pour first colorant amount ++ pours false (colorant + 1) rest)

-- the colorants are counted from 1
abbrev pub recipe_words : Recipe → List ℕ
recipe_words r = pours true 1 r.amounts
