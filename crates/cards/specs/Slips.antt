-- The slip as a kind of card. Assumes nothing.
use Rattle.std.specs.Prelude.{ℕ, T, List, [], ◌∷◌, Result}
use Rattle.cards.specs.declared.fault.CardFault.{CardFault}
use Rattle.cards.specs.declared.slip.Slip.{Slip}
use Rattle.cards.specs.Fields.{size_of, written, within, card_of, card_in}
use Rattle.cards.specs.Layouts.{slip_fields}

abbrev pub slip_size : ℕ
slip_size = size_of slip_fields

-- the slip of an order number and a can size
abbrev pub slip_made : (vs : List ℕ) → T (within slip_fields vs) → Slip
slip_made [] fit = absurd fit
slip_made (order ∷ []) fit = absurd fit
slip_made (order ∷ can ∷ []) fit = record { order = order; can = can; fits = fit }
slip_made (order ∷ can ∷ v ∷ vs) fit = absurd fit

-- its numbers
abbrev pub slip_numbers : Slip → List ℕ
slip_numbers s = s.order ∷ s.can ∷ []

abbrev pub slip_blank : Slip
slip_blank = slip_made (0 ∷ 0 ∷ []) tt

abbrev pub slip_of : List ℕ → Result Slip CardFault
slip_of = card_of slip_fields slip_made

abbrev pub slip_reading : List ℕ → Result Slip CardFault
slip_reading = card_in slip_fields slip_made

abbrev pub slip_writing : Slip → List ℕ
slip_writing s = written slip_fields (slip_numbers s)
