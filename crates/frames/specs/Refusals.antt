-- Every refusal with its number and its layer.
use Rattle.std.specs.Prelude.{◌≡◌, ℕ, cond, List, [], ◌∷◌, Some, None, Option, Result, ok_or, ◌==◌}
use Rattle.frames.specs.declared.refusal.Refusal.{Refusal}
use Rattle.frames.specs.declared.refusal.Refusal.TheVariants as why
use Rattle.frames.specs.declared.refusal.UnknownRefusal.{UnknownRefusal}
use Rattle.frames.specs.declared.refusal.Layer.{Layer}
use Rattle.frames.specs.declared.refusal.Layer.TheVariants as told
use Rattle.frames.specs.declared.refusal.Refused.{Refused}
use Rattle.frames.specs.declared.refusal.LineFault.{LineFault}
use Rattle.frames.specs.declared.refusal.LineFault.TheVariants as fault

-- the number that is printed
abbrev pub number_of : Refusal → ℕ
number_of why.Digits = 1
number_of why.Shape = 2
number_of why.Setup = 3
number_of why.Station = 4
number_of why.Range = 5
number_of why.Card = 6
number_of why.Table = 7
number_of why.Busy = 8
number_of why.Idle = 9
number_of why.NotHeld = 10
number_of why.Slots = 11
number_of why.NotFresh = 12
number_of why.Fresh = 13
number_of why.Retired = 14
number_of why.List = 15

-- the line tells the first two, a card its own, and the table all others
abbrev pub layer_of : Refusal → Layer
layer_of why.Digits = told.Line
layer_of why.Shape = told.Line
layer_of why.Setup = told.Table
layer_of why.Station = told.Table
layer_of why.Range = told.Table
layer_of why.Card = told.Card
layer_of why.Table = told.Table
layer_of why.Busy = told.Table
layer_of why.Idle = told.Table
layer_of why.NotHeld = told.Table
layer_of why.Slots = told.Table
layer_of why.NotFresh = told.Table
layer_of why.Fresh = told.Table
layer_of why.Retired = told.Table
layer_of why.List = told.Table

abbrev pub layer_number : Layer → ℕ
layer_number told.Line = 1
layer_number told.Table = 2
layer_number told.Card = 3

abbrev pub refusals : List Refusal
refusals = why.Digits ∷ why.Shape ∷ why.Setup ∷ why.Station ∷ why.Range ∷ why.Card ∷ why.Table ∷ why.Busy ∷ why.Idle ∷ why.NotHeld ∷ why.Slots ∷ why.NotFresh ∷ why.Fresh ∷ why.Retired ∷ why.List ∷ []

-- the one of a list that has the number
abbrev pub with_number : ℕ → List Refusal → Option Refusal
with_number n [] = None
with_number n (w ∷ ws) = cond (n == number_of w) (Some w) (with_number n ws)

abbrev pub refusal_of : ℕ → Option Refusal
refusal_of n = with_number n refusals

-- the result is the refusal that has the number, or an error with the number where none has it
abbrev pub HasNumber : ℕ → Result Refusal UnknownRefusal → Type 0
HasNumber n r = r ≡ ok_or (refusal_of n) (record { 0 = n })

-- what a fault of the line is refused with, at byte 0
abbrev pub line_refused : LineFault → Refused
line_refused fault.Digits = record { why = why.Digits; place = 0 }
line_refused fault.Shape = record { why = why.Shape; place = 0 }
