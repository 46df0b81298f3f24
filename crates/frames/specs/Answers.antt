-- The bytes of each answer, and the answer that bytes are.
use Rattle.std.specs.Prelude.{ℕ, ◌≤◌, cond, List, [], ◌∷◌, length, Some, None, Option, ◌==◌}
use Rattle.std.specs.Option.{option_map}
use Rattle.frames.specs.Refusals.{number_of, layer_of, layer_number, refusal_of}
use Rattle.frames.specs.declared.answer.Answer.{Answer}
use Rattle.frames.specs.declared.answer.Answer.TheVariants as answer
use Rattle.frames.specs.declared.refusal.Refusal.{Refusal}
use Rattle.frames.specs.declared.refusal.Refused.{Refused}

-- an answer by its values: a card has its bytes, wherever they lie
pub data AnswerValue : Type 0 where
  ACCEPTED : AnswerValue
  WORKING : AnswerValue
  FINISHED : ℕ → AnswerValue
  CARD : List ℕ → AnswerValue
  REFUSED : Refused → AnswerValue

abbrev pub answer_value : Answer → AnswerValue
answer_value answer.Accepted = ACCEPTED
answer_value answer.Working = WORKING
answer_value (answer.Finished result) = FINISHED result
answer_value (answer.Card card) = CARD card.now
answer_value (answer.Refused w) = REFUSED w

abbrev pub refused_bytes : Refused → List ℕ
refused_bytes w = number_of w.why ∷ layer_number (layer_of w.why) ∷ w.place ∷ []

-- 00, and what is added to it; or number, layer and place
abbrev pub answer_bytes : AnswerValue → List ℕ
answer_bytes ACCEPTED = 0x00 ∷ []
answer_bytes WORKING = 0x00 ∷ 0x00 ∷ []
answer_bytes (FINISHED result) = 0x00 ∷ 0x01 ∷ result ∷ []
answer_bytes (CARD card) = 0x00 ∷ card
answer_bytes (REFUSED w) = refused_bytes w

-- a card is told apart from the other answers if it has three bytes or more
abbrev pub ToldApart : AnswerValue → Type 0
ToldApart ACCEPTED = Unit {0}
ToldApart WORKING = Unit {0}
ToldApart (FINISHED result) = Unit {0}
ToldApart (CARD card) = 3 ≤ length card
ToldApart (REFUSED w) = Unit {0}

-- what is added to 00
abbrev pub granted_of : List ℕ → Option AnswerValue
granted_of [] = Some ACCEPTED
granted_of (a ∷ []) = cond (a == 0x00) (Some WORKING) None
granted_of (a ∷ b ∷ []) = cond (a == 0x01) (Some (FINISHED b)) None
granted_of (a ∷ b ∷ c ∷ more) = Some (CARD (a ∷ b ∷ c ∷ more))

-- the layer has to be that of the number
abbrev pub at_layer : Option Refusal → ℕ → ℕ → Option Refused
at_layer None layer place = None
at_layer (Some w) layer place = cond (layer_number (layer_of w) == layer) (Some (record { why = w; place = place })) None

abbrev pub refused_of : ℕ → ℕ → ℕ → Option Refused
refused_of number layer place = at_layer (refusal_of number) layer place

abbrev pub refusal_line : ℕ → List ℕ → Option AnswerValue
refusal_line number [] = None
refusal_line number (layer ∷ []) = None
refusal_line number (layer ∷ place ∷ []) = option_map REFUSED (refused_of number layer place)
refusal_line number (layer ∷ place ∷ x ∷ more) = None

-- the answer that bytes are, if they are one
abbrev pub answer_of : List ℕ → Option AnswerValue
answer_of [] = None
answer_of (first ∷ rest) = cond (first == 0x00) (granted_of rest) (refusal_line first rest)
