-- Cards that are made of numbers: each field has a width and a limit, and the most significant byte comes first.
-- Assumes nothing.
use Rattle.std.specs.Prelude.{ℕ, zero, suc, ◌+◌, ◌/◌, ◌%◌, ◌^◌, Bool, true, false, cond, ◌&&◌, T, List, [], ◌∷◌, ◌++◌, length, take, drop, Ok, Err, Result, ◌==◌, nat_le, nat_lt}
use Rattle.std.specs.Int.Digits.{number_from_digits}
use Rattle.cards.specs.declared.fault.CardFault.{CardFault}
use Rattle.cards.specs.declared.fault.CardFault.TheVariants.{Length, Field}

-- a number in a card: how many bytes it has, and the greatest that it may be
pub record NumberField : Type 0 where
  pub width : ℕ
  pub most : ℕ

-- how many bytes such a card has
abbrev pub size_of : List NumberField → ℕ
size_of [] = 0
size_of (f ∷ fs) = f.width + size_of fs

-- the numbers in the bytes, field by field
abbrev pub numbers : List NumberField → List ℕ → List ℕ
numbers [] bs = []
numbers (f ∷ fs) bs = number_from_digits 256 (take f.width bs) ∷ numbers fs (drop f.width bs)

-- the bytes of one number
abbrev pub bytes_of : ℕ → ℕ → List ℕ
bytes_of zero n = []
bytes_of (suc w) n = bytes_of w (n / 256) ++ (n % 256) ∷ []

-- the bytes of the numbers, field by field
abbrev pub written : List NumberField → List ℕ → List ℕ
written [] vs = []
written (f ∷ fs) [] = []
written (f ∷ fs) (v ∷ vs) = bytes_of f.width v ++ written fs vs

-- a number for each field, each at most the field's limit
abbrev pub within : List NumberField → List ℕ → Bool
within [] [] = true
within [] (v ∷ vs) = false
within (f ∷ fs) [] = false
within (f ∷ fs) (v ∷ vs) = within fs vs && nat_le v f.most

-- the offset of the first field whose number is above its limit
abbrev pub first_over : List NumberField → List ℕ → ℕ
first_over [] vs = 0
first_over (f ∷ fs) [] = 0
first_over (f ∷ fs) (v ∷ vs) = cond (nat_le v f.most) (f.width + first_over fs vs) 0

-- a value that may use that the test passed, or else another
abbrev pub checked : {X : Type 0} (b : Bool) → (T b → X) → X → X
checked true pass other = pass tt
checked false pass other = other

-- the card of these numbers, or the first field whose number is above its limit
abbrev pub card_of : {C : Type 0} (fs : List NumberField) (make : (vs : List ℕ) → T (within fs vs) → C) → List ℕ → Result C CardFault
card_of fs make vs = checked (within fs vs) (λ fit. Ok (make vs fit)) (Err (Field (first_over fs vs)))

-- the card in these bytes; a wrong length is told before any field
abbrev pub card_in : {C : Type 0} (fs : List NumberField) (make : (vs : List ℕ) → T (within fs vs) → C) → List ℕ → Result C CardFault
card_in fs make bs = cond (length bs == size_of fs) (card_of fs make (numbers fs bs)) (Err Length)

-- each field has a byte or more, and its limit fits its bytes
abbrev pub sound : List NumberField → Bool
sound [] = true
sound (f ∷ fs) = sound fs && (nat_lt 0 f.width && nat_lt f.most (256 ^ f.width))
