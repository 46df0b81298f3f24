-- A line of hexadecimal digits, and the bytes that it stands for.
use Rattle.std.specs.Prelude.{◌≡◌, ℕ, ◌+◌, ◌-◌, ◌*◌, ◌/◌, ◌%◌, ◌<◌, ◌≤◌, cond, ◌&&◌, List, [], ◌∷◌, length, take, Some, None, Ok, Err, Option, Result, nat_le, nat_lt}
use Rattle.rooms.specs.Held.{held}
use Rattle.frames.specs.declared.line.LineBytes.{LineBytes}
use Rattle.frames.specs.declared.line.LineText.{LineText}
use Rattle.frames.specs.declared.refusal.LineFault.{LineFault}
use Rattle.frames.specs.declared.refusal.LineFault.TheVariants as fault

-- what the room for a line holds
abbrev pub line_bytes : LineBytes → List ℕ
line_bytes b = held b.items

abbrev pub text_digits : LineText → List ℕ
text_digits t = take (length (held t.signs) - 1) (held t.signs)

abbrev pub text_line : LineText → List ℕ
text_line t = held t.signs

-- bytes are written into the room for a line, or are too many for it
abbrev pub FitsLine : List ℕ → Option LineBytes → Type 0
FitsLine bs (Some b) = (line_bytes b ≡ bs) × (length bs ≤ 64)
FitsLine bs None = 64 < length bs

-- the value of a digit: 0 to 9, A to F or a to f
abbrev pub digit_of : ℕ → Option ℕ
digit_of c =
    cond (nat_le 48 c && nat_le c 57) (Some (c - 48))
    (cond (nat_le 65 c && nat_le c 70) (Some (c - 65 + 10))
    (cond (nat_le 97 c && nat_le c 102) (Some (c - 97 + 10)) None))

-- the byte of two digits, the high one first
abbrev pub joined_digits : Option ℕ → Option ℕ → Option ℕ
joined_digits None low = None
joined_digits (Some high) None = None
joined_digits (Some high) (Some low) = Some (high * 16 + low)

abbrev pub byte_of : ℕ → ℕ → Option ℕ
byte_of a b = joined_digits (digit_of a) (digit_of b)

-- a byte before others, where there are such
abbrev pub before : Option ℕ → Option (List ℕ) → Option (List ℕ)
before None bs = None
before (Some b) None = None
before (Some b) (Some bs) = Some (b ∷ bs)

-- the bytes of pairs of digits
abbrev pub bytes_of_pairs : List ℕ → Option (List ℕ)
bytes_of_pairs [] = Some []
bytes_of_pairs (a ∷ []) = None
bytes_of_pairs (a ∷ b ∷ s) = before (byte_of a b) (bytes_of_pairs s)

-- the bytes of a line: pairs of digits, at most 64 pairs
abbrev pub bytes_of_line : List ℕ → Option (List ℕ)
bytes_of_line s = cond (nat_le (length s) 128) (bytes_of_pairs s) None

-- a line is read as its bytes, or refused for its digits where it has none
abbrev pub Decodes : List ℕ → Result LineBytes LineFault → Type 0
Decodes s (Ok b) = bytes_of_line s ≡ Some (line_bytes b)
Decodes s (Err fault.Digits) = bytes_of_line s ≡ None
Decodes s (Err fault.Shape) = ⊥

-- the capital digit of a value below 16
abbrev pub capital_of : ℕ → ℕ
capital_of d = cond (nat_lt d 10) (48 + d) (65 + (d - 10))

-- bytes as they are written, two capital digits each
abbrev pub written : List ℕ → List ℕ
written [] = []
written (b ∷ bs) = capital_of (b / 16) ∷ capital_of (b % 16) ∷ written bs
