-- What writing and reading do to each other.
use Rattle.std.specs.Prelude.{◌≡◌, ℕ, ◌<◌, ◌≤◌, ◌⊎◌, List, map, length, Some}
use Rattle.std.specs.Char.{to_ascii_uppercase}
use Rattle.std.specs.List.{AllByRecursion}
use Rattle.frames.specs.Answers.{AnswerValue, answer_bytes, answer_of, ToldApart}
use Rattle.frames.specs.Frames.{FrameValue, frame_bytes, frame_of}
use Rattle.frames.specs.Hexadecimal.{bytes_of_line, written}

abbrev pub Bytes : List ℕ → Type 0
Bytes bs = AllByRecursion (λ b. b < 256) bs

-- bytes that are written as a line are read back from it
abbrev pub BytesComeBack : Type 0
BytesComeBack = (bs : List ℕ) → Bytes bs → length bs ≤ 64 → bytes_of_line (written bs) ≡ Some bs

-- 0 to 9 or A to F
abbrev pub Capital : ℕ → Type 0
Capital c = ((48 ≤ c) × (c ≤ 57)) ⊎ ((65 ≤ c) × (c ≤ 70))

-- what is written is in capitals throughout
abbrev pub OnlyCapitals : Type 0
OnlyCapitals = (bs : List ℕ) → Bytes bs → AllByRecursion Capital (written bs)

-- two lines that differ in nothing but the case of letters are read alike
abbrev pub CaseIsFree : Type 0
CaseIsFree = (s t : List ℕ) → map to_ascii_uppercase s ≡ map to_ascii_uppercase t → bytes_of_line s ≡ bytes_of_line t

-- the bytes of a frame are sorted as that frame
abbrev pub FramesComeBack : Type 0
FramesComeBack = (f : FrameValue) → frame_of (frame_bytes f) ≡ Some f

-- and no other bytes are
abbrev pub FramesAlone : Type 0
FramesAlone = (bs : List ℕ) (f : FrameValue) → frame_of bs ≡ Some f → frame_bytes f ≡ bs

-- a frame that fits a line is read back from the line that it is written as
abbrev pub FrameLinesComeBack : Type 0
FrameLinesComeBack =
    (f : FrameValue) → Bytes (frame_bytes f) → length (frame_bytes f) ≤ 64
    → (bs : List ℕ) × (bytes_of_line (written (frame_bytes f)) ≡ Some bs) × (frame_of bs ≡ Some f)

-- the bytes of an answer are read as that answer
abbrev pub AnswersComeBack : Type 0
AnswersComeBack = (a : AnswerValue) → ToldApart a → answer_of (answer_bytes a) ≡ Some a

-- and no other bytes are
abbrev pub AnswersAlone : Type 0
AnswersAlone = (bs : List ℕ) (a : AnswerValue) → answer_of bs ≡ Some a → (answer_bytes a ≡ bs) × ToldApart a
