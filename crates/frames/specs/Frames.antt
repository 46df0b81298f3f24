-- The bytes of each frame, and the frame that bytes are.
use Rattle.std.specs.Prelude.{◌≡◌, ℕ, cond, List, [], ◌∷◌, Some, None, Ok, Err, Option, Result, ◌==◌}
use Rattle.frames.specs.Hexadecimal.{bytes_of_line}
use Rattle.frames.specs.declared.frame.SetupBytes.{SetupBytes}
use Rattle.frames.specs.declared.frame.SpotBytes.{SpotBytes}
use Rattle.frames.specs.declared.frame.Frame.{Frame}
use Rattle.frames.specs.declared.frame.Frame.TheVariants as frame
use Rattle.frames.specs.declared.refusal.LineFault.{LineFault}
use Rattle.frames.specs.declared.refusal.LineFault.TheVariants as fault

-- a frame by its values: FILL has the card's bytes, wherever they lie
pub data FrameValue : Type 0 where
  SETUP : SetupBytes → FrameValue
  DEREF : ℕ → SpotBytes → FrameValue
  RELEASE : ℕ → ℕ → FrameValue
  CAS : ℕ → SpotBytes → ℕ → ℕ → FrameValue
  STORE : ℕ → SpotBytes → ℕ → FrameValue
  NEW : ℕ → FrameValue
  DELETE : ℕ → ℕ → FrameValue
  STEP : ℕ → FrameValue
  FILL : ℕ → ℕ → List ℕ → FrameValue
  READ : ℕ → ℕ → FrameValue

abbrev pub frame_value : Frame → FrameValue
frame_value (frame.Setup s) = SETUP s
frame_value (frame.Deref st spot) = DEREF st spot
frame_value (frame.Release st node) = RELEASE st node
frame_value (frame.Cas st spot old new) = CAS st spot old new
frame_value (frame.Store st spot new) = STORE st spot new
frame_value (frame.New st) = NEW st
frame_value (frame.Delete st node) = DELETE st node
frame_value (frame.Step st) = STEP st
frame_value (frame.Fill st node card) = FILL st node card.now
frame_value (frame.Read st node) = READ st node

-- the first byte tells the frame, the second the station, the rest follow; SETUP has no station
abbrev pub frame_bytes : FrameValue → List ℕ
frame_bytes (SETUP s) = 0x00 ∷ s.stations ∷ s.slots ∷ s.records ∷ s.roots ∷ s.t1 ∷ s.t2 ∷ s.kind ∷ s.pool ∷ []
frame_bytes (DEREF st spot) = 0x01 ∷ st ∷ spot.container ∷ spot.index ∷ []
frame_bytes (RELEASE st node) = 0x02 ∷ st ∷ node ∷ []
frame_bytes (CAS st spot old new) = 0x03 ∷ st ∷ spot.container ∷ spot.index ∷ old ∷ new ∷ []
frame_bytes (STORE st spot new) = 0x04 ∷ st ∷ spot.container ∷ spot.index ∷ new ∷ []
frame_bytes (NEW st) = 0x05 ∷ st ∷ []
frame_bytes (DELETE st node) = 0x06 ∷ st ∷ node ∷ []
frame_bytes (STEP st) = 0x10 ∷ st ∷ []
frame_bytes (FILL st node card) = 0x11 ∷ st ∷ node ∷ card
frame_bytes (READ st node) = 0x12 ∷ st ∷ node ∷ []

-- exactly so many bytes more, and the frame that they complete
abbrev pub no_more : FrameValue → List ℕ → Option FrameValue
no_more f [] = Some f
no_more f (x ∷ xs) = None

abbrev pub one_more : (ℕ → FrameValue) → List ℕ → Option FrameValue
one_more f [] = None
one_more f (x ∷ xs) = no_more (f x) xs

abbrev pub two_more : (ℕ → ℕ → FrameValue) → List ℕ → Option FrameValue
two_more f [] = None
two_more f (x ∷ xs) = one_more (f x) xs

abbrev pub three_more : (ℕ → ℕ → ℕ → FrameValue) → List ℕ → Option FrameValue
three_more f [] = None
three_more f (x ∷ xs) = two_more (f x) xs

abbrev pub four_more : (ℕ → ℕ → ℕ → ℕ → FrameValue) → List ℕ → Option FrameValue
four_more f [] = None
four_more f (x ∷ xs) = three_more (f x) xs

-- a record, and then a card of any length
abbrev pub card_more : (ℕ → List ℕ → FrameValue) → List ℕ → Option FrameValue
card_more f [] = None
card_more f (x ∷ xs) = Some (f x xs)

abbrev pub setup_bytes : ℕ → ℕ → ℕ → ℕ → ℕ → ℕ → ℕ → ℕ → SetupBytes
setup_bytes n k m g t1 t2 kind pool = record { stations = n; slots = k; records = m; roots = g; t1 = t1; t2 = t2; kind = kind; pool = pool }

abbrev pub setup_of : List ℕ → Option FrameValue
setup_of [] = None
setup_of (n ∷ []) = None
setup_of (n ∷ k ∷ []) = None
setup_of (n ∷ k ∷ m ∷ []) = None
setup_of (n ∷ k ∷ m ∷ g ∷ rest) = four_more (λ t1 t2 kind pool. SETUP (setup_bytes n k m g t1 t2 kind pool)) rest

abbrev pub spot : ℕ → ℕ → SpotBytes
spot a b = record { container = a; index = b }

-- by the first byte, the station and the rest
abbrev pub by_first : ℕ → ℕ → List ℕ → Option FrameValue
by_first op st rest =
    cond (op == 0x01) (two_more (λ a b. DEREF st (spot a b)) rest)
    (cond (op == 0x02) (one_more (RELEASE st) rest)
    (cond (op == 0x03) (four_more (λ a b old new. CAS st (spot a b) old new) rest)
    (cond (op == 0x04) (three_more (λ a b new. STORE st (spot a b) new) rest)
    (cond (op == 0x05) (no_more (NEW st) rest)
    (cond (op == 0x06) (one_more (DELETE st) rest)
    (cond (op == 0x10) (no_more (STEP st) rest)
    (cond (op == 0x11) (card_more (FILL st) rest)
    (cond (op == 0x12) (one_more (READ st) rest)
    None))))))))

abbrev pub with_station : ℕ → List ℕ → Option FrameValue
with_station op [] = None
with_station op (st ∷ rest) = by_first op st rest

-- the frame that bytes are, if they are one
abbrev pub frame_of : List ℕ → Option FrameValue
frame_of [] = None
frame_of (op ∷ rest) = cond (op == 0x00) (setup_of rest) (with_station op rest)

-- the result is this frame, or a refusal for the shape where there is none
abbrev pub SortsAs : Option FrameValue → Result Frame LineFault → Type 0
SortsAs o (Ok f) = o ≡ Some (frame_value f)
SortsAs o (Err fault.Digits) = ⊥
SortsAs o (Err fault.Shape) = o ≡ None

abbrev pub Sorts : List ℕ → Result Frame LineFault → Type 0
Sorts bs r = SortsAs (frame_of bs) r

-- what bytes ask: a frame, or a fault of their shape
abbrev pub asked_by : Option FrameValue → Result FrameValue LineFault
asked_by None = Err fault.Shape
asked_by (Some f) = Ok f

abbrev pub asked_by_bytes : Option (List ℕ) → Result FrameValue LineFault
asked_by_bytes None = Err fault.Digits
asked_by_bytes (Some bs) = asked_by (frame_of bs)

-- what a line asks: a frame, or the fault that it is refused for
abbrev pub asked : List ℕ → Result FrameValue LineFault
asked line = asked_by_bytes (bytes_of_line line)
