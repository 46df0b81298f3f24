-- The words of each frame, as bytes.
use Rattle.std.specs.Prelude.{ℕ, cond, List, ◌++◌, length, codes, decimal, ◌==◌}
use Rattle.frames.specs.Frames.{FrameValue, SETUP, DEREF, RELEASE, CAS, STORE, NEW, DELETE, STEP, FILL, READ}
use Rattle.frames.specs.declared.frame.SetupBytes.{SetupBytes}
use Rattle.frames.specs.declared.frame.SpotBytes.{SpotBytes}
use Rattle.words.specs.Quantities.{byte_count}

-- FF names no record
abbrev pub name_words : ℕ → List ℕ
name_words node = cond (node == 0xFF) (codes "none") (codes "record " ++ decimal node)

-- FF for the record is the roots
abbrev pub spot_words : SpotBytes → List ℕ
spot_words s = cond (s.container == 0xFF) (codes "root " ++ decimal s.index) (codes "link " ++ (decimal s.index ++ (codes " of record " ++ decimal s.container)))

-- how much of everything a SETUP frame asks for
abbrev pub sizes_words : SetupBytes → List ℕ
sizes_words s =
    codes "stations " ++ (decimal s.stations
    ++ (codes ", slots a station " ++ (decimal s.slots
    ++ (codes ", records " ++ (decimal s.records
    ++ (codes ", roots " ++ decimal s.roots))))))

-- the thresholds, the kind and the pool
abbrev pub choices_words : SetupBytes → List ℕ
choices_words s =
    codes "T1 " ++ (decimal s.t1
    ++ (codes ", T2 " ++ (decimal s.t2
    ++ (codes ", kind " ++ (decimal s.kind
    ++ (codes ", pool " ++ decimal s.pool))))))

abbrev pub frame_words : FrameValue → List ℕ
frame_words (SETUP s) = codes "set up " ++ (sizes_words s ++ (codes ", " ++ choices_words s))
frame_words (DEREF st spot) = codes "station " ++ (decimal st ++ (codes " follows " ++ spot_words spot))
frame_words (RELEASE st node) = codes "station " ++ (decimal st ++ (codes " releases record " ++ decimal node))
frame_words (CAS st spot old new) =
    codes "station " ++ (decimal st ++ (codes " swaps " ++ (spot_words spot ++ (codes " from " ++ (name_words old ++ (codes " to " ++ name_words new))))))
frame_words (STORE st spot new) =
    codes "station " ++ (decimal st ++ (codes " stores " ++ (name_words new ++ (codes " in " ++ spot_words spot))))
frame_words (NEW st) = codes "station " ++ (decimal st ++ codes " takes a new record")
frame_words (DELETE st node) = codes "station " ++ (decimal st ++ (codes " withdraws record " ++ decimal node))
frame_words (STEP st) = codes "station " ++ (decimal st ++ codes " makes one step")
frame_words (FILL st node card) =
    codes "station " ++ (decimal st ++ (codes " fills record " ++ (decimal node ++ (codes " with a card of " ++ byte_count (length card)))))
frame_words (READ st node) = codes "station " ++ (decimal st ++ (codes " reads record " ++ decimal node))
