-- The bytes of a SETUP line: the place of each, and its limits in words. Assumes nothing.
use Rattle.std.specs.Prelude.{ℕ, List, codes}
use Rattle.settings.specs.declared.bytes.SetupByte.{SetupByte}
use Rattle.settings.specs.declared.bytes.SetupByte.TheVariants.{Stations, Slots, Records, Roots, T1, T2, Kind, Pool}

-- The place of each byte; place 0 is the line's first byte, which says that it is a SETUP.
abbrev pub place_of : SetupByte → ℕ
place_of Stations = 1
place_of Slots = 2
place_of Records = 3
place_of Roots = 4
place_of T1 = 5
place_of T2 = 6
place_of Kind = 7
place_of Pool = 8

-- What a good byte is, in words.
abbrev pub words_of : SetupByte → List ℕ
words_of Stations = codes "stations must be 1 to 8"
words_of Slots = codes "slots a station must be 2 to 8"
words_of Records = codes "records must be 1 to 128"
words_of Roots = codes "roots must be 1 to 16"
words_of T1 = codes "T1 must be 1 to 64"
words_of T2 = codes "T2 must be 1 to T1"
words_of Kind = codes "kind must be 00 or 01"
words_of Pool = codes "pool must be 00 or 01"
