-- What holds of every settings value and of every line's first fault. Assumes nothing.
use Rattle.std.specs.Prelude.{◌≡◌, ◌<◌, ◌≤◌, Bool, true, false, Some, None, Option}
use Rattle.frames.specs.declared.frame.SetupBytes.{SetupBytes}
use Rattle.settings.specs.declared.bytes.SetupByte.{SetupByte}
use Rattle.settings.specs.declared.bytes.SetupByte.TheVariants.{Stations, Slots, Records, Roots, T1, T2, Kind, Pool}
use Rattle.settings.specs.declared.limits.Settings.{Settings}
use Rattle.settings.specs.Bytes.{place_of}
use Rattle.settings.specs.Faults.{within, first_fault}

-- The limits of a table: 1 to 8 stations, 2 to 8 slots a station, 1 to 128 records, 1 to 16 roots, T1 from 1 to 64 and
-- T2 from 1 to T1.
abbrev pub WithinLimits : Settings → Type 0
WithinLimits s =
    ((1 ≤ s.stations) × (s.stations ≤ 8))
    × ((2 ≤ s.slots) × (s.slots ≤ 8))
    × ((1 ≤ s.records) × (s.records ≤ 128))
    × ((1 ≤ s.roots) × (s.roots ≤ 16))
    × ((1 ≤ s.t1) × (s.t1 ≤ 64))
    × ((1 ≤ s.t2) × (s.t2 ≤ s.t1))

-- Whether a byte of a line lies within its limits.
abbrev pub good : SetupBytes → SetupByte → Bool
good line Stations = within line.stations 1 8
good line Slots = within line.slots 2 8
good line Records = within line.records 1 128
good line Roots = within line.roots 1 16
good line T1 = within line.t1 1 64
good line T2 = within line.t2 1 line.t1
good line Kind = within line.kind 0 1
good line Pool = within line.pool 0 1

-- None: every byte is good. Else: this one is not, and every byte before it is.
abbrev pub First : (SetupByte → Bool) → Option SetupByte → Type 0
First good None = (b : SetupByte) → good b ≡ true
First good (Some e) = (good e ≡ false) × ((b : SetupByte) → place_of b < place_of e → good b ≡ true)

abbrev pub FirstFaultStands : Type 0
FirstFaultStands = (line : SetupBytes) → First (good line) (first_fault line)
