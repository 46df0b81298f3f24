-- Which byte of a SETUP line is at fault, and what a line without a fault makes. Assumes nothing.
use Rattle.std.specs.Prelude.{◌≡◌, ℕ, Bool, true, false, cond, ◌&&◌, List, [], ◌∷◌, ◌++◌, Some, None, Ok, Err, Option, Result, nat_le}
use Rattle.frames.specs.declared.frame.SetupBytes.{SetupBytes}
use Rattle.settings.specs.declared.bytes.SetupByte.{SetupByte}
use Rattle.settings.specs.declared.bytes.SetupByte.TheVariants.{Stations, Slots, Records, Roots, T1, T2, Kind, Pool}
use Rattle.settings.specs.declared.limits.Settings.{Settings}
use Rattle.settings.specs.declared.setup.Setup.{Setup}
use Rattle.settings.specs.Choices.{kind_number, pool_number}

-- `value` lies from `low` to `high`, both among them.
abbrev pub within : (value low high : ℕ) → Bool
within value low high = nat_le low value && nat_le value high

-- A rule: a byte of the line, and whether it lies within its limits.
abbrev pub Rule : Type 0
Rule = SetupByte × Bool

-- The rules of the six numbers of a table.
abbrev pub number_rules : SetupBytes → List Rule
number_rules line =
    (Stations, within line.stations 1 8)
    ∷ (Slots, within line.slots 2 8)
    ∷ (Records, within line.records 1 128)
    ∷ (Roots, within line.roots 1 16)
    ∷ (T1, within line.t1 1 64)
    ∷ (T2, within line.t2 1 line.t1)
    ∷ []

-- The rules of the whole line.
abbrev pub line_rules : SetupBytes → List Rule
line_rules line =
    number_rules line
    ++ (Kind, within line.kind 0 1)
    ∷ (Pool, within line.pool 0 1)
    ∷ []

-- The byte of the first rule that is broken.
abbrev pub first_broken : List Rule → Option SetupByte
first_broken [] = None
first_broken (rule ∷ rules) = cond rule.1 (first_broken rules) (Some rule.0)

-- The first fault among the six numbers of a table.
abbrev pub first_number_fault : SetupBytes → Option SetupByte
first_number_fault line = first_broken (number_rules line)

-- The first fault of the whole line.
abbrev pub first_fault : SetupBytes → Option SetupByte
first_fault line = first_broken (line_rules line)

-- The settings hold the bytes of the line.
abbrev pub Holds : SetupBytes → Settings → Type 0
Holds line s =
    (s.stations ≡ line.stations)
    × (s.slots ≡ line.slots)
    × (s.records ≡ line.records)
    × (s.roots ≡ line.roots)
    × (s.t1 ≡ line.t1)
    × (s.t2 ≡ line.t2)

abbrev pub Checks : (value low high : ℕ) → SetupByte → Result ℕ SetupByte → Type 0
Checks value low high byte (Ok v) = (within value low high ≡ true) × (v ≡ value)
Checks value low high byte (Err e) = (within value low high ≡ false) × (e ≡ byte)

-- Settings come of a line without a fault among its numbers, and else the first fault.
abbrev pub MakesSettings : SetupBytes → Result Settings SetupByte → Type 0
MakesSettings line (Ok s) = (first_number_fault line ≡ None) × Holds line s
MakesSettings line (Err e) = first_number_fault line ≡ Some e

-- A setup comes of a line without a fault, and else the first fault.
abbrev pub MakesSetup : SetupBytes → Result Setup SetupByte → Type 0
MakesSetup line (Ok s) =
    (first_fault line ≡ None)
    × Holds line s.settings
    × (kind_number s.kind ≡ line.kind)
    × (pool_number s.pool ≡ line.pool)
MakesSetup line (Err e) = first_fault line ≡ Some e
