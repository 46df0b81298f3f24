-- The words of each refusal, as bytes.
use Rattle.std.specs.Prelude.{ℕ, List, ◌++◌, codes, decimal}
use Rattle.frames.specs.Refusals.{number_of}
use Rattle.frames.specs.declared.refusal.Refusal.{Refusal}
use Rattle.frames.specs.declared.refusal.Refusal.TheVariants as why
use Rattle.frames.specs.declared.refusal.Refused.{Refused}

abbrev pub reason_words : Refusal → List ℕ
reason_words why.Digits = codes "not pairs of hexadecimal digits, or more than 64 bytes"
reason_words why.Shape = codes "no known frame, or a wrong number of bytes"
reason_words why.Setup = codes "a setting is outside its limits"
reason_words why.Station = codes "there is no such station"
reason_words why.Range = codes "a record, root or position is out of range, or a store on a root"
reason_words why.Card = codes "the card has a wrong length or a bad field"
reason_words why.Table = codes "there is no table yet, or there is one already"
reason_words why.Busy = codes "the station is busy"
reason_words why.Idle = codes "the station is idle"
reason_words why.NotHeld = codes "the station does not hold the record"
reason_words why.Slots = codes "the station has no slot to spare"
reason_words why.NotFresh = codes "the record is not fresh"
reason_words why.Fresh = codes "the record is fresh"
reason_words why.Retired = codes "the record is withdrawn already"
reason_words why.List = codes "the list of the station has no empty place"

-- "refused 4 at byte 1: there is no such station"
abbrev pub refused_words : Refused → List ℕ
refused_words w = codes "refused " ++ (decimal (number_of w.why) ++ (codes " at byte " ++ (decimal w.place ++ (codes ": " ++ reason_words w.why))))
