-- What a busy station is in the middle of, what it sees, what it keeps, and the one access that it makes next.
use Rattle.std.specs.Prelude.{ℕ, zero, suc, ◌+◌, Bool, true, false, cond, List, [], ◌∷◌, ◌++◌, length, Some, None, Option, nat_lt, slice_index_or}
use Rattle.std.specs.declared.ops.ControlFlow.{ControlFlow}
use Rattle.std.specs.declared.ops.ControlFlow.TheVariants.{Continue, Break}
use Rattle.rooms.specs.Held.{held}
use Rattle.terms.specs.declared.Record.{Record}
use Rattle.terms.specs.declared.Station.{Station}
use Rattle.terms.specs.declared.Slot.{Slot}
use Rattle.terms.specs.declared.Place.{Place}
use Rattle.terms.specs.declared.Position.{Position}
use Rattle.terms.specs.declared.Spot.{Spot}
use Rattle.terms.specs.declared.Outcome.{Outcome}
use Rattle.terms.specs.Words.{reads, put, lowest, is_none}
use Rattle.memory.specs.declared.access.Write.{Write}
use Rattle.memory.specs.declared.access.WordAccess.{WordAccess}
use Rattle.memory.specs.declared.access.Access.{Access}
use Rattle.work.specs.declared.work.Entry.{Entry}
use Rattle.work.specs.declared.work.Reached.{Reached}
use Rattle.work.specs.declared.work.Point.{Point}
use Rattle.work.specs.declared.work.Point.TheVariants.{End, Take, Look, LookAgain, Verify, Swap, Save, Overwrite, AskDeleted, AskPlace, AskDone, AskPlaceAgain, CountFirst, CountAgain, AskSlot, CountSecond, AskTrace, AskClaims, AskLink, Give}
use Rattle.work.specs.declared.work.Owed.{Owed}
use Rattle.work.specs.declared.work.Owed.TheVariants.{Nothing, One, Two, Three, Four, Five}
use Rattle.work.specs.declared.work.Work.{Work}
use Rattle.work.specs.declared.known.Known.{Known}
use Rattle.work.specs.declared.notes.Entries.{Entries}
use Rattle.work.specs.declared.notes.Seen.{Seen}
use Rattle.work.specs.declared.notes.Notes as code
use Rattle.work.specs.declared.notes.Note.{Note}
use Rattle.work.specs.declared.notes.Note.TheVariants as note
use Rattle.work.specs.declared.sight.Sight as code_sight

-- numbers as words of the subject
abbrev pub station : ℕ → Station
station n = record { number = n }

abbrev pub slot : ℕ → Slot
slot n = record { index = n }

abbrev pub place : ℕ → Place
place n = record { index = n }

abbrev pub position : ℕ → Position
position n = record { index = n }

-- the writes that are owed, in order, and the decision that follows
pub record Plan : Type 0 where
  pub owed : List Write
  pub point : Point

abbrev pub plan : List Write → Point → Plan
plan ws p = record { owed = ws; point = p }

abbrev pub writes : Owed → List Write
writes Nothing = []
writes (One a) = a ∷ []
writes (Two a b) = a ∷ b ∷ []
writes (Three a b c) = a ∷ b ∷ c ∷ []
writes (Four a b c d) = a ∷ b ∷ c ∷ d ∷ []
writes (Five a b c d e) = a ∷ b ∷ c ∷ d ∷ e ∷ []

-- the write that is made next, and those after it
abbrev pub first_write : List Write → Option Write
first_write [] = None
first_write (w ∷ ws) = Some w

abbrev pub later_writes : List Write → List Write
later_writes [] = []
later_writes (w ∷ ws) = ws

abbrev pub plan_of : Work → Plan
plan_of w = plan (writes w.owed) w.point

-- after an access the station is still busy, or has ended with its answer
pub data Going : Type 0 where
  busy : Plan → Going
  ended : Outcome → Going

abbrev pub going_of : ControlFlow Outcome Work → Going
going_of (Continue w) = busy (plan_of w)
going_of (Break o) = ended o

-- what a station may look at without an access
pub record Sight : Type 0 where
  pub stations : ℕ
  pub each : ℕ
  pub t1 : ℕ
  pub t2 : ℕ
  pub positions : ℕ
  pub follow : ℕ → ℕ
  pub slots : ℕ → Option Record

abbrev pub sight_of : code_sight.Sight → Sight
sight_of s = record {
  stations = s.settings.stations;
  each = s.settings.slots;
  t1 = s.settings.t1;
  t2 = s.settings.t2;
  positions = s.follow.positions;
  follow = reads 0 s.follow.next;
  slots = reads None s.slots;
}

-- The next position of a record; none behind the last one.
abbrev pub next_position : Sight → Position → Option Position
next_position s x = cond (nat_lt (x.index + 1) s.positions) (Some (position (x.index + 1))) None

-- What comes after an index where each station has a row of so many: the next of the row, or the first of the next
-- station's; none behind the last one of all.
abbrev pub after_in_rows : Sight → Station → ℕ → ℕ → Option (Station × ℕ)
after_in_rows s z i each =
    cond (nat_lt (i + 1) each) (Some (z, i + 1))
    (cond (nat_lt (z.number + 1) s.stations) (Some (station (z.number + 1), 0)) None)

-- the lowest empty slot, or their number where none is empty
abbrev pub free_slot : Sight → Slot
free_slot s = slot (lowest (λ i. is_none (s.slots i)) s.each)

-- What a station keeps for itself. A list has its head last.
pub record Notes : Type 0 where
  pub list : List Entry
  pub kept : List Entry
  pub seen : ℕ → Bool

abbrev pub entries_of : Entries → List Entry
entries_of l = held l.entries

abbrev pub seen_of : Seen → ℕ → Bool
seen_of s = reads false s.marks

abbrev pub notes_of : code.Notes → Notes
notes_of n = record { list = entries_of n.list; kept = entries_of n.kept; seen = seen_of n.seen }

-- a new station's: nothing
abbrev pub no_notes : Notes
no_notes = record { list = []; kept = []; seen = λ _. false }

-- one entry more; a list has room for 64, and a station's list never grows past that
abbrev pub pushed : List Entry → Entry → List Entry
pushed es e = cond (nat_lt (length es) 64) (es ++ e ∷ []) es

abbrev pub saw : (ℕ → Bool) → Option Record → ℕ → Bool
saw f None = f
saw f (Some r) = put 128 f r.number true

abbrev pub kept_too : List Entry → Option Entry → List Entry
kept_too es None = es
kept_too es (Some e) = pushed es e

-- the notes after a change, and after one or none
abbrev pub with_note : Notes → Note → Notes
with_note n (note.Push e) = record { list = pushed n.list e; kept = n.kept; seen = n.seen }
with_note n (note.See v) = record { list = n.list; kept = n.kept; seen = saw n.seen v }
with_note n (note.Keep e) = record { list = n.list; kept = pushed n.kept e; seen = n.seen }
with_note n (note.Close k) = record { list = kept_too n.kept k; kept = []; seen = λ _. false }

abbrev pub noted : Notes → Option Note → Notes
noted n None = n
noted n (Some x) = with_note n x

-- The entry that a walk from the head comes to where n are left, and how many come after it.
abbrev pub reached : List Entry → ℕ → Option Reached
reached es zero = None
reached es (suc m) = cond (nat_lt m (length es)) (Some (record { entry = slice_index_or es m (record { place = place 0; node = record { number = 0 } }); left = m })) None

-- the head of a list
abbrev pub head_of : List Entry → Option Reached
head_of es = reached es (length es)

-- what a station sees, and what it has noted
abbrev pub seen_by : Known → Sight
seen_by k = sight_of k.sight.now

abbrev pub noted_by : Known → Notes
noted_by k = notes_of k.notes.now

-- the access that a decision makes; none at an end
abbrev pub access_at : Point → Option Access
access_at (End a) = None
access_at Take = Some Access.Take
access_at (Look q g) = Some (Access.Word (WordAccess.Look q))
access_at (LookAgain q i g) = Some (Access.Word (WordAccess.Look q))
access_at (Verify q i v g) = Some (Access.Word (WordAccess.Look q))
access_at (Swap q o n g) = Some (Access.Word (WordAccess.Swap q o n))
access_at (Save q n g) = Some (Access.Word (WordAccess.Look q))
access_at (Overwrite q o n g) = Some (Access.Word (WordAccess.Overwrite q n))
access_at (AskDeleted c m) = Some (Access.Word (WordAccess.AskDeleted m))
access_at (AskPlace z i) = Some (Access.Word (WordAccess.AskPlace z i))
access_at (AskDone z i n) = Some (Access.Word (WordAccess.AskDone z i))
access_at (AskPlaceAgain z i n) = Some (Access.Word (WordAccess.AskPlace z i))
access_at (CountFirst e) = Some (Access.Word (WordAccess.AskCount e.entry.node))
access_at (CountAgain e) = Some (Access.Word (WordAccess.AskCount e.entry.node))
access_at (AskSlot z i) = Some (Access.Word (WordAccess.AskSlot z i))
access_at (CountSecond e) = Some (Access.Word (WordAccess.AskCount e.entry.node))
access_at (AskTrace e) = Some (Access.Word (WordAccess.AskTrace e.entry.node))
access_at (AskClaims e) = Some (Access.Word (WordAccess.AskClaims e.entry.place))
access_at (AskLink e x) = Some (Access.Word (WordAccess.Look (Spot.Link e.entry.node x)))
access_at (Give e) = Some (Access.Give e.entry.node)

-- the one access that a station makes next: what it owes first, then its decision
abbrev pub next_access : List Write → Point → Option Access
next_access [] p = access_at p
next_access (w ∷ ws) p = Some (Access.Word (WordAccess.Change w))

abbrev pub access_of : Plan → Option Access
access_of p = next_access p.owed p.point
