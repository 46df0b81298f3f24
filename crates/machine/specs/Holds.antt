-- What a station holds, at rest and at work: what its slots name, but for a slot into which a dereference is about to write or
-- whose name it has not verified yet.
use Rattle.std.specs.Prelude.{◌≡◌, ℕ, ◌<◌, Bool, true, false, not, ◌&&◌, ◌||◌, ◌==◌, List, [], ◌∷◌, Some, None, Option}
use Rattle.terms.specs.declared.Record.{Record}
use Rattle.memory.specs.declared.access.Write.{Write}
use Rattle.memory.specs.declared.access.Write.TheVariants as w
use Rattle.work.specs.declared.work.Point.{Point}
use Rattle.work.specs.declared.work.Point.TheVariants.{End, Take, Look, LookAgain, Verify, Swap, Save, Overwrite, AskDeleted, AskPlace, AskDone, AskPlaceAgain, CountFirst, CountAgain, AskSlot, CountSecond, AskTrace, AskClaims, AskLink, Give}
use Rattle.work.specs.Plans.{Plan}
use Rattle.machine.specs.Tables.{Table}

-- whether a write of the slot i is owed
abbrev pub owes_fill : List Write → ℕ → Bool
owes_fill [] i = false
owes_fill (w.FillSlot j v ∷ ws) i = j.index == i || owes_fill ws i
owes_fill (w.ZeroCount r ∷ ws) i = owes_fill ws i
owes_fill (w.ClearDeleted r ∷ ws) i = owes_fill ws i
owes_fill (w.Release r ∷ ws) i = owes_fill ws i
owes_fill (w.RaiseCount r ∷ ws) i = owes_fill ws i
owes_fill (w.ClearTraceOfHeld r ∷ ws) i = owes_fill ws i
owes_fill (w.LowerCount r ∷ ws) i = owes_fill ws i
owes_fill (w.SetDeleted r ∷ ws) i = owes_fill ws i
owes_fill (w.ClearTraceOfListed r ∷ ws) i = owes_fill ws i
owes_fill (w.ClearDone j ∷ ws) i = owes_fill ws i
owes_fill (w.FillPlace j r ∷ ws) i = owes_fill ws i
owes_fill (w.SetTrace r ∷ ws) i = owes_fill ws i
owes_fill (w.EmptyPlace j ∷ ws) i = owes_fill ws i
owes_fill (w.SetDone j ∷ ws) i = owes_fill ws i
owes_fill (w.AddClaim z j ∷ ws) i = owes_fill ws i
owes_fill (w.DropClaim z j ∷ ws) i = owes_fill ws i

-- whether the slot i is that of a dereference under way: it was chosen, and D5 has not read the same name again
abbrev pub looks_into : Point → ℕ → Bool
looks_into (LookAgain q j g) i = j.index == i
looks_into (Verify q j v g) i = j.index == i
looks_into (End o) i = false
looks_into Take i = false
looks_into (Look q g) i = false
looks_into (Swap q o v g) i = false
looks_into (Save q v g) i = false
looks_into (Overwrite q o v g) i = false
looks_into (AskDeleted c m) i = false
looks_into (AskPlace z j) i = false
looks_into (AskDone z j r) i = false
looks_into (AskPlaceAgain z j r) i = false
looks_into (CountFirst e) i = false
looks_into (CountAgain e) i = false
looks_into (AskSlot z j) i = false
looks_into (CountSecond e) i = false
looks_into (AskTrace e) i = false
looks_into (AskClaims e) i = false
looks_into (AskLink e x) i = false
looks_into (Give e) i = false

-- whether what the slot i names is held for certain
abbrev pub is_verified : Option Plan → ℕ → Bool
is_verified None i = true
is_verified (Some w) i = not (owes_fill w.owed i) && not (looks_into w.point i)

-- The station p, at rest or at work, has a verified hold of r in its slot i.
pub record Hold (t : Table) (p i : ℕ) (r : Record) : Type 0 where
  pub station : p < t.sizes.stations
  pub slot : i < 8
  pub names : t.shared.slots p i ≡ Some r
  pub verified : is_verified (t.seats p).work i ≡ true
