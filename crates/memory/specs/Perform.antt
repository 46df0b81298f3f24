-- One access to a shared word by a station: what it finds, what it leaves, and which record it touches.
use Rattle.std.specs.Prelude.{ℕ, ◌+◌, ◌-◌, min, true, false, pos, negsuc, Some, None, Option}
use Rattle.terms.specs.declared.Record.{Record}
use Rattle.terms.specs.declared.Spot.{Spot}
use Rattle.terms.specs.declared.Spot.TheVariants as at
use Rattle.memory.specs.declared.access.Write.{Write}
use Rattle.memory.specs.declared.access.Write.TheVariants as w
use Rattle.memory.specs.declared.access.WordAccess.{WordAccess}
use Rattle.memory.specs.declared.access.WordAccess.TheVariants as a
use Rattle.memory.specs.declared.access.Access.{Access}
use Rattle.memory.specs.declared.access.Access.TheVariants as t
use Rattle.memory.specs.declared.access.Found.{Found}
use Rattle.memory.specs.Shared.{Shared, set_count, set_trace, set_deleted, set_slot, set_place, set_done, set_claims, add_count, name_at, set_name, swap_answer, swapped, released}

-- what a write by station p leaves
abbrev pub change_of : Shared → ℕ → Write → Shared
change_of s p (w.ZeroCount r) = set_count s r.number (pos 0)
change_of s p (w.ClearDeleted r) = set_deleted s r.number false
change_of s p (w.FillSlot i v) = set_slot s p i.index v
change_of s p (w.Release r) = released s p r
change_of s p (w.RaiseCount r) = add_count s r.number (pos 1)
change_of s p (w.ClearTraceOfHeld r) = set_trace s r.number false
change_of s p (w.LowerCount r) = add_count s r.number (negsuc 0)
change_of s p (w.SetDeleted r) = set_deleted s r.number true
change_of s p (w.ClearTraceOfListed r) = set_trace s r.number false
change_of s p (w.ClearDone i) = set_done s p i.index false
change_of s p (w.FillPlace i r) = set_place s p i.index (Some r)
change_of s p (w.SetTrace r) = set_trace s r.number true
change_of s p (w.EmptyPlace i) = set_place s p i.index None
change_of s p (w.SetDone i) = set_done s p i.index true
change_of s p (w.AddClaim z i) = set_claims s z.number i.index (min (s.claims z.number i.index + 1) 255)
change_of s p (w.DropClaim z i) = set_claims s z.number i.index (s.claims z.number i.index - 1)

-- what an access by station p finds
abbrev pub found_of : Shared → ℕ → WordAccess → Found
found_of s p (a.Look q) = Found.Name (name_at s q)
found_of s p (a.Swap q old new) = Found.Flag (swap_answer s q old)
found_of s p (a.Overwrite q new) = Found.Nothing
found_of s p (a.AskDeleted r) = Found.Flag (s.deleteds r.number)
found_of s p (a.AskPlace z i) = Found.Name (s.places z.number i.index)
found_of s p (a.AskDone z i) = Found.Flag (s.dones z.number i.index)
found_of s p (a.AskCount r) = Found.Number (s.counts r.number)
found_of s p (a.AskSlot z i) = Found.Name (s.slots z.number i.index)
found_of s p (a.AskTrace r) = Found.Flag (s.traces r.number)
found_of s p (a.AskClaims i) = Found.Number (pos (s.claims p i.index))
found_of s p (a.Change x) = Found.Nothing

-- what an access by station p leaves
abbrev pub after_of : Shared → ℕ → WordAccess → Shared
after_of s p (a.Look q) = s
after_of s p (a.Swap q old new) = swapped s q old new
after_of s p (a.Overwrite q new) = set_name s q new
after_of s p (a.AskDeleted r) = s
after_of s p (a.AskPlace z i) = s
after_of s p (a.AskDone z i) = s
after_of s p (a.AskCount r) = s
after_of s p (a.AskSlot z i) = s
after_of s p (a.AskTrace r) = s
after_of s p (a.AskClaims i) = s
after_of s p (a.Change x) = change_of s p x

-- the record of a spot that is a link
abbrev pub container : Spot → Option Record
container (at.Root g) = None
container (at.Link r x) = Some r

-- The record that an access touches: whose count, marks or links it reads or writes. Slots, places, roots
-- and the pool are no part of a record.
abbrev pub touched_by_write : Write → Option Record
touched_by_write (w.ZeroCount r) = Some r
touched_by_write (w.ClearDeleted r) = Some r
touched_by_write (w.FillSlot i v) = None
touched_by_write (w.Release r) = None
touched_by_write (w.RaiseCount r) = Some r
touched_by_write (w.ClearTraceOfHeld r) = Some r
touched_by_write (w.LowerCount r) = Some r
touched_by_write (w.SetDeleted r) = Some r
touched_by_write (w.ClearTraceOfListed r) = Some r
touched_by_write (w.ClearDone i) = None
touched_by_write (w.FillPlace i r) = None
touched_by_write (w.SetTrace r) = Some r
touched_by_write (w.EmptyPlace i) = None
touched_by_write (w.SetDone i) = None
touched_by_write (w.AddClaim z i) = None
touched_by_write (w.DropClaim z i) = None

abbrev pub touched_word : WordAccess → Option Record
touched_word (a.Look q) = container q
touched_word (a.Swap q old new) = container q
touched_word (a.Overwrite q new) = container q
touched_word (a.AskDeleted r) = Some r
touched_word (a.AskPlace z i) = None
touched_word (a.AskDone z i) = None
touched_word (a.AskCount r) = Some r
touched_word (a.AskSlot z i) = None
touched_word (a.AskTrace r) = Some r
touched_word (a.AskClaims i) = None
touched_word (a.Change x) = touched_by_write x

abbrev pub touched : Access → Option Record
touched t.Take = None
touched (t.Give r) = None
touched (t.Word x) = touched_word x

-- the record that an access gives back to the pool
abbrev pub given : Access → Option Record
given t.Take = None
given (t.Give r) = Some r
given (t.Word x) = None
