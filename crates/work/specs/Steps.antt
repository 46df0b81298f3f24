-- What a station does with what its access found, up to the next access: every operation, line by line.
use Rattle.std.specs.Prelude.{ℕ, ◌+◌, Bool, cond, not, ◌&&◌, List, [], ◌∷◌, ◌++◌, length, Some, None, Option, ◌==◌, nat_le, nat_lt}
use Rattle.terms.specs.declared.Record.{Record}
use Rattle.terms.specs.declared.Station.{Station}
use Rattle.terms.specs.declared.Slot.{Slot}
use Rattle.terms.specs.declared.Place.{Place}
use Rattle.terms.specs.declared.Position.{Position}
use Rattle.terms.specs.declared.Spot.{Spot}
use Rattle.terms.specs.declared.Outcome.{Outcome}
use Rattle.terms.specs.declared.Operation.{Operation}
use Rattle.terms.specs.declared.Operation.TheVariants as op
use Rattle.terms.specs.Words.{same_name, lowest, is_none}
use Rattle.memory.specs.declared.access.Write.{Write}
use Rattle.memory.specs.declared.access.Found.{Found}
use Rattle.memory.specs.Found.{name_in, flag_in, zero_in}
use Rattle.work.specs.declared.work.Entry.{Entry}
use Rattle.work.specs.declared.work.Reached.{Reached}
use Rattle.work.specs.declared.work.Round.{Round}
use Rattle.work.specs.declared.work.Round.TheVariants.{Own, All}
use Rattle.work.specs.declared.work.Clean.{Clean}
use Rattle.work.specs.declared.work.AfterLook.{AfterLook}
use Rattle.work.specs.declared.work.AfterLook.TheVariants as look
use Rattle.work.specs.declared.work.AfterSwap.{AfterSwap}
use Rattle.work.specs.declared.work.AfterSwap.TheVariants as swap
use Rattle.work.specs.declared.work.AfterStore.{AfterStore}
use Rattle.work.specs.declared.work.AfterStore.TheVariants as store
use Rattle.work.specs.declared.work.Point.{Point}
use Rattle.work.specs.declared.work.Point.TheVariants.{End, Take, Look, LookAgain, Verify, Swap, Save, Overwrite, AskDeleted, AskPlace, AskDone, AskPlaceAgain, CountFirst, CountAgain, AskSlot, CountSecond, AskTrace, AskClaims, AskLink, Give}
use Rattle.work.specs.declared.notes.Note.{Note}
use Rattle.work.specs.declared.turn.Turn as code
use Rattle.work.specs.Plans.{Plan, plan, plan_of, Going, busy, ended, Sight, Notes, free_slot, station, slot, place, position, with_note, noted, reached, head_of}

-- What a decision comes to: a plan, and a change of the station's notes.
pub record Turn : Type 0 where
  pub does : Plan
  pub note : Option Note

abbrev pub turn : Plan → Option Note → Turn
turn p n = record { does = p; note = n }

abbrev pub turn_of : code.Turn → Turn
turn_of t = turn (plan_of t.work) t.note

abbrev pub quiet : Plan → Turn
quiet p = turn p None

-- NEW ----------------------------------------------------------------------------------------------------

-- NN1: an empty pool ends it with none; else NN2, NN3 and NN5 are owed, and it ends with the record.
abbrev pub taken_of : Option Record → Sight → Plan
taken_of None s = plan [] (End (Outcome.Found None))
taken_of (Some r) s = plan (Write.ZeroCount r ∷ Write.ClearDeleted r ∷ Write.FillSlot (free_slot s) (Some r) ∷ []) (End (Outcome.Found (Some r)))

-- What a swap or a store that wrote owes: C3 and C4 of the new record, C5 of the old one; none is skipped.
abbrev pub raise : Option Record → List Write
raise None = []
raise (Some n) = Write.RaiseCount n ∷ Write.ClearTraceOfHeld n ∷ []

abbrev pub lower : Option Record → List Write
lower None = []
lower (Some o) = Write.LowerCount o ∷ []

abbrev pub counts_of : (new old : Option Record) → List Write
counts_of n o = raise n ++ lower o

-- R2 inside an operation: releasing none takes no step.
abbrev pub release_of : Option Record → List Write
release_of None = []
release_of (Some r) = Write.Release r ∷ []

-- SCAN, first pass ---------------------------------------------------------------------------------------

-- SC4 of the entry that the walk came to; behind the last one SC11 of the first slot.
abbrev pub first_pass : Option Reached → Point
first_pass None = AskSlot (station 0) (slot 0)
first_pass (Some e) = CountFirst e

abbrev pub scan_start : Notes → Point
scan_start n = first_pass (head_of n.list)

abbrev pub first_next : List Write → Reached → Notes → Plan
first_next ws e n = plan ws (first_pass (reached n.list e.left))

-- SC4: at 0 SC5 is owed, and then SC6.
abbrev pub counted_first : Reached → Bool → Notes → Plan
counted_first e zero n = cond zero (plan (Write.SetTrace e.entry.node ∷ []) (CountAgain e)) (first_next [] e n)

-- SC6: unless it is 0, the mark is cleared again.
abbrev pub counted_again : Reached → Bool → Notes → Plan
counted_again e zero n = first_next (cond zero [] (Write.ClearTraceOfListed e.entry.node ∷ [])) e n

-- CLEAN and the rounds of DELETE -------------------------------------------------------------------------

abbrev pub clean_at : Record → ℕ → Round → Point
clean_at r x g = Look (Spot.Link r (position x)) (look.CleanLink (record { node = r; position = position x; round = g }))

-- A round: at length T1 CLEAN from the head, at length T2 or more SCAN, else the end.
abbrev pub round_at : Sight → Notes → Option Reached → Point
round_at s n None = End Outcome.Done
round_at s n (Some e) =
    cond (length n.list == s.t1) (clean_at e.entry.node 0 (Own e.left))
    (cond (nat_le s.t2 (length n.list)) (CountFirst e) (End Outcome.Done))

abbrev pub round_of : Sight → Notes → Point
round_of s n = round_at s n (head_of n.list)

-- CLEAN ALL: the next place of the station, or the first of the next station, or another round.
abbrev pub next_place : Station → Place → Sight → Notes → Point
next_place z i s n =
    cond (nat_lt (i.index + 1) s.t1) (AskPlace z (place (i.index + 1)))
    (cond (nat_lt (z.number + 1) s.stations) (AskPlace (station (z.number + 1)) (place 0)) (round_of s n))

-- A record of the own list is clean: the next one, or SCAN.
abbrev pub own_next : List Write → Notes → Option Reached → Plan
own_next ws n None = plan ws (scan_start n)
own_next ws n (Some e) = plan ws (clean_at e.entry.node 0 (Own e.left))

-- A record is clean: CLEAN ALL takes its claim off (CA8) and goes on.
abbrev pub record_clean : List Write → Round → Sight → Notes → Plan
record_clean ws (Own left) s n = own_next ws n (reached n.list left)
record_clean ws (All z i) s n = plan (ws ++ Write.DropClaim z i ∷ []) (next_place z i s n)

-- A link is clean, and v is to be released: the next position, or the record is clean.
abbrev pub link_clean : Option Record → Clean → Sight → Notes → Plan
link_clean v c s n =
    cond (nat_lt (c.position.index + 1) s.positions) (plan (release_of v) (clean_at c.node (c.position.index + 1) c.round))
    (record_clean (release_of v) c.round s n)

-- CN2 found v: none leaves the link as it is, else CN3.
abbrev pub link_found : Clean → Option Record → Sight → Notes → Plan
link_found c None s n = link_clean None c s n
link_found c (Some m) s n = plan [] (AskDeleted c m)

-- CN3: a record that is not withdrawn is released; else CN4 follows its following link.
abbrev pub deleted_of : Clean → Record → Bool → Sight → Notes → Plan
deleted_of c m deleted s n =
    cond deleted (plan [] (Look (Spot.Link m (position (s.follow c.position.index))) (look.CleanNext c m)))
    (link_clean (Some m) c s n)

-- A dereference that is verified, by where it goes on.
abbrev pub derefed_of : AfterLook → Option Record → Sight → Notes → Plan
derefed_of look.Answer v s n = plan [] (End (Outcome.Found v))
derefed_of (look.CleanLink c) v s n = link_found c v s n
derefed_of (look.CleanNext c m) v s n = plan [] (Swap (Spot.Link c.node c.position) (Some m) v (swap.CleanSwap c m v))

-- D3: D4 is owed, then D5. D5: the same name ends the dereference, else D3 again with the same slot.
abbrev pub looked_of : Spot → Slot → Option Record → AfterLook → Plan
looked_of q i v g = plan (Write.FillSlot i v ∷ []) (Verify q i v g)

abbrev pub verified_of : Spot → Slot → Option Record → AfterLook → Option Record → Sight → Notes → Plan
verified_of q i v g found s n = cond (same_name found v) (derefed_of g v s n) (plan [] (LookAgain q i g))

-- CLEAN ALL: CA3, CA4 and CA6.
abbrev pub place_found : Station → Place → Option Record → Sight → Notes → Plan
place_found z i None s n = plan [] (next_place z i s n)
place_found z i (Some r) s n = plan [] (AskDone z i r)

abbrev pub done_of : Station → Place → Record → Bool → Sight → Notes → Plan
done_of z i r done s n = cond done (plan [] (next_place z i s n)) (plan (Write.AddClaim z i ∷ []) (AskPlaceAgain z i r))

abbrev pub again_of : Station → Place → Record → Option Record → Sight → Notes → Plan
again_of z i r found s n =
    cond (same_name found (Some r)) (plan [] (clean_at r 0 (All z i)))
    (plan (Write.DropClaim z i ∷ []) (next_place z i s n))

-- SCAN, second pass --------------------------------------------------------------------------------------

-- SCAN ends: at length T1 still CLEAN ALL, else DELETE ends.
abbrev pub count_kept : Notes → Option Entry → ℕ
count_kept n None = length n.kept
count_kept n (Some e) = length n.kept + 1

abbrev pub scan_end : Sight → Notes → Option Entry → Point
scan_end s n k = cond (count_kept n k == s.t1) (AskPlace (station 0) (place 0)) (End Outcome.Done)

abbrev pub keep_note : Option Entry → Option Note
keep_note None = None
keep_note (Some e) = Some (Note.Keep e)

abbrev pub second_at : List Write → Option Entry → Sight → Notes → Option Reached → Turn
second_at ws k s n None = turn (plan ws (scan_end s n k)) (Some (Note.Close k))
second_at ws k s n (Some e) = turn (plan ws (CountSecond e)) (keep_note k)

-- The walk goes on behind an entry that is kept (k) or given back.
abbrev pub second_next : List Write → Reached → Option Entry → Sight → Notes → Turn
second_next ws e k s n = second_at ws k s n (reached n.list e.left)

-- SC11: the next slot of the station, or the first of the next station, or the second pass.
abbrev pub second_start : Option Reached → Point
second_start None = End Outcome.Done
second_start (Some e) = CountSecond e

abbrev pub next_slot : Station → Slot → Sight → Notes → Point
next_slot z i s n =
    cond (nat_lt (i.index + 1) s.each) (AskSlot z (slot (i.index + 1)))
    (cond (nat_lt (z.number + 1) s.stations) (AskSlot (station (z.number + 1)) (slot 0)) (second_start (head_of n.list)))

-- SC19: the count, then the trace mark; a record with the mark set and in no slot seen goes on to SC20.
abbrev pub counted_second : Reached → Bool → Sight → Notes → Turn
counted_second e zero s n = cond zero (quiet (plan [] (AskTrace e))) (second_next [] e (Some e.entry) s n)

abbrev pub traced_of : Reached → Bool → Sight → Notes → Turn
traced_of e mark s n =
    cond (mark && not (n.seen e.entry.node.number)) (quiet (plan (Write.EmptyPlace e.entry.place ∷ []) (AskClaims e)))
    (second_next [] e (Some e.entry) s n)

-- SC21: without a claim each link is stored none; else each is cleared by swaps.
abbrev pub claims_of : Reached → Bool → Plan
claims_of e zero =
    cond zero (plan [] (Save (Spot.Link e.entry.node (position 0)) None (store.GiveBack e (position 0))))
    (plan [] (AskLink e (position 0)))

-- A link was stored none, after the writes owed: the next link, or SC23.
abbrev pub emptied_of : List Write → Reached → Position → Sight → Plan
emptied_of ws e x s =
    cond (nat_lt (x.index + 1) s.positions)
    (plan ws (Save (Spot.Link e.entry.node (position (x.index + 1))) None (store.GiveBack e (position (x.index + 1)))))
    (plan ws (Give e))

-- A swap to none said yes or no: the next link, or the same; behind the last one SC26 and SC27 are owed.
abbrev pub cleared_of : Bool → Option Record → Reached → Position → Sight → Notes → Turn
cleared_of wrote old e x s n =
    cond wrote
    (cond (nat_lt (x.index + 1) s.positions) (quiet (plan (lower old) (AskLink e (position (x.index + 1)))))
    (second_next (lower old ++ Write.SetDone e.entry.place ∷ Write.FillPlace e.entry.place e.entry.node ∷ []) e (Some e.entry) s n))
    (quiet (plan [] (AskLink e x)))

-- Swaps and stores, by where they go on ------------------------------------------------------------------

abbrev pub swapped_of : Bool → (old new : Option Record) → AfterSwap → Sight → Notes → Turn
swapped_of wrote old new swap.Answer s n = quiet (plan (cond wrote (counts_of new old) []) (End (Outcome.Swapped wrote)))
swapped_of wrote old new (swap.CleanSwap c m t) s n =
    quiet (plan (cond wrote (counts_of t (Some m)) [] ++ release_of t ++ Write.Release m ∷ []) (clean_at c.node c.position.index c.round))
swapped_of wrote old new (swap.ClearLink e x) s n = cleared_of wrote old e x s n

abbrev pub stored_of : (old new : Option Record) → AfterStore → Sight → Plan
stored_of old new store.Answer s = plan (counts_of new old) (End Outcome.Done)
stored_of old new (store.GiveBack e x) s = emptied_of (lower old) e x s

-- Every decision -----------------------------------------------------------------------------------------

abbrev pub decide_of : Point → Found → Sight → Notes → Turn
decide_of (End o) f s n = quiet (plan [] (End o))
decide_of Take f s n = quiet (taken_of (name_in f) s)
decide_of (Look q g) f s n = quiet (looked_of q (free_slot s) (name_in f) g)
decide_of (LookAgain q i g) f s n = quiet (looked_of q i (name_in f) g)
decide_of (Verify q i v g) f s n = quiet (verified_of q i v g (name_in f) s n)
decide_of (Swap q o v g) f s n = swapped_of (flag_in f) o v g s n
decide_of (Save q v g) f s n = quiet (plan [] (Overwrite q (name_in f) v g))
decide_of (Overwrite q o v g) f s n = quiet (stored_of o v g s)
decide_of (AskDeleted c m) f s n = quiet (deleted_of c m (flag_in f) s n)
decide_of (AskPlace z i) f s n = quiet (place_found z i (name_in f) s n)
decide_of (AskDone z i r) f s n = quiet (done_of z i r (flag_in f) s n)
decide_of (AskPlaceAgain z i r) f s n = quiet (again_of z i r (name_in f) s n)
decide_of (CountFirst e) f s n = quiet (counted_first e (zero_in f) n)
decide_of (CountAgain e) f s n = quiet (counted_again e (zero_in f) n)
decide_of (AskSlot z i) f s n = turn (plan [] (next_slot z i s n)) (Some (Note.See (name_in f)))
decide_of (CountSecond e) f s n = counted_second e (zero_in f) s n
decide_of (AskTrace e) f s n = traced_of e (flag_in f) s n
decide_of (AskClaims e) f s n = quiet (claims_of e (zero_in f))
decide_of (AskLink e x) f s n = quiet (plan [] (Swap (Spot.Link e.entry.node x) (name_in f) None (swap.ClearLink e x)))
decide_of (Give e) f s n = second_next [] e None s n

-- An operation ends with its last access: nothing owed, and an end.
abbrev pub settle_point : Point → Going
settle_point (End o) = ended o
settle_point Take = busy (plan [] Take)
settle_point (Look q g) = busy (plan [] (Look q g))
settle_point (LookAgain q i g) = busy (plan [] (LookAgain q i g))
settle_point (Verify q i v g) = busy (plan [] (Verify q i v g))
settle_point (Swap q o v g) = busy (plan [] (Swap q o v g))
settle_point (Save q v g) = busy (plan [] (Save q v g))
settle_point (Overwrite q o v g) = busy (plan [] (Overwrite q o v g))
settle_point (AskDeleted c m) = busy (plan [] (AskDeleted c m))
settle_point (AskPlace z i) = busy (plan [] (AskPlace z i))
settle_point (AskDone z i r) = busy (plan [] (AskDone z i r))
settle_point (AskPlaceAgain z i r) = busy (plan [] (AskPlaceAgain z i r))
settle_point (CountFirst e) = busy (plan [] (CountFirst e))
settle_point (CountAgain e) = busy (plan [] (CountAgain e))
settle_point (AskSlot z i) = busy (plan [] (AskSlot z i))
settle_point (CountSecond e) = busy (plan [] (CountSecond e))
settle_point (AskTrace e) = busy (plan [] (AskTrace e))
settle_point (AskClaims e) = busy (plan [] (AskClaims e))
settle_point (AskLink e x) = busy (plan [] (AskLink e x))
settle_point (Give e) = busy (plan [] (Give e))

abbrev pub settled : List Write → Point → Going
settled [] p = settle_point p
settled (w ∷ ws) p = busy (plan (w ∷ ws) p)

abbrev pub settle : Plan → Going
settle p = settled p.owed p.point

-- The private work after an access: a write that was owed is done; a decision is taken.
abbrev pub advanced : List Write → Point → Found → Sight → Notes → Going
advanced [] p f s n = settle (decide_of p f s n).does
advanced (w ∷ ws) p f s n = settled ws p

abbrev pub note_made : List Write → Point → Found → Sight → Notes → Option Note
note_made [] p f s n = (decide_of p f s n).note
note_made (w ∷ ws) p f s n = None

abbrev pub advance_of : Plan → Found → Sight → Notes → Going
advance_of p f s n = advanced p.owed p.point f s n

abbrev pub notes_after : Plan → Found → Sight → Notes → Notes
notes_after p f s n = noted n (note_made p.owed p.point f s n)

-- Beginnings ---------------------------------------------------------------------------------------------

-- the lowest empty list place, or their number where none is empty
abbrev pub free_place : Sight → (ℕ → Option Record) → Place
free_place s places = place (lowest (λ i. is_none (places i)) s.t1)

-- DELETE owes DN1, both steps of DN2, DN4 and DN5; the record becomes the head of the list, and a round follows.
abbrev pub delete_of : Record → Place → Sight → Notes → Turn
delete_of r i s n =
    turn (plan (Write.Release r ∷ Write.SetDeleted r ∷ Write.ClearTraceOfListed r ∷ Write.ClearDone i ∷ Write.FillPlace i r ∷ [])
    (round_of s (with_note n (Note.Push (record { place = i; node = r })))))
    (Some (Note.Push (record { place = i; node = r })))

abbrev pub begin_of : Operation → Sight → (ℕ → Option Record) → Notes → Turn
begin_of op.New s f n = quiet (plan [] Take)
begin_of (op.Deref q) s f n = quiet (plan [] (Look q look.Answer))
begin_of (op.Release r) s f n = quiet (plan (Write.Release r ∷ []) (End Outcome.Done))
begin_of (op.Cas q old new) s f n = quiet (plan [] (Swap q old new swap.Answer))
begin_of (op.Store a x new) s f n = quiet (plan [] (Save (Spot.Link a x) new store.Answer))
begin_of (op.Delete r) s f n = delete_of r (free_place s f) s n
