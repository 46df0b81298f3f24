-- How many holds of a record a station has for the ledger: its verified slots that name the record, and NEW's record before its
-- slot is written; without those that CLEAN has for itself, and without the one that DELETE gave up when it began.
use Rattle.std.specs.Prelude.{ℕ, zero, suc, ◌+◌, Bool, cond, ◌&&◌, List, [], ◌∷◌, Some, None, Option}
use Rattle.terms.specs.declared.Record.{Record}
use Rattle.terms.specs.Words.{same_name}
use Rattle.memory.specs.declared.access.Write.{Write}
use Rattle.memory.specs.declared.access.Write.TheVariants as w
use Rattle.work.specs.declared.work.AfterLook.{AfterLook}
use Rattle.work.specs.declared.work.AfterLook.TheVariants as look
use Rattle.work.specs.declared.work.AfterSwap.{AfterSwap}
use Rattle.work.specs.declared.work.AfterSwap.TheVariants as swap
use Rattle.work.specs.declared.work.Point.{Point}
use Rattle.work.specs.declared.work.Point.TheVariants.{End, Take, Look, LookAgain, Verify, Swap, Save, Overwrite, AskDeleted, AskPlace, AskDone, AskPlaceAgain, CountFirst, CountAgain, AskSlot, CountSecond, AskTrace, AskClaims, AskLink, Give}
use Rattle.work.specs.Plans.{Plan}
use Rattle.machine.specs.Tables.{Table}
use Rattle.machine.specs.Holds.{is_verified}

-- how many of the first n numbers pass
unfoldable pub count : (ℕ → Bool) → ℕ → ℕ
count f zero = 0
count f (suc n) = cond (f n) (suc (count f n)) (count f n)

-- how many of a station's slots name r and are verified
abbrev pub slots_holding : Table → ℕ → Record → ℕ
slots_holding t p r = count (λ i. same_name (t.shared.slots p i) (Some r) && is_verified (t.seats p).work i) 8

-- 1 where a name is r
abbrev pub once : Option Record → Record → ℕ
once v r = cond (same_name v (Some r)) 1 0

-- how many releases of r are owed
abbrev pub releases_of : List Write → Record → ℕ
releases_of [] r = 0
releases_of (w.Release x ∷ ws) r = once (Some x) r + releases_of ws r
releases_of (w.ZeroCount x ∷ ws) r = releases_of ws r
releases_of (w.ClearDeleted x ∷ ws) r = releases_of ws r
releases_of (w.FillSlot j v ∷ ws) r = releases_of ws r
releases_of (w.RaiseCount x ∷ ws) r = releases_of ws r
releases_of (w.ClearTraceOfHeld x ∷ ws) r = releases_of ws r
releases_of (w.LowerCount x ∷ ws) r = releases_of ws r
releases_of (w.SetDeleted x ∷ ws) r = releases_of ws r
releases_of (w.ClearTraceOfListed x ∷ ws) r = releases_of ws r
releases_of (w.ClearDone j ∷ ws) r = releases_of ws r
releases_of (w.FillPlace j x ∷ ws) r = releases_of ws r
releases_of (w.SetTrace x ∷ ws) r = releases_of ws r
releases_of (w.EmptyPlace j ∷ ws) r = releases_of ws r
releases_of (w.SetDone j ∷ ws) r = releases_of ws r
releases_of (w.AddClaim z j ∷ ws) r = releases_of ws r
releases_of (w.DropClaim z j ∷ ws) r = releases_of ws r

-- how many holds of r CLEAN has for itself at a decision: of the record that the link names while it asks it, and then of what it
-- found to lead on to
abbrev pub looking_for : AfterLook → Record → ℕ
looking_for look.Answer r = 0
looking_for (look.CleanLink c) r = 0
looking_for (look.CleanNext c m) r = once (Some m) r

abbrev pub swapping_for : AfterSwap → Record → ℕ
swapping_for swap.Answer r = 0
swapping_for (swap.CleanSwap c m t) r = once (Some m) r + once t r
swapping_for (swap.ClearLink e x) r = 0

abbrev pub cleaning_holds : Point → Record → ℕ
cleaning_holds (AskDeleted c m) r = once (Some m) r
cleaning_holds (Look q g) r = looking_for g r
cleaning_holds (LookAgain q i g) r = looking_for g r
cleaning_holds (Verify q i v g) r = looking_for g r
cleaning_holds (Swap q o v g) r = swapping_for g r
cleaning_holds (End o) r = 0
cleaning_holds Take r = 0
cleaning_holds (Save q v g) r = 0
cleaning_holds (Overwrite q o v g) r = 0
cleaning_holds (AskPlace q i) r = 0
cleaning_holds (AskDone q i x) r = 0
cleaning_holds (AskPlaceAgain q i x) r = 0
cleaning_holds (CountFirst e) r = 0
cleaning_holds (CountAgain e) r = 0
cleaning_holds (AskSlot q i) r = 0
cleaning_holds (CountSecond e) r = 0
cleaning_holds (AskTrace e) r = 0
cleaning_holds (AskClaims e) r = 0
cleaning_holds (AskLink e x) r = 0
cleaning_holds (Give e) r = 0

-- holds that an operation which acted has beside those of the ledger
abbrev pub own_holds : Plan → Record → ℕ
own_holds p r = releases_of p.owed r + cleaning_holds p.point r

-- NEW's record, taken and not yet in its slot
abbrev pub filled_with : List Write → Record → ℕ
filled_with [] r = 0
filled_with (w.FillSlot j v ∷ ws) r = once v r + filled_with ws r
filled_with (w.Release x ∷ ws) r = filled_with ws r
filled_with (w.ZeroCount x ∷ ws) r = filled_with ws r
filled_with (w.ClearDeleted x ∷ ws) r = filled_with ws r
filled_with (w.RaiseCount x ∷ ws) r = filled_with ws r
filled_with (w.ClearTraceOfHeld x ∷ ws) r = filled_with ws r
filled_with (w.LowerCount x ∷ ws) r = filled_with ws r
filled_with (w.SetDeleted x ∷ ws) r = filled_with ws r
filled_with (w.ClearTraceOfListed x ∷ ws) r = filled_with ws r
filled_with (w.ClearDone j ∷ ws) r = filled_with ws r
filled_with (w.FillPlace j x ∷ ws) r = filled_with ws r
filled_with (w.SetTrace x ∷ ws) r = filled_with ws r
filled_with (w.EmptyPlace j ∷ ws) r = filled_with ws r
filled_with (w.SetDone j ∷ ws) r = filled_with ws r
filled_with (w.AddClaim z j ∷ ws) r = filled_with ws r
filled_with (w.DropClaim z j ∷ ws) r = filled_with ws r

abbrev pub in_hand_at : List Write → Point → Record → ℕ
in_hand_at ws (End o) r = filled_with ws r
in_hand_at ws Take r = 0
in_hand_at ws (Look q g) r = 0
in_hand_at ws (LookAgain q i g) r = 0
in_hand_at ws (Verify q i v g) r = 0
in_hand_at ws (Swap q o v g) r = 0
in_hand_at ws (Save q v g) r = 0
in_hand_at ws (Overwrite q o v g) r = 0
in_hand_at ws (AskDeleted c m) r = 0
in_hand_at ws (AskPlace q i) r = 0
in_hand_at ws (AskDone q i x) r = 0
in_hand_at ws (AskPlaceAgain q i x) r = 0
in_hand_at ws (CountFirst e) r = 0
in_hand_at ws (CountAgain e) r = 0
in_hand_at ws (AskSlot q i) r = 0
in_hand_at ws (CountSecond e) r = 0
in_hand_at ws (AskTrace e) r = 0
in_hand_at ws (AskClaims e) r = 0
in_hand_at ws (AskLink e x) r = 0
in_hand_at ws (Give e) r = 0

abbrev pub in_hand : Option Plan → Record → ℕ
in_hand None r = 0
in_hand (Some p) r = in_hand_at p.owed p.point r
