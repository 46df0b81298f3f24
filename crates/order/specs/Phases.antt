-- Where a station's operation is, by what the station is in the middle of: the act of each happens at one access.
use Rattle.std.specs.Prelude.{◌≡◌, ℕ, ◌<◌, false, ◌⊎◌, List, [], ◌∷◌, Some, None, Option, ◌≢◌}
use Rattle.terms.specs.declared.Record.{Record}
use Rattle.terms.specs.declared.Slot.{Slot}
use Rattle.terms.specs.declared.Spot.{Spot}
use Rattle.terms.specs.declared.Spot.TheVariants.{Root, Link}
use Rattle.terms.specs.declared.Outcome.{Outcome}
use Rattle.terms.specs.declared.Standing.{Standing}
use Rattle.terms.specs.declared.Standing.TheVariants.{Fresh}
use Rattle.terms.specs.declared.Operation.{Operation}
use Rattle.terms.specs.declared.Operation.TheVariants as op
use Rattle.memory.specs.declared.access.Write.{Write}
use Rattle.work.specs.declared.work.AfterLook.{AfterLook}
use Rattle.work.specs.declared.work.AfterLook.TheVariants as look
use Rattle.work.specs.declared.work.AfterSwap.{AfterSwap}
use Rattle.work.specs.declared.work.AfterSwap.TheVariants as swap
use Rattle.work.specs.declared.work.AfterStore.{AfterStore}
use Rattle.work.specs.declared.work.AfterStore.TheVariants as store
use Rattle.work.specs.declared.work.Point.{Point}
use Rattle.work.specs.declared.work.Point.TheVariants.{End, Take, Look, LookAgain, Verify, Swap, Save, Overwrite, AskDeleted, AskPlace, AskDone, AskPlaceAgain, CountFirst, CountAgain, AskSlot, CountSecond, AskTrace, AskClaims, AskLink, Give}
use Rattle.work.specs.Plans.{Plan, plan}
use Rattle.machine.specs.Holds.{owes_fill}
use Rattle.ledger.specs.Ledger.{Sizes}
use Rattle.ledger.specs.Explains.{Phase, resting, waiting, acted}
use Rattle.order.specs.Counts.{own_holds}

-- A dereference of q before the look that is verified.
pub data Looks (q : Spot) : Plan → Type 0 where
  first : Looks q (plan [] (Look q look.Answer))
  again : (i : Slot) → Looks q (plan [] (LookAgain q i look.Answer))
  writes : (i : Slot) (v : Option Record) → Looks q (plan (Write.FillSlot i v ∷ []) (Verify q i v look.Answer))
  verifies : (i : Slot) (v : Option Record) → Looks q (plan [] (Verify q i v look.Answer))

-- A store before its overwrite.
pub data Stores (q : Spot) (n : Option Record) : Plan → Type 0 where
  reads : Stores q n (plan [] (Save q n store.Answer))
  overwrites : (o : Option Record) → Stores q n (plan [] (Overwrite q o n store.Answer))

-- The root or the position that a spot is at is one of the table's.
abbrev pub Ranged : Sizes → Spot → Type 0
Ranged z (Root g) = g.index < z.roots
Ranged z (Link r x) = x.index < z.positions

-- What a station is in the middle of before the act of its operation. DELETE acts when it begins.
abbrev pub Waits : Sizes → (ℕ → Standing) → Operation → Plan → Type 0
Waits z f op.New p = p ≡ plan [] Take
Waits z f (op.Deref q) p = Looks q p × Ranged z q
Waits z f (op.Release r) p = (p ≡ plan (Write.Release r ∷ []) (End Outcome.Done)) × (f r.number ≢ Fresh)
Waits z f (op.Cas q o n) p = (p ≡ plan [] (Swap q o n swap.Answer)) × Ranged z q
Waits z f (op.Store r x n) p = Stores (Link r x) n p × Ranged z (Link r x)
Waits z f (op.Delete r) p = ⊥

-- Where an operation that acted may go on, and with what it ends: NEW, CAS and STORE only owe what is left, DELETE cleans and scans.
abbrev pub AfterLooking : AfterLook → Type 0
AfterLooking look.Answer = ⊥
AfterLooking (look.CleanLink c) = Unit {0}
AfterLooking (look.CleanNext c m) = Unit {0}

abbrev pub AfterSwapping : AfterSwap → Type 0
AfterSwapping swap.Answer = ⊥
AfterSwapping (swap.CleanSwap c m t) = Unit {0}
AfterSwapping (swap.ClearLink e x) = Unit {0}

abbrev pub AfterStoring : AfterStore → Type 0
AfterStoring store.Answer = ⊥
AfterStoring (store.GiveBack e x) = Unit {0}

-- No write of a slot is owed.
abbrev pub Calm : List Write → Type 0
Calm ws = (i : ℕ) → owes_fill ws i ≡ false

-- NEW's writes that are still owed, its slot's the last of them.
pub data Filling : List Write → Type 0 where
  all : (r : Record) (i : Slot) → Filling (Write.ZeroCount r ∷ Write.ClearDeleted r ∷ Write.FillSlot i (Some r) ∷ [])
  two : (r : Record) (i : Slot) → Filling (Write.ClearDeleted r ∷ Write.FillSlot i (Some r) ∷ [])
  one : (r : Record) (i : Slot) → Filling (Write.FillSlot i (Some r) ∷ [])

-- What an operation that acted owes before its decision: a slot is written right before it is verified, or at the end of NEW.
abbrev pub Acted : Outcome → List Write → Point → Type 0
Acted answer ws (End o) = (o ≡ answer) × (Calm ws ⊎ Filling ws)
Acted answer ws Take = ⊥
Acted answer ws (Look q g) = (answer ≡ Outcome.Done) × AfterLooking g × Calm ws
Acted answer ws (LookAgain q i g) = (answer ≡ Outcome.Done) × AfterLooking g × (ws ≡ [])
Acted answer ws (Verify q i v g) = (answer ≡ Outcome.Done) × AfterLooking g × ((ws ≡ []) ⊎ (ws ≡ Write.FillSlot i v ∷ []))
Acted answer ws (Swap q o v g) = (answer ≡ Outcome.Done) × AfterSwapping g × Calm ws
Acted answer ws (Save q v g) = (answer ≡ Outcome.Done) × AfterStoring g × Calm ws
Acted answer ws (Overwrite q o v g) = (answer ≡ Outcome.Done) × AfterStoring g × Calm ws
Acted answer ws (AskDeleted c m) = (answer ≡ Outcome.Done) × Calm ws
Acted answer ws (AskPlace q i) = (answer ≡ Outcome.Done) × Calm ws
Acted answer ws (AskDone q i r) = (answer ≡ Outcome.Done) × Calm ws
Acted answer ws (AskPlaceAgain q i r) = (answer ≡ Outcome.Done) × Calm ws
Acted answer ws (CountFirst e) = (answer ≡ Outcome.Done) × Calm ws
Acted answer ws (CountAgain e) = (answer ≡ Outcome.Done) × Calm ws
Acted answer ws (AskSlot q i) = (answer ≡ Outcome.Done) × Calm ws
Acted answer ws (CountSecond e) = (answer ≡ Outcome.Done) × Calm ws
Acted answer ws (AskTrace e) = (answer ≡ Outcome.Done) × Calm ws
Acted answer ws (AskClaims e) = (answer ≡ Outcome.Done) × Calm ws
Acted answer ws (AskLink e x) = (answer ≡ Outcome.Done) × Calm ws
Acted answer ws (Give e) = (answer ≡ Outcome.Done) × Calm ws

-- The phase of a station's operation fits what the station is in the middle of.
abbrev pub InPhase : Sizes → (ℕ → Standing) → Option Plan → Phase → Type 0
InPhase z f None resting = Unit {0}
InPhase z f None (waiting o) = ⊥
InPhase z f None (acted answer) = ⊥
InPhase z f (Some p) resting = ⊥
InPhase z f (Some p) (waiting o) = Waits z f o p
InPhase z f (Some p) (acted answer) = Acted answer p.owed p.point

-- The holds that a station has beside those of the ledger: an operation that has yet to act has none.
abbrev pub beside : Option Plan → Phase → Record → ℕ
beside None ph r = 0
beside (Some p) resting r = 0
beside (Some p) (waiting o) r = 0
beside (Some p) (acted answer) r = own_holds p r
