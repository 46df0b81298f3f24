-- The table and the ledger side by side, at every moment between two calls.
use Rattle.std.specs.Prelude.{◌≡◌, ◌+◌, ◌<◌, true, Some, None, Option, ◌≢◌}
use Rattle.terms.specs.declared.Record.{Record}
use Rattle.terms.specs.declared.Station.{Station}
use Rattle.terms.specs.declared.Spot.{Spot}
use Rattle.terms.specs.declared.Standing.TheVariants.{Pooled, Fresh, Retired}
use Rattle.memory.specs.Shared.{name_at}
use Rattle.work.specs.declared.work.AfterLook.{AfterLook}
use Rattle.work.specs.declared.work.AfterLook.TheVariants as look
use Rattle.work.specs.declared.work.AfterSwap.{AfterSwap}
use Rattle.work.specs.declared.work.AfterSwap.TheVariants as swap
use Rattle.work.specs.declared.work.Point.{Point}
use Rattle.work.specs.declared.work.Point.TheVariants.{End, Take, Look, LookAgain, Verify, Swap, Save, Overwrite, AskDeleted, AskPlace, AskDone, AskPlaceAgain, CountFirst, CountAgain, AskSlot, CountSecond, AskTrace, AskClaims, AskLink, Give}
use Rattle.work.specs.Plans.{Plan}
use Rattle.machine.specs.Tables as machine
use Rattle.machine.specs.Tables.{Table}
use Rattle.ledger.specs.Ledger.{Sizes, Ledger, following}
use Rattle.ledger.specs.Explains.{Phases}
use Rattle.order.specs.Counts.{slots_holding, in_hand}
use Rattle.order.specs.Phases.{InPhase, beside}

-- a table's sizes as the ledger has them
abbrev pub sizes : machine.Sizes → Sizes
sizes z = record { stations = z.stations; records = z.records; roots = z.roots; positions = z.positions; follow = z.follow }

-- A name that is none, or a record that is neither pooled nor fresh.
abbrev pub Lasting : Ledger → Option Record → Type 0
Lasting l None = Unit {0}
Lasting l (Some r) = (l.standing r ≢ Pooled) × (l.standing r ≢ Fresh)

-- While CLEAN leads a link past m, m is withdrawn; and what it found is among what m's following link has named since.
abbrev pub PastLook : Ledger → AfterLook → Type 0
PastLook l look.Answer = Unit {0}
PastLook l (look.CleanLink c) = Unit {0}
PastLook l (look.CleanNext c m) = l.standing m ≡ Retired

abbrev pub PastSwap : Sizes → Ledger → AfterSwap → Type 0
PastSwap z l swap.Answer = Unit {0}
PastSwap z l (swap.CleanSwap c m t) = (l.standing m ≡ Retired) × (l.since m (following z c.position) t ≡ true) × Lasting l t
PastSwap z l (swap.ClearLink e x) = Unit {0}

abbrev pub Past : Sizes → Ledger → Point → Type 0
Past z l (Look q g) = PastLook l g
Past z l (LookAgain q i g) = PastLook l g
Past z l (Verify q i v g) = PastLook l g
Past z l (Swap q o v g) = PastSwap z l g
Past z l (End o) = Unit {0}
Past z l Take = Unit {0}
Past z l (Save q v g) = Unit {0}
Past z l (Overwrite q o v g) = Unit {0}
Past z l (AskDeleted c m) = Unit {0}
Past z l (AskPlace q i) = Unit {0}
Past z l (AskDone q i r) = Unit {0}
Past z l (AskPlaceAgain q i r) = Unit {0}
Past z l (CountFirst e) = Unit {0}
Past z l (CountAgain e) = Unit {0}
Past z l (AskSlot q i) = Unit {0}
Past z l (CountSecond e) = Unit {0}
Past z l (AskTrace e) = Unit {0}
Past z l (AskClaims e) = Unit {0}
Past z l (AskLink e x) = Unit {0}
Past z l (Give e) = Unit {0}

abbrev pub PastOf : Sizes → Ledger → Option Plan → Type 0
PastOf z l None = Unit {0}
PastOf z l (Some p) = Past z l p.point

pub record Related (t : Table) (l : Ledger) (ph : Phases) : Type 0 where
  -- what each spot names, and each standing;
  pub names : (q : Spot) → l.names q ≡ name_at t.shared q
  pub standings : (r : Record) → l.standing r ≡ t.standing r.number
  -- each station's holds, but for those that it has for itself;
  pub holds : (s : Station) (r : Record) → s.number < t.sizes.stations →
      l.holds s r + beside (t.seats s.number).work (ph s) r ≡ slots_holding t s.number r + in_hand (t.seats s.number).work r
  -- where each station's operation is,
  pub phases : (s : Station) → s.number < t.sizes.stations → InPhase (sizes t.sizes) t.standing (t.seats s.number).work (ph s)
  -- and what a CLEAN found.
  pub past : (s : Station) → s.number < t.sizes.stations → PastOf (sizes t.sizes) l (t.seats s.number).work
