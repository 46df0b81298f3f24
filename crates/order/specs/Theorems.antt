-- What is proved of the table and the ledger side by side.
use Rattle.std.specs.Prelude.{◌≡◌, ℕ, ◌<◌, true, [], ◌∷◌, Some, None, Option}
use Rattle.terms.specs.declared.Station.{Station}
use Rattle.terms.specs.declared.Outcome.{Outcome}
use Rattle.terms.specs.declared.Operation.{Operation}
use Rattle.machine.specs.Tables.{Table, new_table}
use Rattle.machine.specs.Tables as machine
use Rattle.memory.specs.declared.access.Access.TheVariants.{Take}
use Rattle.work.specs.Plans.{Plan, access_of}
use Rattle.machine.specs.Begin.{begin_refusal, begun}
use Rattle.machine.specs.Steps.{turned, turn_answer}
use Rattle.laws.specs.Fits.{Lawful, Sound}
use Rattle.laws.specs.Theorems.{FromPool}
use Rattle.ledger.specs.Ledger.{Ledger, opening}
use Rattle.ledger.specs.Explains as explained
use Rattle.ledger.specs.Explains.{Happening, nothing, begins, ends, resting, Run, Phases, Explains}
use Rattle.order.specs.Relation.{sizes, Related}

-- A new table goes with the ledger's start.
abbrev pub NewIsRelated : Type 0
NewIsRelated = (z : machine.Sizes) → Related (new_table z) opening (λ s. resting)

-- A run that is explained by a ledger that goes with the table.
pub record Explained (t : Table) (run : Run) : Type 0 where
  pub ledger : Ledger
  pub phases : Phases
  pub explains : Explains (sizes t.sizes) run ledger phases
  pub related : Related t ledger phases

-- A beginning that is not refused leaves such a run with one happening more.
abbrev pub BeginningsAreExplained : Type 0
BeginningsAreExplained = (t : Table) → Sound t → (run : Run) → Explained t run → (s : Station) (o : Operation) → begin_refusal t s.number o ≡ None →
    Explained (begun t s.number o) (begins s o ∷ run)

-- What a STEP comes to for the order of acts: nothing while its operation goes on, and then its end with an answer.
abbrev pub happened : Station → Option Outcome → Happening
happened s None = nothing
happened s (Some o) = ends s o

-- A take that picks nothing finds an empty pool.
abbrev pub PicksIfAny : Table → Plan → Option ℕ → Type 0
PicksIfAny t w pick = access_of w ≡ Some Take → pick ≡ None → (r : ℕ) → t.pool r ≡ true → ⊥

-- So does a turn, whatever record of the pool is picked.
abbrev pub TurnsAreExplained : Type 0
TurnsAreExplained = (t : Table) → Sound t → (run : Run) → Explained t run → (s : Station) → s.number < t.sizes.stations → (w : Plan) → (t.seats s.number).work ≡ Some w →
    (pick : Option ℕ) → FromPool t pick → PicksIfAny t w pick → Explained (turned t pick s.number w) (happened s (turn_answer t pick s.number w) ∷ run)

-- What a run of a new table comes to, call by call: a beginning that is not refused, a turn of a busy station, or a call that leaves
-- the table as it is, as a refused one does.
pub data Course (z : machine.Sizes) : Table → Run → Type 0 where
  fresh_table : Course z (new_table z) []
  leaves : {t : Table} {run : Run} → Course z t run → Course z t (nothing ∷ run)
  begin : {t : Table} {run : Run} → Course z t run → (s : Station) (o : Operation) → begin_refusal t s.number o ≡ None → Course z (begun t s.number o) (begins s o ∷ run)
  turn : {t : Table} {run : Run} → Course z t run → (s : Station) → s.number < t.sizes.stations → (w : Plan) → (t.seats s.number).work ≡ Some w → (pick : Option ℕ) → FromPool t pick → PicksIfAny t w pick →
      Course z (turned t pick s.number w) (happened s (turn_answer t pick s.number w) ∷ run)

-- Every run of every table is explained by some order of whole acts, however its stations are interleaved.
abbrev pub RunsAreExplained : Type 0
RunsAreExplained = (z : machine.Sizes) → Lawful z → (t : Table) (run : Run) → Course z t run → explained.Explained (sizes z) run
