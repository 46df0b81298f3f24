-- What holds of every explained run: the statements of theorems.
-- Assumes nothing.
use Rattle.std.specs.Prelude.{◌≡◌, ◌<◌, true, ◌≢◌, ◌⊎◌, ◌↔◌, [], ◌∷◌, Some, Option}
use Rattle.terms.specs.declared.Record.{Record}
use Rattle.terms.specs.declared.Station.{Station}
use Rattle.terms.specs.declared.Position.{Position}
use Rattle.terms.specs.declared.Spot.{Spot}
use Rattle.terms.specs.declared.Spot.TheVariants.{Root, Link}
use Rattle.terms.specs.declared.Standing.TheVariants.{Pooled, Fresh, Retired}
use Rattle.terms.specs.declared.Operation.{Operation}
use Rattle.terms.specs.declared.Operation.TheVariants.{Deref}
use Rattle.terms.specs.declared.Outcome.{Outcome}
use Rattle.terms.specs.declared.Outcome.TheVariants.{Found}
use Rattle.terms.specs.declared.Root as roots
use Rattle.ledger.specs.Ledger.{Sizes, Ledger, opening, Inside, Holds, Settled, Allows, Silent, Permits}
use Rattle.ledger.specs.Explains.{Happening, begins, ends, Run, Phases, acted, Explains, Explained}

-- A ledger keeps order.
pub record Lawful (z : Sizes) (l : Ledger) : Type 0 where
  -- a record that is not pooled is one of the table's
  pub inside : (r : Record) → l.standing r ≢ Pooled → r.number < z.records
  -- a spot that names a record is one of the table's, and the record is neither pooled nor fresh
  pub named : (q : Spot) (r : Record) → l.names q ≡ Some r → Inside z q × Settled l (Some r)
  -- a station that holds a record is one of the table's, and the record is not pooled
  pub held : (s : Station) (r : Record) → Holds l s r → (s.number < z.stations) × (l.standing r ≢ Pooled)
  -- a fresh record is held by one station
  pub alone : (s t : Station) (r : Record) → l.standing r ≡ Fresh → Holds l s r → Holds l t r → s ≡ t
  -- what a link of a retired record names now is among what it has named since
  pub noted : (r : Record) (x : Position) → l.standing r ≡ Retired → l.since r x (l.names (Link r x)) ≡ true

-- Every ledger that explains a run keeps order; so a pooled record is named by nothing and held by nobody.
abbrev pub LedgersKeepOrder : Type 0
LedgersKeepOrder = (z : Sizes) (run : Run) (l : Ledger) (phases : Phases) → Explains z run l phases → Lawful z l

-- One act of a station, or one silent act, takes the ledger l to `after`.
pub data Moves (z : Sizes) (l after : Ledger) : Type 0 where
  acts : (s : Station) (op : Operation) (answer : Outcome) → Allows z l s op answer after → Moves z l after
  silently : (a : Silent) → Permits z l a after → Moves z l after

-- What a link of a retired record has named since is what it names now, and what it had named before this act if the
-- record was retired already; and nothing else.
abbrev pub SinceIsWhatWasNamed : Type 0
SinceIsWhatWasNamed = (z : Sizes) (l after : Ledger) → Lawful z l → Moves z l after →
    (r : Record) (x : Position) (n : Option Record) → after.standing r ≡ Retired →
    (after.since r x n ≡ true) ↔ ((after.names (Link r x) ≡ n) ⊎ ((l.standing r ≡ Retired) × (l.since r x n ≡ true)))

-- What came before the latest happening of an explained run is explained.
abbrev pub EarlierIsExplained : Type 0
EarlierIsExplained = (z : Sizes) (h : Happening) (run : Run) → Explained z (h ∷ run) → Explained z run

-- An operation that ends has acted with just the answer that it gives.
abbrev pub EndsAsItActed : Type 0
EndsAsItActed = (z : Sizes) (s : Station) (answer : Outcome) (run : Run) → Explained z (ends s answer ∷ run) →
    (l : Ledger) × (phases : Phases) × Explains z run l phases × (phases s ≡ acted answer)

-- A run of one operation is explained only if the ledger of a new table allows the operation with that answer.
abbrev pub OneOperation : Type 0
OneOperation = (z : Sizes) (s : Station) (op : Operation) (answer : Outcome) → Explained z (ends s answer ∷ begins s op ∷ []) →
    (after : Ledger) × Allows z opening s op answer after

-- So a run in which DEREF of a root of a new table answers a record is not explained.
abbrev pub EmptyRootHasNoRecord : Type 0
EmptyRootHasNoRecord = (z : Sizes) (s : Station) (g : roots.Root) (r : Record) →
    ¬ (Explained z (ends s (Found (Some r)) ∷ begins s (Deref (Root g)) ∷ []))
