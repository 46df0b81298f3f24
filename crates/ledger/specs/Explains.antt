-- What explains a run: an order of whole acts, each between its operation's beginning and its end and with the
-- answer that was given, and silent acts anywhere.
-- Assumes nothing.
use Rattle.std.specs.Prelude.{◌≡◌, List, [], ◌∷◌}
use Rattle.terms.specs.declared.Station.{Station}
use Rattle.terms.specs.declared.Operation.{Operation}
use Rattle.terms.specs.declared.Outcome.{Outcome}
use Rattle.ledger.specs.Words.{same_station, changed}
use Rattle.ledger.specs.Ledger.{Sizes, Ledger, opening, Allows, Silent, Permits}

-- What one call with its answer comes to, for the order of acts.
pub data Happening : Type 0 where
  -- a refused call, FILL, READ, SETUP, a STEP that leaves its operation unfinished
  nothing : Happening
  -- an accepted beginning of an operation
  begins : (s : Station) (op : Operation) → Happening
  -- a STEP that finishes its operation with an answer
  ends : (s : Station) (answer : Outcome) → Happening

-- A run, its latest happening first.
abbrev pub Run : Type 0
Run = List Happening

-- Where a station is: it has no operation; its operation has yet to act; its operation acted, with an answer.
pub data Phase : Type 0 where
  resting : Phase
  waiting : (op : Operation) → Phase
  acted : (answer : Outcome) → Phase

abbrev pub Phases : Type 0
Phases = Station → Phase

-- Station s comes to a phase.
abbrev pub moved : Phases → Station → Phase → Phases
moved before s p = changed same_station before s p

-- A happening fits the phases before it and leaves those after it.
abbrev pub Fits : Phases → Happening → Phases → Type 0
Fits before nothing after = after ≡ before
-- a station at rest begins, and waits
Fits before (begins s op) after = (before s ≡ resting) × (after ≡ moved before s (waiting op))
-- a station whose operation acted ends, with the answer of its act and no other
Fits before (ends s answer) after = (before s ≡ acted answer) × (after ≡ moved before s resting)

-- A ledger and the stations' phases explain a run.
pub data Explains (z : Sizes) : Run → Ledger → Phases → Type 0 where
  -- Before anything happened the ledger is that of a new table, and every station is at rest.
  start : Explains z [] opening (λ s. resting)
  -- One more happening leaves the ledger as it is.
  call : {run : Run} {l : Ledger} {before after : Phases} (h : Happening) →
      Explains z run l before → Fits before h after → Explains z (h ∷ run) l after
  -- A station that waits acts, if the ledger allows it.
  act : {run : Run} {l after : Ledger} {phases : Phases} (s : Station) (op : Operation) (answer : Outcome) →
      Explains z run l phases → phases s ≡ waiting op → Allows z l s op answer after →
      Explains z run after (moved phases s (acted answer))
  -- A silent act, if the ledger permits it.
  silent : {run : Run} {l after : Ledger} {phases : Phases} (a : Silent) →
      Explains z run l phases → Permits z l a after → Explains z run after phases

-- A run has an order of whole acts.
abbrev pub Explained : Sizes → Run → Type 0
Explained z run = (l : Ledger) × (phases : Phases) × Explains z run l phases
