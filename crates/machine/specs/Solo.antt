-- A station that takes turn after turn while no other does: how many turns its operation takes, and what it answers.
use Rattle.std.specs.Prelude.{◌≡◌, ℕ, suc, ◌+◌, ◌<◌, true, Some, None, Option}
use Rattle.terms.specs.declared.Record.{Record}
use Rattle.terms.specs.declared.Position.{Position}
use Rattle.terms.specs.declared.Spot.{Spot}
use Rattle.terms.specs.declared.Outcome.{Outcome}
use Rattle.terms.specs.declared.Operation.{Operation}
use Rattle.memory.specs.Shared.{name_at}
use Rattle.work.specs.Plans.{Plan}
use Rattle.machine.specs.Tables.{Table}
use Rattle.machine.specs.Steps.{turned, turn_answer}
use Rattle.machine.specs.Begin.{begun}

-- From t on, n turns of station p, with any picks of the pool, end its operation with this outcome, and no sooner.
pub data Takes (p : ℕ) : Table → ℕ → Outcome → Type 0 where
  last : (t : Table) (w : Plan) (o : Outcome) → (t.seats p).work ≡ Some w → ((pick : Option ℕ) → turn_answer t pick p w ≡ Some o) → Takes p t 1 o
  more : (t : Table) (w : Plan) (n : ℕ) (o : Outcome) → (t.seats p).work ≡ Some w → ((pick : Option ℕ) → turn_answer t pick p w ≡ None) →
      ((pick : Option ℕ) → Takes p (turned t pick p w) n o) → Takes p t (suc n) o

-- A dereference of a spot that nobody changes takes 3 turns, and answers what the spot names.
abbrev pub DerefTakesThree : Type 0
DerefTakesThree = (t : Table) (p : ℕ) (q : Spot) → p < 8 →
    Takes p (begun t p (Operation.Deref q)) 3 (Outcome.Found (name_at t.shared q))

-- A swap from none to none of a spot that names none takes 1 turn and says yes.
abbrev pub SwapOfNoneTakesOne : Type 0
SwapOfNoneTakesOne = (t : Table) (p : ℕ) (q : Spot) → p < 8 → name_at t.shared q ≡ None →
    Takes p (begun t p (Operation.Cas q None None)) 1 (Outcome.Swapped true)

-- A store takes 2 turns, 2 more where the new name is a record, and 1 more where the link named one.
abbrev pub counted : ℕ → Option Record → ℕ
counted n None = 0
counted n (Some r) = n

abbrev pub StoreTakes : Type 0
StoreTakes = (t : Table) (p : ℕ) (a : Record) (x : Position) (new : Option Record) → p < 8 →
    Takes p (begun t p (Operation.Store a x new)) (2 + counted 2 new + counted 1 (name_at t.shared (Spot.Link a x))) Outcome.Done
