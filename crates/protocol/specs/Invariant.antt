-- The invariant: all clauses together, of one state.
use Rattle.protocol.specs.State.{State}
use Rattle.protocol.specs.Shape.{Shape}
use Rattle.protocol.specs.Clauses.{Counted, Named, Held, Listed, Marks, Owed, Saved, Claimed, Traced, Scanned, Gone, Cleared}

pub record Inv (h : Shape) (s : State) : Type 0 where
  pub counted : Counted h s.names s.count s.owes_up s.owes_down
  pub named : Named h s.names s.standing
  pub held : Held h s.standing s.slot s.held s.hand
  pub listed : Listed h s.standing s.lists s.phase
  pub marks : Marks h s.standing s.deleted s.hand s.wiped
  pub owed : Owed h s.standing s.held s.owes_up s.owes_clear s.owes_down
  pub saved : Saved h s.names s.standing s.held s.lists s.phase s.storing s.known s.saved
  pub claimed : Claimed h s.lists s.phase s.place s.claims s.claiming s.valid
  pub traced : Traced h s.names s.trace s.owes_up s.owes_clear s.owes_down s.held s.lists s.phase
  pub scanned : Scanned h s.names s.trace s.owes_up s.owes_clear s.owes_down s.held s.lists s.phase s.read s.seen
  pub gone : Gone h s.names s.owes_up s.owes_clear s.owes_down s.held s.lists s.phase
  pub cleared : Cleared h s.names s.lists s.phase s.low
