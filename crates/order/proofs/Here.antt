-- What is known where a station takes a turn: of its slots, its decision, the ledger's holds and its phase.
use Rattle.std.proofs.Common.{◌≡◌, ℕ, ◌<◌, false, [], ◌∷◌, Some, Option, sym, refl, ◌∙◌, subst, arith}
use Rattle.terms.specs.declared.Record.{Record}
use Rattle.terms.specs.declared.Station.{Station}
use Rattle.terms.specs.declared.Outcome.{Outcome}
use Rattle.terms.specs.declared.Operation.{Operation}
use Rattle.work.specs.declared.work.Point.{Point}
use Rattle.work.specs.Plans.{Plan, plan, Notes}
use Rattle.work.specs.Steps.{settle}
use Rattle.machine.specs.Tables.{Table}
use Rattle.machine.specs.Steps.{turned, turn_answer}
use Rattle.machine.specs.Holds.{looks_into}
use Rattle.laws.specs.Agree.{num}
use Rattle.laws.specs.Mine.{mine}
use Rattle.laws.specs.Owes as owes
use Rattle.laws.specs.Owes.{Owes}
use Rattle.laws.specs.Points.{AtPoint}
use Rattle.laws.specs.Fits.{Working, Sound}
use Rattle.laws.proofs.Rows.{row_at}
use Rattle.ledger.specs.Ledger.{Ledger}
use Rattle.ledger.specs.Laws.{Lawful}
use Rattle.ledger.specs.Explains.{Phase, resting, waiting, acted, Run, moved, Explains}
use Rattle.ledger.proofs.Order.{ledgers_keep_order}
use Rattle.ledger.proofs.Extend.{same_phases}
use Rattle.order.specs.Counts.{in_hand_at, cleaning_holds}
use Rattle.order.specs.Phases.{InPhase, Acted}
use Rattle.order.specs.Relation.{sizes, Past, PastOf}
use Rattle.order.specs.Theorems.{Explained, happened}
use Rattle.order.proofs.Frame.{HoldsBy, After, moved_still, Came, arrives}
use Rattle.order.proofs.Onward.{Onward, onward_holds}

-- the table after a turn of station s that is in the middle of w, and its run
abbrev pub Turned : (t : Table) → Run → (s : Station) → Option ℕ → Plan → Type 0
Turned t run s pick w = Explained (turned t pick s.number w) (happened s (turn_answer t pick s.number w) ∷ run)

module _ (t : Table) (k : Sound t) (run : Run) (e : Explained t run) (s : Station) (b : s.number < t.sizes.stations) where
  abbrev p : ℕ
  p = s.number

  abbrev l : Ledger
  l = e.ledger

  pub low : p < 8
  low = let most = k.lawful.stations in omega arith

  -- the ledger keeps order
  pub orderly : Lawful (sizes t.sizes) l
  orderly = ledgers_keep_order (sizes t.sizes) run l e.phases e.explains

  -- a slot is as the protocol has it
  pub slot_same : (i : ℕ) → i < 8 → (mine k.state p).slot i ≡ num (t.shared.slots p i)
  slot_same i h = row_at k.state.slot p i h ∙ k.fits.agrees.slots p i h

  -- and so is a standing
  pub standing_same : (r : Record) → l.standing r ≡ k.state.standing r.number
  standing_same r = e.related.standings r ∙ sym (k.fits.agrees.standings r.number)

  -- what is known at a decision, with nothing owed
  pub at_point : (x : Point) → (t.seats p).work ≡ Some (plan [] x) → AtPoint t.sizes (t.seats p).notes x (mine k.state p)
  at_point x here = paid (subst (λ (i : Option Plan). Working t.sizes (t.seats p).notes (mine k.state p) i) here (k.fits.seats p b))
    where
      paid : Owes t.sizes.each (AtPoint t.sizes (t.seats p).notes x) (mine k.state p) [] → AtPoint t.sizes (t.seats p).notes x (mine k.state p)
      paid (owes.paid h) = h

  module _ (w : Plan) (here : (t.seats p).work ≡ Some w) where
    -- what is owed
    pub owes_it : Owes t.sizes.each (AtPoint t.sizes (t.seats p).notes w.point) (mine k.state p) w.owed
    owes_it = subst (λ (i : Option Plan). Working t.sizes (t.seats p).notes (mine k.state p) i) here (k.fits.seats p b)

    -- the ledger's holds
    pub holds_here : (r : Record) → HoldsBy (t.shared.slots p) (l.holds s r) (Some w) (e.phases s) r
    holds_here r = subst (λ (i : Option Plan). HoldsBy (t.shared.slots p) (l.holds s r) i (e.phases s) r) here (e.related.holds s r b)

    -- in a known phase
    pub holds_in : (x : Phase) → e.phases s ≡ x → (r : Record) → HoldsBy (t.shared.slots p) (l.holds s r) (Some w) x r
    holds_in x is r = subst (λ (i : Phase). HoldsBy (t.shared.slots p) (l.holds s r) (Some w) i r) is (holds_here r)

    pub phase_here : InPhase (sizes t.sizes) t.standing (Some w) (e.phases s)
    phase_here = subst (λ (i : Option Plan). InPhase (sizes t.sizes) t.standing i (e.phases s)) here (e.related.phases s b)

    pub past_here : Past (sizes t.sizes) l w.point
    past_here = subst (λ (i : Option Plan). PastOf (sizes t.sizes) l i) here (e.related.past s b)

    -- By the phase: either the operation has yet to act, or it acted.
    pub by_phase : (A : Type 0) → ((o : Operation) → e.phases s ≡ waiting o → InPhase (sizes t.sizes) t.standing (Some w) (waiting o) → A) →
        ((a : Outcome) → e.phases s ≡ acted a → Acted a w.owed w.point → A) → A
    by_phase A f g = go (e.phases s) refl phase_here
      where
        go : (x : Phase) → e.phases s ≡ x → InPhase (sizes t.sizes) t.standing (Some w) x → A
        go resting is h = absurd h
        go (waiting o) is h = f o is h
        go (acted a) is h = g a is h

  -- The run stays explained while the phase stays.
  pub still : (x : Phase) → e.phases s ≡ x → Explains (sizes t.sizes) run l (moved e.phases s x)
  still x is = same_phases (moved_still e.phases s x is) e.explains

  -- A turn that leaves the shared words and the standings and moves nothing of the ledger.
  pub after_same : (w : Plan) (x : Phase) → ((r : Record) → HoldsBy (t.shared.slots p) (l.holds s r) (Some w) x r) → InPhase (sizes t.sizes) t.standing (Some w) x → Past (sizes t.sizes) l w.point →
      After t l e.phases s t.shared t.standing l (Some w) x
  after_same w x h d f = record {
    names = e.related.names;
    standings = e.related.standings;
    slots = λ q d i. refl;
    holds = λ q r d. refl;
    phases = λ q d c. e.related.phases q c;
    past = λ q d c. e.related.past q c;
    own_holds = h;
    own_phase = d;
    own_past = f;
  }

  -- Such a turn of a station whose operation acted, with nothing of its own before it and after it.
  pub quiet_turn : (x : Point) → (t.seats p).work ≡ Some (plan [] x) → ((i : ℕ) → looks_into x i ≡ false) → ((r : Record) → cleaning_holds x r ≡ 0) → ((r : Record) → in_hand_at [] x r ≡ 0) →
      (a : Outcome) → e.phases s ≡ acted a → a ≡ Outcome.Done → (w : Plan) (n : Notes) → Onward (sizes t.sizes) l [] w → Came t run e s low t.shared t.standing n t.pool (settle w)
  quiet_turn x here closed nothing empty a is done w n on = arrives t run e s low t.shared t.standing n t.pool l a (still (acted a) is) w (after_same w (acted a)
      (λ r. let none = nothing r in onward_holds (sizes t.sizes) l (t.shared.slots p) (l.holds s r) (l.holds s r) x [] w a r closed (empty r) (omega (arith, none)) (λ i. refl) refl on (holds_in (plan [] x) here (acted a) is r))
      (subst (λ (i : Outcome). Acted i w.owed w.point) (sym done) (on.round.acted w.owed (on.calm (λ i. refl)))) on.round.past)
