-- Explanations that grow by a whole operation, or by a silent act, while every station is at rest.
use Rattle.std.proofs.Common.{◌≡◌, [], ◌∷◌, refl, ◌∙◌, inl, inr}
use Rattle.terms.specs.declared.Station.{Station}
use Rattle.terms.specs.declared.Operation.{Operation}
use Rattle.terms.specs.declared.Outcome.{Outcome}
use Rattle.ledger.specs.Words.{same_station}
use Rattle.ledger.specs.Ledger.{Sizes, Ledger, opening, Allows, Silent, Permits}
use Rattle.ledger.specs.Explains.{begins, ends, Run, resting, waiting, acted, Phases, moved, Explains, start, call, silent, Explained}
use Rattle.ledger.proofs.Words.{same_station_is, tells}
use Rattle.ledger.proofs.Extend.{moved_here, moved_there, ends_acting}

-- The run is explained, and every station is at rest.
pub record Quiet (z : Sizes) (run : Run) (l : Ledger) : Type 0 where
  pub phases : Phases
  pub explains : Explains z run l phases
  pub rests : (s : Station) → phases s ≡ resting

pub quiet_start : (z : Sizes) → Quiet z [] opening
quiet_start z = record { phases = λ s. resting; explains = start; rests = λ s. refl }

pub quiet_silent : {z : Sizes} {run : Run} {l : Ledger} (a : Silent) (after : Ledger) → Quiet z run l → Permits z l a after → Quiet z run after
quiet_silent a after q p = record { phases = q.phases; explains = silent a q.explains p; rests = q.rests }

pub quiet_whole : {z : Sizes} {run : Run} {l : Ledger} (s : Station) (op : Operation) (answer : Outcome) (after : Ledger) →
    Quiet z run l → Allows z l s op answer after → Quiet z (ends s answer ∷ begins s op ∷ run) after
quiet_whole s op answer after q a = record {
  phases = moved second s resting;
  explains = ends_acting s op answer (call (begins s op) q.explains (q.rests s, refl)) (moved_here q.phases s (waiting op)) a;
  rests = λ t. elim (tells same_station second s resting t same_station_is) [
    | inl (_, e) ↦ e
    | inr (other, e) ↦ e ∙ moved_there first s t (acted answer) other ∙ moved_there q.phases s t (waiting op) other ∙ q.rests t
  ];
}
  where
    first : Phases
    first = moved q.phases s (waiting op)

    second : Phases
    second = moved first s (acted answer)

pub quiet_explained : {z : Sizes} {run : Run} {l : Ledger} → Quiet z run l → Explained z run
quiet_explained {l = l} q = (l, q.phases, q.explains)
