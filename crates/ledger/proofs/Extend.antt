-- Explanations extended: what a proof by steps needs beside the four rules.
use Rattle.std.proofs.Common.{◌≡◌, false, cond, ◌∷◌, Option, refl, ap, subst}
use mathlib.Core.Path.{fun_ext}
use Rattle.terms.specs.declared.Record.{Record}
use Rattle.terms.specs.declared.Station.{Station}
use Rattle.terms.specs.declared.Position.{Position}
use Rattle.terms.specs.declared.Spot.{Spot}
use Rattle.terms.specs.declared.Operation.{Operation}
use Rattle.terms.specs.declared.Outcome.{Outcome}
use Rattle.ledger.specs.Words.{same_station}
use Rattle.ledger.specs.Ledger.{Sizes, Ledger, Allows}
use Rattle.ledger.specs.Explains.{begins, ends, Run, Phase, resting, waiting, acted, Phases, moved, Explains, call, act}
use Rattle.ledger.proofs.Words.{station_same, at_key}

-- A station's phase after a change of it, and another's.
pub moved_here : (before : Phases) (s : Station) (p : Phase) → moved before s p s ≡ p
moved_here before s p = at_key same_station before s p station_same

pub moved_there : (before : Phases) (s t : Station) (p : Phase) → same_station t s ≡ false → moved before s p t ≡ before t
moved_there before s t p other = ap (λ b. cond b p (before t)) other

-- Phases that agree at every station, and ledgers that agree everywhere, are the same.
pub same_phases : {z : Sizes} {run : Run} {l : Ledger} {one other : Phases} → ((s : Station) → one s ≡ other s) → Explains z run l one → Explains z run l other
same_phases {z} {run} {l} e x = subst (λ (p : Phases). Explains z run l p) (fun_ext e) x

pub same_ledger : (one other : Ledger) → ((q : Spot) → one.names q ≡ other.names q) → ((s : Station) (r : Record) → one.holds s r ≡ other.holds s r) →
    ((r : Record) → one.standing r ≡ other.standing r) → ((r : Record) (x : Position) (n : Option Record) → one.since r x n ≡ other.since r x n) → one ≡ other
same_ledger one other a b c d = λ i. record { names = λ q. a q i; holds = λ s r. b s r i; standing = λ r. c r i; since = λ r x n. d r x n i }

-- An operation that acts as it begins.
pub begins_acting : {z : Sizes} {run : Run} {l after : Ledger} {phases : Phases} (s : Station) (op : Operation) (answer : Outcome) →
    Explains z run l phases → phases s ≡ resting → Allows z l s op answer after → Explains z (begins s op ∷ run) after (moved (moved phases s (waiting op)) s (acted answer))
begins_acting {phases = phases} s op answer e rests a = act s op answer (call (begins s op) e (rests, refl)) (moved_here phases s (waiting op)) a

-- An operation that acts as it ends.
pub ends_acting : {z : Sizes} {run : Run} {l after : Ledger} {phases : Phases} (s : Station) (op : Operation) (answer : Outcome) →
    Explains z run l phases → phases s ≡ waiting op → Allows z l s op answer after → Explains z (ends s answer ∷ run) after (moved (moved phases s (acted answer)) s resting)
ends_acting {phases = phases} s op answer e waits a = call (ends s answer) (act s op answer e waits a) (moved_here phases s (acted answer), refl)
