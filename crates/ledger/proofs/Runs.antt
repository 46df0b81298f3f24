-- What explains a run can be read backwards: the latest happening, and the runs of none and of one operation.
use Rattle.std.proofs.Common.{◌≡◌, false, [], ◌∷◌, sym, refl, ap, ◌∙◌, subst, inl, inr, arith}
use Rattle.std.proofs.lemmas.Bool.{cases_Bool}
use Rattle.terms.specs.declared.Station.{Station}
use Rattle.terms.specs.declared.Operation.{Operation}
use Rattle.terms.specs.declared.Outcome.{Outcome}
use Rattle.ledger.specs.Words.{same_station}
use Rattle.ledger.specs.Ledger.{Sizes, Ledger, opening, Allows, Silent, lead, clear, return, Permits}
use Rattle.ledger.specs.Explains.{Happening, begins, Run, Phase, resting, waiting, acted, Phases, moved, Fits, Explains, start, call, act, silent}
use Rattle.ledger.specs.Laws.{EarlierIsExplained, EndsAsItActed, OneOperation, EmptyRootHasNoRecord}
use Rattle.ledger.proofs.Words.{same_station_is, pooled≢retired}
use Rattle.ledger.proofs.Extend.{moved_here, moved_there}

-- The latest happening came to a ledger and phases that explain what was before it, and fits those phases.
pub latest : {z : Sizes} {h : Happening} {run : Run} {l : Ledger} {phases : Phases} → Explains z (h ∷ run) l phases →
    (l' : Ledger) × (before : Phases) × (after : Phases) × Explains z run l' before × Fits before h after
latest (call {l} {before} {after} h e f) = (l, before, after, e, f)
latest (act s op answer e w a) = latest e
latest (silent a e p) = latest e

pub earlier_is_explained : EarlierIsExplained
earlier_is_explained z h run (l, phases, e) = let (l', before, after, e', f) = latest e in (l', before, e')

pub ends_as_it_acted : EndsAsItActed
ends_as_it_acted z s answer run (l, phases, e) = let (l', before, after, e', f) = latest e in (l', before, e', f.0)

resting≢waiting : (p : Phase) (op : Operation) → p ≡ resting → p ≡ waiting op → ⊥
resting≢waiting p op a b = grind arith

acted≢waiting : (p : Phase) (op : Operation) (answer : Outcome) → p ≡ acted answer → p ≡ waiting op → ⊥
acted≢waiting p op answer a b = grind arith

-- On the ledger of a new table no silent act is permitted: nothing is retired.
pub opening_silent : (z : Sizes) (a : Silent) (l after : Ledger) → l ≡ opening → ¬ (Permits z l a after)
opening_silent z (lead r x n) l after e (retired, _, _, _) = pooled≢retired (l.standing r) (ap (λ (l : Ledger). l.standing r) e) retired
opening_silent z (clear r x) l after e ((retired, _, _), _, _) = pooled≢retired (l.standing r) (ap (λ (l : Ledger). l.standing r) e) retired
opening_silent z (return r) l after e ((retired, _, _), _, _) = pooled≢retired (l.standing r) (ap (λ (l : Ledger). l.standing r) e) retired

-- Before anything happened: a new table's ledger, and all stations at rest.
pub before_all : {z : Sizes} {l : Ledger} {phases : Phases} → Explains z [] l phases → (l ≡ opening) × ((s : Station) → phases s ≡ resting)
before_all start = (refl, λ s. refl)
before_all {phases} (act s op answer e w a) = absurd (resting≢waiting _ op ((before_all e).1 s) w)
before_all {z} (silent a e p) = absurd (opening_silent z a _ _ (before_all e).0 p)

-- While one operation has begun and no other, the other stations rest;
others_rest : {z : Sizes} {s : Station} {op : Operation} {l : Ledger} {phases : Phases} → Explains z (begins s op ∷ []) l phases →
    (t : Station) → same_station t s ≡ false → phases t ≡ resting
others_rest {s} {op} (call {before} h e f) t d = ap (λ (p : Phases). p t) f.1 ∙ moved_there before s t (waiting op) d ∙ (before_all e).1 t
others_rest {s} (act {phases} s' op answer e w a) t d = elim (cases_Bool (same_station s' s)) [
  | inl same ↦ moved_there phases s' t (acted answer) (rw (same_station_is s' s same) d) ∙ others_rest e t d
  | inr other ↦ absurd (resting≢waiting (phases s') op (others_rest e s' other) w)
]
others_rest (silent a e p) t d = others_rest e t d

-- and its station waits over the ledger of a new table, or has acted as that allows.
data Begun (z : Sizes) (s : Station) (op : Operation) (l : Ledger) (phases : Phases) : Type 0 where
  waits : l ≡ opening → phases s ≡ waiting op → Begun z s op l phases
  has_acted : (answer : Outcome) (after : Ledger) → Allows z opening s op answer after → phases s ≡ acted answer → Begun z s op l phases

asked : (p : Phase) (op op' : Operation) → p ≡ waiting op → p ≡ waiting op' → op ≡ op'
asked p op op' a b = cc

answered : (p : Phase) (a b : Outcome) → p ≡ acted a → p ≡ acted b → a ≡ b
answered p a b e f = cc

begun : {z : Sizes} {s : Station} {op : Operation} {l : Ledger} {phases : Phases} → Explains z (begins s op ∷ []) l phases → Begun z s op l phases
begun {s} {op} (call {before} h e f) = waits (before_all e).0 (ap (λ (p : Phases). p s) f.1 ∙ moved_here before s (waiting op))
begun {z} {s} {op} (act {l} {after} {phases} s' op' answer e w a) = elim (cases_Bool (same_station s' s)) [
  | inl same ↦ by (begun e) (same_station_is s' s same)
  | inr other ↦ absurd (resting≢waiting (phases s') op' (others_rest e s' other) w)
]
  where
    by : Begun z s op l phases → s' ≡ s → Begun z s op after (moved phases s' (acted answer))
    by (waits new wait) is =
        let o : op' ≡ op = asked (phases s) op' op (rw is at w) wait in
        has_acted answer after
        (subst (λ o. Allows z opening s o answer after) o (subst (λ t. Allows z opening t op' answer after) is (subst (λ l. Allows z l s' op' answer after) new a)))
        (subst (λ t. moved phases t (acted answer) s ≡ acted answer) (sym is) (moved_here phases s (acted answer)))
    by (has_acted earlier after was done) is = absurd (acted≢waiting (phases s) op' earlier done (rw is at w))
begun {z} {s} {op} (silent {l} {after} {phases} a e p) = by (begun e)
  where
    by : Begun z s op l phases → Begun z s op after phases
    by (waits new wait) = absurd (opening_silent z a l after new p)
    by (has_acted answer then was done) = has_acted answer then was done

pub one_operation : OneOperation
one_operation z s op answer e = let (l, phases, e', done) = ends_as_it_acted z s answer (begins s op ∷ []) e in by (begun e') done
  where
    by : {l : Ledger} {phases : Phases} → Begun z s op l phases → phases s ≡ acted answer → (after : Ledger) × Allows z opening s op answer after
    by {phases = p} (waits new wait) done = absurd (acted≢waiting (p s) op answer done wait)
    by {phases = p} (has_acted said after was with) done = (after, subst (λ o. Allows z opening s op o after) (answered (p s) said answer with done) was)

pub empty_root : EmptyRootHasNoRecord
empty_root z s g r e = let (after, (_, (_, said, _))) = one_operation z s _ _ e in grind arith
