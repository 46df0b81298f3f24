-- A beginning leaves the table and the ledger side by side: DELETE acts at once, the other operations wait.
use Rattle.std.proofs.Common.{◌≡◌, ℕ, zero, suc, ◌<◌, Bool, true, false, cond, not, ◌&&◌, ltb, List, ◌∷◌, ◌++◌, Some, None, Option, sym, refl, ap, ◌∙◌, subst, arith}
use Rattle.std.proofs.lemmas.Bool.{ltb-true, true≢false}
use Rattle.terms.specs.declared.Record.{Record}
use Rattle.terms.specs.declared.Station.{Station}
use Rattle.terms.specs.declared.Spot.{Spot}
use Rattle.terms.specs.declared.Spot.TheVariants as at
use Rattle.terms.specs.declared.Standing.{Standing}
use Rattle.terms.specs.declared.Standing.TheVariants.{Fresh}
use Rattle.terms.specs.declared.Operation.{Operation}
use Rattle.terms.specs.declared.Operation.TheVariants as op
use Rattle.terms.specs.Words.{same_name}
use Rattle.frames.specs.declared.refusal.Refusal.{Refusal}
use Rattle.work.specs.Plans.{Plan, Notes}
use Rattle.machine.specs.Tables.{Table}
use Rattle.machine.specs.Steps.{seated}
use Rattle.machine.specs.Holds.{is_verified}
use Rattle.machine.specs.Begin as begin
use Rattle.machine.specs.Begin.{Check, first_failing, begin_refusal, begun}
use Rattle.laws.specs.Fits.{Sound}
use Rattle.laws.proofs.Checks.{pass, passes}
use Rattle.ledger.specs.Ledger.{Sizes, Ledger}
use Rattle.ledger.specs.Explains.{Happening, begins, Phase, resting, waiting, acted, Run, Phases, moved, Explains}
use Rattle.ledger.specs.Explains as explains
use Rattle.order.specs.Counts.{count, in_hand}
use Rattle.order.specs.Phases.{Ranged, InPhase, first, reads}
use Rattle.order.specs.Relation.{sizes, PastOf}
use Rattle.order.specs.Theorems.{Explained}
use Rattle.order.proofs.Frame.{HoldsBy, related_after}

-- An idle station's operation rests.
pub rests : (z : Sizes) (f : ℕ → Standing) (w : Option Plan) (x : Phase) → w ≡ None → InPhase z f w x → x ≡ resting
rests z f None resting e h = refl
rests z f None (waiting o) e h = absurd h
rests z f None (acted a) e h = absurd h
rests z f (Some p) x e h = absurd (grind arith)

pub and_true : (b : Bool) → (b && true) ≡ b
and_true true = refl
and_true false = refl

-- Tests that agree count the same, and one that nothing passes counts 0.
pub count_same : (f g : ℕ → Bool) (n : ℕ) → ((i : ℕ) → f i ≡ g i) → count f n ≡ count g n
unfolding count
count_same f g zero h = refl
count_same f g (suc n) h = ap (λ (b : Bool). cond b (suc (count f n)) (count f n)) (h n) ∙ ap (λ (m : ℕ). cond (g n) (suc m) m) (count_same f g n h)

pub count_none : (f : ℕ → Bool) (n : ℕ) → ((i : ℕ) → f i ≡ false) → count f n ≡ 0
unfolding count
count_none f zero h = refl
count_none f (suc n) h = ap (λ (b : Bool). cond b (suc (count f n)) (count f n)) (h n) ∙ count_none f n h

-- The checks of a beginning, taken apart.
pub record Checked (t : Table) (p : ℕ) (o : Operation) : Type 0 where
  pub station : p < t.sizes.stations
  pub ranges : first_failing (begin.ranges t.sizes o) ≡ None
  pub idle : (t.seats p).work ≡ None
  pub helds : first_failing (begin.held t p o) ≡ None
  pub fits : first_failing (begin.standings_fit t p o) ≡ None

pub idle_none : (w : Option Plan) → begin.is_idle w ≡ true → w ≡ None
idle_none None e = refl
idle_none (Some p) e = absurd (true≢false (sym e))

pub checked : (t : Table) (p : ℕ) (o : Operation) → begin_refusal t p o ≡ None → Checked t p o
checked t p o e =
    let c0 : Check = begin.check (ltb p t.sizes.stations) Refusal.Station 1 in
    let c1 : Check = begin.check (begin.is_idle (t.seats p).work) Refusal.Busy 1 in
    let rs : List Check = begin.ranges t.sizes o in
    let hs : List Check = begin.held t p o in
    let (x, w) = passes ((c0 ∷ rs) ++ (c1 ∷ hs)) (begin.standings_fit t p o) e in
    let (x0, x1) = passes (c0 ∷ rs) (c1 ∷ hs) x in
    let (inside, ranges) = pass c0.passes (first_failing rs) c0.refusal x0 in
    let (idle, helds) = pass c1.passes (first_failing hs) c1.refusal x1 in
    record { station = ltb-true p t.sizes.stations inside; ranges = ranges; idle = idle_none (t.seats p).work idle; helds = helds; fits = w }

-- A beginning that acts later: the ledger stays, and the station waits.
module _ (t : Table) (ok : Sound t) (run : Run) (e : Explained t run) (s : Station) where
  abbrev l : Ledger
  l = e.ledger

  abbrev p : ℕ
  p = s.number

  -- what the ledger has of an idle station's holds
  pub idle_holds : (t.seats p).work ≡ None → p < t.sizes.stations → (r : Record) → l.holds s r ≡ count (λ i. same_name (t.shared.slots p i) (Some r)) 8
  idle_holds i b r =
      let h : HoldsBy (t.shared.slots p) (l.holds s r) None (e.phases s) r = subst (λ (w : Option Plan). HoldsBy (t.shared.slots p) (l.holds s r) w (e.phases s) r) i (e.related.holds s r b) in
      let c : count (λ i. same_name (t.shared.slots p i) (Some r) && true) 8 ≡ count (λ i. same_name (t.shared.slots p i) (Some r)) 8 = count_same _ _ 8 (λ i. and_true (same_name (t.shared.slots p i) (Some r))) in
      omega (arith, h, c)

  -- With every slot verified and nothing beside it, a busy station has the same.
  busy_holds : (w : Plan) → (t.seats p).work ≡ None → p < t.sizes.stations → ((i : ℕ) → is_verified (Some w) i ≡ true) → ((r : Record) → in_hand (Some w) r ≡ 0) → (o : Operation) (r : Record) →
      HoldsBy (t.shared.slots p) (l.holds s r) (Some w) (waiting o) r
  busy_holds w i b firm hand o r =
      let h = idle_holds i b r in
      let c : count (λ i. same_name (t.shared.slots p i) (Some r) && is_verified (Some w) i) 8 ≡ count (λ i. same_name (t.shared.slots p i) (Some r)) 8 =
      count_same _ _ 8 (λ i. ap (λ (v : Bool). same_name (t.shared.slots p i) (Some r) && v) (firm i) ∙ and_true (same_name (t.shared.slots p i) (Some r))) in
      let z = hand r in
      omega (arith, h, c, z)

  -- It waits, and the ledger stays.
  waits : (o : Operation) (w : Plan) (n : Notes) → Checked t p o → p < 8 → InPhase (sizes t.sizes) t.standing (Some w) (waiting o) → ((i : ℕ) → is_verified (Some w) i ≡ true) → ((r : Record) → in_hand (Some w) r ≡ 0) →
      PastOf (sizes t.sizes) l (Some w) → Explained (record { sizes = t.sizes; shared = t.shared; standing = t.standing; seats = seated t.seats p (Some w) n; pool = t.pool }) (begins s o ∷ run)
  waits o w n c low phase firm hand past = record {
    ledger = l;
    phases = moved e.phases s (waiting o);
    explains = explains.call (begins s o) e.explains (rests (sizes t.sizes) t.standing (t.seats p).work (e.phases s) c.idle (e.related.phases s c.station), refl);
    related = related_after t run e s low t.shared t.standing l (Some w) (waiting o) n t.pool (record {
      names = e.related.names;
      standings = e.related.standings;
      slots = λ q d i. refl;
      holds = λ q r d. refl;
      phases = λ q d b. e.related.phases q b;
      past = λ q d b. e.related.past q b;
      own_holds = busy_holds w c.idle c.station firm hand o;
      own_phase = phase;
      own_past = past;
    });
  }

  -- a spot that passes its checks
  ranged : (q : Spot) (rest : List Check) → first_failing (begin.spot_ranges t.sizes q ++ rest) ≡ None → Ranged (sizes t.sizes) q
  ranged (at.Root g) rest h = ltb-true g.index t.sizes.roots (pass _ _ _ (passes (begin.spot_ranges t.sizes (at.Root g)) rest h).0).0
  ranged (at.Link r x) rest h = ltb-true x.index t.sizes.positions (pass _ _ _ (pass _ _ _ (passes (begin.spot_ranges t.sizes (at.Link r x)) rest h).0).1).0

  only : (q : Spot) → first_failing (begin.spot_ranges t.sizes q) ≡ None → Ranged (sizes t.sizes) q
  only (at.Root g) h = ltb-true g.index t.sizes.roots (pass _ _ _ h).0
  only (at.Link r x) h = ltb-true x.index t.sizes.positions (pass _ _ _ (pass _ _ _ h).1).0

  not_fresh : (x : Standing) → not (begin.is_fresh x) ≡ true → x ≡ Fresh → ⊥
  not_fresh x e h = grind arith

  pub begins_waiting : (o : Operation) → Checked t p o → p < 8 → ((r : Record) → o ≡ op.Delete r → ⊥) → Explained (begun t p o) (begins s o ∷ run)
  begins_waiting op.New c low d = waits op.New _ _ c low refl (λ i. refl) (λ r. refl) tt
  begins_waiting (op.Deref q) c low d = waits (op.Deref q) _ _ c low (first, only q c.ranges) (λ i. refl) (λ r. refl) tt
  begins_waiting (op.Release r) c low d = waits (op.Release r) _ _ c low (refl, not_fresh (t.standing r.number) (pass _ _ _ c.fits).0) (λ i. refl) (λ r. refl) tt
  begins_waiting (op.Cas q old new) c low d = waits (op.Cas q old new) _ _ c low (refl, ranged q (begin.name_ranges t.sizes old 4) (passes (begin.spot_ranges t.sizes q ++ begin.name_ranges t.sizes old 4) (begin.name_ranges t.sizes new 5) c.ranges).0) (λ i. refl) (λ r. refl) tt
  begins_waiting (op.Store r x new) c low d = waits (op.Store r x new) _ _ c low (reads, ranged (at.Link r x) (begin.name_ranges t.sizes new 4) c.ranges) (λ i. refl) (λ r. refl) tt
  begins_waiting (op.Delete r) c low d = absurd (d r refl)
