-- What one station did leaves table and ledger side by side, if the others are as before and its own part is right.
use Rattle.std.proofs.Common.{◌≡◌, ℕ, ◌+◌, ◌<◌, Bool, true, false, cond, ◌&&◌, ◌⊎◌, List, [], ◌∷◌, Some, None, Option, sym, refl, ap, ◌∙◌, subst, inl, inr}
use Rattle.std.proofs.lemmas.Bool.{eq-eqb, true≢false}
use mathlib.Core.Path.{fun_ext}
use Rattle.terms.specs.declared.Record.{Record}
use Rattle.terms.specs.declared.Station.{Station}
use Rattle.terms.specs.declared.Spot.{Spot}
use Rattle.terms.specs.declared.Standing.{Standing}
use Rattle.terms.specs.declared.Outcome.{Outcome}
use Rattle.terms.specs.declared.Operation.{Operation}
use Rattle.memory.specs.declared.access.Write.{Write}
use Rattle.work.specs.declared.work.Point.{Point}
use Rattle.work.specs.declared.work.Point.TheVariants.{End, Take, Look, LookAgain, Verify, Swap, Save, Overwrite, AskDeleted, AskPlace, AskDone, AskPlaceAgain, CountFirst, CountAgain, AskSlot, CountSecond, AskTrace, AskClaims, AskLink, Give}
use Rattle.work.specs.Steps.{settled, settle}
use Rattle.terms.specs.Words.{same_name}
use Rattle.terms.proofs.Puts.{put_tells}
use Rattle.memory.specs.Shared.{Shared, name_at}
use Rattle.work.specs.Plans.{Plan, plan, Notes, Going, busy, ended}
use Rattle.machine.specs.Tables.{Seat, Table}
use Rattle.machine.specs.Steps.{seated, work_after, answer_after}
use Rattle.machine.specs.Holds.{is_verified}
use Rattle.ledger.specs.Words.{same_station}
use Rattle.ledger.proofs.Words.{same_station_is, station_same, tells}
use Rattle.ledger.specs.Ledger.{Ledger}
use Rattle.ledger.specs.Explains.{nothing, ends, Phase, resting, waiting, acted, Run, Phases, moved, Explains}
use Rattle.ledger.specs.Explains as explains
use Rattle.ledger.proofs.Extend.{moved_here, same_phases}
use Rattle.order.specs.Counts.{count, in_hand}
use Rattle.order.specs.Phases.{InPhase, beside}
use Rattle.order.specs.Relation.{sizes, Related, PastOf}
use Rattle.order.specs.Theorems.{Explained, happened}

-- What the relation says of one station's holds, by what it is in the middle of.
abbrev pub HoldsBy : (slots : ℕ → Option Record) → (n : ℕ) → Option Plan → Phase → Record → Type 0
HoldsBy slots n w x r = n + beside w x r ≡ count (λ i. same_name (slots i) (Some r) && is_verified w i) 8 + in_hand w r

-- The seat of each station after one is changed, with its phase: the station's own, or another's as it was.
module _ (t : Table) (s : Station) (w : Option Plan) (n : Notes) (ph : Phases) (x : Phase) where
  abbrev here : Seat
  here = record { work = w; notes = n }

  pub seat_tells : s.number < 8 → (P : Station → Seat → Phase → Type 0) → P s here x → ((q : Station) → (q ≡ s → ⊥) → P q (t.seats q.number) (ph q)) →
      (q : Station) → P q (seated t.seats s.number w n q.number) (moved ph s x q)
  seat_tells low P own other q = elim (tells same_station ph s x q same_station_is) [
    | inl (is, e) ↦ elim (put_tells 8 t.seats s.number here q.number) [
      | inl (v, _, _) ↦ subst (λ (y : Phase). P q (seated t.seats s.number w n q.number) y) (sym e) (subst (λ (y : Seat). P q y x) (sym v) (subst (λ (y : Station). P y here x) (sym is) own))
      | inr (_, d) ↦ absurd (d (ap (λ (y : Station). y.number) (sym is)) low)
    ]
    | inr (is, e) ↦ elim (put_tells 8 t.seats s.number here q.number) [
      | inl (_, y, _) ↦ absurd (true≢false (sym (eq-eqb q.number s.number (sym y)) ∙ is))
      | inr (v, _) ↦ subst (λ (y : Phase). P q (seated t.seats s.number w n q.number) y) (sym e) (subst (λ (y : Seat). P q y (ph q)) (sym v) (other q (λ y. true≢false (sym (station_same s) ∙ ap (λ (i : Station). same_station i s) (sym y) ∙ is))))
    ]
  ]

-- the table after a station's turn
abbrev pub then_table : Table → Station → Shared → (ℕ → Standing) → Option Plan → Notes → (ℕ → Bool) → Table
then_table t s shared standing w n pool = record { sizes = t.sizes; shared = shared; standing = standing; seats = seated t.seats s.number w n; pool = pool }

-- What is left to show of a turn of station s.
pub record After (t : Table) (l : Ledger) (ph : Phases) (s : Station) (shared : Shared) (standing : ℕ → Standing) (m : Ledger) (w : Option Plan) (x : Phase) : Type 0 where
  pub names : (q : Spot) → m.names q ≡ name_at shared q
  pub standings : (r : Record) → m.standing r ≡ standing r.number
  -- the others' slots, holds, phases and findings are as before,
  pub slots : (q : Station) → (q ≡ s → ⊥) → (i : ℕ) → shared.slots q.number i ≡ t.shared.slots q.number i
  pub holds : (q : Station) (r : Record) → (q ≡ s → ⊥) → m.holds q r ≡ l.holds q r
  pub phases : (q : Station) → (q ≡ s → ⊥) → q.number < t.sizes.stations → InPhase (sizes t.sizes) standing (t.seats q.number).work (ph q)
  pub past : (q : Station) → (q ≡ s → ⊥) → q.number < t.sizes.stations → PastOf (sizes t.sizes) m (t.seats q.number).work
  -- and the station's own are right.
  pub own_holds : (r : Record) → HoldsBy (shared.slots s.number) (m.holds s r) w x r
  pub own_phase : InPhase (sizes t.sizes) standing w x
  pub own_past : PastOf (sizes t.sizes) m w

pub related_after : (t : Table) (run : Run) (e : Explained t run) (s : Station) → s.number < 8 → (shared : Shared) (standing : ℕ → Standing) (m : Ledger) (w : Option Plan) (x : Phase) (n : Notes) (pool : ℕ → Bool) →
    After t e.ledger e.phases s shared standing m w x → Related (then_table t s shared standing w n pool) m (moved e.phases s x)
related_after t run e s low shared standing m w x n pool k = record {
  names = k.names;
  standings = k.standings;
  holds = λ q r b. each_holds r q b;
  phases = seat_tells t s w n e.phases x low (λ q y z. q.number < t.sizes.stations → InPhase (sizes t.sizes) standing y.work z) (λ b. k.own_phase) (λ q d b. k.phases q d b);
  past = seat_tells t s w n e.phases x low (λ q y z. q.number < t.sizes.stations → PastOf (sizes t.sizes) m y.work) (λ b. k.own_past) (λ q d b. k.past q d b);
}
  where
    each_holds : (r : Record) (q : Station) → q.number < t.sizes.stations → HoldsBy (shared.slots q.number) (m.holds q r) (seated t.seats s.number w n q.number).work (moved e.phases s x q) r
    each_holds r = seat_tells t s w n e.phases x low (λ q y z. q.number < t.sizes.stations → HoldsBy (shared.slots q.number) (m.holds q r) y.work z r)
        (λ b. k.own_holds r)
        (λ q d b. subst (λ (i : ℕ → Option Record). HoldsBy i (m.holds q r) (t.seats q.number).work (e.phases q) r) (sym (fun_ext (k.slots q d)))
        (subst (λ (i : ℕ). HoldsBy (t.shared.slots q.number) i (t.seats q.number).work (e.phases q) r) (sym (k.holds q r d)) (e.related.holds q r b)))

-- What is owed and the decision after it, settled: an end that is reached, or still busy.
pub settled_tells : (ws : List Write) (x : Point) → ((o : Outcome) × (ws ≡ []) × (x ≡ End o) × (settled ws x ≡ ended o)) ⊎ (settled ws x ≡ busy (plan ws x))
settled_tells (y ∷ ws) x = inr refl
settled_tells [] (End o) = inl (o, refl, refl, refl)
settled_tells [] Take = inr refl
settled_tells [] (Look q g) = inr refl
settled_tells [] (LookAgain q i g) = inr refl
settled_tells [] (Verify q i v g) = inr refl
settled_tells [] (Swap q o v g) = inr refl
settled_tells [] (Save q v g) = inr refl
settled_tells [] (Overwrite q o v g) = inr refl
settled_tells [] (AskDeleted c m) = inr refl
settled_tells [] (AskPlace q i) = inr refl
settled_tells [] (AskDone q i r) = inr refl
settled_tells [] (AskPlaceAgain q i r) = inr refl
settled_tells [] (CountFirst e) = inr refl
settled_tells [] (CountAgain e) = inr refl
settled_tells [] (AskSlot q i) = inr refl
settled_tells [] (CountSecond e) = inr refl
settled_tells [] (AskTrace e) = inr refl
settled_tells [] (AskClaims e) = inr refl
settled_tells [] (AskLink e y) = inr refl
settled_tells [] (Give e) = inr refl

-- A station that stays in its phase.
pub moved_still : (ph : Phases) (s : Station) (x : Phase) → ph s ≡ x → (q : Station) → ph q ≡ moved ph s x q
moved_still ph s x e q = elim (tells same_station ph s x q same_station_is) [
  | inl (is, y) ↦ ap ph is ∙ e ∙ sym y
  | inr (_, y) ↦ sym y
]

-- Phases moved twice.
moved_twice : (ph : Phases) (s : Station) (x y : Phase) (q : Station) → moved (moved ph s x) s y q ≡ moved ph s y q
moved_twice ph s x y q = go (same_station q s)
  where
    go : (b : Bool) → cond b y (cond b x (ph q)) ≡ cond b y (ph q)
    go true = refl
    go false = refl

module _ (t : Table) (run : Run) (e : Explained t run) (s : Station) (low : s.number < 8) (shared : Shared) (standing : ℕ → Standing) (n : Notes) (pool : ℕ → Bool) where
  -- the table after a turn, and its run
  abbrev pub Came : Going → Type 0
  Came g = Explained (then_table t s shared standing (work_after g) n pool) (happened s (answer_after g) ∷ run)

  -- The station has yet to act, and goes on.
  pub waits_on : (m : Ledger) (o : Operation) → Explains (sizes t.sizes) run m (moved e.phases s (waiting o)) → (p : Plan) → settle p ≡ busy p →
      After t e.ledger e.phases s shared standing m (Some p) (waiting o) → Came (settle p)
  waits_on m o x p g k = subst Came (sym g) (record {
    ledger = m;
    phases = moved e.phases s (waiting o);
    explains = explains.call nothing x refl;
    related = related_after t run e s low shared standing m (Some p) (waiting o) n pool k;
  })

  -- The station's operation acted, now or before: it goes on, or ends with the answer of its act.
  pub arrives : (m : Ledger) (a : Outcome) → Explains (sizes t.sizes) run m (moved e.phases s (acted a)) → (p : Plan) →
      After t e.ledger e.phases s shared standing m (Some p) (acted a) → Came (settle p)
  arrives m a x p k = elim (settled_tells p.owed p.point) [
    | inl (o, we, pe, se) ↦ subst Came (sym se) (ends_with o we pe)
    | inr se ↦ subst Came (sym se) (record {
      ledger = m;
      phases = moved e.phases s (acted a);
      explains = explains.call nothing x refl;
      related = related_after t run e s low shared standing m (Some p) (acted a) n pool k;
    })
  ]
    where
      -- at its end
      at_end : (o : Outcome) → p.owed ≡ [] → p.point ≡ End o → After t e.ledger e.phases s shared standing m (Some (plan [] (End o))) (acted a)
      at_end o we pe = subst (λ (i : List Write). After t e.ledger e.phases s shared standing m (Some (plan i (End o))) (acted a)) we
          (subst (λ (i : Point). After t e.ledger e.phases s shared standing m (Some (plan p.owed i)) (acted a)) pe k)

      ends_with : (o : Outcome) → p.owed ≡ [] → p.point ≡ End o → Came (ended o)
      ends_with o we pe =
          let f = at_end o we pe in
          record {
            ledger = m;
            phases = moved e.phases s resting;
            explains = same_phases (λ q. moved_twice e.phases s (acted a) resting q)
                (explains.call (ends s o) x (moved_here e.phases s (acted a) ∙ ap acted (sym f.own_phase.0), refl));
            related = related_after t run e s low shared standing m None resting n pool (record {
              names = f.names;
              standings = f.standings;
              slots = f.slots;
              holds = f.holds;
              phases = f.phases;
              past = f.past;
              own_holds = f.own_holds;
              own_phase = tt;
              own_past = tt;
            });
          }
