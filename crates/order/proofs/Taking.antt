-- NN1: NEW acts as it takes a record from the pool, or finds the pool empty.
use Rattle.std.proofs.Common.{◌≡◌, ℕ, ◌+◌, ◌<◌, Bool, true, false, cond, not, ◌&&◌, ◌||◌, ◌==◌, [], ◌∷◌, Some, None, Option, sym, refl, ap, ◌∙◌, subst, inl, inr, arith}
use Rattle.std.proofs.lemmas.Bool.{cases_eq, cond-true, cond-false, eq-eqb, ne_eqb, true≢false, and_from}
use Rattle.terms.specs.declared.Record.{Record}
use Rattle.terms.specs.declared.Station.{Station}
use Rattle.terms.specs.declared.Slot.{Slot}
use Rattle.terms.specs.declared.Spot.{Spot}
use Rattle.terms.specs.declared.Outcome.{Outcome}
use Rattle.terms.specs.declared.Standing.{Standing}
use Rattle.terms.specs.declared.Standing.TheVariants.{Pooled, Fresh}
use Rattle.terms.specs.declared.Operation.{Operation}
use Rattle.terms.specs.declared.Operation.TheVariants as op
use Rattle.terms.specs.Words.{same_name}
use Rattle.terms.proofs.Puts.{put_tells}
use Rattle.memory.specs.declared.access.Write.TheVariants as write
use Rattle.memory.specs.Standings.{set_standing}
use Rattle.work.specs.declared.work.Point.TheVariants.{End, Take}
use Rattle.work.specs.Plans.{Plan, plan, Notes, free_slot}
use Rattle.work.specs.Steps.{settle, taken_of}
use Rattle.machine.specs.Tables.{Table, sight_in}
use Rattle.machine.specs.Steps.{without}
use Rattle.machine.specs.Holds.{is_verified}
use Rattle.laws.specs.Mine.{mine}
use Rattle.laws.specs.Owes as owes
use Rattle.laws.specs.Owes.{Owes}
use Rattle.laws.specs.Fits.{Sound}
use Rattle.laws.specs.Points.{AtPoint}
use Rattle.laws.specs.Theorems.{FromPool}
use Rattle.laws.proofs.Names.{num_same}
use Rattle.laws.proofs.Promises.{none_of}
use Rattle.laws.proofs.Taking.{free_empty}
use Rattle.ledger.specs.Words.{same_record, same_station, changed}
use Rattle.ledger.specs.Ledger.{Sizes, Ledger, with_standing, hold}
use Rattle.ledger.specs.Explains as explains
use Rattle.ledger.specs.Explains.{Phase, resting, waiting, acted, Run}
use Rattle.ledger.proofs.Words.{station_same, same_record_is, at_key, tells, pooled≢retired}
use Rattle.ledger.proofs.Changes.{stand_tells}
use Rattle.order.specs.Counts.{count, once}
use Rattle.order.specs.Phases.{InPhase, Waits, Looks, Stores, first, again, writes, verifies, reads, overwrites, all}
use Rattle.order.specs.Relation.{sizes}
use Rattle.order.specs.Theorems.{Explained, PicksIfAny}
use Rattle.order.proofs.Frame.{Came, arrives}
use Rattle.order.proofs.Begins.{count_same}
use Rattle.order.proofs.Withdraws.{counted_at, stand_after, differs, still_in_phase, Lasts, lasts_of}
use Rattle.order.proofs.Here.{Turned, low, at_point, owes_it, slot_same, holds_in, by_phase, orderly, after_same}

-- A station that waits at a take is in the middle of NEW.
at_take : {q : Spot} {u : Plan} → Looks q u → u.point ≡ Take → ⊥
at_take first e = grind arith
at_take (again j) e = grind arith
at_take (writes j v) e = grind arith
at_take (verifies j v) e = grind arith

store_take : {q : Spot} {n : Option Record} {u : Plan} → Stores q n u → u.point ≡ Take → ⊥
store_take reads e = grind arith
store_take (overwrites i) e = grind arith

take_waits : (z : Sizes) (f : ℕ → Standing) (o : Operation) → Waits z f o (plan [] Take) → o ≡ op.New
take_waits z f op.New d = refl
take_waits z f (op.Deref q) (d, _) = absurd (at_take d refl)
take_waits z f (op.Release r) (d, _) = absurd (grind arith)
take_waits z f (op.Cas q o n) (d, _) = absurd (grind arith)
take_waits z f (op.Store r x n) (d, _) = absurd (store_take d refl)
take_waits z f (op.Delete r) d = absurd d

-- A station that waits to release r holds it.
pub releasing_holds : (t : Table) (k : Sound t) (run : Run) (e : Explained t run) (s : Station) → s.number < t.sizes.stations → (r : Record) → e.phases s ≡ waiting (op.Release r) → 0 < e.ledger.holds s r
releasing_holds t k run e s b r is = go (t.seats s.number).work refl (subst (λ (x : Phase). InPhase (sizes t.sizes) t.standing (t.seats s.number).work x) is (e.related.phases s b))
  where
    named : (p : Plan) → (t.seats s.number).work ≡ Some p → Owes t.sizes.each (AtPoint t.sizes (t.seats s.number).notes (End Outcome.Done)) (mine k.state s.number) (write.Release r ∷ []) → p ≡ plan (write.Release r ∷ []) (End Outcome.Done) → 0 < e.ledger.holds s r
    named p here (owes.release _ _ _ i l h _) same =
        let sum = holds_in t k run e s b (plan (write.Release r ∷ []) (End Outcome.Done)) (here ∙ ap (λ (x : Plan). Some x) same) (waiting (op.Release r)) is r in
        let it : same_name (t.shared.slots s.number i) (Some r) ≡ true = num_same (t.shared.slots s.number i) (Some r) (sym (slot_same t k run e s b i l) ∙ h) in
        let some = counted_at (λ i. same_name (t.shared.slots s.number i) (Some r) && is_verified (Some (plan (write.Release r ∷ []) (End Outcome.Done))) i) 8 i l (and_from _ _ it refl) in
        omega (arith, sum, some)

    go : (p : Option Plan) → (t.seats s.number).work ≡ p → InPhase (sizes t.sizes) t.standing p (waiting (op.Release r)) → 0 < e.ledger.holds s r
    go None here d = absurd d
    go (Some p) here (d, _) = named p here (owes_it t k run e s b (plan (write.Release r ∷ []) (End Outcome.Done)) (here ∙ ap (λ (x : Plan). Some x) d)) d

module _ (t : Table) (k : Sound t) (run : Run) (e : Explained t run) (s : Station) (b : s.number < t.sizes.stations) (here : (t.seats s.number).work ≡ Some (plan [] Take)) (is : e.phases s ≡ waiting op.New) where
  abbrev l : Ledger
  l = e.ledger

  abbrev me : ℕ
  me = s.number

  abbrev notes : Notes
  notes = (t.seats s.number).notes

  -- The pool is empty.
  take_none : ((r : ℕ) → t.pool r ≡ true → ⊥) → Came t run e s (low t k run e s b) t.shared t.standing notes t.pool (settle (plan [] (End (Outcome.Found None))))
  take_none empty = arrives t run e s (low t k run e s b) t.shared t.standing notes t.pool l (Outcome.Found None)
      (explains.act s op.New (Outcome.Found None) e.explains is (b, (λ r h y. empty r.number (k.fits.complete r.number h (sym (e.related.standings r) ∙ y)), refl))) (plan [] (End (Outcome.Found None)))
      (after_same t k run e s b (plan [] (End (Outcome.Found None))) (acted (Outcome.Found None)) (holds_in t k run e s b (plan [] Take) here (waiting op.New) is) (refl, inl (λ i. refl)) tt)

  -- The pool picks r.
  module _ (r : Record) (pooled : t.standing r.number ≡ Pooled) (inside : r.number < t.sizes.records) where
    abbrev after : Ledger
    after = hold (with_standing l r Fresh) s (Some r)

    abbrev standing : ℕ → Standing
    standing = set_standing t.standing r.number Fresh

    small : r.number < 128
    small = let most = k.lawful.records in omega arith

    was_pooled : l.standing r ≡ Pooled
    was_pooled = e.related.standings r ∙ pooled

    -- No station waits to release it.
    still_waits : (q : Station) → q.number < t.sizes.stations → (x : Record) → e.phases q ≡ waiting (op.Release x) → standing x.number ≡ Fresh → t.standing x.number ≡ Fresh
    still_waits q m x y h = elim (put_tells 128 t.standing r.number Fresh x.number) [
      | inl (_, c, _) ↦ absurd (((orderly t k run e q m).held q x (releasing_holds t k run e q m x y)).1 (e.related.standings x ∙ ap t.standing (sym c) ∙ pooled))
      | inr (c, _) ↦ sym c ∙ h
    ]

    lasts : Lasts l after
    lasts = record {
      retired = λ x h. elim (stand_tells l.standing r Fresh x) [ inl (y, _) ↦ absurd (pooled≢retired (l.standing r) was_pooled (ap l.standing (sym y) ∙ h)) | inr (_, y) ↦ y ∙ h ];
      since = λ x y n _ h. h;
      lasting = λ x d f. elim (stand_tells l.standing r Fresh x) [ inl (y, _) ↦ absurd (d (ap l.standing y ∙ was_pooled)) | inr (_, y) ↦ ((λ h. d (sym y ∙ h)), (λ h. f (sym y ∙ h))) ];
    }

    -- One hold more, of r.
    one_more : (x : Record) → after.holds s x ≡ l.holds s x + once (Some r) x
    one_more x =
        let a : after.holds s x ≡ changed same_record (l.holds s) r (l.holds s r + 1) x = ap (λ (f : Record → ℕ). f x) (at_key same_station l.holds s (changed same_record (l.holds s) r (l.holds s r + 1)) station_same) in
        elim (tells same_record (l.holds s) r (l.holds s r + 1) x same_record_is) [
          | inl (y, h) ↦
              let one : once (Some r) x ≡ 1 = cond-true (r.number == x.number) 1 0 (eq-eqb r.number x.number (ap (λ (c : Record). c.number) (sym y))) in
              let had : l.holds s x ≡ l.holds s r = ap (l.holds s) y in
              omega (arith, a, h, one, had)
          | inr (y, h) ↦
              let none : once (Some r) x ≡ 0 = cond-false (r.number == x.number) 1 0 (ne_eqb r.number x.number (λ c. true≢false (sym (eq-eqb x.number r.number (sym c)) ∙ y))) in
              omega (arith, a, h, none)
        ]

    as_before : (q : Station) (x : Record) → (q ≡ s → ⊥) → after.holds q x ≡ l.holds q x
    as_before q x d = ap (λ (c : Bool). cond c (changed same_record (l.holds s) r (l.holds s r + 1)) (l.holds q) x) (differs q s d)

    abbrev i : Slot
    i = free_slot (sight_in t.sizes t.shared me)

    abbrev w : Plan
    w = taken_of (Some r) (sight_in t.sizes t.shared me)

    -- its slot is empty
    empty : t.shared.slots me i.index ≡ None
    empty =
        let (_, _, _, (j, _, _, u, _)) = at_point t k run e s b Take here in
        let free = free_empty t.sizes k.lawful me t.shared t.standing k.state k.fits.agrees j u in
        let lower = free.below in
        let most = k.lawful.each in
        none_of (t.shared.slots me i.index) (sym (slot_same t k run e s b i.index (omega arith)) ∙ free.none)

    -- so that it is not verified yet does not count
    same_count : (x : Record) → count (λ j. same_name (t.shared.slots me j) (Some x) && is_verified (Some (plan [] Take)) j) 8 ≡ count (λ j. same_name (t.shared.slots me j) (Some x) && is_verified (Some w) j) 8
    same_count x = count_same _ _ 8 (λ j. elim (cases_eq i.index j) [
      | inl y ↦ (let none : same_name (t.shared.slots me j) (Some x) ≡ false = ap (λ (c : ℕ). same_name (t.shared.slots me c) (Some x)) (sym y) ∙ ap (λ (c : Option Record). same_name c (Some x)) empty in
          ap (λ (c : Bool). c && true) none ∙ sym (ap (λ (c : Bool). c && is_verified (Some w) j) none))
      | inr d ↦ ap (λ (c : Bool). same_name (t.shared.slots me j) (Some x) && (not (c || false) && true)) (sym (ne_eqb i.index j d))
    ])

    take_some : Came t run e s (low t k run e s b) t.shared standing notes (without (Some r.number) t.pool) (settle w)
    take_some = arrives t run e s (low t k run e s b) t.shared standing notes (without (Some r.number) t.pool) after (Outcome.Found (Some r))
        (explains.act s op.New (Outcome.Found (Some r)) e.explains is (b, (inside, was_pooled, refl))) w (record {
          names = e.related.names;
          standings = stand_after l.standing t.standing e.related.standings r Fresh small;
          slots = λ q n i. refl;
          holds = λ q x n. as_before q x n;
          phases = λ q n m. still_in_phase (sizes t.sizes) t.standing standing (t.seats q.number).work (e.phases q) (still_waits q m) (e.related.phases q m);
          past = λ q n m. lasts_of (sizes t.sizes) l after lasts (t.seats q.number).work (e.related.past q m);
          own_holds = λ x. let sum = holds_in t k run e s b (plan [] Take) here (waiting op.New) is x in let more = one_more x in let same = same_count x in omega (arith, sum, more, same);
          own_phase = (refl, inr (all r i));
          own_past = tt;
        })

module _ (t : Table) (k : Sound t) (run : Run) (e : Explained t run) (s : Station) (b : s.number < t.sizes.stations) where
  pub take_turn : (pick : Option ℕ) → FromPool t pick → PicksIfAny t (plan [] Take) pick → (t.seats s.number).work ≡ Some (plan [] Take) → Turned t run s pick (plan [] Take)
  take_turn None from any here = by_phase t k run e s b (plan [] Take) here (Turned t run s None (plan [] Take))
      (λ o is d. take_none t k run e s b here (is ∙ ap waiting (take_waits (sizes t.sizes) t.standing o d)) (any refl refl)) (λ a is d. absurd d)
  take_turn (Some n) from any here = by_phase t k run e s b (plan [] Take) here (Turned t run s (Some n) (plan [] Take))
      (λ o is d. let (pooled, inside) = k.fits.pooled n (from n refl) in take_some t k run e s b here (is ∙ ap waiting (take_waits (sizes t.sizes) t.standing o d)) (record { number = n }) pooled inside) (λ a is d. absurd d)
