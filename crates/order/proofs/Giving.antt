-- SC23: a record goes back to the pool. The ledger returns it: nobody holds it, nothing names it, and its links name none.
use Rattle.std.proofs.Common.{◌≡◌, ℕ, ◌<◌, ◌≤◌, true, ◌==◌, [], Some, None, Option, sym, refl, ap, ◌∙◌, inl, inr, arith}
use Rattle.std.proofs.lemmas.Bool.{cond-true, eq-eqb}
use Rattle.terms.specs.declared.Record.{Record}
use Rattle.terms.specs.declared.Station.{Station}
use Rattle.terms.specs.declared.Spot.TheVariants as at
use Rattle.terms.specs.declared.Outcome.{Outcome}
use Rattle.terms.specs.declared.Standing.{Standing}
use Rattle.terms.specs.declared.Standing.TheVariants.{Pooled, Fresh}
use Rattle.terms.specs.declared.Operation.{Operation}
use Rattle.terms.specs.declared.Operation.TheVariants as op
use Rattle.terms.specs.Words.{put}
use Rattle.terms.proofs.Puts.{put_tells}
use Rattle.memory.specs.Standings.{set_standing}
use Rattle.work.specs.declared.work.Reached.{Reached}
use Rattle.work.specs.declared.work.AfterLook.{AfterLook}
use Rattle.work.specs.declared.work.AfterLook.TheVariants as look
use Rattle.work.specs.declared.work.AfterSwap.{AfterSwap}
use Rattle.work.specs.declared.work.AfterSwap.TheVariants as swap
use Rattle.work.specs.declared.work.Point.{Point}
use Rattle.work.specs.declared.work.Point.TheVariants.{End, Take, Look, LookAgain, Verify, Swap, Save, Overwrite, AskDeleted, AskPlace, AskDone, AskPlaceAgain, CountFirst, CountAgain, AskSlot, CountSecond, AskTrace, AskClaims, AskLink, Give}
use Rattle.work.specs.Plans.{Plan, plan, Notes, noted, reached}
use Rattle.work.specs.Steps.{second_next}
use Rattle.machine.specs.Tables.{Table, sight_in}
use Rattle.protocol.specs.State as phases
use Rattle.protocol.specs.Shape.{through}
use Rattle.laws.specs.Numbers.{link_number, place_number}
use Rattle.laws.specs.Agree.{num}
use Rattle.laws.specs.Fits.{Sound}
use Rattle.laws.proofs.Promises.{none_of}
use Rattle.laws.proofs.Spots.{link_owner, spot_names}
use Rattle.ledger.specs.Ledger as ledger
use Rattle.ledger.specs.Ledger.{Sizes, Ledger, OutOfUse, NamesNothing, with_standing, following}
use Rattle.ledger.specs.Explains as explains
use Rattle.ledger.specs.Explains.{Phase, resting, waiting, acted, Run}
use Rattle.ledger.proofs.Words.{pooled≢retired, pooled≢fresh}
use Rattle.ledger.proofs.Changes.{stand_tells}
use Rattle.order.specs.Counts.{once, looking_for, swapping_for, cleaning_holds}
use Rattle.order.specs.Phases.{InPhase, Waits, first, again, writes, verifies, reads, overwrites, beside}
use Rattle.order.specs.Relation.{sizes, Lasting, PastLook, PastSwap, Past, PastOf}
use Rattle.order.specs.Theorems.{Explained}
use Rattle.order.proofs.Frame.{arrives}
use Rattle.order.proofs.Onward.{Onward, onward_holds, second_onward}
use Rattle.order.proofs.Withdraws.{stand_after, still_in_phase}
use Rattle.order.proofs.Here.{Turned, low, at_point, holds_in, by_phase, still, orderly}
use Rattle.order.proofs.Unused.{nobody, out_of_use}
use Rattle.order.proofs.Quiet.{waits_at}
use Rattle.order.proofs.Writing.{entry_listed}

-- An operation that waits has nothing of CLEAN's.
waits_clean : (z : Sizes) (f : ℕ → Standing) (o : Operation) (p : Plan) → Waits z f o p → (r : Record) → cleaning_holds p.point r ≡ 0
waits_clean z f op.New p d r = ap (λ (i : Plan). cleaning_holds i.point r) d
waits_clean z f (op.Deref q) _ (first, _) r = refl
waits_clean z f (op.Deref q) _ (again i, _) r = refl
waits_clean z f (op.Deref q) _ (writes i v, _) r = refl
waits_clean z f (op.Deref q) _ (verifies i v, _) r = refl
waits_clean z f (op.Release x) p (d, _) r = ap (λ (i : Plan). cleaning_holds i.point r) d
waits_clean z f (op.Cas q a b) p (d, _) r = ap (λ (i : Plan). cleaning_holds i.point r) d
waits_clean z f (op.Store x y n) _ (reads, _) r = refl
waits_clean z f (op.Store x y n) _ (overwrites o, _) r = refl
waits_clean z f (op.Delete x) p d r = absurd d

-- Nothing that CLEAN found is about a record of which its station has nothing beside.
module _ (z : Sizes) (l : Ledger) (r : Record) where
  abbrev pub after : Ledger
  after = with_standing l r Pooled

  other : (m : Record) → once (Some m) r ≡ 0 → after.standing m ≡ l.standing m
  other m e = elim (stand_tells l.standing r Pooled m) [
    | inl (is, _) ↦ (let one : once (Some m) r ≡ 1 = cond-true (m.number == r.number) 1 0 (eq-eqb m.number r.number (ap (λ (c : Record). c.number) is)) in absurd (omega (arith, e, one)))
    | inr (_, y) ↦ y
  ]

  other_lasts : (v : Option Record) → once v r ≡ 0 → Lasting l v → Lasting after v
  other_lasts None e d = d
  other_lasts (Some m) e (d, f) = let same = other m e in ((λ h. d (sym same ∙ h)), (λ h. f (sym same ∙ h)))

  look_left : (g : AfterLook) → looking_for g r ≡ 0 → PastLook l g → PastLook after g
  look_left look.Answer e d = d
  look_left (look.CleanLink c) e d = d
  look_left (look.CleanNext c m) e d = other m e ∙ d

  swap_left : (g : AfterSwap) → swapping_for g r ≡ 0 → PastSwap z l g → PastSwap z after g
  swap_left swap.Answer e d = d
  swap_left (swap.CleanSwap c m t) e (d, f, h) = (other m (omega (arith, e)) ∙ d, f, other_lasts t (omega (arith, e)) h)
  swap_left (swap.ClearLink c x) e d = d

  point_left : (x : Point) → cleaning_holds x r ≡ 0 → Past z l x → Past z after x
  point_left (Look q g) e d = look_left g e d
  point_left (LookAgain q i g) e d = look_left g e d
  point_left (Verify q i v g) e d = look_left g e d
  point_left (Swap q o v g) e d = swap_left g e d
  point_left (End o) e d = d
  point_left Take e d = d
  point_left (Save q v g) e d = d
  point_left (Overwrite q o v g) e d = d
  point_left (AskDeleted c m) e d = d
  point_left (AskPlace q i) e d = d
  point_left (AskDone q i m) e d = d
  point_left (AskPlaceAgain q i m) e d = d
  point_left (CountFirst c) e d = d
  point_left (CountAgain c) e d = d
  point_left (AskSlot q i) e d = d
  point_left (CountSecond c) e d = d
  point_left (AskTrace c) e d = d
  point_left (AskClaims c) e d = d
  point_left (AskLink c x) e d = d
  point_left (Give c) e d = d

  pub past_left : (f : ℕ → Standing) (p : Option Plan) (x : Phase) → InPhase z f p x → beside p x r ≡ 0 → PastOf z l p → PastOf z after p
  past_left f None x i e d = d
  past_left f (Some p) resting i e d = absurd i
  past_left f (Some p) (waiting o) i e d = point_left p.point (waits_clean z f o p i r) d
  past_left f (Some p) (acted a) i e d = point_left p.point (omega (arith, e)) d

module _ (t : Table) (k : Sound t) (run : Run) (e : Explained t run) (s : Station) (b : s.number < t.sizes.stations) (pick : Option ℕ) where
  abbrev l : Ledger
  l = e.ledger

  abbrev notes : Notes
  notes = (t.seats s.number).notes

  pub give_turn : (c : Reached) → (t.seats s.number).work ≡ Some (plan [] (Give c)) → Turned t run s pick (plan [] (Give c))
  give_turn c here = by_phase t k run e s b (plan [] (Give c)) here (Turned t run s pick (plan [] (Give c)))
      (λ a is d. absurd (waits_at (sizes t.sizes) t.standing a (plan [] _) d)) (λ a is d. gives (is ∙ ap acted d.0))
    where
      r : Record
      r = c.entry.node

      listed : (place_number s.number c.entry.place.index < 512) × (k.state.lists (place_number s.number c.entry.place.index) ≡ Some r.number) × (k.state.phase (place_number s.number c.entry.place.index) ≡ phases.giving) × (t.sizes.positions ≤ k.state.low (place_number s.number c.entry.place.index))
      listed =
          let (_, _, _, w, d, h) = at_point t k run e s b (Give c) here in
          let (u, f) = entry_listed t k run e s b c phases.giving w d in
          (u, f, d.here, h)

      unused : OutOfUse (sizes t.sizes) l r
      unused = out_of_use t k run e r (place_number s.number c.entry.place.index) listed.0 listed.1 (ap through listed.2)

      small : r.number < 128
      small = let most = k.lawful.records in let inside = (orderly t k run e s b).inside r (λ h. pooled≢retired (l.standing r) h unused.0) in omega arith

      -- its links below the next one to clear name none, and that is behind the last one
      cleared : NamesNothing (sizes t.sizes) l r
      cleared x h =
          let four = k.lawful.positions in
          let most = small in
          let last = listed.3 in
          let below : x.index < 4 = omega arith in
          let none = k.inv.cleared.none (place_number s.number c.entry.place.index) r.number (link_number r.number x.index) listed.0 listed.2 listed.1 (omega arith) (link_owner r.number x.index below) (omega arith) in
          none_of (l.names (at.Link r x)) (ap num (e.related.names (at.Link r x)) ∙ sym (spot_names t.sizes t.shared t.standing k.state k.fits.agrees (at.Link r x) (most, below)) ∙ none)

      w : Plan
      w = (second_next [] c None (sight_in t.sizes t.shared s.number) notes).does

      on : Onward (sizes t.sizes) (after (sizes t.sizes) l r) [] w
      on = second_onward (sizes t.sizes) (after (sizes t.sizes) l r) [] None (sight_in t.sizes t.shared s.number) notes (reached notes.list c.left)

      was_fresh : (i : ℕ) → set_standing t.standing r.number Pooled i ≡ Fresh → t.standing i ≡ Fresh
      was_fresh i h = elim (put_tells 128 t.standing r.number Pooled i) [ inl (y, _, _) ↦ absurd (pooled≢fresh Pooled refl (sym y ∙ h)) | inr (y, _) ↦ sym y ∙ h ]

      gives : e.phases s ≡ acted Outcome.Done → Turned t run s pick (plan [] (Give c))
      gives is = arrives t run e s (low t k run e s b) t.shared (set_standing t.standing r.number Pooled) (noted notes (second_next [] c None (sight_in t.sizes t.shared s.number) notes).note) (put t.sizes.records t.pool r.number true)
          (after (sizes t.sizes) l r) Outcome.Done (explains.silent (ledger.return r) (still t k run e s b (acted Outcome.Done) is) (unused, cleared, refl)) w (record {
            names = e.related.names;
            standings = stand_after l.standing t.standing e.related.standings r Pooled small;
            slots = λ q n i. refl;
            holds = λ q m n. refl;
            phases = λ q n m. still_in_phase (sizes t.sizes) t.standing (set_standing t.standing r.number Pooled) (t.seats q.number).work (e.phases q) (λ x _ h. was_fresh x.number h) (e.related.phases q m);
            past = λ q n m. past_left (sizes t.sizes) l r t.standing (t.seats q.number).work (e.phases q) (e.related.phases q m) (nobody t k run e r (place_number s.number c.entry.place.index) listed.0 listed.1 (ap through listed.2) q m).1 (e.related.past q m);
            own_holds = λ m. onward_holds (sizes t.sizes) (after (sizes t.sizes) l r) (t.shared.slots s.number) (l.holds s m) (l.holds s m) (Give c) [] w Outcome.Done m (λ i. refl) refl (omega arith) (λ i. refl) refl on
                (holds_in t k run e s b (plan [] (Give c)) here (acted Outcome.Done) is m);
            own_phase = on.round.acted w.owed (on.calm (λ i. refl));
            own_past = on.round.past;
          })
