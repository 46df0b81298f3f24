-- SCAN reads the slots: SC11.
use Rattle.std.proofs.Common.{◌≡◌, ℕ, zero, suc, ◌+◌, ◌-◌, ◌*◌, ◌/◌, ◌%◌, ◌<◌, ◌≤◌, Bool, true, ltb, ◌⊎◌, List, [], length, Some, None, Option, sym, refl, ap, ◌∙◌, subst, inl, inr, arith}
use Rattle.std.proofs.lemmas.Bool.{cases_lt, cond_both, ltb-true, ltb-false}
use Rattle.terms.specs.declared.Record.{Record}
use Rattle.terms.specs.declared.Slot.{Slot}
use Rattle.terms.specs.declared.Standing.{Standing}
use Rattle.memory.specs.Shared.{Shared}
use Rattle.work.specs.declared.work.Point.{Point}
use Rattle.work.specs.Plans.{plan, Notes, slot, station, head_of, with_note, saw}
use Rattle.machine.specs.Tables.{Sizes, sight_in}
use Rattle.protocol.specs.State.{State}
use Rattle.protocol.specs.Invariant.{Inv}
use Rattle.protocol.specs.Steps as step
use Rattle.protocol.specs.Steps.{Step}
use Rattle.protocol.proofs.Words.{upd_other, upd_same}
use Rattle.protocol.proofs.Facts.{one_move, moves_on}
use Rattle.laws.specs.Numbers.{shape, slot_number}
use Rattle.laws.specs.Agree.{Agrees, num}
use Rattle.laws.specs.Mine.{Mine, mine, put_read, put_seen}
use Rattle.laws.specs.Owes as owes
use Rattle.laws.specs.Owes.{Owes}
use Rattle.laws.specs.Points.{AtPoint}
use Rattle.laws.specs.Fits.{Lawful}
use Rattle.laws.proofs.Rows.{upd_here}
use Rattle.laws.proofs.Owed.{Turned}
use Rattle.laws.proofs.Seats.{Decided}
use Rattle.terms.specs.declared.Station.{Station}
use Rattle.work.specs.declared.work.Reached.{Reached}
use Rattle.laws.proofs.Walks.{Walk, over, at, walk}
use Rattle.work.specs.declared.work.Entry.{Entry}
use Rattle.work.specs.declared.work.Point.TheVariants.{AskSlot}
use Rattle.laws.specs.Lists.{Filed}
use Rattle.work.specs.declared.notes.Note.{Note}
use Rattle.work.specs.Steps.{turn, next_slot, second_start}
use Rattle.protocol.specs.Shape.{seeing}
use Rattle.protocol.specs.Effects.{after_read_slot}
use Rattle.terms.proofs.Puts.{put_tells}

pub see_none : (f : ℕ → Bool) → ◌≡◌ {A = ℕ → Bool} (seeing None f) f
unfolding seeing
see_none f = refl

pub saw_same : (v : Option Record) (f h : ℕ → Bool) → ((r : ℕ) → r < 128 → f r ≡ h r) → (r : ℕ) → r < 128 → seeing (num v) f r ≡ saw h v r
unfolding seeing
saw_same None f h e r l = e r l
saw_same (Some x) f h e r l = elim (put_tells 128 h x.number true r) [
  | inl (q, i, _) ↦ upd_same f x.number true r i ∙ sym q
  | inr (q, d) ↦ upd_other f x.number true r (λ i. d i (omega arith)) ∙ e r l ∙ sym q
]

-- One slot read,
read_mine : (a : State) (p c : ℕ) (v : Option ℕ) → mine (after_read_slot a p c v) p ≡ put_read (suc c) (put_seen (seeing v (a.seen p)) (mine a p))
read_mine a p c v = rw (upd_here a.read p (suc c), upd_here a.seen p (seeing v (a.seen p)))

-- and slots skipped that the table does not have.
skips : (z : Sizes) (p : ℕ) (s : Shared) (f : ℕ → Standing) (k c : ℕ) (a : State) → Agrees z s f a → a.read p ≡ c → ((i : ℕ) → c ≤ i → i < c + k → (z.each ≤ i % 8) ⊎ (z.stations ≤ i / 8)) →
    Turned z p s f a (λ m. m ≡ put_read (c + k) (mine a p))
skips z p s f zero c a g e h = record { to = a; moves = step.stay; agrees = g; after = ap (λ (i : ℕ). put_read i (mine a p)) (e ∙ plus c) }
  where
    plus : (c : ℕ) → c ≡ c + 0
    plus c = omega arith
skips z p s f (suc k) c a g e h =
    let t : State = after_read_slot a p c None in
    let none : a.slot c ≡ None = ap a.slot (whole c) ∙ g.blank (c / 8) (c % 8) (omega arith) (h c (omega arith) (omega arith)) in
    let on = skips z p s f k (suc c) t (record { roots = g.roots; links = g.links; counts = g.counts; traces = g.traces; deleteds = g.deleteds; standings = g.standings; slots = g.slots; places = g.places; claims = g.claims; beyond = g.beyond; blank = g.blank }) (upd_here a.read p (suc c)) (λ i l u. h i (omega arith) (omega arith)) in
    record {
      to = on.to;
      moves = moves_on shape a p t on.to (one_move shape a p t (step.read_slot c None e none)) on.moves;
      agrees = on.agrees;
      after = on.after ∙ ap (λ (m : Mine). put_read (suc c + k) m) (read_mine a p c None) ∙ ap (λ (x : ℕ → Bool). put_read (suc c + k) (put_seen x (mine a p))) (see_none (a.seen p)) ∙ ap (λ (i : ℕ). put_read i (mine a p)) (sums c k);
    }
  where
    whole : (c : ℕ) → c ≡ slot_number (c / 8) (c % 8)
    whole c = omega arith

    sums : (c k : ℕ) → suc c + k ≡ c + suc k
    sums c k = omega arith

module _ (z : Sizes) (y : Lawful z) (p : ℕ) (pS : p < z.stations) (pN : p < 8) (s : Shared) (f : ℕ → Standing) (a : State) (b : Inv shape a) (g : Agrees z s f a) (n : Notes) where
  pub ask_slot_turn : (q : Station) (i : Slot) → AtPoint z n (AskSlot q i) (mine a p) →
      Decided z p s f a n (turn (plan [] (next_slot q i (sight_in z s p) n)) (Some (Note.See (s.slots q.number i.index))))
  ask_slot_turn q i (k, firm, c, d, kept, names, settled, some, passes, qS, iK, e, seen) =
      let each = y.each in
      let v : Option Record = s.slots q.number i.index in
      let x : ℕ = slot_number q.number i.index in
      let t : State = after_read_slot a p x (num v) in
      let gt : Agrees z s f t = record { roots = g.roots; links = g.links; counts = g.counts; traces = g.traces; deleteds = g.deleteds; standings = g.standings; slots = g.slots; places = g.places; claims = g.claims; beyond = g.beyond; blank = g.blank } in
      let m : Mine = put_read (suc x) (put_seen (seeing (num v) (a.seen p)) (mine a p)) in
      let here : Step shape a p t = step.read_slot x (num v) e (g.slots q.number i.index (omega arith)) in
      let saws : (r : ℕ) → r < 128 → seeing (num v) (a.seen p) r ≡ saw n.seen v r = saw_same v (a.seen p) n.seen seen in
      cond_both (ltb (i.index + 1) z.each) _ _ (λ (o : Point). Turned z p s f a (λ m. Owes z.each (AtPoint z (with_note n (Note.See v)) o) m []))
      (λ u. let l = ltb-true (i.index + 1) z.each u in
      record {
        to = t;
        moves = one_move shape a p t here;
        agrees = gt;
        after = subst (λ (m : Mine). Owes z.each (AtPoint z (with_note n (Note.See v)) (AskSlot q (slot (i.index + 1)))) m []) (sym (read_mine a p x (num v)))
            (owes.paid (record { ups = k.ups; clears = k.clears; downs = k.downs; stores = k.stores; hands = k.hands }, firm, c, d, kept, names, settled, some, passes, qS, l, omega arith, saws));
      })
      (λ u. let l = ltb-false (i.index + 1) z.each u in
      cond_both (ltb (q.number + 1) z.stations) _ _ (λ (o : Point). Turned z p s f a (λ m. Owes z.each (AtPoint z (with_note n (Note.See v)) o) m []))
      (λ w. let more = ltb-true (q.number + 1) z.stations w in
      let two = y.two_slots in
      let on = skips z p s f (8 - z.each) (suc x) t gt (upd_here a.read p (suc x)) (λ j low high. inl (omega arith)) in
      record {
        to = on.to;
        moves = moves_on shape a p t on.to (one_move shape a p t here) on.moves;
        agrees = on.agrees;
        after = subst (λ (m : Mine). Owes z.each (AtPoint z (with_note n (Note.See v)) (AskSlot (station (q.number + 1)) (slot 0))) m []) (sym (on.after ∙ ap (λ (m : Mine). put_read (suc x + (8 - z.each)) m) (read_mine a p x (num v))))
            (owes.paid (record { ups = k.ups; clears = k.clears; downs = k.downs; stores = k.stores; hands = k.hands }, firm, c, d, kept, names, settled, some, passes, more, omega arith, omega arith, saws));
      })
      (λ w. let last = ltb-false (q.number + 1) z.stations w in
      let on = skips z p s f (64 - suc x) (suc x) t gt (upd_here a.read p (suc x)) (λ j low high. rest j (omega arith) (omega arith) l last) in
      record {
        to = on.to;
        moves = moves_on shape a p t on.to (one_move shape a p t here) on.moves;
        agrees = on.agrees;
        after = subst (λ (m : Mine). Owes z.each (AtPoint z (with_note n (Note.See v)) (second_start (head_of n.list))) m []) (sym (on.after ∙ ap (λ (m : Mine). put_read (suc x + (64 - suc x)) m) (read_mine a p x (num v))))
            (owes.paid (begins (suc x + (64 - suc x)) (omega arith) (seeing (num v) (a.seen p)) saws (head_of n.list) (walk n.list (length n.list) (omega arith))));
      }))
    where
      rest : (j : ℕ) → slot_number q.number i.index < j → j < 64 → z.each ≤ i.index + 1 → z.stations ≤ q.number + 1 → (z.each ≤ j % 8) ⊎ (z.stations ≤ j / 8)
      rest j low high l last = elim (cases_lt j (8 * (q.number + 1))) [ inl h ↦ inl (let u = y.each in omega arith) | inr h ↦ inr (omega arith) ]

      begins : (w : ℕ) → 64 ≤ w → (sees : ℕ → Bool) → ((r : ℕ) → r < 128 → sees r ≡ saw n.seen (s.slots q.number i.index) r) → (h : Option Reached) → Walk n.list (length n.list) h →
          AtPoint z (with_note n (Note.See (s.slots q.number i.index))) (second_start h) (put_read w (put_seen sees (mine a p)))
      begins w l sees saws None (over h) = absurd (omega arith)
      begins w l sees saws (Some x) (at _ h j) = (
        record { ups = k.ups; clears = k.clears; downs = k.downs; stores = k.stores; hands = k.hands },
        firm,
        c,
        record { below = omega arith; here = j },
        record {
          filed = subst (λ (ks : List Entry). Filed z.t1 (mine a p).lists n.list (x.left + 1) ks) (sym kept) (subst (λ (o : ℕ). Filed z.t1 (mine a p).lists n.list o []) (sym h) d);
          ahead = λ o u. passes o (omega arith);
          all_read = l;
          saw = saws;
          named = names;
          settled = settled;
        },
      )
