-- CLEAN of a record, and CLEAN ALL: every decision.
use Rattle.std.proofs.Common.{◌≡◌, ℕ, ◌+◌, ◌/◌, ◌<◌, Bool, true, false, ltb, ◌⊎◌, List, [], ◌∷◌, ◌++◌, length, Some, None, Option, sym, refl, ap, ◌∙◌, subst, inl, inr, arith}
use Rattle.std.proofs.lemmas.Bool.{cases_lt, cond_both, ltb-true}
use Rattle.terms.specs.declared.Record.{Record}
use Rattle.terms.specs.declared.Slot.{Slot}
use Rattle.terms.specs.declared.Spot.{Spot}
use Rattle.terms.specs.declared.Standing.{Standing}
use Rattle.terms.specs.Words.{same_name}
use Rattle.memory.specs.declared.access.Write.{Write}
use Rattle.memory.specs.Shared.{Shared, name_at, set_name}
use Rattle.memory.specs.Standings.{named}
use Rattle.work.specs.declared.work.Clean.{Clean}
use Rattle.work.specs.declared.work.Round.{Round}
use Rattle.work.specs.declared.work.Round.TheVariants.{Own, All}
use Rattle.work.specs.declared.work.AfterLook.{AfterLook}
use Rattle.work.specs.declared.work.AfterLook.TheVariants as look
use Rattle.work.specs.declared.work.AfterSwap.TheVariants as swap
use Rattle.work.specs.declared.work.Point.TheVariants.{Verify, Swap, AskDeleted, AskPlace, AskDone, AskPlaceAgain}
use Rattle.work.specs.Plans.{Plan, plan, Notes, Sight, reached}
use Rattle.work.specs.Steps.{quiet, swapped_of, counts_of, release_of, next_place, own_next, record_clean, link_clean, clean_at, scan_start, deleted_of, place_found, done_of, again_of, verified_of, derefed_of}
use Rattle.machine.specs.Tables.{Sizes, sight_in}
use Rattle.protocol.specs.State.{State, giving, Phase, resting, passed}
use Rattle.protocol.specs.Invariant.{Inv}
use Rattle.protocol.specs.Effects.{after_write, after_reset_scan, after_look_again}
use Rattle.protocol.specs.Steps as step
use Rattle.protocol.specs.Steps.{Reach}
use Rattle.protocol.proofs.Words.{none_some}
use Rattle.protocol.proofs.Facts.{one_move}
use Rattle.laws.specs.Numbers.{shape, place_number, spot_number}
use Rattle.laws.specs.Agree.{Agrees, num}
use Rattle.laws.specs.Mine.{Mine, mine, Quiet, put_slot, put_held, put_claiming, put_valid}
use Rattle.laws.specs.Owes as owes
use Rattle.laws.specs.Owes.{Owes}
use Rattle.laws.specs.Lists.{Settled, place_of, Unscanned}
use Rattle.laws.specs.Points.{AtPoint, Firm, Naming, TwoRooms, RoomBeside, Carried, Cleanable, Cleaning, clean_spot, Rounding}
use Rattle.laws.specs.Fits.{Lawful}
use Rattle.laws.proofs.Rows.{upd_here, row_tells}
use Rattle.laws.proofs.Names.{same_num}
use Rattle.laws.proofs.Rooms.{beside_room, not_empty, closes_none}
use Rattle.laws.proofs.Owed.{Turned, ready_of}
use Rattle.laws.proofs.Spots.{spotted_below, spot_names, link_owner, write_agrees, wrote, write_mine, counts_owed}
use Rattle.laws.proofs.Seats.{Decided}
use Rattle.terms.specs.declared.Station.{Station}
use Rattle.terms.specs.declared.Place.{Place}
use Rattle.work.specs.declared.work.Reached.{Reached}
use Rattle.laws.proofs.Walks.{Walk, over, at, walk}
use Rattle.laws.proofs.Dereference.{clean_spotted, Found, verify_turn, verify_again, held_holds, held_within}
use Rattle.laws.proofs.Rounds.{rested, reset_mine, releases, release_end, both_releases, RoundReady, scan_point, next_point}

module _ (z : Sizes) (y : Lawful z) (p : ℕ) (pS : p < z.stations) (pN : p < 8) (s : Shared) (f : ℕ → Standing) (a : State) (b : Inv shape a) (g : Agrees z s f a) (n : Notes) where
  -- A slot that names something is one of the table's.
  pub taken_below : (j r : ℕ) → (mine a p).slot j ≡ Some r → j < z.each
  taken_below j r e = elim (row_tells a.slot p j) [
    | inl (h, l) ↦ elim (cases_lt j z.each) [ inl i ↦ i | inr i ↦ absurd (none_some (sym (g.blank p j l (inl i)) ∙ sym h ∙ e)) ]
    | inr (h, l) ↦ absurd (none_some (sym h ∙ e))
  ]

  -- The scan forgets what it knows.
  pub with_reset : (After : Mine → Type 0) → Quiet (mine a p) → Settled (mine a p).phase → After (rested (mine a p)) → Turned z p s f a After
  with_reset After k settled on = record {
    to = after_reset_scan shape a p;
    moves = one_move shape a p (after_reset_scan shape a p) (step.reset_scan (ready_of a p k) (λ w l e.
        let w8 : ℕ = w / 8 in
        let h : place_number p w8 ≡ w = omega arith in
        subst (λ (i : ℕ). (a.phase i ≡ resting) ⊎ (a.phase i ≡ passed)) h (settled w8)));
    agrees = record { roots = g.roots; links = g.links; counts = g.counts; traces = g.traces; deleteds = g.deleteds; standings = g.standings; slots = g.slots; places = g.places; claims = g.claims; beyond = g.beyond; blank = g.blank };
    after = subst After (sym (reset_mine a p pN)) on;
  }

  stayed : {After : Mine → Type 0} → After (mine a p) → Turned z p s f a After
  stayed k = record { to = a; moves = step.stay; agrees = g; after = k }

  rested_list : Unscanned z.t1 n (mine a p).lists (mine a p).place (mine a p).phase → Unscanned z.t1 n (mine a p).lists (mine a p).place (λ _. resting)
  rested_list k = record { filed = k.filed; kept = k.kept; unseen = k.unseen; named = k.named; settled = λ j. inl refl }

  -- A link is clean, and v in the slot l is to be released.
  pub link_clean_turn : (v : Option Record) (c : Clean) (l : ℕ) → Quiet (mine a p) → Firm (mine a p).slot (mine a p).held → Cleaning z n (mine a p) c →
      RoomBeside z.each (mine a p).slot l → Naming z.each (mine a p).slot (num v) l → Decided z p s f a n (quiet (link_clean v c (sight_in z s p) n))
  link_clean_turn v c l k firm w room naming =
      cond_both (ltb (c.position.index + 1) z.positions) _ _ (λ (x : Plan). Turned z p s f a (λ m. Owes z.each (AtPoint z n x.point) m x.owed))
      (λ t. let low = ltb-true (c.position.index + 1) z.positions t in
      stayed (subst (λ (ws : List Write). Owes z.each (AtPoint z n (clean_at c.node (c.position.index + 1) c.round)) (mine a p) ws) (release_end v)
      (releases (mine a p) v l [] y.each k firm taken_below room naming (λ σ η fi ro.
      owes.paid (record { ups = k.ups; clears = k.clears; downs = k.downs; stores = k.stores; hands = k.hands }, fi, (record { unscanned = w.unscanned; below = low; cleanable = w.cleanable }, refl, ro))))))
      (λ _. by_round c.round w.cleanable)
    where
      ready : (σ η : ℕ → Option ℕ) → Firm σ η → TwoRooms z.each σ → a.claiming p ≡ None → RoundReady z n (put_slot σ (put_held η (rested (mine a p))))
      ready σ η fi ro e = record { quiet = record { ups = k.ups; clears = k.clears; downs = k.downs; stores = k.stores; hands = k.hands }; firm = fi; unscanned = rested_list w.unscanned; rests = λ j. refl; unread = refl; unseen = λ r. refl; claimless = e; rooms = ro }

      own : (left : ℕ) → left < length n.list → a.claiming p ≡ None → (x : Option Reached) → Walk n.list left x → Decided z p s f a n (quiet (own_next (release_of v) n x))
      own left i e None (over _) =
          with_reset (λ m. Owes z.each (AtPoint z n (scan_start n)) m (release_of v)) k w.unscanned.settled
          (subst (λ (ws : List Write). Owes z.each (AtPoint z n (scan_start n)) (rested (mine a p)) ws) (release_end v)
          (releases (rested (mine a p)) v l [] y.each (record { ups = k.ups; clears = k.clears; downs = k.downs; stores = k.stores; hands = k.hands }) firm taken_below room naming (λ σ η fi ro.
          owes.paid (scan_point z n (put_slot σ (put_held η (rested (mine a p)))) (ready σ η fi ro e) (omega arith)))))
      own left i e (Some x) (at _ h j) =
          stayed (subst (λ (ws : List Write). Owes z.each (AtPoint z n (clean_at x.entry.node 0 (Own x.left))) (mine a p) ws) (release_end v)
          (releases (mine a p) v l [] y.each k firm taken_below room naming (λ σ η fi ro.
          owes.paid (record { ups = k.ups; clears = k.clears; downs = k.downs; stores = k.stores; hands = k.hands }, fi, (record { unscanned = w.unscanned; below = y.some_link; cleanable = (e, omega arith, ap (λ q. q.node.number) (sym j)) }, refl, ro)))))

      by_round : (x : Round) → Cleanable z n (a.claiming p) (a.valid p) c.node.number x → Decided z p s f a n (quiet (record_clean (release_of v) x (sight_in z s p) n))
      by_round (Own left) (e, i, _) = own left i e (reached n.list left) (walk n.list left (omega arith))
      by_round (All q i) (e, h, qS, iT) =
          let most = y.stations in
          let many = y.t1 in
          with_reset (λ m. Owes z.each (AtPoint z n (next_place q i (sight_in z s p) n)) m (release_of v ++ Write.DropClaim q i ∷ [])) k w.unscanned.settled
          (releases (rested (mine a p)) v l (Write.DropClaim q i ∷ []) y.each (record { ups = k.ups; clears = k.clears; downs = k.downs; stores = k.stores; hands = k.hands }) firm taken_below room naming (λ σ η fi ro.
          owes.unclaim q i (omega arith) (omega arith) e
          (owes.paid (next_point z y n (put_claiming None (put_valid None (put_slot σ (put_held η (rested (mine a p)))))) (sight_in z s p) refl refl q i qS
          (record { quiet = record { ups = k.ups; clears = k.clears; downs = k.downs; stores = k.stores; hands = k.hands }; firm = fi; unscanned = rested_list w.unscanned; rests = λ j. refl; unread = refl; unseen = λ r. refl; claimless = refl; rooms = ro })))))

  -- D5.
  pub verified_turn : (q : Spot) (i : Slot) (v : Option Record) (h : AfterLook) → AtPoint z n (Verify q i v h) (mine a p) →
      Decided z p s f a n (quiet (verified_of q i v h (name_at s q) (sight_in z s p) n))
  verified_turn q i v h x =
      cond_both (same_name (name_at s q) v) _ _ (λ (o : Plan). Turned z p s f a (λ m. Owes z.each (AtPoint z n o.point) m o.owed))
      (λ t. found v h x (verify_turn z y p pS pN s f a b g n q i v h x t)) (λ _. verify_again z y p pS pN s f a b g n q i v h x)
    where
      found : (v : Option Record) (h : AfterLook) → AtPoint z n (Verify q i v h) (mine a p) →
          Turned z p s f a (λ m. Quiet m × Firm m.slot m.held × Found z y p pS pN s f a b g n m q i.index v h) → Decided z p s f a n (quiet (derefed_of h v (sight_in z s p) n))
      found v look.Answer x d = let (k, firm, (st, room)) = d.after in record { to = d.to; moves = d.moves; agrees = d.agrees; after = owes.paid (k, firm, st, room) }
      found None (look.CleanLink c) (k, o, (w, e, room), h) d =
          link_clean_turn None c i.index k (closes_none z.each (mine a p).slot (mine a p).held i.index o h) w room (record { below = o.below; names = h })
      found (Some r) (look.CleanLink c) x d = let (k, firm, (w, room, naming)) = d.after in record { to = d.to; moves = d.moves; agrees = d.agrees; after = owes.paid (k, firm, w, beside_room i.index room, (i.index, naming)) }
      found v (look.CleanNext c r) x d = let (k, firm, (w, (l, e, naming), here)) = d.after in
          record { to = d.to; moves = d.moves; agrees = d.agrees; after = owes.paid (k, firm, (w, refl, refl, refl, (l, i.index, e, naming, here))) }

  -- CN3.
  pub deleted_turn : (c : Clean) (r : Record) (d : Bool) → AtPoint z n (AskDeleted c r) (mine a p) → Decided z p s f a n (quiet (deleted_of c r d (sight_in z s p) n))
  deleted_turn c r true (k, firm, w, room, (l, naming)) = stayed (owes.paid (k, firm, (w, refl, room, (l, naming))))
  deleted_turn c r false (k, firm, w, (i, e), (l, naming)) =
      link_clean_turn (Some r) c l k firm w (i, (λ h. not_empty i l r.number e naming.names (sym h)), e) naming

  -- CN5.
  clean_reach : (q : Spot) (c : Clean) → Cleaning z n (mine a p) c → q ≡ clean_spot c → Reach shape a p (spot_number q)
  clean_reach q c w e = subst (λ (x : Spot). Reach shape a p (spot_number x)) (sym e) (go c.round w.cleanable)
    where
      owner : shape.owner (spot_number (clean_spot c)) ≡ Some c.node.number
      owner = let u = y.positions in let l = w.below in link_owner c.node.number c.position.index (omega arith)

      resting_not : (x : Phase) → (x ≡ resting) ⊎ (x ≡ passed) → x ≡ giving → ⊥
      resting_not x k h = grind arith

      go : (r : Round) → Cleanable z n (a.claiming p) (a.valid p) c.node.number r → Reach shape a p (spot_number (clean_spot c))
      go (Own left) (_, l, h) =
          let j : ℕ = place_of n.list left in
          let low = w.unscanned.filed.front_low left l in
          let u = y.t1 in
          step.listing (place_number p j) c.node.number owner (omega arith) (omega arith) (w.unscanned.filed.front left l ∙ ap Some h) (resting_not ((mine a p).phase j) (w.unscanned.settled j))
      go (All v i) (_, h, _, _) = step.claimed c.node.number owner h

  slot_carried : (t : Option Record) (k : ℕ) → Firm (mine a p).slot (mine a p).held → Naming z.each (mine a p).slot (num t) k → Carried (mine a p).held t
  slot_carried t k firm w r e = let l = w.below in let u = y.each in (k, omega arith, firm k ∙ w.names ∙ e)

  pub clean_swap_no : (q : Spot) (o v : Option Record) (c : Clean) (r : Record) (t : Option Record) → AtPoint z n (Swap q o v (swap.CleanSwap c r t)) (mine a p) → (u : Sight) →
      Decided z p s f a n (swapped_of false o v (swap.CleanSwap c r t) u n)
  clean_swap_no q o v c r t (k, firm, (w, e, _, _, (l, j, d, this, that))) u =
      stayed (both_releases (mine a p) t r l j y.each k firm taken_below d this that (λ σ η fi ro.
      owes.paid (record { ups = k.ups; clears = k.clears; downs = k.downs; stores = k.stores; hands = k.hands }, fi, (record { unscanned = w.unscanned; below = w.below; cleanable = w.cleanable }, refl, ro))))

  pub clean_swap_yes : (q : Spot) (o v : Option Record) (c : Clean) (r : Record) (t : Option Record) → AtPoint z n (Swap q o v (swap.CleanSwap c r t)) (mine a p) → same_name (name_at s q) o ≡ true → (u : Sight) →
      Decided z p (set_name s q v) (named f v) a n (swapped_of true o v (swap.CleanSwap c r t) u n)
  clean_swap_yes q o v c r t (k, firm, (w, e, old, new, (l, j, d, this, that))) hit u =
      let spot = clean_spotted z y p pS pN s f a b g n q c w e in
      let carried : Carried (mine a p).held v = subst (λ (x : Option Record). Carried (mine a p).held x) (sym new) (slot_carried t j firm that) in
      record {
        to = after_write a p (spot_number q) (num o) (num v);
        moves = one_move shape a p _ (step.swap (spot_number q) (num o) (num v) (spotted_below q spot) (spot_names z s f a g q spot ∙ same_num (name_at s q) o hit) (clean_reach q c w e)
            (λ i h. held_holds z y p pS pN s f a b g n i (carried i h)) (ready_of a p k));
        agrees = write_agrees z s f a g p q spot (num o) v (λ i h. held_within z y p pS pN s f a b g n i (carried i h));
        after = subst (λ (x : Mine). Owes z.each (AtPoint z n (clean_at c.node c.position.index c.round)) x (counts_of t (Some r) ++ release_of t ++ Write.Release r ∷ []))
            (sym (write_mine a p (spot_number q) (num o) (num v) ∙ ap (λ (x : Option Record). wrote (mine a p) (num x) (num o)) new ∙ ap (λ (x : Option Record). wrote (mine a p) (num t) (num x)) old))
            (subst (λ (ws : List Write). Owes z.each (AtPoint z n (clean_at c.node c.position.index c.round)) (wrote (mine a p) (num t) (Some r.number)) ws) (sym (joined t))
            (counts_owed (mine a p) t (Some r) (release_of t ++ Write.Release r ∷ [])
            (both_releases (wrote (mine a p) None None) t r l j y.each (record { ups = refl; clears = refl; downs = refl; stores = refl; hands = k.hands }) firm taken_below d this that (λ σ η fi ro.
            owes.paid (record { ups = refl; clears = refl; downs = refl; stores = refl; hands = k.hands }, fi, (record { unscanned = w.unscanned; below = w.below; cleanable = w.cleanable }, refl, ro))))));
      }
    where
      joined : (t : Option Record) → counts_of t (Some r) ++ release_of t ++ Write.Release r ∷ [] ≡ counts_of t (Some r) ++ (release_of t ++ Write.Release r ∷ [])
      joined None = refl
      joined (Some x) = refl

  -- CLEAN ALL goes on behind a place.
  next_turn : (q : Station) (i : Place) → Quiet (mine a p) → Firm (mine a p).slot (mine a p).held → Rounding z n (mine a p) q i None → Decided z p s f a n (quiet (plan [] (next_place q i (sight_in z s p) n)))
  next_turn q i k firm w =
      with_reset (λ m. Owes z.each (AtPoint z n (next_place q i (sight_in z s p) n)) m []) k w.unscanned.settled
      (owes.paid (next_point z y n (rested (mine a p)) (sight_in z s p) refl refl q i w.station_in
      (record { quiet = record { ups = k.ups; clears = k.clears; downs = k.downs; stores = k.stores; hands = k.hands }; firm = firm; unscanned = rested_list w.unscanned; rests = λ j. refl; unread = refl; unseen = λ r. refl; claimless = w.claim; rooms = w.rooms })))

  -- CA3,
  pub place_turn : (q : Station) (i : Place) (v : Option Record) → AtPoint z n (AskPlace q i) (mine a p) → Decided z p s f a n (quiet (place_found q i v (sight_in z s p) n))
  place_turn q i None (k, firm, w) = next_turn q i k firm w
  place_turn q i (Some r) x = stayed (owes.paid x)

  -- CA4,
  pub done_turn : (q : Station) (i : Place) (r : Record) (d : Bool) → AtPoint z n (AskDone q i r) (mine a p) → Decided z p s f a n (quiet (done_of q i r d (sight_in z s p) n))
  done_turn q i r true (k, firm, w) = next_turn q i k firm w
  done_turn q i r false (k, firm, w) =
      let l = w.station_in in
      let h = w.place_in in
      let most = y.stations in
      let many = y.t1 in
      stayed (owes.claim q i (omega arith) (omega arith) w.claim
      (owes.paid (record { ups = k.ups; clears = k.clears; downs = k.downs; stores = k.stores; hands = k.hands }, firm, record { unscanned = w.unscanned; station_in = l; place_in = h; claim = refl; rooms = w.rooms })))

  -- and CA6.
  pub place_again_turn : (q : Station) (i : Place) (r : Record) → AtPoint z n (AskPlaceAgain q i r) (mine a p) →
      Decided z p s f a n (quiet (again_of q i r (s.places q.number i.index) (sight_in z s p) n))
  place_again_turn q i r (k, firm, w) =
      let x : ℕ = place_number q.number i.index in
      let v : Option Record = s.places q.number i.index in
      let in_s = w.station_in in
      let inT = w.place_in in
      let most = y.stations in
      let many = y.t1 in
      cond_both (same_name v (Some r)) _ _ (λ (o : Plan). Turned z p s f a (λ m. Owes z.each (AtPoint z n o.point) m o.owed))
      (λ t. record {
        to = after_look_again a p (num v);
        moves = one_move shape a p (after_look_again a p (num v)) (step.look_again x (num v) (omega arith) w.claim (g.places q.number i.index (omega arith)));
        agrees = record { roots = g.roots; links = g.links; counts = g.counts; traces = g.traces; deleteds = g.deleteds; standings = g.standings; slots = g.slots; places = g.places; claims = g.claims; beyond = g.beyond; blank = g.blank };
        after = subst (λ (m : Mine). Owes z.each (AtPoint z n (clean_at r 0 (All q i))) m []) (sym (ap (λ (c : Option ℕ). put_valid c (mine a p)) (upd_here a.valid p (num v))))
            (owes.paid (record { ups = k.ups; clears = k.clears; downs = k.downs; stores = k.stores; hands = k.hands }, firm, (record { unscanned = w.unscanned; below = y.some_link; cleanable = (w.claim, same_num v (Some r) t, w.station_in, w.place_in) }, refl, w.rooms)));
      })
      (λ _. with_reset (λ m. Owes z.each (AtPoint z n (next_place q i (sight_in z s p) n)) m (Write.DropClaim q i ∷ [])) k w.unscanned.settled
      (owes.unclaim q i (omega arith) (omega arith) w.claim
      (owes.paid (next_point z y n (put_claiming None (put_valid None (rested (mine a p)))) (sight_in z s p) refl refl q i w.station_in
      (record { quiet = record { ups = k.ups; clears = k.clears; downs = k.downs; stores = k.stores; hands = k.hands }; firm = firm; unscanned = rested_list w.unscanned; rests = λ j. refl; unread = refl; unseen = λ r. refl; claimless = refl; rooms = w.rooms })))))
