-- Dereferences: D3, D4 and D5, whatever they go on with.
use Rattle.std.proofs.Common.{◌≡◌, ℕ, ◌<◌, true, [], Some, None, Option, sym, ap, ◌∙◌, subst, arith}
use Rattle.terms.specs.declared.Record.{Record}
use Rattle.terms.specs.declared.Slot.{Slot}
use Rattle.terms.specs.declared.Spot.{Spot}
use Rattle.terms.specs.declared.Spot.TheVariants as at
use Rattle.terms.specs.declared.Standing.{Standing}
use Rattle.terms.specs.Words.{is_none, lowest, same_name}
use Rattle.memory.specs.Shared.{Shared, name_at}
use Rattle.work.specs.declared.work.Clean.{Clean}
use Rattle.work.specs.declared.work.Round.{Round}
use Rattle.work.specs.declared.work.Round.TheVariants.{Own, All}
use Rattle.work.specs.declared.work.AfterLook.{AfterLook}
use Rattle.work.specs.declared.work.AfterLook.TheVariants as look
use Rattle.work.specs.declared.work.Point.TheVariants.{Look, LookAgain, Verify}
use Rattle.work.specs.Plans.{plan, Notes, slot}
use Rattle.work.specs.Steps.{quiet, looked_of}
use Rattle.machine.specs.Tables.{Sizes}
use Rattle.protocol.specs.Words.{upd}
use Rattle.protocol.specs.State.{State}
use Rattle.protocol.specs.Shape.{Holds}
use Rattle.protocol.specs.Invariant.{Inv}
use Rattle.protocol.specs.Effects.{after_verify}
use Rattle.protocol.specs.Steps as step
use Rattle.protocol.specs.Theorems.{MayTouch, as_held, as_listed, as_claimed}
use Rattle.protocol.proofs.Facts.{one_move}
use Rattle.laws.specs.Numbers.{shape, slot_number, place_number, spot_number}
use Rattle.laws.specs.Agree.{Agrees, num}
use Rattle.laws.specs.Mine.{Mine, mine, Quiet, put_slot, put_held}
use Rattle.laws.specs.Owes as owes
use Rattle.laws.specs.Lists.{place_of}
use Rattle.laws.specs.Points.{AtPoint, Firm, Opened, Empty, Naming, Room, RoomBeside, HeldHere, Within, Steady, Cleanable, Cleaning, Before, During, clean_spot, next_spot}
use Rattle.laws.specs.Fits.{Lawful}
use Rattle.laws.proofs.Rows.{upd_here, row_at, row_upd}
use Rattle.laws.proofs.Names.{same_num}
use Rattle.laws.proofs.Rooms.{beside, beside_on, one_room, beside_room, not_empty, naming_on, opens, opened_on, closes_none, closes}
use Rattle.laws.proofs.Owed.{Turned, own_slot, within}
use Rattle.laws.proofs.Spots.{Spotted, spotted_below, spot_names}
use Rattle.laws.proofs.Seats.{Decided}
use Rattle.laws.proofs.Taking.{free_empty}

module _ (z : Sizes) (y : Lawful z) (p : ℕ) (pS : p < z.stations) (pN : p < 8) (s : Shared) (f : ℕ → Standing) (a : State) (b : Inv shape a) (g : Agrees z s f a) (n : Notes) where
  pub held_may : (r : ℕ) → HeldHere (mine a p).held r → MayTouch shape a p r
  held_may r (k, l, e) = let o = own_slot p k pN l in as_held (slot_number p k, o.below, o.mine, sym (row_at a.held p k l) ∙ e)

  pub held_holds : (r : ℕ) → HeldHere (mine a p).held r → Holds shape a.held p r
  held_holds r (k, l, e) = let o = own_slot p k pN l in (slot_number p k, o.below, o.mine, sym (row_at a.held p k l) ∙ e)

  pub held_within : (r : ℕ) → HeldHere (mine a p).held r → r < 128
  held_within r h = within z y p pS pN s f a b g r (held_may r h)

  -- A record that is cleaned may be touched.
  pub clean_may : (c : Clean) → Cleaning z n (mine a p) c → MayTouch shape a p c.node.number
  clean_may c k = go c.round k.cleanable
    where
      go : (r : Round) → Cleanable z n (a.claiming p) (a.valid p) c.node.number r → MayTouch shape a p c.node.number
      go (Own left) (e, l, h) =
          let w = place_of n.list left in
          let low = k.unscanned.filed.front_low left l in
          let u = y.t1 in
          as_listed (place_number p w) (omega arith) (omega arith) (k.unscanned.filed.front left l ∙ ap Some h)
      go (All v i) (e, h, _, _) = as_claimed h

  pub clean_within : (c : Clean) → Cleaning z n (mine a p) c → c.node.number < 128
  clean_within c k = within z y p pS pN s f a b g c.node.number (clean_may c k)

  pub within_spotted : (q : Spot) → Within z (mine a p).held q → Spotted q
  within_spotted (at.Root i) l = l
  within_spotted (at.Link r x) (l, h) = let u = y.positions in (held_within r.number h, omega arith)

  pub clean_spotted : (q : Spot) (c : Clean) → Cleaning z n (mine a p) c → q ≡ clean_spot c → Spotted q
  clean_spotted q c k e = let u = y.positions in let l = k.below in subst Spotted (sym e) (clean_within c k, omega arith)

  pub next_spotted : (q : Spot) (c : Clean) (r : Record) → Cleaning z n (mine a p) c → q ≡ next_spot z c r → r.number < 128 → Spotted q
  next_spotted q c r k e l = let u = y.positions in let v = y.follow c.position.index k.below in subst Spotted (sym e) (l, omega arith)

  -- A slot that names a record, not the one that is dereferenced into, holds it.
  named_held : (i l : ℕ) (r : ℕ) → Opened z.each (mine a p).slot (mine a p).held i → (l ≡ i → ⊥) → Naming z.each (mine a p).slot (Some r) l → HeldHere (mine a p).held r
  named_held i l r o d k = let u = y.each in let v = k.below in (l, omega arith, o.others l d ∙ k.names)

  during_spotted : (q : Spot) (i : ℕ) (h : AfterLook) → Opened z.each (mine a p).slot (mine a p).held i → During z n (mine a p) q i h → Spotted q
  during_spotted q i look.Answer o (_, w, _) = within_spotted q w
  during_spotted q i (look.CleanLink c) o (k, e, _) = clean_spotted q c k e
  during_spotted q i (look.CleanNext c r) o (k, e, (l, d, w)) = next_spotted q c r k e (held_within r.number (named_held i l r.number o d w))

  -- D3 found v: it is written into the lowest empty slot, and verified.
  begun : (q : Spot) (h : AfterLook) (i : ℕ) (v : Option ℕ) → Empty z.each (mine a p).slot i → Before z n (mine a p) q h → During z n (put_slot (upd (mine a p).slot i v) (mine a p)) q i h
  begun q look.Answer i v free (st, w, rooms) = (st, w, beside_on i v (beside i rooms))
  begun q (look.CleanLink c) i v free (k, e, rooms) = (k, e, beside_on i v (beside i rooms))
  begun q (look.CleanNext c r) i v free (k, e, _, (l, w)) =
      let d : l ≡ i → ⊥ = not_empty i l r.number free w.names in
      (k, e, (l, d, naming_on i l v (Some r.number) d w))

  some_room : (q : Spot) (h : AfterLook) → Before z n (mine a p) q h → Room z.each (mine a p).slot
  some_room q look.Answer (_, _, rooms) = one_room rooms
  some_room q (look.CleanLink c) (_, _, rooms) = one_room rooms
  some_room q (look.CleanNext c r) (_, _, room, _) = room

  pub look_turn : (q : Spot) (h : AfterLook) (v : Option Record) → AtPoint z n (Look q h) (mine a p) →
      Decided z p s f a n (quiet (looked_of q (slot (lowest (λ k. is_none (s.slots p k)) z.each)) v h))
  look_turn q h v (k, firm, before) =
      let m : Mine = mine a p in
      let i : ℕ = lowest (λ j. is_none (s.slots p j)) z.each in
      let (j, e) = some_room q h before in
      let free : Empty z.each m.slot i = free_empty z y p s f a g j e in
      record {
        to = a;
        moves = step.stay;
        agrees = g;
        after =
            owes.write_slot (slot i) v free.below (firm i ∙ free.none)
            (owes.paid (record { ups = k.ups; clears = k.clears; downs = k.downs; stores = k.stores; hands = k.hands }, opens z.each m.slot m.held i (num v) firm free, begun q h i (num v) free before, upd_here m.slot i (num v)));
      }

  again : (q : Spot) (h : AfterLook) (i : ℕ) (v : Option ℕ) → During z n (mine a p) q i h → During z n (put_slot (upd (mine a p).slot i v) (mine a p)) q i h
  again q look.Answer i v (st, w, room) = (st, w, beside_on i v room)
  again q (look.CleanLink c) i v (k, e, room) = (k, e, beside_on i v room)
  again q (look.CleanNext c r) i v (k, e, (l, d, w)) = (k, e, (l, d, naming_on i l v (Some r.number) d w))

  pub look_again_turn : (q : Spot) (i : Slot) (h : AfterLook) (v : Option Record) → AtPoint z n (LookAgain q i h) (mine a p) → Decided z p s f a n (quiet (looked_of q i v h))
  look_again_turn q i h v (k, o, during) =
      let m : Mine = mine a p in
      record {
        to = a;
        moves = step.stay;
        agrees = g;
        after =
            owes.write_slot i v o.below o.unheld
            (owes.paid (record { ups = k.ups; clears = k.clears; downs = k.downs; stores = k.stores; hands = k.hands }, opened_on z.each m.slot m.held i.index (num v) o, again q h i.index (num v) during, upd_here m.slot i.index (num v)));
      }

  -- D5 found the same name: the slot holds it. What a dereference leaves, by what it goes on with:
  abbrev pub Found : Mine → Spot → ℕ → Option Record → AfterLook → Type 0
  Found m q i v look.Answer = Steady z n m.lists m.place m.phase m.claiming × Room z.each m.slot
  Found m q i v (look.CleanLink c) = Cleaning z n m c × RoomBeside z.each m.slot i × Naming z.each m.slot (num v) i
  Found m q i v (look.CleanNext c r) = Cleaning z n m c × ((l : ℕ) × (l ≡ i → ⊥) × Naming z.each m.slot (Some r.number) l) × Naming z.each m.slot (num v) i

  abbrev pub Verified : Spot → ℕ → Option Record → AfterLook → Type 0
  Verified q i v h = Turned z p s f a (λ m. Quiet m × Firm m.slot m.held × Found m q i v h)

  found_now : (q : Spot) (i : ℕ) (v : Option Record) (h : AfterLook) → i < z.each → (mine a p).slot i ≡ num v → During z n (mine a p) q i h → Found (mine a p) q i v h
  found_now q i v look.Answer l e (st, w, room) = (st, beside_room i room)
  found_now q i v (look.CleanLink c) l e (k, _, room) = (k, room, record { below = l; names = e })
  found_now q i v (look.CleanNext c r) l e (k, _, w) = (k, w, record { below = l; names = e })

  found_held : (q : Spot) (i : ℕ) (v : Option Record) (h : AfterLook) (w : Option ℕ) → Found (mine a p) q i v h → Found (put_held (upd (mine a p).held i w) (mine a p)) q i v h
  found_held q i v look.Answer w k = k
  found_held q i v (look.CleanLink c) w k = k
  found_held q i v (look.CleanNext c r) w k = k

  pub verify_turn : (q : Spot) (i : Slot) (v : Option Record) (h : AfterLook) → AtPoint z n (Verify q i v h) (mine a p) → same_name (name_at s q) v ≡ true → Verified q i.index v h
  verify_turn q i None h (k, o, during, e) t =
      record { to = a; moves = step.stay; agrees = g; after = (k, closes_none z.each (mine a p).slot (mine a p).held i.index o e, found_now q i.index None h o.below e during) }
  verify_turn q i (Some r) h (k, o, during, e) t =
      let m : Mine = mine a p in
      let u = y.each in
      let low = o.below in
      let l : i.index < 8 = omega arith in
      let spot = during_spotted q i.index h o during in
      let c : ℕ = slot_number p i.index in
      let same : mine (after_verify a c r.number) p ≡ put_held (upd m.held i.index (Some r.number)) m = rw (row_upd a.held p i.index (Some r.number) l) in
      record {
        to = after_verify a c r.number;
        moves = one_move shape a p (after_verify a c r.number) (step.verify (spot_number q) c r.number (spotted_below q spot) (own_slot p i.index pN l)
            (sym (row_at a.held p i.index l) ∙ o.unheld) (sym (row_at a.slot p i.index l) ∙ e) (spot_names z s f a g q spot ∙ same_num (name_at s q) (Some r) t));
        agrees = record { roots = g.roots; links = g.links; counts = g.counts; traces = g.traces; deleteds = g.deleteds; standings = g.standings; slots = g.slots; places = g.places; claims = g.claims; beyond = g.beyond; blank = g.blank };
        after = subst (λ (x : Mine). Quiet x × Firm x.slot x.held × Found x q i.index (Some r) h) (sym same) (
          record { ups = k.ups; clears = k.clears; downs = k.downs; stores = k.stores; hands = k.hands },
          closes z.each m.slot m.held i.index (Some r.number) o e,
          found_held q i.index (Some r) h (Some r.number) (found_now q i.index (Some r) h o.below e during),
        );
      }

  -- D5 found another name: D3 again, with the same slot.
  pub verify_again : (q : Spot) (i : Slot) (v : Option Record) (h : AfterLook) → AtPoint z n (Verify q i v h) (mine a p) → Decided z p s f a n (quiet (plan [] (LookAgain q i h)))
  verify_again q i v h (k, o, during, e) = record { to = a; moves = step.stay; agrees = g; after = owes.paid (k, o, during) }
