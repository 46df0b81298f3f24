-- CAS and STORE: a name written into a spot.
use Rattle.std.proofs.Common.{◌≡◌, ℕ, ◌<◌, true, false, [], Some, Option, sym, refl, ap, ◌∙◌, subst, arith}
use Rattle.terms.specs.declared.Record.{Record}
use Rattle.terms.specs.declared.Spot.{Spot}
use Rattle.terms.specs.declared.Spot.TheVariants as at
use Rattle.terms.specs.declared.Outcome.{Outcome}
use Rattle.terms.specs.declared.Standing.{Standing}
use Rattle.terms.specs.Words.{same_name}
use Rattle.memory.specs.Shared.{Shared, name_at, set_name}
use Rattle.memory.specs.Standings.{named}
use Rattle.work.specs.declared.work.AfterSwap.TheVariants as swap
use Rattle.work.specs.declared.work.AfterStore.{AfterStore}
use Rattle.work.specs.declared.work.AfterStore.TheVariants as store
use Rattle.work.specs.declared.work.Point.TheVariants.{End, Swap, Overwrite}
use Rattle.work.specs.Plans.{plan, Notes, Sight}
use Rattle.work.specs.Steps.{quiet, swapped_of, stored_of, counts_of}
use Rattle.machine.specs.Tables.{Sizes, sight_in}
use Rattle.protocol.specs.State.{State}
use Rattle.protocol.specs.Shape.{Carries}
use Rattle.protocol.specs.Invariant.{Inv}
use Rattle.protocol.specs.Effects.{after_write, after_save}
use Rattle.protocol.specs.Steps as step
use Rattle.protocol.specs.Steps.{Reach}
use Rattle.protocol.proofs.Facts.{one_move}
use Rattle.laws.specs.Numbers.{shape, spot_number}
use Rattle.laws.specs.Agree.{Agrees, num}
use Rattle.laws.specs.Mine.{Mine, mine, put_saved, put_known}
use Rattle.laws.specs.Owes as owes
use Rattle.laws.specs.Owes.{Owes}
use Rattle.laws.specs.Points.{AtPoint, Firm, Carried, Within, Storing, Into}
use Rattle.laws.specs.Fits.{Lawful}
use Rattle.laws.proofs.Rows.{upd_here}
use Rattle.laws.proofs.Names.{same_num}
use Rattle.laws.proofs.Owed.{ready_of}
use Rattle.laws.proofs.Spots.{Spotted, spotted_below, spot_names, root_owner, link_owner, write_agrees, write_mine, counts_ended}
use Rattle.laws.proofs.Seats.{Decided}
use Rattle.laws.proofs.Dereference.{held_holds, held_within, within_spotted}

module _ (z : Sizes) (y : Lawful z) (p : ℕ) (pS : p < z.stations) (pN : p < 8) (s : Shared) (f : ℕ → Standing) (a : State) (b : Inv shape a) (g : Agrees z s f a) (n : Notes) where
  carries : (v : Option Record) → Carried (mine a p).held v → Carries shape a.held p (num v)
  carries v h r e = held_holds z y p pS pN s f a b g n r (h r e)

  carried_within : (v : Option Record) → Carried (mine a p).held v → (r : ℕ) → num v ≡ Some r → r < 128
  carried_within v h r e = held_within z y p pS pN s f a b g n r (h r e)

  reach : (q : Spot) → Within z (mine a p).held q → Reach shape a p (spot_number q)
  reach (at.Root i) l = step.root (root_owner i.index l)
  reach (at.Link r x) (l, h) = let u = y.positions in step.holding r.number (link_owner r.number x.index (omega arith)) (held_holds z y p pS pN s f a b g n r.number h)

  -- CAS: the swap said no,
  pub swap_no : (q : Spot) (o v : Option Record) → AtPoint z n (Swap q o v swap.Answer) (mine a p) →
      Decided z p s f a n (swapped_of false o v swap.Answer (sight_in z s p) n)
  swap_no q o v (k, firm, (st, w, c, room)) = record { to = a; moves = step.stay; agrees = g; after = owes.paid (k, firm, st, room) }

  -- or yes.
  pub swap_yes : (q : Spot) (o v : Option Record) → AtPoint z n (Swap q o v swap.Answer) (mine a p) → same_name (name_at s q) o ≡ true → (u : Sight) →
      Decided z p (set_name s q v) (named f v) a n (swapped_of true o v swap.Answer u n)
  swap_yes q o v (k, firm, (st, w, c, room)) t u =
      let m : Mine = mine a p in
      let spot = within_spotted z y p pS pN s f a b g n q w in
      record {
        to = after_write a p (spot_number q) (num o) (num v);
        moves = one_move shape a p _ (step.swap (spot_number q) (num o) (num v) (spotted_below q spot) (spot_names z s f a g q spot ∙ same_num (name_at s q) o t) (reach q w) (carries v c) (ready_of a p k));
        agrees = write_agrees z s f a g p q spot (num o) v (carried_within v c);
        after = subst (λ (x : Mine). Owes z.each (AtPoint z n (End (Outcome.Swapped true))) x (counts_of v o)) (sym (write_mine a p (spot_number q) (num o) (num v)))
            (counts_ended m v o (owes.paid (record { ups = refl; clears = refl; downs = refl; stores = refl; hands = k.hands }, firm, st, room)));
      }

  -- STORE. S1 reads the link,
  pub save_turn : (q : Spot) (v : Option Record) (h : AfterStore) → Spotted q → Storing (mine a p) q → Firm (mine a p).slot (mine a p).held → Into z n (mine a p) q v h →
      Decided z p s f a n (quiet (plan [] (Overwrite q (name_at s q) v h)))
  save_turn q v h spot k firm into =
      let m : Mine = mine a p in
      let o : Option ℕ = num (name_at s q) in
      let same : mine (after_save a p o) p ≡ put_saved o (put_known true m) = rw (upd_here a.saved p o, upd_here a.known p true) in
      record {
        to = after_save a p o;
        moves = one_move shape a p (after_save a p o) (step.save (spot_number q) o k.spot (spot_names z s f a g q spot));
        agrees = record { roots = g.roots; links = g.links; counts = g.counts; traces = g.traces; deleteds = g.deleteds; standings = g.standings; slots = g.slots; places = g.places; claims = g.claims; beyond = g.beyond; blank = g.blank };
        after = subst (λ (x : Mine). Owes z.each (AtPoint z n (Overwrite q (name_at s q) v h)) x []) (sym same)
            (owes.paid (record { ups = k.ups; clears = k.clears; downs = k.downs; hands = k.hands; spot = k.spot }, firm, still o q v h into, refl, refl));
      }
    where
      still : (o : Option ℕ) (q : Spot) (v : Option Record) (h : AfterStore) → Into z n (mine a p) q v h → Into z n (put_saved o (put_known true (mine a p))) q v h
      still o q v store.Answer i = i
      still o q v (store.GiveBack e x) i = i

  pub into_spotted : (q : Spot) (v : Option Record) → Into z n (mine a p) q v store.Answer → Spotted q
  into_spotted q v (st, (r, x, e, l, h), c, room) = let u = y.positions in subst Spotted (sym e) (held_within z y p pS pN s f a b g n r.number h, omega arith)

  -- and S2 overwrites it.
  pub store_turn : (q : Spot) (o v : Option Record) → AtPoint z n (Overwrite q o v store.Answer) (mine a p) → (u : Sight) →
      Decided z p (set_name s q v) (named f v) a n (quiet (stored_of o v store.Answer u))
  store_turn q o v (k, firm, (st, (r, x, e, l, h), c, room), known, saved) u =
      let m : Mine = mine a p in
      let low = y.positions in
      let spot : Spotted q = into_spotted q v (st, (r, x, e, l, h), c, room) in
      let owner : shape.owner (spot_number q) ≡ Some r.number = ap (λ i. shape.owner (spot_number i)) e ∙ link_owner r.number x.index (omega arith) in
      record {
        to = after_write a p (spot_number q) (num o) (num v);
        moves = one_move shape a p _ (step.store (spot_number q) r.number (num o) (num v) k.spot known saved k.ups k.clears k.downs owner (held_holds z y p pS pN s f a b g n r.number h) (carries v c));
        agrees = write_agrees z s f a g p q spot (num o) v (carried_within v c);
        after = subst (λ (x : Mine). Owes z.each (AtPoint z n (End Outcome.Done)) x (counts_of v o)) (sym (write_mine a p (spot_number q) (num o) (num v)))
            (counts_ended m v o (owes.paid (record { ups = refl; clears = refl; downs = refl; stores = refl; hands = k.hands }, firm, st, room)));
      }
