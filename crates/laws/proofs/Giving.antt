-- SCAN, second pass: links cleared, and records given back.
use Rattle.std.proofs.Common.{◌≡◌, ℕ, suc, ◌+◌, ◌%◌, ◌<◌, true, false, ltb, List, [], ◌∷◌, ◌++◌, Some, None, Option, sym, refl, ap, ◌∙◌, subst, inl, inr, arith}
use Rattle.std.proofs.lemmas.Bool.{cases_eq, cond_both, ltb-true, ltb-false}
use Rattle.terms.specs.declared.Record.{Record}
use Rattle.terms.specs.declared.Position.{Position}
use Rattle.terms.specs.declared.Spot.{Spot}
use Rattle.terms.specs.declared.Standing.{Standing}
use Rattle.terms.specs.declared.Standing.TheVariants.{Pooled}
use Rattle.terms.specs.Words.{same_name}
use Rattle.memory.specs.declared.access.Write.{Write}
use Rattle.memory.specs.Shared.{Shared, name_at, set_name}
use Rattle.memory.specs.Standings.{set_standing, named}
use Rattle.work.specs.declared.work.AfterSwap.TheVariants as swap
use Rattle.work.specs.declared.work.AfterStore.TheVariants as store
use Rattle.work.specs.declared.work.Point.TheVariants.{Swap, Save, Overwrite, AskLink, Give}
use Rattle.work.specs.Plans.{Plan, plan, Notes, Sight, position, reached, noted}
use Rattle.work.specs.Steps.{quiet, swapped_of, stored_of, Turn, second_next, second_at, lower}
use Rattle.machine.specs.Tables.{Sizes, sight_in}
use Rattle.protocol.specs.Words.{upd}
use Rattle.protocol.specs.State.{State, giving, Phase, resting, emptied}
use Rattle.protocol.specs.Invariant.{Inv}
use Rattle.protocol.specs.Effects.{after_write, after_save, after_begin_store, after_clear_link, after_give}
use Rattle.protocol.specs.Steps as step
use Rattle.protocol.specs.Steps.{Step}
use Rattle.protocol.specs.Theorems.{as_listed}
use Rattle.protocol.proofs.Words.{upd_other, none_some, upd_same, upd_tells}
use Rattle.protocol.proofs.Facts.{one_move}
use Rattle.laws.specs.Numbers.{shape, place_number, spot_number}
use Rattle.laws.specs.Agree.{Agrees, num}
use Rattle.laws.specs.Mine.{Mine, mine, put_saved, put_known, put_phase, put_place, put_low, put_lists, put_storing}
use Rattle.laws.specs.Owes as owes
use Rattle.laws.specs.Owes.{Owes}
use Rattle.laws.specs.Lists.{place_of, Filed}
use Rattle.laws.specs.Points.{AtPoint}
use Rattle.laws.specs.Fits.{Lawful}
use Rattle.laws.proofs.Rows.{upd_here, column_upd}
use Rattle.laws.proofs.Words.{one_word}
use Rattle.laws.proofs.Names.{same_num}
use Rattle.laws.proofs.Owed.{Turned, ready_of, within, own_place, listed_within}
use Rattle.laws.proofs.Spots.{Spotted, spotted_below, spot_names, write_agrees, wrote, write_mine, counts_ended, counts_owed}
use Rattle.laws.proofs.Seats.{Decided}
use Rattle.work.specs.declared.work.Reached.{Reached}
use Rattle.work.specs.declared.work.Entry.{Entry}
use Rattle.protocol.specs.Clauses.{giving_back}
use Rattle.laws.proofs.Filing.{gives}
use Rattle.laws.proofs.Marking.{entry_lists}
use Rattle.laws.proofs.Passing.{kept_filed, kept_length, second_point, at_place, some_station, before_apart, entry_spotted, entry_owner}

pub owed_is : (ws : List Write) (keep : Option Entry) (u : Sight) (n : Notes) (x : Option Reached) → (second_at ws keep u n x).does.owed ≡ ws
owed_is ws keep u n None = refl
owed_is ws keep u n (Some x) = refl

emptied_not : (x : Phase) → x ≡ emptied → x ≡ giving → ⊥
emptied_not x e h = grind arith

module _ (z : Sizes) (y : Lawful z) (p : ℕ) (pS : p < z.stations) (pN : p < 8) (s : Shared) (f : ℕ → Standing) (a : State) (b : Inv shape a) (g : Agrees z s f a) (n : Notes) where
  -- TN7: the swap said no,
  pub clear_no : (q : Spot) (o v : Option Record) (e : Reached) (x : Position) → AtPoint z n (Swap q o v (swap.ClearLink e x)) (mine a p) → (u : Sight) → Decided z p s f a n (swapped_of false o v (swap.ClearLink e x) u n)
  clear_no q o v e x (k, firm, (w, d, l, eq, new, claim, rooms)) u = record { to = a; moves = step.stay; agrees = g; after = owes.paid (k, firm, (claim, rooms), w, d, l) }

  -- or yes.
  pub clear_yes : (q : Spot) (o v : Option Record) (e : Reached) (x : Position) → AtPoint z n (Swap q o v (swap.ClearLink e x)) (mine a p) → same_name (name_at s q) o ≡ true → (t : Shared) →
      Decided z p (set_name s q v) (named f v) a n (swapped_of true o v (swap.ClearLink e x) (sight_in z t p) n)
  clear_yes q o v e x (k, firm, (w, d, l, eq, new, claim, rooms)) hit t =
      let j : ℕ = e.entry.place.index in
      let r : ℕ = e.entry.node.number in
      let m : Mine = mine a p in
      let u : Sight = sight_in z t p in
      let rest : List Write = lower o ++ Write.SetDone e.entry.place ∷ Write.FillPlace e.entry.place e.entry.node ∷ [] in
      let own = entry_lists z y p pS pN s f a b g n e (e.left + 1) n.kept w (omega arith) d.filed k in
      let op = own_place a p j r pN own in
      let spot = entry_spotted z y p pS pN s f a b g n e x q own l eq in
      let nothing : (i : ℕ) → num v ≡ Some i → ⊥ = λ i h. none_some (sym (ap num new) ∙ h) in
      let st : Step shape a p (after_write a p (spot_number q) (num o) (num v)) = step.swap (spot_number q) (num o) (num v) (spotted_below q spot) (spot_names z s f a g q spot ∙ same_num (name_at s q) o hit)
      (step.listing (place_number p j) r (entry_owner z y p pS pN s f a b g n e x q l eq) op.below op.mine own.full (emptied_not (m.phase j) d.here)) (λ i h. absurd (nothing i h)) (ready_of a p k) in
      let ag = write_agrees z s f a g p q spot (num o) v (λ i h. absurd (nothing i h)) in
      let me : mine (after_write a p (spot_number q) (num o) (num v)) p ≡ wrote m None (num o) = write_mine a p (spot_number q) (num o) (num v) ∙ ap (λ (i : Option Record). wrote m (num i) (num o)) new in
      cond_both (ltb (x.index + 1) z.positions) _ _ (λ (i : Turn). Decided z p (set_name s q v) (named f v) a n i)
      (λ h. record {
        to = after_write a p (spot_number q) (num o) (num v);
        moves = one_move shape a p _ st;
        agrees = ag;
        after = subst (λ (i : Mine). Owes z.each (AtPoint z n (AskLink e (position (x.index + 1)))) i (lower o)) (sym me)
            (counts_ended m None o (owes.paid (record { ups = refl; clears = refl; downs = refl; stores = refl; hands = k.hands }, firm, (claim, rooms), w, d, ltb-true (x.index + 1) z.positions h)));
      })
      (λ _. record {
        to = after_write a p (spot_number q) (num o) (num v);
        moves = one_move shape a p _ st;
        agrees = ag;
        after = subst (λ (i : Mine). Owes z.each (AtPoint z (noted n (second_next rest e (Some e.entry) u n).note) (second_next rest e (Some e.entry) u n).does.point) i (second_next rest e (Some e.entry) u n).does.owed) (sym me)
            (subst (λ (i : List Write). Owes z.each (AtPoint z (noted n (second_next rest e (Some e.entry) u n).note) (second_next rest e (Some e.entry) u n).does.point) (wrote m None (num o)) i) (sym (owed_is rest (Some e.entry) u n (reached n.list e.left)))
            (counts_owed m None o (Write.SetDone e.entry.place ∷ Write.FillPlace e.entry.place e.entry.node ∷ [])
            (owes.set_done e.entry.place (owes.refill_place e.entry.place e.entry.node (record { below = own.below; full = own.full; quiet = record { ups = refl; clears = refl; downs = refl; stores = refl; hands = k.hands } }) d.here
            (owes.paid (second_point z y (some_station z y p pS pN s f a b g n) n (put_place (upd m.place j (Some r)) (put_phase (upd m.phase j resting) (wrote m None None))) e (Some e.entry) rest u refl (record { ups = refl; clears = refl; downs = refl; stores = refl; hands = k.hands }) firm (claim, rooms) w
            (kept_filed z.t1 m.lists n.list e.left n.kept e.entry y.t1 w.here d.filed) (kept_length z.t1 m.lists n.list e.left n.kept e.entry y.t1 d.filed)
            (λ i h. upd_other m.phase j resting (place_of n.list i) (λ c. before_apart z y p pS pN s f a b g n e n.kept w d.filed i h (sym c)) ∙ d.ahead i h) d.all_read d.saw
            (λ i. elim (cases_eq j i) [ inl c ↦ upd_same m.place j (Some r) i c ∙ sym own.full ∙ ap m.lists c | inr c ↦ upd_other m.place j (Some r) i c ∙ d.named i (λ h. c (sym h)) ])
            (λ i. elim (cases_eq j i) [ inl c ↦ inl (upd_same m.phase j resting i c) | inr c ↦ (let c2 = upd_other m.phase j resting i c in elim (d.settled i (λ h. c (sym h))) [ inl h ↦ inl (c2 ∙ h) | inr h ↦ inr (c2 ∙ h) ]) ])))))));
      })

  -- TN3: S1,
  pub save_back_turn : (q : Spot) (v : Option Record) (e : Reached) (x : Position) → AtPoint z n (Save q v (store.GiveBack e x)) (mine a p) → Decided z p s f a n (quiet (plan [] (Overwrite q (name_at s q) v (store.GiveBack e x))))
  save_back_turn q v e x (k, firm, (w, d, l, eq, new, low, claim, rooms)) =
      let own = entry_lists z y p pS pN s f a b g n e (e.left + 1) n.kept w (omega arith) d.filed k in
      let op = own_place a p e.entry.place.index e.entry.node.number pN own in
      let spot = entry_spotted z y p pS pN s f a b g n e x q own l eq in
      let o : Option ℕ = num (name_at s q) in
      let a1 : State = after_begin_store a p (spot_number q) in
      let me : mine (after_save a1 p o) p ≡ put_saved o (put_known true (put_storing (Some (spot_number q)) (mine a p))) =
      rw (upd_here a.saved p o, upd_here (upd a.known p false) p true, upd_here a.storing p (Some (spot_number q))) in
      record {
        to = after_save a1 p o;
        moves = step.go (one_move shape a p a1 (step.begin_store (spot_number q) e.entry.node.number (spotted_below q spot) (entry_owner z y p pS pN s f a b g n e x q l eq)
            (giving_back (place_number p e.entry.place.index) op.below op.mine own.full d.here) (ready_of a p k))) (after_save a1 p o)
            (step.save (spot_number q) o (upd_here a.storing p (Some (spot_number q))) (spot_names z s f a g q spot));
        agrees = record { roots = g.roots; links = g.links; counts = g.counts; traces = g.traces; deleteds = g.deleteds; standings = g.standings; slots = g.slots; places = g.places; claims = g.claims; beyond = g.beyond; blank = g.blank };
        after = subst (λ (i : Mine). Owes z.each (AtPoint z n (Overwrite q (name_at s q) v (store.GiveBack e x))) i []) (sym me)
            (owes.paid (record { ups = k.ups; clears = k.clears; downs = k.downs; hands = k.hands; spot = refl }, firm, (w, d, l, eq, new, low, claim, rooms), refl, refl));
      }

  -- and S2.
  pub store_back_turn : (q : Spot) (o v : Option Record) (e : Reached) (x : Position) → AtPoint z n (Overwrite q o v (store.GiveBack e x)) (mine a p) → (t : Shared) →
      Decided z p (set_name s q v) (named f v) a n (quiet (stored_of o v (store.GiveBack e x) (sight_in z t p)))
  store_back_turn q o v e x (k, firm, (w, d, l, eq, new, low, claim, rooms), known, saved) t =
      let j : ℕ = e.entry.place.index in
      let r : ℕ = e.entry.node.number in
      let m : Mine = mine a p in
      let m1 : Mine = put_low (upd (mine a p).low e.entry.place.index (suc x.index)) (mine a p) in
      let lowest = d.filed.front_low e.left (omega arith) in
      let many = y.t1 in
      let four = y.positions in
      let here = at_place n e w in
      let inside : place_number p j < 512 = omega arith in
      let mine_it : (place_number p j) % 8 ≡ p = omega arith in
      let full : m.lists j ≡ Some r = ap m.lists (sym here) ∙ d.filed.front e.left (omega arith) ∙ ap (λ (i : Entry). Some i.node.number) (sym w.here) in
      let small : r < 128 = within z y p pS pN s f a b g r (as_listed (place_number p j) inside mine_it full) in
      let spot : Spotted q = subst Spotted (sym eq) (small, omega arith) in
      let at_position : shape.position (spot_number q) ≡ x.index = ap (λ (i : Spot). shape.position (spot_number i)) eq ∙ omega arith in
      let st : Step shape a p (after_clear_link a p (spot_number q) (num o) (place_number p j) x.index) =
      step.clear_link (spot_number q) (place_number p j) r x.index (num o) k.spot known saved k.ups k.clears k.downs inside mine_it full d.here (entry_owner z y p pS pN s f a b g n e x q l eq) at_position low in
      let ag = write_agrees z s f a g p q spot (num o) None (λ i h. absurd (none_some h)) in
      let me : mine (after_clear_link a p (spot_number q) (num o) (place_number p j) x.index) p ≡ wrote m1 None (num o) =
      ap (λ (i : ℕ → ℕ). put_low i (mine (after_write a p (spot_number q) (num o) None) p)) (column_upd a.low p j (suc x.index)) ∙ ap (put_low (upd m.low j (suc x.index))) (write_mine a p (spot_number q) (num o) None) in
      subst (λ (i : Option Record). Decided z p (set_name s q i) (named f i) a n (quiet (stored_of o v (store.GiveBack e x) (sight_in z t p)))) (sym new)
      (cond_both (ltb (x.index + 1) z.positions) _ _ (λ (i : Plan). Turned z p (set_name s q None) (named f None) a (λ c. Owes z.each (AtPoint z n i.point) c i.owed))
      (λ h. let more = ltb-true (x.index + 1) z.positions h in
      record {
        to = after_clear_link a p (spot_number q) (num o) (place_number p j) x.index;
        moves = one_move shape a p _ st;
        agrees = again ag;
        after = subst (λ (i : Mine). Owes z.each (AtPoint z n (Save (Spot.Link e.entry.node (position (x.index + 1))) None (store.GiveBack e (position (x.index + 1))))) i (lower o)) (sym me)
            (counts_ended m1 None o (owes.paid (record { ups = refl; clears = refl; downs = refl; stores = refl; hands = k.hands }, firm, (w, d, more, refl, refl, upd_here m.low j (suc x.index) ∙ omega arith, claim, rooms))));
      })
      (λ h. let least = ltb-false (x.index + 1) z.positions h in
      let now = upd_here m.low j (suc x.index) in
      record {
        to = after_clear_link a p (spot_number q) (num o) (place_number p j) x.index;
        moves = one_move shape a p _ st;
        agrees = again ag;
        after = subst (λ (i : Mine). Owes z.each (AtPoint z n (Give e)) i (lower o)) (sym me)
            (counts_ended m1 None o (owes.paid (record { ups = refl; clears = refl; downs = refl; stores = refl; hands = k.hands }, firm, (claim, rooms), w, d, omega (arith, least, now))));
      }))
    where
      again : Agrees z (set_name s q None) (named f None) (after_write a p (spot_number q) (num o) None) → Agrees z (set_name s q None) (named f None) (after_clear_link a p (spot_number q) (num o) (place_number p e.entry.place.index) x.index)
      again g = record { roots = g.roots; links = g.links; counts = g.counts; traces = g.traces; deleteds = g.deleteds; standings = g.standings; slots = g.slots; places = g.places; claims = g.claims; beyond = g.beyond; blank = g.blank }

  -- SC23.
  pub give_turn : (e : Reached) → AtPoint z n (Give e) (mine a p) → Decided z p s (set_standing f e.entry.node.number Pooled) a n (second_next [] e None (sight_in z s p) n)
  give_turn e (k, firm, c, w, d, _) =
      let j : ℕ = e.entry.place.index in
      let r : ℕ = e.entry.node.number in
      let m : Mine = mine a p in
      let u : Sight = sight_in z s p in
      let own = entry_lists z y p pS pN s f a b g n e (e.left + 1) n.kept w (omega arith) d.filed k in
      let low = listed_within z y p pS pN s f a b g j r own in
      record {
        to = after_give a (place_number p j) r;
        moves = one_move shape a p _ (step.give (place_number p j) r (own_place a p j r pN own) d.here);
        agrees = record { roots = g.roots; links = g.links; counts = g.counts; traces = g.traces; deleteds = g.deleteds; standings = one_word 128 a.standing f r Pooled low g.standings; slots = g.slots; places = g.places; claims = g.claims; beyond = λ i h. elim (upd_tells a.standing r Pooled i) [ inl (q, _) ↦ q | inr (q, _) ↦ q ∙ g.beyond i h ]; blank = g.blank };
        after = subst (λ (i : Mine). Owes z.each (AtPoint z (noted n (second_next [] e None u n).note) (second_next [] e None u n).does.point) i (second_next [] e None u n).does.owed) (sym me)
            (subst (λ (i : List Write). Owes z.each (AtPoint z (noted n (second_next [] e None u n).note) (second_next [] e None u n).does.point) (put_lists (upd m.lists j None) (put_phase (upd m.phase j resting) m)) i) (sym (owed_is [] None u n (reached n.list e.left)))
            (owes.paid (second_point z y (some_station z y p pS pN s f a b g n) n (put_lists (upd m.lists j None) (put_phase (upd m.phase j resting) m)) e None [] u refl (record { ups = k.ups; clears = k.clears; downs = k.downs; stores = k.stores; hands = k.hands }) firm c w
            (subst (λ (i : ℕ). Filed z.t1 (upd m.lists i None) n.list e.left n.kept) (at_place n e w) (gives z.t1 m.lists n.list e.left n.kept d.filed)) refl
            (λ i h. upd_other m.phase j resting (place_of n.list i) (λ q. before_apart z y p pS pN s f a b g n e n.kept w d.filed i h (sym q)) ∙ d.ahead i h) d.all_read d.saw
            (λ i. elim (cases_eq j i) [ inl q ↦ ap m.place (sym q) ∙ d.empty ∙ sym (upd_same m.lists j None i q) | inr q ↦ d.named i (λ h. q (sym h)) ∙ sym (upd_other m.lists j None i q) ])
            (λ i. elim (cases_eq j i) [ inl q ↦ inl (upd_same m.phase j resting i q) | inr q ↦ (let q2 = upd_other m.phase j resting i q in elim (d.settled i (λ h. q (sym h))) [ inl h ↦ inl (q2 ∙ h) | inr h ↦ inr (q2 ∙ h) ]) ]))));
      }
    where
      me : mine (after_give a (place_number p e.entry.place.index) e.entry.node.number) p ≡ put_lists (upd (mine a p).lists e.entry.place.index None) (put_phase (upd (mine a p).phase e.entry.place.index resting) (mine a p))
      me = rw (column_upd a.lists p e.entry.place.index None, column_upd a.phase p e.entry.place.index resting)
