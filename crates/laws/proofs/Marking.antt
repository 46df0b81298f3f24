-- SCAN, first pass: SC4, SC5 and SC6.
use Rattle.std.proofs.Common.{◌≡◌, ℕ, ◌+◌, ◌<◌, ◌≤◌, Bool, true, false, List, [], ◌∷◌, length, ℤ, pos, negsuc, Some, None, Option, sym, refl, ap, ◌∙◌, subst, inl, inr, arith}
use Rattle.std.proofs.lemmas.Bool.{cases_eq, false≢true, eqb-true}
use Rattle.terms.specs.declared.Standing.{Standing}
use Rattle.memory.specs.declared.access.Write.{Write}
use Rattle.memory.specs.Shared.{Shared}
use Rattle.work.specs.Plans.{Notes, reached}
use Rattle.work.specs.Steps.{quiet, first_pass, counted_first, counted_again}
use Rattle.machine.specs.Tables.{Sizes}
use Rattle.protocol.specs.Words.{upd}
use Rattle.protocol.specs.State.{State, Phase, passed, marking}
use Rattle.protocol.specs.Invariant.{Inv}
use Rattle.protocol.specs.Steps as step
use Rattle.protocol.proofs.Words.{upd_other, upd_same}
use Rattle.protocol.proofs.Facts.{one_move}
use Rattle.laws.specs.Numbers.{shape, place_number}
use Rattle.laws.specs.Agree.{Agrees}
use Rattle.laws.specs.Mine.{Mine, mine, Quiet, put_phase}
use Rattle.laws.specs.Owes as owes
use Rattle.laws.specs.Owes.{Owes, Lists}
use Rattle.laws.specs.Lists.{Settled, place_of, Unscanned, Stands, First, Filed}
use Rattle.laws.specs.Points.{AtPoint, Firm, Scanning}
use Rattle.laws.specs.Fits.{Lawful}
use Rattle.laws.proofs.Rows.{upd_here, column_upd}
use Rattle.laws.proofs.Seats.{Decided}
use Rattle.work.specs.declared.work.Reached.{Reached}
use Rattle.work.specs.declared.work.Point.TheVariants.{CountFirst, CountAgain}
use Rattle.laws.proofs.Walks.{Walk, over, at, walk}
use Rattle.work.specs.declared.work.Entry.{Entry}
use Rattle.protocol.specs.Effects.{after_phase}
use Rattle.laws.proofs.Owed.{own_place}
use Rattle.memory.specs.Found.{is_zero}

pub zero_is : (k : ℤ) → is_zero k ≡ true → k ≡ pos 0
zero_is (pos i) e = ap pos (eqb-true i 0 e)
zero_is (negsuc i) e = absurd (false≢true e)

-- The first pass goes on behind an entry that is passed now: f is how far the scan was with the others.
pub first_next_point : (z : Sizes) → Lawful z → 0 < z.stations → (n : Notes) (m : Mine) (e : Reached) (f : ℕ → Phase) → Quiet m → Firm m.slot m.held → Scanning z m → Stands n e →
    Unscanned z.t1 n m.lists m.place f → First n f m.read m.seen (e.left + 1) → ((j : ℕ) → (j ≡ e.entry.place.index → ⊥) → m.phase j ≡ f j) → m.phase e.entry.place.index ≡ passed →
    AtPoint z n (first_pass (reached n.list e.left)) m
first_next_point z y some n m e f k firm c w d h others here = go (reached n.list e.left) (walk n.list e.left (let l = w.below in omega arith))
  where
    at_place : place_of n.list e.left ≡ e.entry.place.index
    at_place = ap (λ (x : Entry). x.place.index) (sym w.here)

    apart : (i : ℕ) → i < length n.list → (i ≡ e.left → ⊥) → place_of n.list i ≡ e.entry.place.index → ⊥
    apart i l x q = x (d.filed.front_apart i e.left l w.below (q ∙ sym at_place))

    settled : Settled m.phase
    settled j = elim (cases_eq j e.entry.place.index) [ inl q ↦ inr (ap m.phase q ∙ here) | inr x ↦ elim (d.settled j) [ inl q ↦ inl (others j x ∙ q) | inr q ↦ inr (others j x ∙ q) ] ]

    behind : (i : ℕ) → i < length n.list → e.left ≤ i → m.phase (place_of n.list i) ≡ passed
    behind i l q = elim (cases_eq i e.left) [
      | inl x ↦ ap (λ (j : ℕ). m.phase (place_of n.list j)) x ∙ ap m.phase at_place ∙ here
      | inr x ↦ others (place_of n.list i) (apart i l x) ∙ h.behind i l (omega arith)
    ]

    go : (x : Option Reached) → Walk n.list e.left x → AtPoint z n (first_pass x) m
    go None (over q) =
        let l = w.below in
        let two = y.two_slots in
        (k, firm, c, d.filed, d.kept, d.named, settled, omega arith, (λ i j. behind i j (omega arith)), some, omega arith, h.unread ∙ refl, (λ r _. h.none_seen r ∙ sym (d.unseen r)))
    go (Some x) (at _ q here2) =
        let l = w.below in (
          k,
          firm,
          c,
          record { filed = d.filed; kept = d.kept; unseen = d.unseen; named = d.named; settled = settled },
          record { below = omega arith; here = here2 },
          record { ahead = λ i j. others (place_of n.list i) (apart i (omega arith) (λ v. omega arith)) ∙ h.ahead i (omega arith); behind = λ i j v. behind i j (omega arith); unread = h.unread; none_seen = h.none_seen },
        )

module _ (z : Sizes) (y : Lawful z) (p : ℕ) (pS : p < z.stations) (pN : p < 8) (s : Shared) (f : ℕ → Standing) (a : State) (b : Inv shape a) (g : Agrees z s f a) (n : Notes) where
  -- The record of an entry among the first k is listed.
  pub entry_lists : (e : Reached) (k : ℕ) (ks : List Entry) → Stands n e → e.left < k → Filed z.t1 (mine a p).lists n.list k ks → Quiet (mine a p) → Lists (mine a p) e.entry.place.index e.entry.node.number
  entry_lists e k ks w l d q =
      let u = y.t1 in
      let low = d.front_low e.left l in
      let here : place_of n.list e.left ≡ e.entry.place.index = ap (λ (x : Entry). x.place.index) (sym w.here) in
      record { below = omega arith; full = ap (mine a p).lists (sym here) ∙ d.front e.left l ∙ ap (λ (x : Entry). Some x.node.number) (sym w.here); quiet = q }

  phase_mine : (j : ℕ) (v : Phase) → mine (after_phase a (place_number p j) v) p ≡ put_phase (upd (mine a p).phase j v) (mine a p)
  phase_mine j v = rw (column_upd a.phase p j v)

  -- SC4.
  pub count_first_turn : (e : Reached) (zero? : Bool) → AtPoint z n (CountFirst e) (mine a p) → Decided z p s f a n (quiet (counted_first e zero? n))
  count_first_turn e false (k, firm, c, d, w, h) =
      let j : ℕ = e.entry.place.index in
      let l = entry_lists e (length n.list) [] w w.below d.filed k in
      let at_place : place_of n.list e.left ≡ j = ap (λ (x : Entry). x.place.index) (sym w.here) in
      record {
        to = after_phase a (place_number p j) passed;
        moves = one_move shape a p _ (step.first_not_zero (place_number p j) e.entry.node.number (own_place a p j e.entry.node.number pN l) (ap (mine a p).phase (sym at_place) ∙ h.ahead e.left (omega arith)) h.unread);
        agrees = record { roots = g.roots; links = g.links; counts = g.counts; traces = g.traces; deleteds = g.deleteds; standings = g.standings; slots = g.slots; places = g.places; claims = g.claims; beyond = g.beyond; blank = g.blank };
        after = subst (λ (x : Mine). Owes z.each (AtPoint z n (first_pass (reached n.list e.left))) x []) (sym (phase_mine j passed))
            (owes.paid (first_next_point z y (omega arith) n (put_phase (upd (mine a p).phase j passed) (mine a p)) e (mine a p).phase (record { ups = k.ups; clears = k.clears; downs = k.downs; stores = k.stores; hands = k.hands }) firm c w d h
            (λ i x. upd_other (mine a p).phase j passed i (λ q. x (sym q))) (upd_here (mine a p).phase j passed)));
      }
  count_first_turn e true (k, firm, c, d, w, h) =
      let j : ℕ = e.entry.place.index in
      let l = entry_lists e (length n.list) [] w w.below d.filed k in
      let at_place : place_of n.list e.left ≡ j = ap (λ (x : Entry). x.place.index) (sym w.here) in
      record {
        to = after_phase a (place_number p j) marking;
        moves = one_move shape a p _ (step.first_zero (place_number p j) e.entry.node.number (own_place a p j e.entry.node.number pN l) (ap (mine a p).phase (sym at_place) ∙ h.ahead e.left (omega arith)));
        agrees = record { roots = g.roots; links = g.links; counts = g.counts; traces = g.traces; deleteds = g.deleteds; standings = g.standings; slots = g.slots; places = g.places; claims = g.claims; beyond = g.beyond; blank = g.blank };
        after = subst (λ (x : Mine). Owes z.each (AtPoint z n (CountAgain e)) x (Write.SetTrace e.entry.node ∷ [])) (sym (phase_mine j marking))
            (owes.mark_trace e.entry.node j (record { below = l.below; full = l.full; quiet = record { ups = k.ups; clears = k.clears; downs = k.downs; stores = k.stores; hands = k.hands } }) (upd_here (mine a p).phase j marking)
            (owes.paid (record { ups = k.ups; clears = k.clears; downs = k.downs; stores = k.stores; hands = k.hands }, firm, c, w, upd_here (mine a p).phase j marking, ((mine a p).phase, d, h, (λ i x. upd_other (mine a p).phase j marking i (λ q. x (sym q)))))));
      }

  -- SC6.
  pub count_again_turn : (e : Reached) → AtPoint z n (CountAgain e) (mine a p) → Decided z p s f a n (quiet (counted_again e (is_zero (s.counts e.entry.node.number)) n))
  count_again_turn e (k, firm, c, w, here, (v, d, h, others)) =
      let j : ℕ = e.entry.place.index in
      let l = entry_lists e (length n.list) [] w w.below d.filed k in
      go (is_zero (s.counts e.entry.node.number)) refl j refl l
    where
      next : (j : ℕ) → j ≡ e.entry.place.index → AtPoint z n (first_pass (reached n.list e.left)) (put_phase (upd (mine a p).phase j passed) (mine a p))
      next j q = first_next_point z y (omega arith) n (put_phase (upd (mine a p).phase j passed) (mine a p)) e v (record { ups = k.ups; clears = k.clears; downs = k.downs; stores = k.stores; hands = k.hands }) firm c w d h
          (λ i x. upd_other (mine a p).phase j passed i (λ u. x (sym u ∙ q)) ∙ others i x) (upd_same (mine a p).phase j passed e.entry.place.index q)

      go : (t : Bool) → is_zero (s.counts e.entry.node.number) ≡ t → (j : ℕ) → j ≡ e.entry.place.index → Lists (mine a p) j e.entry.node.number → Decided z p s f a n (quiet (counted_again e t n))
      go true t j q l = record {
        to = after_phase a (place_number p j) passed;
        moves = one_move shape a p _ (step.second_zero (place_number p j) e.entry.node.number (own_place a p j e.entry.node.number pN l) (ap (mine a p).phase q ∙ here) h.unread
            (g.counts e.entry.node.number ∙ zero_is (s.counts e.entry.node.number) t));
        agrees = record { roots = g.roots; links = g.links; counts = g.counts; traces = g.traces; deleteds = g.deleteds; standings = g.standings; slots = g.slots; places = g.places; claims = g.claims; beyond = g.beyond; blank = g.blank };
        after = subst (λ (x : Mine). Owes z.each (AtPoint z n (first_pass (reached n.list e.left))) x []) (sym (phase_mine j passed)) (owes.paid (next j q));
      }
      go false t j q l = record {
        to = a;
        moves = step.stay;
        agrees = g;
        after =
            owes.unmark_trace e.entry.node j l (ap (mine a p).phase q ∙ here) h.unread (owes.paid (next j q));
      }
