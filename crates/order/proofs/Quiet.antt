-- Turns at which nothing of the ledger moves: a station asks, and goes on by what it found.
use Rattle.std.proofs.Common.{◌≡◌, ℕ, ◌+◌, ◌<◌, Bool, true, false, not, ◌&&◌, ltb, List, [], ◌∷◌, ◌++◌, Some, None, Option, sym, refl, ◌∙◌, subst, arith}
use Rattle.std.proofs.lemmas.Bool.{cond_both}
use Rattle.terms.specs.declared.Record.{Record}
use Rattle.terms.specs.declared.Station.{Station}
use Rattle.terms.specs.declared.Slot.{Slot}
use Rattle.terms.specs.declared.Place.{Place}
use Rattle.terms.specs.declared.Position.{Position}
use Rattle.terms.specs.declared.Spot.{Spot}
use Rattle.terms.specs.declared.Spot.TheVariants.{Link}
use Rattle.terms.specs.declared.Outcome.{Outcome}
use Rattle.terms.specs.declared.Standing.{Standing}
use Rattle.terms.specs.declared.Operation.{Operation}
use Rattle.terms.specs.declared.Operation.TheVariants as op
use Rattle.terms.specs.Words.{same_name}
use Rattle.memory.specs.declared.access.Write.{Write}
use Rattle.memory.specs.declared.access.Write.TheVariants as w
use Rattle.memory.specs.declared.access.Found.{Found}
use Rattle.memory.specs.Shared.{name_at}
use Rattle.memory.specs.Found.{name_in, flag_in, zero_in}
use Rattle.work.specs.declared.work.AfterLook.{AfterLook}
use Rattle.work.specs.declared.work.AfterLook.TheVariants as look
use Rattle.work.specs.declared.work.AfterSwap.{AfterSwap}
use Rattle.work.specs.declared.work.AfterSwap.TheVariants as swap
use Rattle.work.specs.declared.work.AfterStore.{AfterStore}
use Rattle.work.specs.declared.work.AfterStore.TheVariants as store
use Rattle.work.specs.declared.work.Reached.{Reached}
use Rattle.work.specs.declared.work.Round.TheVariants.{All}
use Rattle.work.specs.declared.work.Point.{Point}
use Rattle.work.specs.declared.work.Point.TheVariants.{End, Take, Look, LookAgain, Verify, Swap, Save, Overwrite, AskDeleted, AskPlace, AskDone, AskPlaceAgain, CountFirst, CountAgain, AskSlot, CountSecond, AskTrace, AskClaims, AskLink, Give}
use Rattle.work.specs.Plans.{Plan, plan, Notes, noted, Sight, reached, position, access_at}
use Rattle.work.specs.Steps.{Turn, settle, decide_of, next_slot, next_place, place_found, done_of, again_of, clean_at, first_pass, counted_first, counted_again, counted_second, traced_of, claims_of, emptied_of, cleared_of, lower}
use Rattle.machine.specs.Tables.{Table, sight_in}
use Rattle.machine.specs.Steps.{found_in}
use Rattle.machine.specs.Holds.{looks_into}
use Rattle.laws.specs.Fits.{Sound}
use Rattle.ledger.specs.Ledger.{Sizes, Ledger}
use Rattle.ledger.specs.Explains.{waiting, acted, Run}
use Rattle.order.specs.Counts.{in_hand_at, cleaning_holds, releases_of, filled_with}
use Rattle.order.specs.Phases.{Looks, first, again, writes, verifies, Stores, reads, overwrites, Waits, AfterStoring, Acted, Calm}
use Rattle.order.specs.Relation.{sizes}
use Rattle.order.specs.Theorems.{Explained}
use Rattle.order.proofs.Frame.{Came, arrives, waits_on}
use Rattle.order.proofs.Here.{Turned, low, by_phase, holds_in, still, after_same, quiet_turn}
use Rattle.order.proofs.Onward.{Round, Onward, clean_round, first_round, next_place_round, next_slot_round, plain_onward, more_onward, second_onward}

-- Where a station may be whose operation has yet to act, owing ws: nowhere that only DELETE comes to, and at an end only with the
-- release of RELEASE before it.
abbrev pub WaitsToLook : AfterLook → Type 0
WaitsToLook look.Answer = Unit {0}
WaitsToLook (look.CleanLink c) = ⊥
WaitsToLook (look.CleanNext c m) = ⊥

abbrev pub WaitsToSwap : AfterSwap → Type 0
WaitsToSwap swap.Answer = Unit {0}
WaitsToSwap (swap.CleanSwap c m t) = ⊥
WaitsToSwap (swap.ClearLink e x) = ⊥

abbrev pub WaitsToStore : AfterStore → Type 0
WaitsToStore store.Answer = Unit {0}
WaitsToStore (store.GiveBack e x) = ⊥

abbrev pub WaitsToEnd : List Write → Type 0
WaitsToEnd [] = ⊥
WaitsToEnd (y ∷ ws) = Unit {0}

abbrev pub WaitsAt : List Write → Point → Type 0
WaitsAt ws (End o) = WaitsToEnd ws
WaitsAt ws Take = Unit {0}
WaitsAt ws (Look q g) = WaitsToLook g
WaitsAt ws (LookAgain q i g) = WaitsToLook g
WaitsAt ws (Verify q i v g) = WaitsToLook g
WaitsAt ws (Swap q o v g) = WaitsToSwap g
WaitsAt ws (Save q v g) = WaitsToStore g
WaitsAt ws (Overwrite q o v g) = WaitsToStore g
WaitsAt ws (AskDeleted c m) = ⊥
WaitsAt ws (AskPlace q i) = ⊥
WaitsAt ws (AskDone q i r) = ⊥
WaitsAt ws (AskPlaceAgain q i r) = ⊥
WaitsAt ws (CountFirst e) = ⊥
WaitsAt ws (CountAgain e) = ⊥
WaitsAt ws (AskSlot q i) = ⊥
WaitsAt ws (CountSecond e) = ⊥
WaitsAt ws (AskTrace e) = ⊥
WaitsAt ws (AskClaims e) = ⊥
WaitsAt ws (AskLink e x) = ⊥
WaitsAt ws (Give e) = ⊥

looks_at : (q : Spot) (p : Plan) → Looks q p → WaitsAt p.owed p.point
looks_at q _ first = tt
looks_at q _ (again i) = tt
looks_at q _ (writes i v) = tt
looks_at q _ (verifies i v) = tt

stores_at : (q : Spot) (n : Option Record) (p : Plan) → Stores q n p → WaitsAt p.owed p.point
stores_at q n _ reads = tt
stores_at q n _ (overwrites o) = tt

-- Such a station is so.
pub waits_at : (z : Sizes) (f : ℕ → Standing) (o : Operation) (p : Plan) → Waits z f o p → WaitsAt p.owed p.point
waits_at z f op.New p h = subst (λ (y : Plan). WaitsAt y.owed y.point) (sym h) tt
waits_at z f (op.Deref q) p (h, _) = looks_at q p h
waits_at z f (op.Release r) p (h, _) = subst (λ (y : Plan). WaitsAt y.owed y.point) (sym h) tt
waits_at z f (op.Cas q old new) p (h, _) = subst (λ (y : Plan). WaitsAt y.owed y.point) (sym h) tt
waits_at z f (op.Store r x n) p (h, _) = stores_at (Link r x) n p h
waits_at z f (op.Delete r) p h = absurd h

-- STORE waits on between its read and its overwrite; and no other operation that has yet to act saves.
looks_save_none : (q : Spot) (p : Plan) → Looks q p → (r : Spot) (v : Option Record) (g : AfterStore) → p ≡ plan [] (Save r v g) → ⊥
looks_save_none q _ first r v g e = grind arith
looks_save_none q _ (again i) r v g e = grind arith
looks_save_none q _ (writes i u) r v g e = grind arith
looks_save_none q _ (verifies i u) r v g e = grind arith

stores_on : (q : Spot) (n : Option Record) (p : Plan) → Stores q n p → (r : Spot) (v : Option Record) (g : AfterStore) → p ≡ plan [] (Save r v g) → (x : Option Record) → Stores q n (plan [] (Overwrite r x v g))
stores_on q n _ reads r v g e x =
    let same : plan [] (Overwrite q x n store.Answer) ≡ plan [] (Overwrite r x v g) = grind arith in
    subst (Stores q n) same (overwrites x)
stores_on q n _ (overwrites o) r v g e x = grind arith

saves_on : (z : Sizes) (f : ℕ → Standing) (o : Operation) (q : Spot) (v : Option Record) (g : AfterStore) → Waits z f o (plan [] (Save q v g)) → (x : Option Record) → Waits z f o (plan [] (Overwrite q x v g))
saves_on z f op.New q v g h x = grind arith
saves_on z f (op.Deref r) q v g (h, _) x = absurd (looks_save_none r _ h q v g refl)
saves_on z f (op.Release r) q v g (h, _) x = grind arith
saves_on z f (op.Cas r old new) q v g (h, _) x = grind arith
saves_on z f (op.Store r y n) q v g (h, b) x = (stores_on (Link r y) n _ h q v g refl x, b)
saves_on z f (op.Delete r) q v g h x = absurd h

module _ (z : Sizes) (l : Ledger) where
  abbrev R : Point → Type 0
  R x = Round z l x

  abbrev Goes : List Write → Plan → Type 0
  Goes ws p = Onward z l ws p

  -- Decisions of DELETE's rounds and scans have nothing of their own.
  done_round : (q : Station) (i : Place) (r : Record) → R (AskDone q i r)
  done_round q i r = record { closed = λ j. refl; nothing = λ k. refl; empty = λ ws k e. refl; acted = λ ws c. (refl, c); past = tt }

  place_again_round : (q : Station) (i : Place) (r : Record) → R (AskPlaceAgain q i r)
  place_again_round q i r = record { closed = λ j. refl; nothing = λ k. refl; empty = λ ws k e. refl; acted = λ ws c. (refl, c); past = tt }

  count_again_round : (e : Reached) → R (CountAgain e)
  count_again_round e = record { closed = λ j. refl; nothing = λ k. refl; empty = λ ws k h. refl; acted = λ ws c. (refl, c); past = tt }

  trace_round : (e : Reached) → R (AskTrace e)
  trace_round e = record { closed = λ j. refl; nothing = λ k. refl; empty = λ ws k h. refl; acted = λ ws c. (refl, c); past = tt }

  claims_round : (e : Reached) → R (AskClaims e)
  claims_round e = record { closed = λ j. refl; nothing = λ k. refl; empty = λ ws k h. refl; acted = λ ws c. (refl, c); past = tt }

  link_round : (e : Reached) (x : Position) → R (AskLink e x)
  link_round e x = record { closed = λ j. refl; nothing = λ k. refl; empty = λ ws k h. refl; acted = λ ws c. (refl, c); past = tt }

  give_round : (e : Reached) → R (Give e)
  give_round e = record { closed = λ j. refl; nothing = λ k. refl; empty = λ ws k h. refl; acted = λ ws c. (refl, c); past = tt }

  save_round : (q : Spot) (v : Option Record) (e : Reached) (x : Position) → R (Save q v (store.GiveBack e x))
  save_round q v e x = record { closed = λ j. refl; nothing = λ k. refl; empty = λ ws k h. refl; acted = λ ws c. (refl, tt, c); past = tt }

  overwrite_round : (q : Spot) (o v : Option Record) (e : Reached) (x : Position) → R (Overwrite q o v (store.GiveBack e x))
  overwrite_round q o v e x = record { closed = λ j. refl; nothing = λ k. refl; empty = λ ws k h. refl; acted = λ ws c. (refl, tt, c); past = tt }

  clear_round : (q : Spot) (o v : Option Record) (e : Reached) (x : Position) → R (Swap q o v (swap.ClearLink e x))
  clear_round q o v e x = record { closed = λ j. refl; nothing = λ k. refl; empty = λ ws k h. refl; acted = λ ws c. (refl, tt, c); past = tt }

  -- Each goes on so by what it found.
  place_found_onward : (q : Station) (i : Place) (v : Option Record) (s : Sight) (n : Notes) → Goes [] (place_found q i v s n)
  place_found_onward q i None s n = plain_onward z l [] (next_place q i s n) (next_place_round z l q i s n)
  place_found_onward q i (Some r) s n = plain_onward z l [] (AskDone q i r) (done_round q i r)

  done_onward : (q : Station) (i : Place) (r : Record) (d : Bool) (s : Sight) (n : Notes) → Goes [] (done_of q i r d s n)
  done_onward q i r true s n = plain_onward z l [] (next_place q i s n) (next_place_round z l q i s n)
  done_onward q i r false s n = more_onward z l [] (w.AddClaim q i ∷ []) (AskPlaceAgain q i r) (λ j. refl) (λ k. refl) (λ k. refl) (place_again_round q i r)

  again_onward : (q : Station) (i : Place) (r : Record) (v : Option Record) (s : Sight) (n : Notes) → Goes [] (again_of q i r v s n)
  again_onward q i r v s n = cond_both (same_name v (Some r)) (plan [] (clean_at r 0 (All q i))) _ (Goes [])
      (λ _. plain_onward z l [] (clean_at r 0 (All q i)) (clean_round z l r 0 (All q i)))
      (λ _. more_onward z l [] (w.DropClaim q i ∷ []) (next_place q i s n) (λ j. refl) (λ k. refl) (λ k. refl) (next_place_round z l q i s n))

  count_first_onward : (e : Reached) (c : Bool) (n : Notes) → Goes [] (counted_first e c n)
  count_first_onward e true n = more_onward z l [] (w.SetTrace e.entry.node ∷ []) (CountAgain e) (λ j. refl) (λ k. refl) (λ k. refl) (count_again_round e)
  count_first_onward e false n = plain_onward z l [] (first_pass (reached n.list e.left)) (first_round z l (reached n.list e.left))

  count_again_onward : (e : Reached) (c : Bool) (n : Notes) → Goes [] (counted_again e c n)
  count_again_onward e true n = plain_onward z l [] (first_pass (reached n.list e.left)) (first_round z l (reached n.list e.left))
  count_again_onward e false n = more_onward z l [] (w.ClearTraceOfListed e.entry.node ∷ []) (first_pass (reached n.list e.left)) (λ j. refl) (λ k. refl) (λ k. refl) (first_round z l (reached n.list e.left))

  count_second_onward : (e : Reached) (c : Bool) (s : Sight) (n : Notes) → Goes [] (counted_second e c s n).does
  count_second_onward e true s n = plain_onward z l [] (AskTrace e) (trace_round e)
  count_second_onward e false s n = second_onward z l [] (Some e.entry) s n (reached n.list e.left)

  trace_onward : (e : Reached) (m : Bool) (s : Sight) (n : Notes) → Goes [] (traced_of e m s n).does
  trace_onward e m s n = cond_both (m && not (n.seen e.entry.node.number)) _ _ (λ (u : Turn). Goes [] u.does)
      (λ _. more_onward z l [] (w.EmptyPlace e.entry.place ∷ []) (AskClaims e) (λ j. refl) (λ k. refl) (λ k. refl) (claims_round e))
      (λ _. second_onward z l [] (Some e.entry) s n (reached n.list e.left))

  claims_onward : (e : Reached) (c : Bool) → Goes [] (claims_of e c)
  claims_onward e true = plain_onward z l [] _ (save_round (Link e.entry.node (position 0)) None e (position 0))
  claims_onward e false = plain_onward z l [] (AskLink e (position 0)) (link_round e (position 0))

  overwrite_onward : (q : Spot) (o v : Option Record) (g : AfterStore) → AfterStoring g → Goes [] (plan [] (Overwrite q o v g))
  overwrite_onward q o v store.Answer d = absurd d
  overwrite_onward q o v (store.GiveBack e x) d = plain_onward z l [] _ (overwrite_round q o v e x)

  -- A link of a record to be given back was stored none.
  pub emptied_onward : (ws : List Write) (e : Reached) (x : Position) (s : Sight) → Goes ws (emptied_of ws e x s)
  emptied_onward ws e x s = cond_both (ltb (x.index + 1) s.positions) _ _ (Goes ws)
      (λ _. plain_onward z l ws _ (save_round (Link e.entry.node (position (x.index + 1))) None e (position (x.index + 1))))
      (λ _. plain_onward z l ws (Give e) (give_round e))

  -- What goes on with more writes, which release nothing and fill nothing, goes on without them.
  fewer_onward : (ws vs : List Write) (p : Plan) → Calm vs → ((r : Record) → releases_of vs r ≡ 0) → ((r : Record) → filled_with vs r ≡ 0) → Goes (ws ++ vs) p → Goes ws p
  fewer_onward ws vs p c a b k =
      let m : Goes ws (plan (ws ++ vs) p.point) = more_onward z l ws vs p.point c a b k.round in
      record { round = k.round; calm = λ d. k.calm (m.calm d); releases = λ r. k.releases r ∙ m.releases r; fills = λ r e. k.fills r (m.fills r e) }

  -- A swap of a link to none wrote, or did not.
  pub cleared_yes_onward : (o : Option Record) (e : Reached) (x : Position) (s : Sight) (n : Notes) → Goes (lower o) (cleared_of true o e x s n).does
  cleared_yes_onward o e x s n = cond_both (ltb (x.index + 1) s.positions) _ _ (λ (u : Turn). Goes (lower o) u.does)
      (λ _. plain_onward z l (lower o) (AskLink e (position (x.index + 1))) (link_round e (position (x.index + 1))))
      (λ _. fewer_onward (lower o) (w.SetDone e.entry.place ∷ w.FillPlace e.entry.place e.entry.node ∷ []) _ (λ j. refl) (λ k. refl) (λ k. refl)
      (second_onward z l (lower o ++ w.SetDone e.entry.place ∷ w.FillPlace e.entry.place e.entry.node ∷ []) (Some e.entry) s n (reached n.list e.left)))

  pub cleared_no_onward : (o : Option Record) (e : Reached) (x : Position) (s : Sight) (n : Notes) → Goes [] (cleared_of false o e x s n).does
  cleared_no_onward o e x s n = plain_onward z l [] (AskLink e x) (link_round e x)

module _ (t : Table) (k : Sound t) (run : Run) (e : Explained t run) (s : Station) (b : s.number < t.sizes.stations) (pick : Option ℕ) where
  abbrev p : ℕ
  p = s.number

  abbrev l : Ledger
  l = e.ledger

  -- what the decision x comes to where nothing is written
  abbrev decided : Point → Turn
  decided x = decide_of x (found_in t.shared pick p (access_at x)) (sight_in t.sizes t.shared p) (t.seats p).notes

  -- A turn at which no operation waits and nothing is written, with nothing of the station's own before it and after it.
  quiet_here : (x : Point) → (t.seats p).work ≡ Some (plan [] x) → ((i : ℕ) → looks_into x i ≡ false) → ((r : Record) → cleaning_holds x r ≡ 0) → ((r : Record) → in_hand_at [] x r ≡ 0) →
      (WaitsAt [] x → ⊥) → ((a : Outcome) → Acted a [] x → a ≡ Outcome.Done) → ((f : Found) (y : Sight) (n : Notes) → Onward (sizes t.sizes) l [] (decide_of x f y n).does) →
      Came t run e s (low t k run e s b) t.shared t.standing (noted (t.seats p).notes (decided x).note) t.pool (settle (decided x).does)
  quiet_here x here closed nothing empty none done on = by_phase t k run e s b (plan [] x) here (Came t run e s (low t k run e s b) t.shared t.standing (noted (t.seats p).notes (decided x).note) t.pool (settle (decided x).does))
      (λ o is h. absurd (none (waits_at (sizes t.sizes) t.standing o (plan [] x) h)))
      (λ a is h. quiet_turn t k run e s b x here closed nothing empty a is (done a h) (decided x).does (noted (t.seats p).notes (decided x).note) (on _ _ _))

  pub ask_place_turn : (q : Station) (i : Place) → (t.seats p).work ≡ Some (plan [] (AskPlace q i)) → Turned t run s pick (plan [] (AskPlace q i))
  ask_place_turn q i here = quiet_here (AskPlace q i) here (λ j. refl) (λ v. refl) (λ v. refl) (λ h. h) (λ a h. h.0) (λ f y n. place_found_onward (sizes t.sizes) l q i (name_in f) y n)

  pub ask_done_turn : (q : Station) (i : Place) (r : Record) → (t.seats p).work ≡ Some (plan [] (AskDone q i r)) → Turned t run s pick (plan [] (AskDone q i r))
  ask_done_turn q i r here = quiet_here (AskDone q i r) here (λ j. refl) (λ v. refl) (λ v. refl) (λ h. h) (λ a h. h.0) (λ f y n. done_onward (sizes t.sizes) l q i r (flag_in f) y n)

  pub ask_place_again_turn : (q : Station) (i : Place) (r : Record) → (t.seats p).work ≡ Some (plan [] (AskPlaceAgain q i r)) → Turned t run s pick (plan [] (AskPlaceAgain q i r))
  ask_place_again_turn q i r here = quiet_here (AskPlaceAgain q i r) here (λ j. refl) (λ v. refl) (λ v. refl) (λ h. h) (λ a h. h.0) (λ f y n. again_onward (sizes t.sizes) l q i r (name_in f) y n)

  pub count_first_turn : (c : Reached) → (t.seats p).work ≡ Some (plan [] (CountFirst c)) → Turned t run s pick (plan [] (CountFirst c))
  count_first_turn c here = quiet_here (CountFirst c) here (λ j. refl) (λ v. refl) (λ v. refl) (λ h. h) (λ a h. h.0) (λ f y n. count_first_onward (sizes t.sizes) l c (zero_in f) n)

  pub count_again_turn : (c : Reached) → (t.seats p).work ≡ Some (plan [] (CountAgain c)) → Turned t run s pick (plan [] (CountAgain c))
  count_again_turn c here = quiet_here (CountAgain c) here (λ j. refl) (λ v. refl) (λ v. refl) (λ h. h) (λ a h. h.0) (λ f y n. count_again_onward (sizes t.sizes) l c (zero_in f) n)

  pub ask_slot_turn : (q : Station) (i : Slot) → (t.seats p).work ≡ Some (plan [] (AskSlot q i)) → Turned t run s pick (plan [] (AskSlot q i))
  ask_slot_turn q i here = quiet_here (AskSlot q i) here (λ j. refl) (λ v. refl) (λ v. refl) (λ h. h) (λ a h. h.0) (λ f y n. plain_onward (sizes t.sizes) l [] (next_slot q i y n) (next_slot_round (sizes t.sizes) l q i y n))

  pub count_second_turn : (c : Reached) → (t.seats p).work ≡ Some (plan [] (CountSecond c)) → Turned t run s pick (plan [] (CountSecond c))
  count_second_turn c here = quiet_here (CountSecond c) here (λ j. refl) (λ v. refl) (λ v. refl) (λ h. h) (λ a h. h.0) (λ f y n. count_second_onward (sizes t.sizes) l c (zero_in f) y n)

  pub ask_trace_turn : (c : Reached) → (t.seats p).work ≡ Some (plan [] (AskTrace c)) → Turned t run s pick (plan [] (AskTrace c))
  ask_trace_turn c here = quiet_here (AskTrace c) here (λ j. refl) (λ v. refl) (λ v. refl) (λ h. h) (λ a h. h.0) (λ f y n. trace_onward (sizes t.sizes) l c (flag_in f) y n)

  pub ask_claims_turn : (c : Reached) → (t.seats p).work ≡ Some (plan [] (AskClaims c)) → Turned t run s pick (plan [] (AskClaims c))
  ask_claims_turn c here = quiet_here (AskClaims c) here (λ j. refl) (λ v. refl) (λ v. refl) (λ h. h) (λ a h. h.0) (λ f y n. claims_onward (sizes t.sizes) l c (zero_in f))

  pub ask_link_turn : (c : Reached) (x : Position) → (t.seats p).work ≡ Some (plan [] (AskLink c x)) → Turned t run s pick (plan [] (AskLink c x))
  ask_link_turn c x here = quiet_here (AskLink c x) here (λ j. refl) (λ v. refl) (λ v. refl) (λ h. h) (λ a h. h.0) (λ f y n. plain_onward (sizes t.sizes) l [] _ (clear_round (sizes t.sizes) l (Link c.entry.node x) (name_in f) None c x))

  -- A store has read: STORE waits on, and one in giving back goes on.
  pub save_turn : (q : Spot) (v : Option Record) (g : AfterStore) → (t.seats p).work ≡ Some (plan [] (Save q v g)) → Turned t run s pick (plan [] (Save q v g))
  save_turn q v g here =
      let next : Plan = plan [] (Overwrite q (name_at t.shared q) v g) in
      by_phase t k run e s b (plan [] (Save q v g)) here (Turned t run s pick (plan [] (Save q v g)))
      (λ o is h. waits_on t run e s (low t k run e s b) t.shared t.standing (t.seats p).notes t.pool l o (still t k run e s b (waiting o) is) next refl
      (after_same t k run e s b next (waiting o) (holds_in t k run e s b (plan [] (Save q v g)) here (waiting o) is) (saves_on (sizes t.sizes) t.standing o q v g h (name_at t.shared q)) tt))
      (λ a is h. quiet_turn t k run e s b (Save q v g) here (λ j. refl) (λ r. refl) (λ r. refl) a is h.0 next (t.seats p).notes (overwrite_onward (sizes t.sizes) l q (name_at t.shared q) v g h.1))

  -- An operation that acted and owes nothing more ends.
  pub end_turn : (o : Outcome) → (t.seats p).work ≡ Some (plan [] (End o)) → Turned t run s pick (plan [] (End o))
  end_turn o here =
      let next : Plan = plan [] (End o) in
      by_phase t k run e s b next here (Turned t run s pick next)
      (λ v is h. absurd (waits_at (sizes t.sizes) t.standing v next h))
      (λ a is h. arrives t run e s (low t k run e s b) t.shared t.standing (t.seats p).notes t.pool l a (still t k run e s b (acted a) is) next
      (after_same t k run e s b next (acted a) (holds_in t k run e s b next here (acted a) is) h tt))
