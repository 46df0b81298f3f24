-- Turns of a dereference, one for itself and one of CLEAN, and of the deleted mark that CLEAN asks.
use Rattle.std.proofs.Common.{◌≡◌, ℕ, zero, suc, ◌+◌, ◌<◌, Bool, true, false, cond, not, ◌&&◌, ◌||◌, ◌==◌, eqb, [], Some, None, Option, sym, refl, ap, ◌∙◌, subst, inl, inr, arith}
use Rattle.std.proofs.lemmas.Bool.{cases_eq, eq-eqb, eqb-true, ne_eqb, true≢false, cond_both, cond-true, cond-false}
use Rattle.terms.specs.declared.Record.{Record}
use Rattle.terms.specs.declared.Station.{Station}
use Rattle.terms.specs.declared.Slot.{Slot}
use Rattle.terms.specs.declared.Spot.{Spot}
use Rattle.terms.specs.declared.Spot.TheVariants as at
use Rattle.terms.specs.declared.Standing.{Standing}
use Rattle.terms.specs.declared.Standing.TheVariants.{Retired}
use Rattle.terms.specs.declared.Outcome.{Outcome}
use Rattle.terms.specs.declared.Operation.{Operation}
use Rattle.terms.specs.declared.Operation.TheVariants as op
use Rattle.terms.specs.Words.{same_name}
use Rattle.memory.specs.Shared.{name_at}
use Rattle.work.specs.declared.work.AfterLook.{AfterLook}
use Rattle.work.specs.declared.work.AfterLook.TheVariants as look
use Rattle.work.specs.declared.work.Clean.{Clean}
use Rattle.work.specs.declared.work.Point.{Point}
use Rattle.work.specs.declared.work.Point.TheVariants.{Look, LookAgain, Verify, AskDeleted}
use Rattle.work.specs.Plans.{Plan, plan, busy, Sight, Notes, free_slot}
use Rattle.work.specs.Steps.{settle, looked_of, derefed_of, link_found, link_clean, deleted_of, release_of}
use Rattle.machine.specs.Tables.{Table, sight_in}
use Rattle.machine.specs.Holds.{looks_into, is_verified}
use Rattle.protocol.proofs.Words.{none_some}
use Rattle.protocol.proofs.Promises.{marked_retired}
use Rattle.laws.specs.Numbers.{shape}
use Rattle.laws.specs.Agree.{num}
use Rattle.laws.specs.Mine.{Mine, mine}
use Rattle.laws.specs.Points.{Empty, Room, Within, Before, next_spot}
use Rattle.laws.specs.Fits.{Sound}
use Rattle.laws.proofs.Rooms.{one_room}
use Rattle.laws.proofs.Names.{num_same}
use Rattle.laws.proofs.Taking.{free_empty}
use Rattle.laws.proofs.Dereference.{held_holds}
use Rattle.ledger.specs.Words.{same_record, same_station, changed}
use Rattle.ledger.specs.Ledger.{Sizes, Ledger, hold, following, Reaches, Allows}
use Rattle.ledger.specs.Explains.{Phase, resting, waiting, acted, Run}
use Rattle.ledger.specs.Explains as explains
use Rattle.ledger.proofs.Words.{same_record_is, same_name_is, station_same, at_key, tells}
use Rattle.order.specs.Counts.{count, once, looking_for, own_holds, in_hand}
use Rattle.order.specs.Phases.{Looks, first, again, writes, verifies, reads, overwrites, Ranged, AfterLooking, Waits, Calm, Acted, InPhase}
use Rattle.order.specs.Relation.{sizes, Past, Lasting}
use Rattle.order.specs.Theorems.{Explained}
use Rattle.order.proofs.Frame.{HoldsBy, Came, arrives, waits_on}
use Rattle.order.proofs.Begins.{count_same, and_true}
use Rattle.order.proofs.Onward.{Onward, link_clean_onward, onward_holds}
use Rattle.order.proofs.Withdraws.{counted_at, differs, Lasts, lasts_of}
use Rattle.order.proofs.Here.{Turned, low, orderly, slot_same, standing_same, at_point, holds_in, past_here, by_phase, still, after_same}

-- Tests that agree below n count the same of the first n.
count_below : (f g : ℕ → Bool) (n : ℕ) → ((j : ℕ) → j < n → f j ≡ g j) → count f n ≡ count g n
unfolding count
count_below f g zero same = refl
count_below f g (suc n) same =
    ap (λ (b : Bool). cond b (suc (count f n)) (count f n)) (same n (omega arith)) ∙ ap (λ (m : ℕ). cond (g n) (suc m) m) (count_below f g n (λ j h. same j (omega arith)))

-- what one index counts
abbrev pub bit : Bool → ℕ
bit b = cond b 1 0

-- Tests that agree but at one index count the same but for that one.
pub count_but : (f g : ℕ → Bool) (n i : ℕ) → i < n → ((j : ℕ) → (j ≡ i → ⊥) → f j ≡ g j) → count f n + bit (g i) ≡ count g n + bit (f i)
unfolding count
count_but f g zero i h same = absurd (omega arith)
count_but f g (suc n) i h same = elim (cases_eq n i) [
  | inl y ↦ subst (λ (j : ℕ). cond (f n) (suc (count f n)) (count f n) + bit (g j) ≡ cond (g n) (suc (count g n)) (count g n) + bit (f j)) y
      (at_last (f n) (g n) (count_below f g n (λ j l. same j (λ e. omega arith))))
  | inr d ↦ before (f n) (g n) (same n d) (count_but f g n i (omega arith) same)
]
  where
    at_last : (b c : Bool) → count f n ≡ count g n → cond b (suc (count f n)) (count f n) + bit c ≡ cond c (suc (count g n)) (count g n) + bit b
    at_last true true e = omega (arith, e)
    at_last true false e = omega (arith, e)
    at_last false true e = omega (arith, e)
    at_last false false e = omega (arith, e)

    before : (b c : Bool) → b ≡ c → count f n + bit (g i) ≡ count g n + bit (f i) → cond b (suc (count f n)) (count f n) + bit (g i) ≡ cond c (suc (count g n)) (count g n) + bit (f i)
    before true true d e = omega (arith, e)
    before true false d e = absurd (true≢false d)
    before false true d e = absurd (true≢false (sym d))
    before false false d e = e

-- Where a dereference of q is under way, to go on as g.
data Seeks (q : Spot) (g : AfterLook) : Point → Type 0 where
  looking : Seeks q g (Look q g)
  looking_again : (i : Slot) → Seeks q g (LookAgain q i g)
  verifying : (i : Slot) (v : Option Record) → Seeks q g (Verify q i v g)

-- An operation that has yet to act is DEREF of q there.
derefs : (z : Sizes) (f : ℕ → Standing) (o : Operation) (w : Plan) (q : Spot) (g : AfterLook) → Waits z f o w → Seeks q g w.point → (P : Operation → AfterLook → Type 0) →
    (Ranged z q → P (op.Deref q) look.Answer) → P o g
derefs z f op.New w q g d s P h = elim (subst (Seeks q g) (ap (λ (i : Plan). i.point) d) s) [ ]
derefs z f (op.Deref r) _ _ _ (first, d) looking P h = h d
derefs z f (op.Deref r) _ _ _ (again i, d) (looking_again _) P h = h d
derefs z f (op.Deref r) _ _ _ (writes i v, d) (verifying _ _) P h = h d
derefs z f (op.Deref r) _ _ _ (verifies i v, d) (verifying _ _) P h = h d
derefs z f (op.Release r) w q g (d, _) s P h = elim (subst (Seeks q g) (ap (λ (i : Plan). i.point) d) s) [ ]
derefs z f (op.Cas r o n) w q g (d, _) s P h = elim (subst (Seeks q g) (ap (λ (i : Plan). i.point) d) s) [ ]
derefs z f (op.Store r x n) _ q g (reads, _) s P h = elim s [ ]
derefs z f (op.Store r x n) _ q g (overwrites o, _) s P h = elim s [ ]
derefs z f (op.Delete r) w q g d s P h = absurd d

-- No operation that has yet to act asks a deleted mark.
asks_later : (z : Sizes) (f : ℕ → Standing) (o : Operation) (c : Clean) (m : Record) → Waits z f o (plan [] (AskDeleted c m)) → ⊥
asks_later z f op.New c m d = grind arith
asks_later z f (op.Deref r) c m (d, _) = elim d [ ]
asks_later z f (op.Release r) c m (d, _) = grind arith
asks_later z f (op.Cas r o n) c m (d, _) = grind arith
asks_later z f (op.Store r x n) c m (d, _) = elim d [ ]
asks_later z f (op.Delete r) c m d = absurd d

-- the slots that name r and are verified in the middle of w
abbrev verified : (slots : ℕ → Option Record) → Plan → Record → ℕ → Bool
verified slots w r j = same_name (slots j) (Some r) && is_verified (Some w) j

-- The holds are right of another plan that counts the same slots and has as much beside them.
same_holds : (slots : ℕ → Option Record) (n : ℕ) (u w : Plan) (r : Record) → own_holds u r ≡ own_holds w r → in_hand (Some u) r ≡ in_hand (Some w) r → ((j : ℕ) → verified slots u r j ≡ verified slots w r j) →
    (x : Phase) → HoldsBy slots n (Some u) x r → HoldsBy slots n (Some w) x r
same_holds slots n u w r own hand same = go (count_same (verified slots u r) (verified slots w r) 8 same)
  where
    go : count (verified slots u r) 8 ≡ count (verified slots w r) 8 → (x : Phase) → HoldsBy slots n (Some u) x r → HoldsBy slots n (Some w) x r
    go c resting h = omega (arith, h, c, hand)
    go c (waiting o) h = omega (arith, h, c, hand)
    go c (acted a) h = omega (arith, h, c, hand, own)

-- A slot that names v and is verified now, as all the others are, counts once more.
one_more : (slots : ℕ → Option Record) (u w : Plan) (i : ℕ) (v : Option Record) (r : Record) → i < 8 → slots i ≡ v → is_verified (Some u) i ≡ false → ((j : ℕ) → (j ≡ i → ⊥) → is_verified (Some u) j ≡ true) →
    ((j : ℕ) → is_verified (Some w) j ≡ true) → count (verified slots u r) 8 + once v r ≡ count (verified slots w r) 8
one_more slots u w i v r low names open_yet others all =
    let sum = count_but (verified slots u r) (verified slots w r) 8 i low (λ j d. ap (λ (c : Bool). same_name (slots j) (Some r) && c) (others j d ∙ sym (all j))) in
    let before : bit (verified slots u r i) ≡ 0 = ap (λ (c : Bool). bit (same_name (slots i) (Some r) && c)) open_yet ∙ ap bit (and_false (same_name (slots i) (Some r))) in
    let now : bit (verified slots w r i) ≡ once v r =
    ap (λ (c : Bool). bit (same_name (slots i) (Some r) && c)) (all i) ∙ ap bit (and_true (same_name (slots i) (Some r))) ∙ ap (λ (x : Option Record). once x r) names in
    omega (arith, sum, before, now)
  where
    and_false : (c : Bool) → (c && false) ≡ false
    and_false true = refl
    and_false false = refl

-- A slot is looked into (d) while its write is owed and until it is verified; if it names nothing before, no count changes.
looked_twice : (c d : Bool) → (c && not d) ≡ (c && (not (d || false) && not d))
looked_twice true true = refl
looked_twice true false = refl
looked_twice false true = refl
looked_twice false false = refl

looked_empty : (c d : Bool) → (d ≡ true → c ≡ false) → (c && true) ≡ (c && (not (d || false) && not d))
looked_empty true true h = h refl
looked_empty true false h = refl
looked_empty false true h = refl
looked_empty false false h = refl

-- Names with one number are one, and that of no record is no record's.
num_is : (v w : Option Record) → num v ≡ num w → v ≡ w
num_is v w h = same_name_is v w (num_same v w h)

none_not : (v : Option Record) (r : Record) → num v ≡ None → same_name v (Some r) ≡ false
none_not v r h = ap (λ (x : Option Record). same_name x (Some r)) (num_is v None h)

-- One hold more of what a name names leaves the names and the standings, and the others' holds.
pub hold_names : (l : Ledger) (s : Station) (v : Option Record) → (hold l s v).names ≡ l.names
hold_names l s None = refl
hold_names l s (Some x) = refl

pub hold_standing : (l : Ledger) (s : Station) (v : Option Record) → (hold l s v).standing ≡ l.standing
hold_standing l s None = refl
hold_standing l s (Some x) = refl

pub hold_lasts : (l : Ledger) (s : Station) (v : Option Record) → Lasts l (hold l s v)
hold_lasts l s None = record { retired = λ r h. h; since = λ r x n d h. h; lasting = λ r d h. (d, h) }
hold_lasts l s (Some x) = record { retired = λ r h. h; since = λ r x n d h. h; lasting = λ r d h. (d, h) }

pub hold_there : (l : Ledger) (s : Station) (v : Option Record) (q : Station) (r : Record) → (q ≡ s → ⊥) → (hold l s v).holds q r ≡ l.holds q r
hold_there l s None q r d = refl
hold_there l s (Some x) q r d = ap (λ (c : Bool). cond c (changed same_record (l.holds s) x (l.holds s x + 1)) (l.holds q) r) (differs q s d)

pub hold_here : (l : Ledger) (s : Station) (v : Option Record) (r : Record) → (hold l s v).holds s r ≡ l.holds s r + once v r
hold_here l s None r = omega arith
hold_here l s (Some x) r =
    let a : (hold l s (Some x)).holds s r ≡ changed same_record (l.holds s) x (l.holds s x + 1) r =
    ap (λ (f : Record → ℕ). f r) (at_key same_station l.holds s (changed same_record (l.holds s) x (l.holds s x + 1)) station_same) in
    elim (tells same_record (l.holds s) x (l.holds s x + 1) r same_record_is) [
      | inl (is, y) ↦
          let one : once (Some x) r ≡ 1 = cond-true (eqb x.number r.number) 1 0 (eq-eqb x.number r.number (ap (λ (o : Record). o.number) (sym is))) in
          let had : l.holds s r ≡ l.holds s x = ap (l.holds s) is in
          omega (arith, a, y, one, had)
      | inr (is, y) ↦
          let none : once (Some x) r ≡ 0 = cond-false (eqb x.number r.number) 1 0 (ne_eqb x.number r.number (λ h. true≢false (sym (eq-eqb r.number x.number (sym h)) ∙ is))) in
          omega (arith, a, y, none)
    ]

module _ (t : Table) (k : Sound t) (run : Run) (e : Explained t run) (s : Station) (b : s.number < t.sizes.stations) (pick : Option ℕ) where
  abbrev l : Ledger
  l = e.ledger

  abbrev own : Mine
  own = mine k.state s.number

  abbrev slots : ℕ → Option Record
  slots = t.shared.slots s.number

  abbrev sight : Sight
  sight = sight_in t.sizes t.shared s.number

  abbrev notes : Notes
  notes = (t.seats s.number).notes

  -- the station takes the decision x
  abbrev At : Point → Type 0
  At x = (t.seats s.number).work ≡ Some (plan [] x)

  -- the table after a turn that goes on with w and leaves the shared words, and its run
  abbrev Goes : Plan → Type 0
  Goes w = Came t run e s (low t k run e s b) t.shared t.standing notes t.pool (settle w)

  -- what a plan asks of the station's holds in a phase
  abbrev Held : Plan → Phase → Record → Type 0
  Held w x r = HoldsBy slots (l.holds s r) (Some w) x r

  slot_low : (i : ℕ) → i < t.sizes.each → i < 8
  slot_low i h = let each = k.lawful.each in omega (arith, h, each)

  -- An operation that acted goes on, and nothing of the ledger moves.
  acts_on : (a : Outcome) → e.phases s ≡ acted a → (w : Plan) → ((r : Record) → Held w (acted a) r) → Acted a w.owed w.point → Past (sizes t.sizes) l w.point → Goes w
  acts_on a is w holds phase past = arrives t run e s (low t k run e s b) t.shared t.standing notes t.pool l a (still t k run e s b (acted a) is) w (after_same t k run e s b w (acted a) holds phase past)

  -- A dereference goes on, whether it acted or not.
  goes_on : (q : Spot) (g : AfterLook) (x : Point) → At x → Seeks q g x → (w : AfterLook → Plan) → settle (w g) ≡ busy (w g) → Looks q (w look.Answer) → ((a : Outcome) → Acted a [] x → Acted a (w g).owed (w g).point) →
      ((r : Record) (y : Phase) → Held (plan [] x) y r → Held (w g) y r) → (Past (sizes t.sizes) l x → Past (sizes t.sizes) l (w g).point) → Goes (w g)
  goes_on q g x here seeks w more waits acts holds past =
      let found = past (past_here t k run e s b (plan [] x) here) in
      by_phase t k run e s b (plan [] x) here (Goes (w g))
      (λ o is d. waits_on t run e s (low t k run e s b) t.shared t.standing notes t.pool l o (still t k run e s b (waiting o) is) (w g) more (after_same t k run e s b (w g) (waiting o)
      (λ r. holds r (waiting o) (holds_in t k run e s b (plan [] x) here (waiting o) is r))
      (derefs (sizes t.sizes) t.standing o (plan [] x) q g d seeks (λ o g. InPhase (sizes t.sizes) t.standing (Some (w g)) (waiting o)) (λ ranged. (waits, ranged)))
      found))
      (λ a is d. acts_on a is (w g) (λ r. holds r (acted a) (holds_in t k run e s b (plan [] x) here (acted a) is r)) (acts a d) found)

  -- D3: it writes what it found into the lowest empty slot,
  some_room : (q : Spot) (g : AfterLook) → Before t.sizes notes own q g → Room t.sizes.each own.slot
  some_room q look.Answer (_, _, rooms) = one_room rooms
  some_room q (look.CleanLink c) (_, _, rooms) = one_room rooms
  some_room q (look.CleanNext c r) (_, _, room, _) = room

  pub look_turn : (q : Spot) (g : AfterLook) → (t.seats s.number).work ≡ Some (plan [] (Look q g)) → Turned t run s pick (plan [] (Look q g))
  look_turn q g here = goes_on q g (Look q g) here looking (looked_of q i v) refl (writes i v) (λ a (done, d, _). (done, d, inr refl))
      (λ r. same_holds slots (l.holds s r) (plan [] (Look q g)) (looked_of q i v g) r refl refl (λ j. looked_empty (same_name (slots j) (Some r)) (i.index == j) (λ h. nothing r j (eqb-true i.index j h)))) (λ found. found)
    where
      i : Slot
      i = free_slot sight

      v : Option Record
      v = name_at t.shared q

      free : Empty t.sizes.each own.slot i.index
      free = let (j, room) = some_room q g (at_point t k run e s b (Look q g) here).2 in free_empty t.sizes k.lawful s.number t.shared t.standing k.state k.fits.agrees j room

      nothing : (r : Record) (j : ℕ) → i.index ≡ j → same_name (slots j) (Some r) ≡ false
      nothing r j y = subst (λ (n : ℕ). same_name (slots n) (Some r) ≡ false) y (none_not (slots i.index) r (sym (slot_same t k run e s b i.index (slot_low i.index free.below)) ∙ free.none))

  -- or into the one that it has.
  pub look_again_turn : (q : Spot) (i : Slot) (g : AfterLook) → (t.seats s.number).work ≡ Some (plan [] (LookAgain q i g)) → Turned t run s pick (plan [] (LookAgain q i g))
  look_again_turn q i g here =
      let v : Option Record = name_at t.shared q in
      goes_on q g (LookAgain q i g) here (looking_again i) (looked_of q i v) refl (writes i v) (λ a (done, d, _). (done, d, inr refl))
      (λ r. same_holds slots (l.holds s r) (plan [] (LookAgain q i g)) (looked_of q i v g) r refl refl (λ j. looked_twice (same_name (slots j) (Some r)) (i.index == j))) (λ found. found)

  -- D5: it finds again what the slot names.
  module _ (q : Spot) (i : Slot) (v : Option Record) (same : same_name (name_at t.shared q) v ≡ true) where
    abbrev Here : AfterLook → Type 0
    Here g = At (Verify q i v g)

    -- where it goes on
    abbrev next : AfterLook → Plan
    next g = derefed_of g v sight notes

    -- The ledger's spot names it,
    named : l.names q ≡ v
    named = e.related.names q ∙ same_name_is (name_at t.shared q) v same

    -- and once every slot is verified one slot more is counted.
    counted : (g : AfterLook) → Here g → (w : Plan) → ((j : ℕ) → is_verified (Some w) j ≡ true) → (r : Record) → count (verified slots (plan [] (Verify q i v g)) r) 8 + once v r ≡ count (verified slots w r) 8
    counted g here w all r =
        let (_, o, _, n) = at_point t k run e s b (Verify q i v g) here in
        let i8 = slot_low i.index o.below in
        one_more slots (plan [] (Verify q i v g)) w i.index v r i8 (num_is (slots i.index) v (sym (slot_same t k run e s b i.index i8) ∙ n))
        (ap not (eq-eqb i.index i.index refl)) (λ j d. ap not (ne_eqb i.index j (λ y. d (sym y)))) all

    -- CLEAN has it for itself, beside what it had.
    cleans_on : (g : AfterLook) → Here g → (a : Outcome) → e.phases s ≡ acted a → (w : Plan) → ((j : ℕ) → is_verified (Some w) j ≡ true) → ((r : Record) → own_holds w r ≡ looking_for g r + once v r) →
        ((r : Record) → in_hand (Some w) r ≡ 0) → Acted a w.owed w.point → Past (sizes t.sizes) l w.point → Goes w
    cleans_on g here a is w all has empty phase past = acts_on a is w holds phase past
      where
        holds : (r : Record) → Held w (acted a) r
        holds r =
            let before = holds_in t k run e s b (plan [] (Verify q i v g)) here (acted a) is r in
            let more = counted g here w all r in
            let beside = has r in
            let none = empty r in
            omega (arith, before, more, beside, none)

    -- It is what the link that CLEAN looks at names: none leaves the link, and a record is asked for its mark.
    cleans_link : (c : Clean) → Here (look.CleanLink c) → (a : Outcome) → e.phases s ≡ acted a → a ≡ Outcome.Done → (x : Option Record) → v ≡ x → Goes (link_found c x sight notes)
    cleans_link c here a is done (Some m) names = cleans_on (look.CleanLink c) here a is (plan [] (AskDeleted c m)) (λ j. refl)
        (λ r. let one : once v r ≡ once (Some m) r = ap (λ (x : Option Record). once x r) names in omega (arith, one)) (λ r. refl) (done, λ j. refl) tt
    cleans_link c here a is done None names =
        let w : Plan = link_clean None c sight notes in
        let on : Onward (sizes t.sizes) l [] w = link_clean_onward (sizes t.sizes) l None c sight notes in
        let calm : Calm w.owed = on.calm (λ j. refl) in
        cleans_on (look.CleanLink c) here a is w
        (λ j. ap (λ (d : Bool). not d && not (looks_into w.point j)) (calm j) ∙ ap not (on.round.closed j))
        (λ r.
        let owed = on.releases r in
        let clean = on.round.nothing r in
        let none : once v r ≡ 0 = ap (λ (x : Option Record). once x r) names in
        omega (arith, owed, clean, none))
        (λ r. on.round.empty w.owed r (on.fills r refl)) (subst (λ (o : Outcome). Acted o w.owed w.point) (sym done) (on.round.acted w.owed calm)) on.round.past

    -- It is what the following link of a withdrawn record m names: CLEAN swaps it in for m. The ledger has noted it there.
    cleans_next : (c : Clean) (m : Record) → Here (look.CleanNext c m) → (a : Outcome) → e.phases s ≡ acted a → a ≡ Outcome.Done → Goes (next (look.CleanNext c m))
    cleans_next c m here a is done = cleans_on (look.CleanNext c m) here a is (next (look.CleanNext c m)) (λ j. refl) (λ r. omega arith) (λ r. refl) (done, tt, λ j. refl) (gone, since, lasting v named)
      where
        gone : l.standing m ≡ Retired
        gone = past_here t k run e s b (plan [] (Verify q i v (look.CleanNext c m))) here

        since : l.since m (following (sizes t.sizes) c.position) v ≡ true
        since =
            let (_, _, (_, there, _), _) = at_point t k run e s b (Verify q i v (look.CleanNext c m)) here in
            subst (λ (x : Option Record). l.since m (following (sizes t.sizes) c.position) x ≡ true) (ap l.names (sym there) ∙ named) ((orderly t k run e s b).noted m (following (sizes t.sizes) c.position) gone)

        lasting : (x : Option Record) → l.names q ≡ x → Lasting l x
        lasting None h = tt
        lasting (Some r) h = ((orderly t k run e s b).named q r h).1

    cleans : (g : AfterLook) → Here g → (a : Outcome) → e.phases s ≡ acted a → AfterLooking g → a ≡ Outcome.Done → Goes (next g)
    cleans look.Answer here a is d done = absurd d
    cleans (look.CleanLink c) here a is d done = cleans_link c here a is done v refl
    cleans (look.CleanNext c m) here a is d done = cleans_next c m here a is done

    -- DEREF acts: the ledger's station has a hold more of it too.
    finds : Here look.Answer → e.phases s ≡ waiting (op.Deref q) → Ranged (sizes t.sizes) q → Goes (next look.Answer)
    finds here is ranged =
        arrives t run e s (low t k run e s b) t.shared t.standing notes t.pool (hold l s v) (Outcome.Found v) (explains.act s (op.Deref q) (Outcome.Found v) e.explains is allowed) (next look.Answer) (record {
          names = λ x. ap (λ (f : Spot → Option Record). f x) (hold_names l s v) ∙ e.related.names x;
          standings = λ r. ap (λ (f : Record → Standing). f r) (hold_standing l s v) ∙ e.related.standings r;
          slots = λ x d j. refl;
          holds = λ x r d. hold_there l s v x r d;
          phases = λ x d c. e.related.phases x c;
          past = λ x d c. lasts_of (sizes t.sizes) l (hold l s v) (hold_lasts l s v) (t.seats x.number).work (e.related.past x c);
          own_holds = λ r.
              let before = holds r in
              let counts = counted look.Answer here (next look.Answer) (λ j. refl) r in
              let more = hold_here l s v r in
              omega (arith, before, counts, more);
          own_phase = (refl, inl (λ j. refl));
          own_past = tt;
        })
      where
        holds : (r : Record) → Held (plan [] (Verify q i v look.Answer)) (waiting (op.Deref q)) r
        holds = holds_in t k run e s b (plan [] (Verify q i v look.Answer)) here (waiting (op.Deref q)) is

        -- What a slot holds is held for the ledger: it is another slot than the one that is verified.
        reaches : (x : Spot) → Ranged (sizes t.sizes) x → Within t.sizes own.held x → Reaches (sizes t.sizes) l s x
        reaches (at.Root g) d h = d
        reaches (at.Link r x) d (_, (j, j8, held)) =
            let (_, o, _, _) = at_point t k run e s b (Verify q i v look.Answer) here in
            let apart : j ≡ i.index → ⊥ = λ y. none_some (sym o.unheld ∙ ap own.held (sym y) ∙ held) in
            let names : same_name (slots j) (Some r) ≡ true = num_same (slots j) (Some r) (sym (slot_same t k run e s b j j8) ∙ sym (o.others j apart) ∙ held) in
            let some = counted_at (verified slots (plan [] (Verify q i v look.Answer)) r) 8 j j8 (ap (λ (c : Bool). c && not (i.index == j)) names ∙ ap not (ne_eqb i.index j (λ y. apart (sym y)))) in
            let before = holds r in
            (d, omega (arith, some, before))

        allowed : Allows (sizes t.sizes) l s (op.Deref q) (Outcome.Found v) (hold l s v)
        allowed =
            let (_, _, (_, within, _), _) = at_point t k run e s b (Verify q i v look.Answer) here in
            (b, (reaches q ranged within, ap (λ (x : Option Record). Outcome.Found x) (sym named), ap (λ (x : Option Record). hold l s x) (sym named)))

    verified_turn : (g : AfterLook) → Here g → Goes (next g)
    verified_turn g here = by_phase t k run e s b (plan [] (Verify q i v g)) here (Goes (next g))
        (λ o is d. derefs (sizes t.sizes) t.standing o (plan [] (Verify q i v g)) q g d (verifying i v) (λ o g. e.phases s ≡ waiting o → Here g → Goes (next g)) (λ ranged is here. finds here is ranged) is here)
        (λ a is (done, d, _). cleans g here a is d done)

  -- Where it finds another name it looks again.
  pub verify_turn : (q : Spot) (i : Slot) (v : Option Record) (g : AfterLook) → (t.seats s.number).work ≡ Some (plan [] (Verify q i v g)) → Turned t run s pick (plan [] (Verify q i v g))
  verify_turn q i v g here = cond_both (same_name (name_at t.shared q) v) (derefed_of g v sight notes) (plan [] (LookAgain q i g)) Goes
      (λ same. verified_turn q i v same g here)
      (λ other. goes_on q g (Verify q i v g) here (verifying i v) (λ h. plan [] (LookAgain q i h)) refl (again i) (λ a (done, d, _). (done, d, refl))
      (λ r. same_holds slots (l.holds s r) (plan [] (Verify q i v g)) (plan [] (LookAgain q i g)) r refl refl (λ j. refl)) (λ found. found))

  -- CN3: the deleted mark of the record m that CLEAN found in a link.
  module _ (c : Clean) (m : Record) (here : At (AskDeleted c m)) (a : Outcome) (is : e.phases s ≡ acted a) (done : a ≡ Outcome.Done) where
    abbrev follow : Plan
    follow = plan [] (Look (next_spot t.sizes c m) (look.CleanNext c m))

    holds : (r : Record) → Held (plan [] (AskDeleted c m)) (acted a) r
    holds = holds_in t k run e s b (plan [] (AskDeleted c m)) here (acted a) is

    -- A record that a slot holds and that is marked is withdrawn: CLEAN looks at its following link.
    follows : t.shared.deleteds m.number ≡ true → Goes follow
    follows marked = acts_on a is follow (λ r. same_holds slots (l.holds s r) (plan [] (AskDeleted c m)) follow r refl refl (λ j. refl) (acted a) (holds r)) (done, tt, λ j. refl) gone
      where
        gone : l.standing m ≡ Retired
        gone =
            let (_, firm, _, _, (j, naming)) = at_point t k run e s b (AskDeleted c m) here in
            let held = held_holds t.sizes k.lawful s.number b (low t k run e s b) t.shared t.standing k.state k.inv k.fits.agrees notes m.number (j, slot_low j naming.below, firm j ∙ naming.names) in
            standing_same t k run e s b m ∙ marked_retired shape k.state k.inv s.number m.number held (k.fits.agrees.deleteds m.number ∙ marked)

    -- Another is released, and its link is clean.
    leaves : Goes (link_clean (Some m) c sight notes)
    leaves =
        let w : Plan = link_clean (Some m) c sight notes in
        let on : Onward (sizes t.sizes) l (release_of (Some m)) w = link_clean_onward (sizes t.sizes) l (Some m) c sight notes in
        acts_on a is w (λ r. onward_holds (sizes t.sizes) l slots (l.holds s r) (l.holds s r) (AskDeleted c m) (release_of (Some m)) w a r (λ j. refl) refl (omega arith) (λ j. refl) refl on (holds r))
        (subst (λ (o : Outcome). Acted o w.owed w.point) (sym done) (on.round.acted w.owed (on.calm (λ j. refl)))) on.round.past

  pub ask_deleted_turn : (c : Clean) (m : Record) → (t.seats s.number).work ≡ Some (plan [] (AskDeleted c m)) → Turned t run s pick (plan [] (AskDeleted c m))
  ask_deleted_turn c m here = by_phase t k run e s b (plan [] (AskDeleted c m)) here (Goes (deleted_of c m (t.shared.deleteds m.number) sight notes))
      (λ o is d. absurd (asks_later (sizes t.sizes) t.standing o c m d))
      (λ a is (done, _). cond_both (t.shared.deleteds m.number) (follow c m here a is done) (link_clean (Some m) c sight notes) Goes (follows c m here a is done) (λ clear. leaves c m here a is done))
