-- A turn that makes a write that is owed: nothing of the ledger moves, but for RELEASE, which acts there.
use Rattle.std.proofs.Common.{◌≡◌, ℕ, zero, suc, ◌+◌, ◌-◌, ◌<◌, Bool, true, false, cond, not, ◌&&◌, ◌||◌, ◌==◌, eqb, List, [], ◌∷◌, Some, None, Option, sym, refl, ap, ◌∙◌, subst, inl, inr, arith}
use Rattle.std.proofs.lemmas.Bool.{true≢false, and_from, cases_eq, eq-eqb, ne_eqb, cond-true, cond-false}
use Rattle.terms.specs.declared.Record.{Record}
use Rattle.terms.specs.declared.Station.{Station}
use Rattle.terms.specs.declared.Spot.{Spot}
use Rattle.terms.specs.declared.Spot.TheVariants as at
use Rattle.terms.specs.declared.Outcome.{Outcome}
use Rattle.terms.specs.declared.Standing.{Standing}
use Rattle.terms.specs.declared.Standing.TheVariants.{Fresh}
use Rattle.terms.specs.declared.Slot.{Slot}
use Rattle.terms.specs.declared.Operation.{Operation}
use Rattle.terms.specs.declared.Operation.TheVariants as op
use Rattle.terms.specs.Words.{same_name, put_in}
use Rattle.memory.specs.declared.access.Write.{Write}
use Rattle.memory.specs.declared.access.Write.TheVariants as w
use Rattle.memory.specs.Shared.{Shared, set_slot, name_at, lowest_naming}
use Rattle.memory.specs.Perform.{change_of}
use Rattle.work.specs.declared.work.AfterLook.{AfterLook}
use Rattle.work.specs.declared.work.AfterLook.TheVariants as look
use Rattle.work.specs.declared.work.Point.{Point}
use Rattle.work.specs.declared.work.Point.TheVariants.{End, Take, Look, LookAgain, Verify, Swap, Save, Overwrite, AskDeleted, AskPlace, AskDone, AskPlaceAgain, CountFirst, CountAgain, AskSlot, CountSecond, AskTrace, AskClaims, AskLink, Give}
use Rattle.work.specs.Plans.{Plan, plan}
use Rattle.work.specs.Steps.{settle}
use Rattle.machine.specs.Tables.{Table}
use Rattle.machine.specs.Holds.{owes_fill, looks_into, is_verified}
use Rattle.laws.specs.Agree.{num}
use Rattle.laws.specs.Mine.{Mine, mine}
use Rattle.laws.specs.Owes as owes
use Rattle.laws.specs.Owes.{Owes}
use Rattle.laws.specs.Fits.{Sound}
use Rattle.laws.proofs.Names.{num_same, naming_below, naming_names}
use Rattle.laws.proofs.Words.{put_in_tells}
use Rattle.ledger.specs.Words.{same_station, same_record, changed}
use Rattle.ledger.specs.Ledger.{Sizes, Ledger, let_go}
use Rattle.ledger.specs.Explains.{Phase, resting, waiting, acted, Run, Explains}
use Rattle.ledger.specs.Explains as explains
use Rattle.ledger.proofs.Words.{same_record_is, same_name_is, name_same, station_same, at_key, tells}
use Rattle.ledger.proofs.Changes.{holds_tells}
use Rattle.order.specs.Counts.{count, once, releases_of, filled_with, in_hand_at}
use Rattle.order.specs.Phases.{Ranged, Stores, Waits, AfterLooking, Calm, Filling, Acted, InPhase, beside, all, two, one, writes, verifies, reads, overwrites}
use Rattle.order.specs.Relation.{sizes, Past}
use Rattle.order.specs.Theorems.{Explained}
use Rattle.order.proofs.Frame.{HoldsBy, After, Came, arrives, waits_on}
use Rattle.order.proofs.Begins.{count_same, and_true}
use Rattle.order.proofs.Withdraws.{Lasts, lasts_of}
use Rattle.order.proofs.Here.{Turned, low, slot_same, owes_it, holds_in, past_here, by_phase, still}

-- ---------------------------------------------------------------- counting

-- 1 for what passes
abbrev unit : Bool → ℕ
unit b = cond b 1 0

-- Tests that agree below n count the same.
count_below : (f g : ℕ → Bool) (n : ℕ) → ((i : ℕ) → i < n → f i ≡ g i) → count f n ≡ count g n
unfolding count
count_below f g zero h = refl
count_below f g (suc n) h = ap (λ (b : Bool). cond b (suc (count f n)) (count f n)) (h n (omega arith)) ∙ ap (λ (m : ℕ). cond (g n) (suc m) m) (count_below f g n (λ i k. h i (omega arith)))

-- What one test more adds.
count_more : (b : Bool) (n : ℕ) → cond b (suc n) n ≡ n + unit b
count_more true n = omega arith
count_more false n = omega arith

-- Tests that agree but at i count the same, but for i.
count_but : (f g : ℕ → Bool) (n i : ℕ) → i < n → ((j : ℕ) → (j ≡ i → ⊥) → f j ≡ g j) → count f n + unit (g i) ≡ count g n + unit (f i)
unfolding count
count_but f g zero i l h = absurd (omega arith)
count_but f g (suc n) i l h =
    let a = count_more (f n) (count f n) in
    let b = count_more (g n) (count g n) in
    elim (cases_eq i n) [
      | inl e ↦
          let k = count_below f g n (λ j k. h j (λ y. let z : n ≡ j = sym (y ∙ e) in omega (arith, k, z))) in
          let c = ap (λ (j : ℕ). unit (f j)) e in
          let d = ap (λ (j : ℕ). unit (g j)) e in
          omega (arith, a, b, c, d, k)
      | inr d ↦
          let k = count_but f g n i (omega arith) h in
          let c = ap unit (h n (λ y. d (sym y))) in
          omega (arith, a, b, c, k)
    ]

-- A test that fails adds nothing, and a record is itself once.
none_there : (a c : Bool) → c ≡ false → unit (a && c) ≡ 0
none_there true c h = ap unit h
none_there false c h = refl

once_itself : (r : Record) → once (Some r) r ≡ 1
once_itself r = ap unit (name_same (Some r))

-- ---------------------------------------------------------------- the ledger, with one hold less

module _ (l : Ledger) (s : Station) (r : Record) where
  -- Of the station's own holds those of r are one less,
  less_here : 0 < l.holds s r → (k : Record) → (let_go l s r).holds s k + once (Some r) k ≡ l.holds s k
  less_here held k =
      let a : (let_go l s r).holds s k ≡ changed same_record (l.holds s) r (l.holds s r - 1) k =
      ap (λ (f : Record → ℕ). f k) (at_key same_station l.holds s (changed same_record (l.holds s) r (l.holds s r - 1)) station_same) in
      elim (tells same_record (l.holds s) r (l.holds s r - 1) k same_record_is) [
        | inl (is, y) ↦
            let one : once (Some r) k ≡ 1 = cond-true (eqb r.number k.number) 1 0 (eq-eqb r.number k.number (ap (λ (o : Record). o.number) (sym is))) in
            let had : l.holds s k ≡ l.holds s r = ap (l.holds s) is in
            omega (arith, a, y, one, had, held)
        | inr (is, y) ↦
            let none : once (Some r) k ≡ 0 = cond-false (eqb r.number k.number) 1 0 (ne_eqb r.number k.number (λ h. true≢false (sym (eq-eqb k.number r.number (sym h)) ∙ is))) in
            omega (arith, a, y, none)
      ]

  -- and the others' are as they were.
  less_there : (q : Station) (k : Record) → (q ≡ s → ⊥) → (let_go l s r).holds q k ≡ l.holds q k
  less_there q k d = elim (holds_tells l s r (l.holds s r - 1) q k) [ inl (is, _, _) ↦ absurd (d is) | inr e ↦ e ]

-- ---------------------------------------------------------------- where a write is owed

-- The slot of a write is one of the station's,
fill_below : {each : ℕ} {At : Mine → Type 0} (m : Mine) (i : Slot) (v : Option Record) (ws : List Write) → Owes each At m (w.FillSlot i v ∷ ws) → i.index < each
fill_below m _ _ _ (owes.hold_new i r l h g y o) = l
fill_below m _ _ _ (owes.write_slot i v l h o) = l

-- and some slot names what is released.
release_names : {each : ℕ} {At : Mine → Type 0} (m : Mine) (r : Record) (ws : List Write) → Owes each At m (w.Release r ∷ ws) → (i : ℕ) × (i < 8) × (m.slot i ≡ Some r.number)
release_names m _ _ (owes.release r q f i l h o) = (i, l, h)

-- An operation that has yet to act owes a write of a dereference's slot, or RELEASE's own.
data Early (z : Sizes) (f : ℕ → Standing) : Operation → List Write → Point → Type 0 where
  looks : (q : Spot) (i : Slot) (v : Option Record) → Ranged z q → Early z f (op.Deref q) (w.FillSlot i v ∷ []) (Verify q i v look.Answer)
  lets_go : (r : Record) → (f r.number ≡ Fresh → ⊥) → Early z f (op.Release r) (w.Release r ∷ []) (End Outcome.Done)

-- The others owe nothing then.
some_owed : (y : Write) (ws : List Write) → y ∷ ws ≡ [] → ⊥
some_owed y ws e = grind arith

store_owes : (q : Spot) (v : Option Record) (p : Plan) → Stores q v p → p.owed ≡ []
store_owes q v _ reads = refl
store_owes q v _ (overwrites o) = refl

waits_early : (z : Sizes) (f : ℕ → Standing) (o : Operation) (y : Write) (ws : List Write) (x : Point) → Waits z f o (plan (y ∷ ws) x) → Early z f o (y ∷ ws) x
waits_early z f op.New y ws x d = absurd (some_owed y ws (ap (λ (p : Plan). p.owed) d))
waits_early z f (op.Deref q) _ _ _ (writes i v, k) = looks q i v k
waits_early z f (op.Release r) y ws x (d, h) = subst (λ (p : Plan). Early z f (op.Release r) p.owed p.point) (sym d) (lets_go r h)
waits_early z f (op.Cas q a b) y ws x (d, k) = absurd (some_owed y ws (ap (λ (p : Plan). p.owed) d))
waits_early z f (op.Store r n v) y ws x (d, k) = absurd (some_owed y ws (store_owes (at.Link r n) v (plan (y ∷ ws) x) d))
waits_early z f (op.Delete r) y ws x d = absurd d

-- A decision with no dereference into a slot under way: before it what fills no slot may be owed.
record Open (a : Outcome) (ws : List Write) (x : Point) : Type 0 where
  calm : Calm ws
  closed : (i : ℕ) → looks_into x i ≡ false
  acted : (vs : List Write) → Calm vs → Acted a vs x
  hand : (us vs : List Write) (r : Record) → filled_with us r ≡ filled_with vs r → in_hand_at us x r ≡ in_hand_at vs x r

-- An operation that acted owes something at such a decision, or what is left of NEW's writes, or a write of a dereference's slot.
data Late (a : Outcome) : List Write → Point → Type 0 where
  opens : (ws : List Write) (x : Point) → Open a ws x → Late a ws x
  fills : (ws : List Write) → Filling ws → Late a ws (End a)
  looks_on : (q : Spot) (i : Slot) (v : Option Record) (g : AfterLook) → a ≡ Outcome.Done → AfterLooking g → Late a (w.FillSlot i v ∷ []) (Verify q i v g)

acted_late : (a : Outcome) (y : Write) (ws : List Write) (x : Point) → Acted a (y ∷ ws) x → Late a (y ∷ ws) x
acted_late a y ws (End o) (e, inl d) = opens (y ∷ ws) (End o) (record { calm = d; closed = λ i. refl; acted = λ vs c. (e, inl c); hand = λ us vs r h. h })
acted_late a y ws (End o) (e, inr d) = subst (λ (i : Outcome). Late a (y ∷ ws) (End i)) (sym e) (fills (y ∷ ws) d)
acted_late a y ws Take d = absurd d
acted_late a y ws (Look q g) (e, f, d) = opens _ (Look q g) (record { calm = d; closed = λ i. refl; acted = λ vs c. (e, f, c); hand = λ us vs r h. refl })
acted_late a y ws (LookAgain q i g) (e, f, d) = absurd (some_owed y ws d)
acted_late a y ws (Verify q i v g) (e, f, inl d) = absurd (some_owed y ws d)
acted_late a y ws (Verify q i v g) (e, f, inr d) = subst (λ (j : List Write). Late a j (Verify q i v g)) (sym d) (looks_on q i v g e f)
acted_late a y ws (Swap q o v g) (e, f, d) = opens _ (Swap q o v g) (record { calm = d; closed = λ i. refl; acted = λ vs c. (e, f, c); hand = λ us vs r h. refl })
acted_late a y ws (Save q v g) (e, f, d) = opens _ (Save q v g) (record { calm = d; closed = λ i. refl; acted = λ vs c. (e, f, c); hand = λ us vs r h. refl })
acted_late a y ws (Overwrite q o v g) (e, f, d) = opens _ (Overwrite q o v g) (record { calm = d; closed = λ i. refl; acted = λ vs c. (e, f, c); hand = λ us vs r h. refl })
acted_late a y ws (AskDeleted c m) (e, d) = opens _ (AskDeleted c m) (record { calm = d; closed = λ i. refl; acted = λ vs c. (e, c); hand = λ us vs r h. refl })
acted_late a y ws (AskPlace q i) (e, d) = opens _ (AskPlace q i) (record { calm = d; closed = λ i. refl; acted = λ vs c. (e, c); hand = λ us vs r h. refl })
acted_late a y ws (AskDone q i m) (e, d) = opens _ (AskDone q i m) (record { calm = d; closed = λ i. refl; acted = λ vs c. (e, c); hand = λ us vs r h. refl })
acted_late a y ws (AskPlaceAgain q i m) (e, d) = opens _ (AskPlaceAgain q i m) (record { calm = d; closed = λ i. refl; acted = λ vs c. (e, c); hand = λ us vs r h. refl })
acted_late a y ws (CountFirst k) (e, d) = opens _ (CountFirst k) (record { calm = d; closed = λ i. refl; acted = λ vs c. (e, c); hand = λ us vs r h. refl })
acted_late a y ws (CountAgain k) (e, d) = opens _ (CountAgain k) (record { calm = d; closed = λ i. refl; acted = λ vs c. (e, c); hand = λ us vs r h. refl })
acted_late a y ws (AskSlot q i) (e, d) = opens _ (AskSlot q i) (record { calm = d; closed = λ i. refl; acted = λ vs c. (e, c); hand = λ us vs r h. refl })
acted_late a y ws (CountSecond k) (e, d) = opens _ (CountSecond k) (record { calm = d; closed = λ i. refl; acted = λ vs c. (e, c); hand = λ us vs r h. refl })
acted_late a y ws (AskTrace k) (e, d) = opens _ (AskTrace k) (record { calm = d; closed = λ i. refl; acted = λ vs c. (e, c); hand = λ us vs r h. refl })
acted_late a y ws (AskClaims k) (e, d) = opens _ (AskClaims k) (record { calm = d; closed = λ i. refl; acted = λ vs c. (e, c); hand = λ us vs r h. refl })
acted_late a y ws (AskLink k m) (e, d) = opens _ (AskLink k m) (record { calm = d; closed = λ i. refl; acted = λ vs c. (e, c); hand = λ us vs r h. refl })
acted_late a y ws (Give k) (e, d) = opens _ (Give k) (record { calm = d; closed = λ i. refl; acted = λ vs c. (e, c); hand = λ us vs r h. refl })

-- What counts of what is owed: the slots that it fills, the records that it releases and those that it fills slots with.
abbrev Owing : Type 0
Owing = (ℕ → Bool) × (Record → ℕ) × (Record → ℕ)

abbrev owing : List Write → Owing
owing ws = (owes_fill ws, releases_of ws, filled_with ws)

-- What counts of the shared words: what spots and slots name.
abbrev Naming : Type 0
Naming = (ℕ → Option Record) × (ℕ → ℕ → Option Record) × (ℕ → ℕ → Option Record)

abbrev naming : Shared → Naming
naming u = (u.roots, u.links, u.slots)

-- A write that does not count among what is owed is neither one of a slot nor a release.
not_fill : (i : Slot) (v : Option Record) → owing (w.FillSlot i v ∷ []) ≡ owing [] → ⊥
not_fill i v h = true≢false (sym (ap (λ (c : Bool). c || false) (eq-eqb i.index i.index refl)) ∙ ap (λ (o : Owing). o.0 i.index) h)

not_release : (r : Record) → owing (w.Release r ∷ []) ≡ owing [] → ⊥
not_release r h =
    let a : once (Some r) r + 0 ≡ 0 = ap (λ (o : Owing). o.1 r) h in
    let c = once_itself r in
    omega (arith, a, c)

not_early : (z : Sizes) (f : ℕ → Standing) (o : Operation) (y : Write) (ws : List Write) (x : Point) → Early z f o (y ∷ ws) x → owing (y ∷ ws) ≡ owing ws → ⊥
not_early z f _ _ _ _ (looks q i v k) h = not_fill i v h
not_early z f _ _ _ _ (lets_go r k) h = not_release r h

-- NEW's writes that do not count leave the rest of them.
filling_on : (y : Write) (ws : List Write) → Filling (y ∷ ws) → owing (y ∷ ws) ≡ owing ws → Filling ws
filling_on _ _ (all r i) h = two r i
filling_on _ _ (two r i) h = one r i
filling_on _ _ (one r i) h = absurd (not_fill i (Some r) h)

-- None of NEW's writes releases.
filling_keeps : (ws : List Write) → Filling ws → (r : Record) → releases_of ws r ≡ 0
filling_keeps _ (all k i) r = refl
filling_keeps _ (two k i) r = refl
filling_keeps _ (one k i) r = refl

-- A slot that is looked into is as little verified when a write of it is owed too.
open_once : (c : Bool) → not c ≡ (not (c || false) && not c)
open_once true = refl
open_once false = refl

-- Spots name the same where roots and links do.
same_names : (u v : Shared) → u.roots ≡ v.roots → u.links ≡ v.links → (q : Spot) → name_at u q ≡ name_at v q
same_names u v h g (at.Root x) = ap (λ (f : ℕ → Option Record). f x.index) h
same_names u v h g (at.Link r x) = ap (λ (f : ℕ → ℕ → Option Record). f r.number x.index) g

module _ (t : Table) (k : Sound t) (run : Run) (e : Explained t run) (s : Station) (b : s.number < t.sizes.stations) (pick : Option ℕ) where
  abbrev l : Ledger
  l = e.ledger

  abbrev p : ℕ
  p = s.number

  low_here : p < 8
  low_here = low t k run e s b

  -- the ledger with other holds, of which no finding of a CLEAN speaks
  abbrev with_all : (Station → Record → ℕ) → Ledger
  with_all h = record { names = l.names; holds = h; standing = l.standing; since = l.since }

  same_lasts : (h : Station → Record → ℕ) → Lasts l (with_all h)
  same_lasts h = record { retired = λ r d. d; since = λ r x n d f. f; lasting = λ r d f. (d, f) }

  -- What is left to show of a write of no spot and of no slot of another station, if nothing of the ledger moves but the station's own holds.
  after_write : (u : Shared) (h : Station → Record → ℕ) (w : Plan) (z : Phase) → ((q : Spot) → name_at t.shared q ≡ name_at u q) →
      ((q : Station) → (q ≡ s → ⊥) → (i : ℕ) → u.slots q.number i ≡ t.shared.slots q.number i) → ((q : Station) (r : Record) → (q ≡ s → ⊥) → h q r ≡ l.holds q r) →
      ((r : Record) → HoldsBy (u.slots p) (h s r) (Some w) z r) → InPhase (sizes t.sizes) t.standing (Some w) z → Past (sizes t.sizes) l w.point →
      After t l e.phases s u t.standing (with_all h) (Some w) z
  after_write u h w z names slots holds own phase past = record {
    names = λ q. e.related.names q ∙ names q;
    standings = e.related.standings;
    slots = slots;
    holds = holds;
    phases = λ q d c. e.related.phases q c;
    past = λ q d c. lasts_of (sizes t.sizes) l (with_all h) (same_lasts h) (t.seats q.number).work (e.related.past q c);
    own_holds = own;
    own_phase = phase;
    own_past = lasts_of (sizes t.sizes) l (with_all h) (same_lasts h) (Some w) past;
  }

  -- By what is owed: the operation has yet to act, or it acted,
  by_owed : (y : Write) (ws : List Write) (x : Point) → (t.seats p).work ≡ Some (plan (y ∷ ws) x) → (A : Type 0) → ((o : Operation) → e.phases s ≡ waiting o → Early (sizes t.sizes) t.standing o (y ∷ ws) x → A) →
      ((a : Outcome) → e.phases s ≡ acted a → Late a (y ∷ ws) x → A) → A
  by_owed y ws x here A f g = by_phase t k run e s b (plan (y ∷ ws) x) here A (λ o is d. f o is (waits_early (sizes t.sizes) t.standing o y ws x d)) (λ a is d. g a is (acted_late a y ws x d))

  -- and if it acted and nothing of the ledger moves, it goes on or ends.
  goes_on : (u : Shared) (w : Plan) (a : Outcome) → e.phases s ≡ acted a → After t l e.phases s u t.standing l (Some w) (acted a) → Came t run e s low_here u t.standing (t.seats p).notes t.pool (settle w)
  goes_on u w a is = arrives t run e s low_here u t.standing (t.seats p).notes t.pool l a (still t k run e s b (acted a) is) w

  -- ---------------------------------------------------------------- a write that does not count

  module _ (y : Write) (ws : List Write) (x : Point) (here : (t.seats p).work ≡ Some (plan (y ∷ ws) x)) (words : naming t.shared ≡ naming (change_of t.shared p y)) (same : owing (y ∷ ws) ≡ owing ws) where
    plain_holds : (a : Outcome) → e.phases s ≡ acted a → (r : Record) → in_hand_at (y ∷ ws) x r ≡ in_hand_at ws x r → HoldsBy ((change_of t.shared p y).slots p) (l.holds s r) (Some (plan ws x)) (acted a) r
    plain_holds a is r hand =
        let h = holds_in t k run e s b (plan (y ∷ ws) x) here (acted a) is r in
        let owed = ap (λ (o : Owing). o.1 r) same in
        let c : count (λ i. same_name (t.shared.slots p i) (Some r) && is_verified (Some (plan (y ∷ ws) x)) i) 8 ≡ count (λ i. same_name ((change_of t.shared p y).slots p i) (Some r) && is_verified (Some (plan ws x)) i) 8 =
        count_same _ _ 8 (λ i. ap (λ (n : Naming). same_name (n.2 p i) (Some r) && is_verified (Some (plan (y ∷ ws) x)) i) words ∙ ap (λ (o : Owing). same_name ((change_of t.shared p y).slots p i) (Some r) && (not (o.0 i) && not (looks_into x i))) same) in
        omega (arith, h, owed, hand, c)

    plain_after : (a : Outcome) → e.phases s ≡ acted a → ((r : Record) → in_hand_at (y ∷ ws) x r ≡ in_hand_at ws x r) → Acted a ws x → Turned t run s pick (plan (y ∷ ws) x)
    plain_after a is hand d = goes_on (change_of t.shared p y) (plan ws x) a is (after_write (change_of t.shared p y) l.holds (plan ws x) (acted a)
        (same_names t.shared (change_of t.shared p y) (ap (λ (n : Naming). n.0) words) (ap (λ (n : Naming). n.1) words)) (λ q c i. ap (λ (n : Naming). n.2 q.number i) (sym words)) (λ q r c. refl)
        (λ r. plain_holds a is r (hand r)) d (past_here t k run e s b (plan (y ∷ ws) x) here))

  plain_late : (y : Write) (ws : List Write) (x : Point) (here : (t.seats p).work ≡ Some (plan (y ∷ ws) x)) → naming t.shared ≡ naming (change_of t.shared p y) → owing (y ∷ ws) ≡ owing ws →
      (a : Outcome) → e.phases s ≡ acted a → Late a (y ∷ ws) x → Turned t run s pick (plan (y ∷ ws) x)
  plain_late y ws x here words same a is (opens _ _ o) = plain_after y ws x here words same a is (λ r. o.hand (y ∷ ws) ws r (ap (λ (c : Owing). c.2 r) same)) (o.acted ws (λ i. ap (λ (c : Owing). c.0 i) (sym same) ∙ o.calm i))
  plain_late y ws _ here words same a is (fills _ f) = plain_after y ws (End a) here words same a is (λ r. ap (λ (c : Owing). c.2 r) same) (refl, inr (filling_on y ws f same))
  plain_late _ _ _ here words same a is (looks_on q i v g d f) = absurd (not_fill i v same)

  plain_turn : (y : Write) (ws : List Write) (x : Point) → (t.seats p).work ≡ Some (plan (y ∷ ws) x) → naming t.shared ≡ naming (change_of t.shared p y) → owing (y ∷ ws) ≡ owing ws → Turned t run s pick (plan (y ∷ ws) x)
  plain_turn y ws x here words same = by_owed y ws x here (Turned t run s pick (plan (y ∷ ws) x)) (λ o is d. absurd (not_early (sizes t.sizes) t.standing o y ws x d same)) (plain_late y ws x here words same)

  -- ---------------------------------------------------------------- a write of a slot

  abbrev slots_with : ℕ → Option Record → ℕ → ℕ → Option Record
  slots_with i v = put_in 8 8 t.shared.slots p i v

  -- The slots that name r, counted before a write of one of them and after it.
  set_counts : (i : ℕ) (v : Option Record) (u w : Plan) → i < 8 → ((j : ℕ) → (j ≡ i → ⊥) → is_verified (Some w) j ≡ is_verified (Some u) j) → (r : Record) →
      count (λ j. same_name (slots_with i v p j) (Some r) && is_verified (Some w) j) 8 + unit (same_name (t.shared.slots p i) (Some r) && is_verified (Some u) i)
      ≡ count (λ j. same_name (t.shared.slots p j) (Some r) && is_verified (Some u) j) 8 + unit (same_name v (Some r) && is_verified (Some w) i)
  set_counts i v u w il h r =
      let c = count_but (λ j. same_name (slots_with i v p j) (Some r) && is_verified (Some w) j) (λ j. same_name (t.shared.slots p j) (Some r) && is_verified (Some u) j) 8 i il other in
      c ∙ ap (λ (n : Option Record). count (λ j. same_name (t.shared.slots p j) (Some r) && is_verified (Some u) j) 8 + unit (same_name n (Some r) && is_verified (Some w) i)) at_i
    where
      at_i : slots_with i v p i ≡ v
      at_i = elim (put_in_tells 8 8 t.shared.slots p i v low_here il p i) [ inl (c, _, _) ↦ c | inr (_, d) ↦ absurd (d refl refl) ]

      other : (j : ℕ) → (j ≡ i → ⊥) → (same_name (slots_with i v p j) (Some r) && is_verified (Some w) j) ≡ (same_name (t.shared.slots p j) (Some r) && is_verified (Some u) j)
      other j d = elim (put_in_tells 8 8 t.shared.slots p i v low_here il p j) [
        | inl (_, _, ij) ↦ absurd (d (sym ij))
        | inr (c, _) ↦ ap (λ (n : Option Record). same_name n (Some r) && is_verified (Some w) j) c ∙ ap (λ (f : Bool). same_name (t.shared.slots p j) (Some r) && f) (h j d)
      ]

  -- What is left to show of such a write, if nothing of the ledger moves but the station's own holds.
  after_set : (i : ℕ) (v : Option Record) → i < 8 → (h : Station → Record → ℕ) (w : Plan) (z : Phase) → ((q : Station) (r : Record) → (q ≡ s → ⊥) → h q r ≡ l.holds q r) →
      ((r : Record) → HoldsBy (slots_with i v p) (h s r) (Some w) z r) → InPhase (sizes t.sizes) t.standing (Some w) z → Past (sizes t.sizes) l w.point →
      After t l e.phases s (set_slot t.shared p i v) t.standing (with_all h) (Some w) z
  after_set i v il h w z holds own phase past = after_write (set_slot t.shared p i v) h w z (same_names t.shared (set_slot t.shared p i v) refl refl)
      (λ q d j. elim (put_in_tells 8 8 t.shared.slots p i v low_here il q.number j) [ inl (_, c, _) ↦ absurd (d (ap (λ n. record { number = n }) (sym c))) | inr (c, _) ↦ c ]) holds own phase past

  -- ---------------------------------------------------------------- a release

  -- the slot that is emptied
  abbrev emptied : Record → ℕ
  emptied r = lowest_naming (t.shared.slots p) r

  module _ (r : Record) (ws : List Write) (x : Point) (here : (t.seats p).work ≡ Some (plan (w.Release r ∷ ws) x)) where
    abbrev owed : Plan
    owed = plan (w.Release r ∷ ws) x

    -- some slot names r, and the lowest of them does
    named : (j : ℕ) × (j < 8) × (num (t.shared.slots p j) ≡ Some r.number)
    named = let (j, m, n) = release_names (mine k.state p) r ws (owes_it t k run e s b owed here) in (j, m, sym (slot_same t k run e s b j m) ∙ n)

    below : emptied r < 8
    below = naming_below (t.shared.slots p) r named.0 named.1 named.2

    names_it : t.shared.slots p (emptied r) ≡ Some r
    names_it = same_name_is (t.shared.slots p (emptied r)) (Some r) (num_same (t.shared.slots p (emptied r)) (Some r) (naming_names (t.shared.slots p) r named.0 named.1 named.2))

    -- One slot less names r, of those that are verified.
    one_less : is_verified (Some owed) (emptied r) ≡ true → (q : Record) →
        count (λ j. same_name (slots_with (emptied r) None p j) (Some q) && is_verified (Some (plan ws x)) j) 8 + once (Some r) q ≡ count (λ j. same_name (t.shared.slots p j) (Some q) && is_verified (Some owed) j) 8
    one_less firm q =
        let c = set_counts (emptied r) None owed (plan ws x) below (λ j d. refl) q in
        let a : unit (same_name (t.shared.slots p (emptied r)) (Some q) && is_verified (Some owed) (emptied r)) ≡ once (Some r) q =
        ap (λ (n : Option Record). unit (same_name n (Some q) && is_verified (Some owed) (emptied r))) names_it ∙ ap (λ (f : Bool). unit (same_name (Some r) (Some q) && f)) firm ∙ ap unit (and_true (same_name (Some r) (Some q))) in
        omega (arith, a, c)

  -- RELEASE acts where it empties its slot.
  module _ (r : Record) (here : (t.seats p).work ≡ Some (plan (w.Release r ∷ []) (End Outcome.Done))) (is : e.phases s ≡ waiting (op.Release r)) where
    less : (q : Record) → count (λ j. same_name (slots_with (emptied r) None p j) (Some q) && true) 8 + once (Some r) q ≡ count (λ j. same_name (t.shared.slots p j) (Some q) && true) 8
    less q = one_less r [] (End Outcome.Done) here refl q

    has : (q : Record) → HoldsBy (t.shared.slots p) (l.holds s q) (Some (plan (w.Release r ∷ []) (End Outcome.Done))) (waiting (op.Release r)) q
    has = holds_in t k run e s b (plan (w.Release r ∷ []) (End Outcome.Done)) here (waiting (op.Release r)) is

    held : 0 < l.holds s r
    held =
        let h = has r in
        let c = less r in
        let a = once_itself r in
        omega (arith, h, c, a)

    lets_go_turn : (t.standing r.number ≡ Fresh → ⊥) → Turned t run s pick (plan (w.Release r ∷ []) (End Outcome.Done))
    lets_go_turn old = arrives t run e s low_here (change_of t.shared p (w.Release r)) t.standing (t.seats p).notes t.pool (let_go l s r) Outcome.Done
        (explains.act s (op.Release r) Outcome.Done e.explains is (b, (held, (λ c. old (sym (e.related.standings r) ∙ c)), refl, refl))) (plan [] (End Outcome.Done))
        (after_set (emptied r) None (below r [] (End Outcome.Done) here) (let_go l s r).holds (plan [] (End Outcome.Done)) (acted Outcome.Done) (less_there l s r)
        (λ q. let h = has q in let c = less q in let g = less_here l s r held q in omega (arith, h, c, g)) (refl, inl (λ j. refl)) tt)

  -- What was to be released of an operation that acted is released, and the slot is emptied: nothing of the ledger moves.
  release_late : (r : Record) (ws : List Write) (x : Point) → (t.seats p).work ≡ Some (plan (w.Release r ∷ ws) x) → (a : Outcome) → e.phases s ≡ acted a → Late a (w.Release r ∷ ws) x →
      Turned t run s pick (plan (w.Release r ∷ ws) x)
  release_late r ws x here a is (opens _ _ o) = goes_on (change_of t.shared p (w.Release r)) (plan ws x) a is
      (after_set (emptied r) None (below r ws x here) l.holds (plan ws x) (acted a) (λ q j d. refl)
      (λ q.
      let h = holds_in t k run e s b (plan (w.Release r ∷ ws) x) here (acted a) is q in
      let c = one_less r ws x here (and_from _ _ (ap not (o.calm (emptied r))) (ap not (o.closed (emptied r)))) q in
      let g = o.hand (w.Release r ∷ ws) ws q refl in
      omega (arith, h, c, g))
      (o.acted ws o.calm) (past_here t k run e s b (plan (w.Release r ∷ ws) x) here))
  release_late r ws _ here a is (fills _ f) = absurd (let h = filling_keeps (w.Release r ∷ ws) f r in let c = once_itself r in omega (arith, h, c))

  -- Before an operation acts, the release that is owed is RELEASE's own.
  release_early : (r : Record) (ws : List Write) (x : Point) → (t.seats p).work ≡ Some (plan (w.Release r ∷ ws) x) → (o : Operation) → e.phases s ≡ waiting o → Early (sizes t.sizes) t.standing o (w.Release r ∷ ws) x →
      Turned t run s pick (plan (w.Release r ∷ ws) x)
  release_early _ _ _ here _ is (lets_go r old) = lets_go_turn r here is old

  -- ---------------------------------------------------------------- a write of a dereference's slot, and of NEW's

  fill_inside : (i : Slot) (v : Option Record) (ws : List Write) (x : Point) → (t.seats p).work ≡ Some (plan (w.FillSlot i v ∷ ws) x) → i.index < 8
  fill_inside i v ws x here = let h = fill_below (mine k.state p) i v ws (owes_it t k run e s b (plan (w.FillSlot i v ∷ ws) x) here) in let most = k.lawful.each in omega (arith, h, most)

  -- The slot that is looked into is not verified before its write nor after it.
  module _ (q : Spot) (i : Slot) (v : Option Record) (g : AfterLook) (here : (t.seats p).work ≡ Some (plan (w.FillSlot i v ∷ []) (Verify q i v g))) where
    looks_holds : (z : Phase) → e.phases s ≡ z → ((r : Record) → beside (Some (plan (w.FillSlot i v ∷ []) (Verify q i v g))) z r ≡ beside (Some (plan [] (Verify q i v g))) z r) →
        (r : Record) → HoldsBy (slots_with i.index v p) (l.holds s r) (Some (plan [] (Verify q i v g))) z r
    looks_holds z is own r =
        let h = holds_in t k run e s b (plan (w.FillSlot i v ∷ []) (Verify q i v g)) here z is r in
        let u = own r in
        let c = set_counts i.index v (plan (w.FillSlot i v ∷ []) (Verify q i v g)) (plan [] (Verify q i v g)) (fill_inside i v [] (Verify q i v g) here) (λ j d. open_once (i.index == j)) r in
        let shut : not (i.index == i.index) ≡ false = ap not (eq-eqb i.index i.index refl) in
        let d = none_there (same_name v (Some r)) (not (i.index == i.index)) shut in
        let f = none_there (same_name (t.shared.slots p i.index) (Some r)) (not (i.index == i.index || false) && not (i.index == i.index)) (sym (open_once (i.index == i.index)) ∙ shut) in
        omega (arith, h, u, c, d, f)

    looks_after : (z : Phase) → e.phases s ≡ z → ((r : Record) → beside (Some (plan (w.FillSlot i v ∷ []) (Verify q i v g))) z r ≡ beside (Some (plan [] (Verify q i v g))) z r) →
        InPhase (sizes t.sizes) t.standing (Some (plan [] (Verify q i v g))) z → After t l e.phases s (set_slot t.shared p i.index v) t.standing l (Some (plan [] (Verify q i v g))) z
    looks_after z is own d = after_set i.index v (fill_inside i v [] (Verify q i v g) here) l.holds (plan [] (Verify q i v g)) z (λ j r f. refl) (looks_holds z is own) d
        (past_here t k run e s b (plan (w.FillSlot i v ∷ []) (Verify q i v g)) here)

  -- NEW's record is held in its slot from its write on, and in hand no more.
  new_holds : (i : Slot) (r : Record) (a : Outcome) → (t.seats p).work ≡ Some (plan (w.FillSlot i (Some r) ∷ []) (End a)) → e.phases s ≡ acted a →
      (q : Record) → HoldsBy (slots_with i.index (Some r) p) (l.holds s q) (Some (plan [] (End a))) (acted a) q
  new_holds i r a here is q =
      let h = holds_in t k run e s b (plan (w.FillSlot i (Some r) ∷ []) (End a)) here (acted a) is q in
      let c = set_counts i.index (Some r) (plan (w.FillSlot i (Some r) ∷ []) (End a)) (plan [] (End a)) (fill_inside i (Some r) [] (End a) here)
      (λ j d. ap (λ (f : Bool). not (f || false) && true) (sym (ne_eqb i.index j (λ f. d (sym f))))) q in
      let d = none_there (same_name (t.shared.slots p i.index) (Some q)) (not (i.index == i.index || false) && true) (ap (λ (f : Bool). not (f || false) && true) (eq-eqb i.index i.index refl)) in
      let f : unit (same_name (Some r) (Some q) && true) ≡ once (Some r) q = ap unit (and_true (same_name (Some r) (Some q))) in
      omega (arith, h, c, d, f)

  -- A write of a slot is owed by an operation that acted, or by a dereference that has yet to act.
  fill_late : (i : Slot) (v : Option Record) (ws : List Write) (x : Point) → (t.seats p).work ≡ Some (plan (w.FillSlot i v ∷ ws) x) → (a : Outcome) → e.phases s ≡ acted a → Late a (w.FillSlot i v ∷ ws) x →
      Turned t run s pick (plan (w.FillSlot i v ∷ ws) x)
  fill_late i v ws x here a is (opens _ _ o) = absurd (true≢false (sym (ap (λ (f : Bool). f || owes_fill ws i.index) (eq-eqb i.index i.index refl)) ∙ o.calm i.index))
  fill_late _ _ _ _ here a is (fills _ (one r i)) = goes_on (set_slot t.shared p i.index (Some r)) (plan [] (End a)) a is
      (after_set i.index (Some r) (fill_inside i (Some r) [] (End a) here) l.holds (plan [] (End a)) (acted a) (λ j q f. refl) (new_holds i r a here is) (refl, inl (λ j. refl)) tt)
  fill_late _ _ _ _ here a is (looks_on q i v g d f) = goes_on (set_slot t.shared p i.index v) (plan [] (Verify q i v g)) a is
      (looks_after q i v g here (acted a) is (λ r. refl) (d, f, inl refl))

  fill_early : (i : Slot) (v : Option Record) (ws : List Write) (x : Point) → (t.seats p).work ≡ Some (plan (w.FillSlot i v ∷ ws) x) → (o : Operation) → e.phases s ≡ waiting o → Early (sizes t.sizes) t.standing o (w.FillSlot i v ∷ ws) x →
      Turned t run s pick (plan (w.FillSlot i v ∷ ws) x)
  fill_early _ _ _ _ here _ is (looks q i v d) = waits_on t run e s low_here (set_slot t.shared p i.index v) t.standing (t.seats p).notes t.pool l (op.Deref q) (still t k run e s b (waiting (op.Deref q)) is)
      (plan [] (Verify q i v look.Answer)) refl (looks_after q i v look.Answer here (waiting (op.Deref q)) is (λ r. refl) (verifies i v, d))

  -- ---------------------------------------------------------------- each write

  -- The turn of a station that owes a write.
  pub owed_turn : (y : Write) (ws : List Write) (x : Point) → (t.seats p).work ≡ Some (plan (y ∷ ws) x) → Turned t run s pick (plan (y ∷ ws) x)
  owed_turn (w.Release r) ws x here = by_owed (w.Release r) ws x here (Turned t run s pick (plan (w.Release r ∷ ws) x)) (release_early r ws x here) (release_late r ws x here)
  owed_turn (w.FillSlot i v) ws x here = by_owed (w.FillSlot i v) ws x here (Turned t run s pick (plan (w.FillSlot i v ∷ ws) x)) (fill_early i v ws x here) (fill_late i v ws x here)
  owed_turn (w.ZeroCount r) ws x here = plain_turn (w.ZeroCount r) ws x here refl refl
  owed_turn (w.ClearDeleted r) ws x here = plain_turn (w.ClearDeleted r) ws x here refl refl
  owed_turn (w.RaiseCount r) ws x here = plain_turn (w.RaiseCount r) ws x here refl refl
  owed_turn (w.ClearTraceOfHeld r) ws x here = plain_turn (w.ClearTraceOfHeld r) ws x here refl refl
  owed_turn (w.LowerCount r) ws x here = plain_turn (w.LowerCount r) ws x here refl refl
  owed_turn (w.SetDeleted r) ws x here = plain_turn (w.SetDeleted r) ws x here refl refl
  owed_turn (w.ClearTraceOfListed r) ws x here = plain_turn (w.ClearTraceOfListed r) ws x here refl refl
  owed_turn (w.ClearDone i) ws x here = plain_turn (w.ClearDone i) ws x here refl refl
  owed_turn (w.FillPlace i r) ws x here = plain_turn (w.FillPlace i r) ws x here refl refl
  owed_turn (w.SetTrace r) ws x here = plain_turn (w.SetTrace r) ws x here refl refl
  owed_turn (w.EmptyPlace i) ws x here = plain_turn (w.EmptyPlace i) ws x here refl refl
  owed_turn (w.SetDone i) ws x here = plain_turn (w.SetDone i) ws x here refl refl
  owed_turn (w.AddClaim q i) ws x here = plain_turn (w.AddClaim q i) ws x here refl refl
  owed_turn (w.DropClaim q i) ws x here = plain_turn (w.DropClaim q i) ws x here refl refl
