-- A turn that writes a name into a spot: CAS and STORE act there, and CLEAN leads a link past a withdrawn record or clears it.
use Rattle.std.proofs.Common.{◌≡◌, ℕ, ◌+◌, ◌<◌, Bool, true, false, cond, not, ◌&&◌, ◌||◌, ◌==◌, List, [], ◌∷◌, ◌++◌, Some, None, Option, sym, refl, ap, ◌∙◌, subst, inl, inr, arith}
use Rattle.std.proofs.lemmas.Bool.{cases_Bool, eq-eqb, ne_eqb, eqb-true, and_from, and_parts, cond-true, cond-false}
use Rattle.terms.specs.declared.Record.{Record}
use Rattle.terms.specs.declared.Station.{Station}
use Rattle.terms.specs.declared.Position.{Position}
use Rattle.terms.specs.declared.Spot.{Spot}
use Rattle.terms.specs.declared.Spot.TheVariants as at
use Rattle.terms.specs.declared.Outcome.{Outcome}
use Rattle.terms.specs.declared.Standing.{Standing}
use Rattle.terms.specs.declared.Standing.TheVariants.{Fresh, Retired}
use Rattle.terms.specs.declared.Operation.{Operation}
use Rattle.terms.specs.declared.Operation.TheVariants as op
use Rattle.terms.specs.Words.{same_name, once_named}
use Rattle.terms.proofs.Puts.{put_tells}
use Rattle.memory.specs.Shared.{Shared, name_at, set_name}
use Rattle.memory.specs.Standings.{set_standing, named}
use Rattle.laws.proofs.Words.{put_in_tells}
use Rattle.laws.proofs.Spots.{Spotted, link_owner}
use Rattle.ledger.specs.Words.{same_spot, changed}
use Rattle.ledger.specs.Ledger as ledger
use Rattle.ledger.specs.Ledger.{Sizes, Ledger, OutOfUse, LeadsTo, Settled, following, Reaches, HoldsName, naming, write}
use Rattle.ledger.proofs.Words.{same_name_is, fresh≢retired, pooled≢retired}
use Rattle.ledger.proofs.Changes.{naming_tells, noting_keeps}
use Rattle.work.specs.declared.work.AfterSwap.{AfterSwap}
use Rattle.work.specs.declared.work.AfterSwap.TheVariants as swap
use Rattle.work.specs.declared.work.AfterStore.{AfterStore}
use Rattle.work.specs.declared.work.AfterStore.TheVariants as store
use Rattle.work.specs.declared.work.Clean.{Clean}
use Rattle.work.specs.declared.work.Reached.{Reached}
use Rattle.work.specs.declared.work.Point.{Point}
use Rattle.work.specs.declared.work.Point.TheVariants.{End, Swap, Overwrite}
use Rattle.memory.specs.declared.access.Write.{Write}
use Rattle.memory.specs.declared.access.Write.TheVariants as w
use Rattle.work.specs.Plans.{Plan, plan, Notes, Sight, noted}
use Rattle.work.specs.Steps.{settle, lower, counts_of, release_of, clean_at, swapped_of, cleared_of}
use Rattle.machine.specs.Tables.{Table, sight_in}
use Rattle.machine.specs.Holds.{owes_fill, looks_into, is_verified}
use Rattle.laws.specs.Fits.{Sound}
use Rattle.protocol.specs.Shape.{through}
use Rattle.protocol.specs.Clauses.{Save, SoleWriter, making, giving_back}
use Rattle.protocol.proofs.Words.{some_same}
use Rattle.laws.specs.Numbers.{shape, spot_number, place_number}
use Rattle.laws.specs.Lists.{Stands, Through, place_of}
use Rattle.laws.proofs.Passing.{at_place}
use Rattle.protocol.specs.State as phases
use Rattle.work.specs.declared.work.Entry.{Entry}
use Rattle.work.specs.declared.work.Round.{Round}
use Rattle.work.specs.declared.work.Round.TheVariants.{Own, All}
use Rattle.laws.specs.Mine.{Mine, mine, Quiet}
use Rattle.laws.proofs.Dereference.{held_within, held_holds, within_spotted, clean_spotted}
use Rattle.laws.specs.Agree.{num}
use Rattle.laws.specs.Points.{AtPoint, Firm, HeldHere, Carried, Within, Cleanable, Cleaning}
use Rattle.laws.proofs.Names.{num_same}
use Rattle.ledger.specs.Explains.{Phase, resting, waiting, acted, Run, moved, Explains}
use Rattle.ledger.specs.Explains as explains
use Rattle.order.specs.Counts.{count, once, releases_of, filled_with, in_hand_at, cleaning_holds}
use Rattle.order.specs.Phases.{InPhase, Waits, Ranged, Looks, Stores, first, again, writes, verifies, reads, overwrites, Calm}
use Rattle.order.specs.Relation.{sizes, Past, PastSwap, Lasting}
use Rattle.order.specs.Theorems.{Explained}
use Rattle.order.proofs.Frame.{HoldsBy, After, Came, arrives}
use Rattle.order.proofs.Begins.{count_same}
use Rattle.order.proofs.Withdraws.{counted_at, stand_after, Lasts, still_in_phase, lasts_of}
use Rattle.order.proofs.Onward.{Onward, onward_holds, plain_onward, clean_round, owes_both, releases_both, filled_both, release_calm, release_fills, release_once, lower_calm, lower_fills, lower_releases}
use Rattle.order.proofs.Unused.{out_of_use}
use Rattle.order.proofs.Quiet.{waits_at, emptied_onward, cleared_yes_onward, cleared_no_onward}
use Rattle.order.proofs.Here.{Turned, quiet_turn, low, at_point, holds_in, past_here, by_phase, still, orderly, slot_same, standing_same, after_same}

-- What the spots name after a write.
pub set_name_tells : (h : Shared) (f : Spot → Option Record) → ((q : Spot) → f q ≡ name_at h q) → (q : Spot) → Spotted q → (v : Option Record) → (c : Spot) → changed same_spot f q v c ≡ name_at (set_name h q v) c
set_name_tells h f same (at.Root g) l v (at.Root i) = elim (put_tells 16 h.roots g.index v i.index) [
  | inl (y, d, _) ↦ cond-true _ v (f (at.Root i)) (eq-eqb i.index g.index (sym d)) ∙ sym y
  | inr (y, d) ↦ cond-false _ v (f (at.Root i)) (ne_eqb i.index g.index (λ c. d (sym c) l)) ∙ same (at.Root i) ∙ sym y
]
set_name_tells h f same (at.Root g) l v (at.Link r x) = same (at.Link r x)
set_name_tells h f same (at.Link a y) l v (at.Root i) = same (at.Root i)
set_name_tells h f same (at.Link a y) (l, m) v (at.Link r x) = elim (put_in_tells 128 4 h.links a.number y.index v l m r.number x.index) [
  | inl (e, i, j) ↦ cond-true _ v (f (at.Link r x)) (and_from _ _ (eq-eqb r.number a.number (sym i)) (eq-eqb x.index y.index (sym j))) ∙ sym e
  | inr (e, d) ↦ elim (cases_Bool (r.number == a.number && x.index == y.index)) [
    | inl c ↦ let (i, j) = and_parts (r.number == a.number) (x.index == y.index) c in absurd (d (sym (eqb-true r.number a.number i)) (sym (eqb-true x.index y.index j)))
    | inr c ↦ cond-false _ v (f (at.Link r x)) c ∙ same (at.Link r x) ∙ sym e
  ]
]

-- And each standing.
pub named_tells : (f : Record → Standing) (g : ℕ → Standing) → ((r : Record) → f r ≡ g r.number) → (v : Option Record) → ((r : Record) → v ≡ Some r → r.number < 128) → (c : Record) → naming f v c ≡ named g v c.number
named_tells f g same None small c = same c
named_tells f g same (Some r) small c = stand_after f g same r (once_named (f r)) (small r refl) c ∙ ap (λ (v : Standing). set_standing g r.number (once_named v) c.number) (same r)

-- A record that is fresh after a write was so before it.
pub was_fresh : (g : ℕ → Standing) (v : Option Record) (k : ℕ) → named g v k ≡ Fresh → g k ≡ Fresh
was_fresh g None k e = e
was_fresh g (Some r) k e = elim (put_tells 128 g r.number (once_named (g r.number)) k) [
  | inl (y, _, _) ↦ absurd (once_not (g r.number) (sym y ∙ e))
  | inr (y, _) ↦ sym y ∙ e
]
  where
    once_not : (u : Standing) → once_named u ≡ Fresh → ⊥
    once_not u e = grind arith

-- What a CLEAN found is still so after a write.
pub write_lasts : (l : Ledger) (q : Spot) (v : Option Record) → Lasts l (write l q v)
write_lasts l q v = record {
  retired = λ r e. elim (naming_tells l.standing v r) [ inl y ↦ y ∙ e | inr (_, f, _) ↦ absurd (fresh≢retired (l.standing r) f e) ];
  since = λ r x n _ e. noting_keeps l.since q v r x n e;
  lasting = λ r d f. elim (naming_tells l.standing v r) [ inl y ↦ ((λ k. d (sym y ∙ k)), (λ k. f (sym y ∙ k))) | inr (_, g, _) ↦ absurd (f g) ];
}

-- What a write owes to counts releases nothing and fills no slot.
pub counts_calm : (v o : Option Record) → Calm (counts_of v o)
counts_calm None None i = refl
counts_calm None (Some x) i = refl
counts_calm (Some y) None i = refl
counts_calm (Some y) (Some x) i = refl

pub counts_releases : (v o : Option Record) (r : Record) → releases_of (counts_of v o) r ≡ 0
counts_releases None None r = refl
counts_releases None (Some x) r = refl
counts_releases (Some y) None r = refl
counts_releases (Some y) (Some x) r = refl

pub counts_fills : (v o : Option Record) (r : Record) → filled_with (counts_of v o) r ≡ 0
counts_fills None None r = refl
counts_fills None (Some x) r = refl
counts_fills (Some y) None r = refl
counts_fills (Some y) (Some x) r = refl

-- A station that waits at a swap is in the middle of CAS, and one that waits at an overwrite of STORE.
at_swap : {q : Spot} {u : Plan} → Looks q u → (c : Spot) (o v : Option Record) (g : AfterSwap) → u.point ≡ Swap c o v g → ⊥
at_swap first c o v g e = grind arith
at_swap (again j) c o v g e = grind arith
at_swap (writes j w) c o v g e = grind arith
at_swap (verifies j w) c o v g e = grind arith

at_overwrite : {q : Spot} {u : Plan} → Looks q u → (c : Spot) (o v : Option Record) (g : AfterStore) → u.point ≡ Overwrite c o v g → ⊥
at_overwrite first c o v g e = grind arith
at_overwrite (again j) c o v g e = grind arith
at_overwrite (writes j w) c o v g e = grind arith
at_overwrite (verifies j w) c o v g e = grind arith

store_swap : {q : Spot} {n : Option Record} {u : Plan} → Stores q n u → (c : Spot) (o v : Option Record) (g : AfterSwap) → u.point ≡ Swap c o v g → ⊥
store_swap reads c o v g e = grind arith
store_swap (overwrites i) c o v g e = grind arith

same_swap : (q c : Spot) (o a v n : Option Record) (g h : AfterSwap) → Swap q o v g ≡ Swap c a n h → (c ≡ q) × (a ≡ o) × (n ≡ v) × (g ≡ h)
same_swap q c o a v n g h e = (grind arith, grind arith, grind arith, grind arith)

pub swap_waits : (z : Sizes) (f : ℕ → Standing) (c : Operation) (q : Spot) (o v : Option Record) (g : AfterSwap) → Waits z f c (plan [] (Swap q o v g)) → (c ≡ op.Cas q o v) × (g ≡ swap.Answer) × Ranged z q
swap_waits z f op.New q o v g d = absurd (grind arith)
swap_waits z f (op.Deref i) q o v g (d, _) = absurd (at_swap d q o v g refl)
swap_waits z f (op.Release r) q o v g (d, _) = absurd (grind arith)
swap_waits z f (op.Cas i a n) q o v g (d, h) =
    let (x, y, w, u) = same_swap q i o a v n g swap.Answer (ap (λ (p : Plan). p.point) d) in
    (ap (λ (j : Spot). op.Cas j a n) x ∙ ap (λ (j : Option Record). op.Cas q j n) y ∙ ap (λ (j : Option Record). op.Cas q o j) w, u, subst (λ (j : Spot). Ranged z j) x h)
swap_waits z f (op.Store r x n) q o v g (d, _) = absurd (store_swap d q o v g refl)
swap_waits z f (op.Delete r) q o v g d = absurd d

at_save : {i : Spot} {n : Option Record} {u : Plan} → Stores i n u → (q : Spot) (o v : Option Record) (g : AfterStore) → u.point ≡ Overwrite q o v g → (i ≡ q) × (n ≡ v) × (g ≡ store.Answer)
at_save reads q o v g e = absurd (grind arith)
at_save (overwrites a) q o v g e = (grind arith, grind arith, grind arith)

pub overwrite_waits : (z : Sizes) (f : ℕ → Standing) (c : Operation) (q : Spot) (o v : Option Record) (g : AfterStore) → Waits z f c (plan [] (Overwrite q o v g)) →
    (r : Record) × (x : Position) × (c ≡ op.Store r x v) × (q ≡ at.Link r x) × (g ≡ store.Answer) × (x.index < z.positions)
overwrite_waits z f op.New q o v g d = absurd (grind arith)
overwrite_waits z f (op.Deref i) q o v g (d, _) = absurd (at_overwrite d q o v g refl)
overwrite_waits z f (op.Release r) q o v g (d, _) = absurd (grind arith)
overwrite_waits z f (op.Cas i a n) q o v g (d, _) = absurd (grind arith)
overwrite_waits z f (op.Store r x n) q o v g (d, h) = let (i, j, u) = at_save d q o v g refl in (r, x, ap (λ (y : Option Record). op.Store r x y) j, sym i, u, h)
overwrite_waits z f (op.Delete r) q o v g d = absurd d

settles : (l : Ledger) (v : Option Record) → Lasting l v → Settled l v
settles l None d = d
settles l (Some r) d = d

link_record : (c r : Record) (y x : Position) → at.Link c y ≡ at.Link r x → c.number ≡ r.number
link_record c r y x e = grind arith

module _ (t : Table) (k : Sound t) (run : Run) (e : Explained t run) (s : Station) (b : s.number < t.sizes.stations) where
  abbrev l : Ledger
  l = e.ledger

  -- What is left to show of a turn that writes v into q.
  pub after_write : (q : Spot) (v : Option Record) → Spotted q → ((r : Record) → v ≡ Some r → r.number < 128) → (y : Plan) (x : Phase) →
      ((r : Record) → HoldsBy (t.shared.slots s.number) (l.holds s r) (Some y) x r) → InPhase (sizes t.sizes) (named t.standing v) (Some y) x → Past (sizes t.sizes) (write l q v) y.point →
      After t l e.phases s (set_name t.shared q v) (named t.standing v) (write l q v) (Some y) x
  after_write q v spot low y x h d f = record {
    names = λ c. set_name_tells t.shared l.names e.related.names q spot v c;
    standings = λ r. named_tells l.standing t.standing e.related.standings v low r;
    slots = λ c n i. slots_left q i c;
    holds = λ c r n. refl;
    phases = λ c n m. still_in_phase (sizes t.sizes) t.standing (named t.standing v) (t.seats c.number).work (e.phases c) (λ r _ h. was_fresh t.standing v r.number h) (e.related.phases c m);
    past = λ c n m. lasts_of (sizes t.sizes) l (write l q v) (write_lasts l q v) (t.seats c.number).work (e.related.past c m);
    own_holds = own q;
    own_phase = d;
    own_past = f;
  }
    where
      slots_left : (c : Spot) (i : ℕ) (z : Station) → (set_name t.shared c v).slots z.number i ≡ t.shared.slots z.number i
      slots_left (at.Root g) i z = refl
      slots_left (at.Link r m) i z = refl

      own : (c : Spot) (r : Record) → HoldsBy ((set_name t.shared c v).slots s.number) (l.holds s r) (Some y) x r
      own (at.Root g) r = h r
      own (at.Link m i) r = h r

  abbrev own : Mine
  own = mine k.state s.number

  -- What the station holds at a decision without a dereference under way, while its operation waits, the ledger has it hold.
  pub held_has : (x : Point) → (t.seats s.number).work ≡ Some (plan [] x) → ((i : ℕ) → looks_into x i ≡ false) → (o : Operation) → e.phases s ≡ waiting o → Firm own.slot own.held → (r : Record) → HeldHere own.held r.number → 0 < l.holds s r
  held_has x here closed o is firm r (i, i8, h) =
      let named : same_name (t.shared.slots s.number i) (Some r) ≡ true = num_same (t.shared.slots s.number i) (Some r) (sym (slot_same t k run e s b i i8) ∙ sym (firm i) ∙ h) in
      let verified : is_verified (Some (plan [] x)) i ≡ true = ap (λ (v : Bool). true && not v) (closed i) in
      let some = counted_at (λ i. same_name (t.shared.slots s.number i) (Some r) && is_verified (Some (plan [] x)) i) 8 i i8 (and_from _ _ named verified) in
      let sum = holds_in t k run e s b (plan [] x) here (waiting o) is r in
      omega (arith, some, sum)

  pub carried_has : (x : Point) → (t.seats s.number).work ≡ Some (plan [] x) → ((i : ℕ) → looks_into x i ≡ false) → (o : Operation) → e.phases s ≡ waiting o → Firm own.slot own.held → (v : Option Record) → Carried own.held v → HoldsName l s v
  carried_has x here closed o is firm None h = tt
  carried_has x here closed o is firm (Some r) h = held_has x here closed o is firm r (h r.number refl)

  -- A spot that the laws have within reach, and whose range is known, is so for the ledger.
  pub reaches : (x : Point) → (t.seats s.number).work ≡ Some (plan [] x) → ((i : ℕ) → looks_into x i ≡ false) → (o : Operation) → e.phases s ≡ waiting o → Firm own.slot own.held → (q : Spot) → Ranged (sizes t.sizes) q → Within t.sizes own.held q →
      Reaches (sizes t.sizes) l s q
  reaches x here closed o is firm (at.Root g) range w = range
  reaches x here closed o is firm (at.Link r y) range w = (range, held_has x here closed o is firm r w.1)

  -- A station whose operation acts as it writes, and then only owes what the write makes it owe.
  pub act_holds : (x : Point) → (t.seats s.number).work ≡ Some (plan [] x) → ((i : ℕ) → looks_into x i ≡ false) → ((r : Record) → in_hand_at [] x r ≡ 0) → (o : Operation) → e.phases s ≡ waiting o → (ws : List Write) → Calm ws →
      ((r : Record) → releases_of ws r ≡ 0) → ((r : Record) → filled_with ws r ≡ 0) → (a : Outcome) (r : Record) → HoldsBy (t.shared.slots s.number) (l.holds s r) (Some (plan ws (End a))) (acted a) r
  act_holds x here closed empty o is ws calm none fills a r =
      let sum = holds_in t k run e s b (plan [] x) here (waiting o) is r in
      let same : count (λ i. same_name (t.shared.slots s.number i) (Some r) && is_verified (Some (plan [] x)) i) 8 ≡ count (λ i. same_name (t.shared.slots s.number i) (Some r) && is_verified (Some (plan ws (End a))) i) 8 =
      count_same _ _ 8 (λ i. ap (λ (v : Bool). same_name (t.shared.slots s.number i) (Some r) && (true && not v)) (closed i) ∙ ap (λ (v : Bool). same_name (t.shared.slots s.number i) (Some r) && (not v && true)) (sym (calm i))) in
      let n = none r in
      let f = fills r in
      let h = empty r in
      omega (arith, sum, same, n, f, h)

  abbrev me : ℕ
  me = s.number

  abbrev notes : Notes
  notes = (t.seats s.number).notes

  lw : s.number < 8
  lw = low t k run e s b

  settled_low : (v : Option Record) (r : Record) → Settled l v → v ≡ Some r → r.number < 128
  settled_low v r d y = let most = k.lawful.records in let inside = (orderly t k run e s b).inside r (subst (λ (i : Option Record). Settled l i) y d).0 in omega arith

  carried_low : (v : Option Record) → Carried own.held v → (r : Record) → v ≡ Some r → r.number < 128
  carried_low v h r y = held_within t.sizes k.lawful me b lw t.shared t.standing k.state k.inv k.fits.agrees notes r.number (h r.number (ap num y))

  -- CAS acts at its swap, whether it writes or not.
  cas_turn : (q : Spot) (o v : Option Record) → (t.seats s.number).work ≡ Some (plan [] (Swap q o v swap.Answer)) → e.phases s ≡ waiting (op.Cas q o v) → Ranged (sizes t.sizes) q → (h : Bool) → same_name (name_at t.shared q) o ≡ h →
      Came t run e s lw (cond h (set_name t.shared q v) t.shared) (cond h (named t.standing v) t.standing) notes t.pool (settle (plan (cond h (counts_of v o) []) (End (Outcome.Swapped h))))
  cas_turn q o v here is range h hit =
      arrives t run e s lw (cond h (set_name t.shared q v) t.shared) (cond h (named t.standing v) t.standing) notes t.pool (cond h (write l q v) l) (Outcome.Swapped h)
      (explains.act s (op.Cas q o v) (Outcome.Swapped h) e.explains is (
        b,
        (
          reaches (Swap q o v swap.Answer) here (λ i. refl) (op.Cas q o v) is known.1 q range known.2,
          carried_has (Swap q o v swap.Answer) here (λ i. refl) (op.Cas q o v) is known.1 v known.3,
          ap Outcome.Swapped (sym found),
          ap (λ (c : Bool). cond c (write l q v) l) (sym found),
        ),
      )) (plan (cond h (counts_of v o) []) (End (Outcome.Swapped h))) (after h)
    where
      known : Quiet own × Firm own.slot own.held × Within t.sizes own.held q × Carried own.held v
      known = let (x, firm, (_, w, c, _)) = at_point t k run e s b (Swap q o v swap.Answer) here in (x, firm, w, c)

      found : same_name (l.names q) o ≡ h
      found = ap (λ (c : Option Record). same_name c o) (e.related.names q) ∙ hit

      left : (c : Bool) → Calm (cond c (counts_of v o) [])
      left true = counts_calm v o
      left false = λ i. refl

      holds : (c : Bool) (r : Record) → HoldsBy (t.shared.slots me) (l.holds s r) (Some (plan (cond c (counts_of v o) []) (End (Outcome.Swapped h)))) (acted (Outcome.Swapped h)) r
      holds true r = act_holds (Swap q o v swap.Answer) here (λ i. refl) (λ r. refl) (op.Cas q o v) is (counts_of v o) (counts_calm v o) (counts_releases v o) (counts_fills v o) (Outcome.Swapped h) r
      holds false r = act_holds (Swap q o v swap.Answer) here (λ i. refl) (λ r. refl) (op.Cas q o v) is [] (λ i. refl) (λ r. refl) (λ r. refl) (Outcome.Swapped h) r

      after : (c : Bool) → After t l e.phases s (cond c (set_name t.shared q v) t.shared) (cond c (named t.standing v) t.standing) (cond c (write l q v) l) (Some (plan (cond c (counts_of v o) []) (End (Outcome.Swapped h)))) (acted (Outcome.Swapped h))
      after true = after_write q v (within_spotted t.sizes k.lawful me b lw t.shared t.standing k.state k.inv k.fits.agrees notes q known.2) (carried_low v known.3) (plan (counts_of v o) (End (Outcome.Swapped h))) (acted (Outcome.Swapped h))
          (holds true) (refl, inl (left true)) tt
      after false = after_same t k run e s b (plan [] (End (Outcome.Swapped h))) (acted (Outcome.Swapped h)) (holds false) (refl, inl (left false)) tt

  -- STORE acts at its overwrite.
  store_turn : (q : Spot) (o v : Option Record) → (t.seats s.number).work ≡ Some (plan [] (Overwrite q o v store.Answer)) → (r : Record) (x : Position) → q ≡ at.Link r x → e.phases s ≡ waiting (op.Store r x v) → x.index < t.sizes.positions →
      Came t run e s lw (set_name t.shared q v) (named t.standing v) notes t.pool (settle (plan (counts_of v o) (End Outcome.Done)))
  store_turn q o v here r x same is range =
      arrives t run e s lw (set_name t.shared q v) (named t.standing v) notes t.pool (write l q v) Outcome.Done
      (explains.act s (op.Store r x v) Outcome.Done e.explains is (
        b,
        (
          (range, held_has (Overwrite q o v store.Answer) here (λ i. refl) (op.Store r x v) is firm r held),
          fresh,
          carried_has (Overwrite q o v store.Answer) here (λ i. refl) (op.Store r x v) is firm v carried,
          refl,
          ap (λ (c : Spot). write l c v) same,
        ),
      )) (plan (counts_of v o) (End Outcome.Done))
      (after_write q v spotted (carried_low v carried) (plan (counts_of v o) (End Outcome.Done)) (acted Outcome.Done)
      (act_holds (Overwrite q o v store.Answer) here (λ i. refl) (λ r. refl) (op.Store r x v) is (counts_of v o) (counts_calm v o) (counts_releases v o) (counts_fills v o) Outcome.Done)
      (refl, inl (counts_calm v o)) tt)
    where
      at_it : AtPoint t.sizes notes (Overwrite q o v store.Answer) own
      at_it = at_point t k run e s b (Overwrite q o v store.Answer) here

      firm : Firm own.slot own.held
      firm = at_it.1

      carried : Carried own.held v
      carried = at_it.2.2

      held : HeldHere own.held r.number
      held = let (c, y, is', _, h) = at_it.2.1 in subst (λ (i : ℕ). HeldHere own.held i) (link_record c r y x (sym is' ∙ same)) h

      spotted : Spotted q
      spotted = let four = k.lawful.positions in subst Spotted (sym same) (held_within t.sizes k.lawful me b lw t.shared t.standing k.state k.inv k.fits.agrees notes r.number held, omega arith)

      -- the record stored into is fresh: its only writer has it in a slot
      fresh : l.standing r ≡ Fresh
      fresh = standing_same t k run e s b r ∙ alone saved.sole
        where
          saved : Save shape k.state.names k.state.standing k.state.held k.state.lists k.state.phase me (spot_number q) (k.state.known me) (k.state.saved me)
          saved = k.inv.saved.save me (spot_number q) lw at_it.0.spot

          owner : shape.owner (spot_number q) ≡ Some r.number
          owner = let four = k.lawful.positions in ap (λ (c : Spot). shape.owner (spot_number c)) same ∙ link_owner r.number x.index (omega arith)

          it : saved.container ≡ r.number
          it = some_same (sym saved.link ∙ owner)

          alone : SoleWriter shape k.state.standing k.state.held k.state.lists k.state.phase me saved.container → k.state.standing r.number ≡ Fresh
          alone (making f _) = ap k.state.standing (sym it) ∙ f
          alone (giving_back w i _ full phase) =
              let (c, c64, _, x) = held_holds t.sizes k.lawful me b lw t.shared t.standing k.state k.inv k.fits.agrees notes r.number held in
              absurd ((k.inv.gone.unreferenced w saved.container i (ap through phase) full).slots c c64 (x ∙ ap Some (sym it)))

  -- CLEAN's swap, which leads a link past the withdrawn record m or says no: what it had for itself it owes to release now.
  lead_turn : (q : Spot) (o v : Option Record) (c : Clean) (m : Record) (n : Option Record) → (t.seats s.number).work ≡ Some (plan [] (Swap q o v (swap.CleanSwap c m n))) → e.phases s ≡ acted Outcome.Done → (h : Bool) → same_name (name_at t.shared q) o ≡ h → (u : Sight) →
      Came t run e s lw (cond h (set_name t.shared q v) t.shared) (cond h (named t.standing v) t.standing) notes t.pool (settle (swapped_of h o v (swap.CleanSwap c m n) u notes).does)
  lead_turn q o v c m n here is h hit u = by h hit
    where
      at_it : AtPoint t.sizes notes (Swap q o v (swap.CleanSwap c m n)) own
      at_it = at_point t k run e s b (Swap q o v (swap.CleanSwap c m n)) here

      cleans : Cleaning t.sizes notes own c
      cleans = at_it.2.0

      link : q ≡ at.Link c.node c.position
      link = at_it.2.1

      past : PastSwap (sizes t.sizes) l (swap.CleanSwap c m n)
      past = past_here t k run e s b (plan [] (Swap q o v (swap.CleanSwap c m n))) here

      owed : List Write → List Write
      owed ws = (ws ++ release_of n) ++ w.Release m ∷ []

      next : Point
      next = clean_at c.node c.position.index c.round

      calm : (ws : List Write) → Calm ws → Calm (owed ws)
      calm ws d i = owes_both (ws ++ release_of n) (w.Release m ∷ []) i ∙ ap (λ (x : Bool). x || false) (owes_both ws (release_of n) i ∙ ap (λ (x : Bool). x || owes_fill (release_of n) i) (d i) ∙ release_calm n i)

      fills : (ws : List Write) (r : Record) → filled_with ws r ≡ 0 → filled_with (owed ws) r ≡ 0
      fills ws r d = let x = filled_both (ws ++ release_of n) (w.Release m ∷ []) r in let y = filled_both ws (release_of n) r in let a = release_fills n r in omega (arith, x, y, a, d)

      releases : (ws : List Write) (r : Record) → releases_of ws r ≡ 0 → releases_of (owed ws) r ≡ once n r + once (Some m) r
      releases ws r d = let x = releases_both (ws ++ release_of n) (w.Release m ∷ []) r in let y = releases_both ws (release_of n) r in let a = release_once n r in omega (arith, x, y, a, d)

      holds : (j : Ledger) (ws : List Write) → Calm ws → ((r : Record) → releases_of ws r ≡ 0) → ((r : Record) → filled_with ws r ≡ 0) → (r : Record) → HoldsBy (t.shared.slots me) (l.holds s r) (Some (plan (owed ws) next)) (acted Outcome.Done) r
      holds j ws a d f r =
          let x = releases ws r (d r) in
          onward_holds (sizes t.sizes) j (t.shared.slots me) (l.holds s r) (l.holds s r) (Swap q o v (swap.CleanSwap c m n)) (owed ws) (plan (owed ws) next) Outcome.Done r (λ i. refl) refl (omega (arith, x)) (calm ws a) (fills ws r (f r))
          (plain_onward (sizes t.sizes) j (owed ws) next (clean_round (sizes t.sizes) j c.node c.position.index c.round)) (holds_in t k run e s b (plan [] (Swap q o v (swap.CleanSwap c m n))) here (acted Outcome.Done) is r)

      -- the record that is cleaned is withdrawn
      withdrawn : l.standing c.node ≡ Retired
      withdrawn = standing_same t k run e s b c.node ∙ listed c.round cleans.cleanable
        where
          listed : (g : Round) → Cleanable t.sizes notes own.claiming own.valid c.node.number g → k.state.standing c.node.number ≡ Retired
          listed (Own left) (_, j, x) =
              let i = cleans.unscanned.filed.front_low left j in
              let most = k.lawful.t1 in
              let few = lw in
              k.inv.listed.retired (place_number me (place_of notes.list left)) c.node.number (omega arith) (cleans.unscanned.filed.front left j ∙ ap Some x)
          listed (All y i) (_, x, _, _) = let (j, u, _, f, _) = k.inv.claimed.listed me c.node.number lw x in k.inv.listed.retired j c.node.number u f

      by : (h : Bool) → same_name (name_at t.shared q) o ≡ h → Came t run e s lw (cond h (set_name t.shared q v) t.shared) (cond h (named t.standing v) t.standing) notes t.pool (settle (plan (owed (cond h (counts_of n (Some m)) [])) next))
      by false hit = arrives t run e s lw t.shared t.standing notes t.pool l Outcome.Done (still t k run e s b (acted Outcome.Done) is) (plan (owed []) next)
          (after_same t k run e s b (plan (owed []) next) (acted Outcome.Done) (holds l [] (λ i. refl) (λ r. refl) (λ r. refl)) (refl, tt, calm [] (λ i. refl)) tt)
      by true hit = arrives t run e s lw (set_name t.shared q v) (named t.standing v) notes t.pool (write l q v) Outcome.Done
          (explains.silent (ledger.lead c.node c.position v) (still t k run e s b (acted Outcome.Done) is) (withdrawn, leads, lasting, ap (λ (i : Spot). write l i v) link))
          (plan (owed (counts_of n (Some m))) next)
          (after_write q v (clean_spotted t.sizes k.lawful me b lw t.shared t.standing k.state k.inv k.fits.agrees notes q c cleans link) small (plan (owed (counts_of n (Some m))) next) (acted Outcome.Done)
          (holds (write l q v) (counts_of n (Some m)) (counts_calm n (Some m)) (counts_releases n (Some m)) (counts_fills n (Some m))) (refl, tt, calm (counts_of n (Some m)) (counts_calm n (Some m))) tt)
        where
          new : v ≡ n
          new = at_it.2.3

          names_it : l.names (at.Link c.node c.position) ≡ Some m
          names_it = ap l.names (sym link) ∙ e.related.names q ∙ same_name_is (name_at t.shared q) o hit ∙ at_it.2.2

          leads : LeadsTo (sizes t.sizes) l c.position (l.names (at.Link c.node c.position)) v
          leads = subst (λ (i : Option Record). LeadsTo (sizes t.sizes) l c.position i v) (sym names_it) (past.0, subst (λ (i : Option Record). l.since m (following (sizes t.sizes) c.position) i ≡ true) (sym new) past.1)

          lasting : Settled l v
          lasting = subst (λ (i : Option Record). Settled l i) (sym new) (settles l n past.2)

          small : (r : Record) → v ≡ Some r → r.number < 128
          small r y = settled_low v r lasting y

  -- The record of an entry that a scan let through is listed, and out of use.
  pub entry_listed : (c : Reached) (j : phases.Phase) → Stands notes c → Through t.sizes.t1 notes own c j → (place_number me c.entry.place.index < 512) × (k.state.lists (place_number me c.entry.place.index) ≡ Some c.entry.node.number)
  entry_listed c j w d =
      let i = d.filed.front_low c.left (omega arith) in
      let most = k.lawful.t1 in
      let few = lw in
      let here = at_place notes c w in
      (omega arith, ap own.lists (sym here) ∙ d.filed.front c.left (omega arith) ∙ ap (λ (x : Entry). Some x.node.number) (sym w.here))

  -- In giving back a link of such a record comes to name none.
  clears : (x : Point) → (t.seats me).work ≡ Some (plan [] x) → ((i : ℕ) → looks_into x i ≡ false) → ((r : Record) → cleaning_holds x r ≡ 0) → ((r : Record) → in_hand_at [] x r ≡ 0) → e.phases s ≡ acted Outcome.Done →
      (q : Spot) (o v : Option Record) (c : Reached) (i : Position) → q ≡ at.Link c.entry.node i → v ≡ None → i.index < t.sizes.positions → (j : phases.Phase) → through j ≡ true → Stands notes c → Through t.sizes.t1 notes own c j →
      (y : Plan) (n : Notes) → Onward (sizes t.sizes) (write l q v) (lower o) y → Came t run e s lw (set_name t.shared q v) (named t.standing v) n t.pool (settle y)
  clears x here closed none empty is q o v c i link new range j gone w d y n on =
      arrives t run e s lw (set_name t.shared q v) (named t.standing v) n t.pool (write l q v) Outcome.Done
      (explains.silent (ledger.clear c.entry.node i) (still t k run e s b (acted Outcome.Done) is) (unused, (inside, range), ap (λ (u : Spot). write l u v) link ∙ ap (λ (u : Option Record). write l (at.Link c.entry.node i) u) new)) y
      (after_write q v spotted (λ r h. absurd (none_not r (sym new ∙ h))) y (acted Outcome.Done) holds (on.round.acted y.owed (on.calm (lower_calm o))) on.round.past)
    where
      unused : OutOfUse (sizes t.sizes) l c.entry.node
      unused = let (u, f) = entry_listed c j w d in out_of_use t k run e c.entry.node (place_number me c.entry.place.index) u f (ap through d.here ∙ gone)

      inside : c.entry.node.number < t.sizes.records
      inside = (orderly t k run e s b).inside c.entry.node (λ h. pooled≢retired (l.standing c.entry.node) h unused.0)

      spotted : Spotted q
      spotted = let most = k.lawful.records in let four = k.lawful.positions in let u = inside in subst Spotted (sym link) (omega arith, omega arith)

      none_not : (r : Record) → ◌≡◌ {A = Option Record} None (Some r) → ⊥
      none_not r h = grind arith

      holds : (r : Record) → HoldsBy (t.shared.slots me) (l.holds s r) (Some y) (acted Outcome.Done) r
      holds r =
          let a = none r in
          let f = lower_releases o r in
          onward_holds (sizes t.sizes) (write l q v) (t.shared.slots me) (l.holds s r) (l.holds s r) x (lower o) y Outcome.Done r closed (empty r) (omega (arith, a, f)) (lower_calm o) (lower_fills o r) on
          (holds_in t k run e s b (plan [] x) here (acted Outcome.Done) is r)

  -- Every swap,
  pub swap_turn : (q : Spot) (o v : Option Record) (g : AfterSwap) (pick : Option ℕ) → (t.seats me).work ≡ Some (plan [] (Swap q o v g)) → Turned t run s pick (plan [] (Swap q o v g))
  swap_turn q o v g pick here = on g here (same_name (name_at t.shared q) o) refl
    where
      Next : AfterSwap → Bool → Type 0
      Next g h = Came t run e s lw (cond h (set_name t.shared q v) t.shared) (cond h (named t.standing v) t.standing) (noted notes (swapped_of h o v g (sight_in t.sizes (cond h (set_name t.shared q v) t.shared) me) notes).note) t.pool
          (settle (swapped_of h o v g (sight_in t.sizes (cond h (set_name t.shared q v) t.shared) me) notes).does)

      on : (g : AfterSwap) → (t.seats me).work ≡ Some (plan [] (Swap q o v g)) → (h : Bool) → same_name (name_at t.shared q) o ≡ h → Next g h
      on swap.Answer here h hit = by_phase t k run e s b (plan [] (Swap q o v swap.Answer)) here (Next swap.Answer h)
          (λ c is d. let (same, _, range) = swap_waits (sizes t.sizes) t.standing c q o v swap.Answer d in cas_turn q o v here (is ∙ ap waiting same) range h hit)
          (λ a is d. absurd d.1)
      on (swap.CleanSwap c m n) here h hit = by_phase t k run e s b (plan [] (Swap q o v (swap.CleanSwap c m n))) here (Next (swap.CleanSwap c m n) h)
          (λ c is d. absurd (waits_at (sizes t.sizes) t.standing c (plan [] _) d))
          (λ a is d. lead_turn q o v c m n here (is ∙ ap acted d.0) h hit (sight_in t.sizes (cond h (set_name t.shared q v) t.shared) me))
      on (swap.ClearLink c i) here true hit = by_phase t k run e s b (plan [] (Swap q o v (swap.ClearLink c i))) here (Next (swap.ClearLink c i) true)
          (λ c is d. absurd (waits_at (sizes t.sizes) t.standing c (plan [] _) d))
          (λ a is d.
          let (_, _, (w, x, range, link, new, _, _)) = at_point t k run e s b (Swap q o v (swap.ClearLink c i)) here in
          clears (Swap q o v (swap.ClearLink c i)) here (λ i. refl) (λ r. refl) (λ r. refl) (is ∙ ap acted d.0) q o v c i link new range phases.emptied refl w x _ _ (cleared_yes_onward (sizes t.sizes) (write l q v) o c i (sight_in t.sizes (set_name t.shared q v) me) notes))
      on (swap.ClearLink c i) here false hit = by_phase t k run e s b (plan [] (Swap q o v (swap.ClearLink c i))) here (Next (swap.ClearLink c i) false)
          (λ c is d. absurd (waits_at (sizes t.sizes) t.standing c (plan [] _) d))
          (λ a is d. quiet_turn t k run e s b (Swap q o v (swap.ClearLink c i)) here (λ i. refl) (λ r. refl) (λ r. refl) a is d.0 (cleared_of false o c i (sight_in t.sizes t.shared me) notes).does notes (cleared_no_onward (sizes t.sizes) l o c i (sight_in t.sizes t.shared me) notes))

  -- and every overwrite.
  pub overwrite_turn : (q : Spot) (o v : Option Record) (g : AfterStore) (pick : Option ℕ) → (t.seats me).work ≡ Some (plan [] (Overwrite q o v g)) → Turned t run s pick (plan [] (Overwrite q o v g))
  overwrite_turn q o v store.Answer pick here = by_phase t k run e s b (plan [] (Overwrite q o v store.Answer)) here (Turned t run s pick (plan [] (Overwrite q o v store.Answer)))
      (λ c is d. let (r, x, same, link, _, range) = overwrite_waits (sizes t.sizes) t.standing c q o v store.Answer d in store_turn q o v here r x link (is ∙ ap waiting same) range)
      (λ a is d. absurd d.1)
  overwrite_turn q o v (store.GiveBack c i) pick here = by_phase t k run e s b (plan [] (Overwrite q o v (store.GiveBack c i))) here (Turned t run s pick (plan [] (Overwrite q o v (store.GiveBack c i))))
      (λ a is d. absurd (waits_at (sizes t.sizes) t.standing a (plan [] _) d))
      (λ a is d.
      let (_, _, (w, x, range, link, new, _, _, _), _, _) = at_point t k run e s b (Overwrite q o v (store.GiveBack c i)) here in
      clears (Overwrite q o v (store.GiveBack c i)) here (λ i. refl) (λ r. refl) (λ r. refl) (is ∙ ap acted d.0) q o v c i link new range phases.giving refl w x _ _ (emptied_onward (sizes t.sizes) (write l q v) (lower o) c i (sight_in t.sizes (set_name t.shared q v) me)))
