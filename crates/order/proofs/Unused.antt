-- A record that a scan has let through is out of use: for the ledger too, nobody holds it and nothing names it.
use Rattle.std.proofs.Common.{◌≡◌, ℕ, zero, suc, ◌+◌, ◌<◌, Bool, true, false, cond, ◌&&◌, ◌||◌, List, [], ◌∷◌, Some, None, Option, sym, refl, ap, ◌∙◌, inl, inr, arith}
use Rattle.std.proofs.lemmas.Bool.{cases_Bool, true≢false, eq-eqb}
use Rattle.terms.specs.declared.Record.{Record}
use Rattle.terms.specs.declared.Station.{Station}
use Rattle.terms.specs.declared.Spot.{Spot}
use Rattle.terms.specs.declared.Spot.TheVariants as at
use Rattle.terms.specs.declared.Outcome.{Outcome}
use Rattle.terms.specs.declared.Standing.{Standing}
use Rattle.terms.specs.declared.Standing.TheVariants.{Retired}
use Rattle.terms.specs.declared.Operation.TheVariants as op
use Rattle.terms.specs.Words.{same_name}
use Rattle.memory.specs.declared.access.Write.{Write}
use Rattle.memory.specs.declared.access.Write.TheVariants as w
use Rattle.work.specs.declared.work.Point.{Point}
use Rattle.work.specs.declared.work.Point.TheVariants.{End, Take, Look, LookAgain, Verify, Swap, Save, Overwrite, AskDeleted, AskPlace, AskDone, AskPlaceAgain, CountFirst, CountAgain, AskSlot, CountSecond, AskTrace, AskClaims, AskLink, Give}
use Rattle.work.specs.Plans.{Plan, plan, Notes}
use Rattle.machine.specs.Tables.{Table}
use Rattle.machine.specs.Tables as machine
use Rattle.machine.specs.Holds.{owes_fill, is_verified}
use Rattle.protocol.specs.Shape.{through}
use Rattle.protocol.specs.Clauses.{Unreferenced}
use Rattle.protocol.proofs.Words.{none_some, upd_same}
use Rattle.laws.specs.Numbers.{shape, slot_number, spot_number}
use Rattle.laws.specs.Agree.{num}
use Rattle.laws.specs.Mine.{Mine, mine}
use Rattle.laws.specs.Owes as owes
use Rattle.laws.specs.Owes.{Owes}
use Rattle.laws.specs.Points.{AtPoint}
use Rattle.laws.specs.Fits.{Working, Sound}
use Rattle.laws.proofs.Rows.{row_at}
use Rattle.laws.proofs.Names.{same_num}
use Rattle.laws.proofs.Holding.{verified_holds}
use Rattle.laws.proofs.Spots.{Spotted, spotted_below, spot_names}
use Rattle.ledger.proofs.Words.{same_name_is, fresh≢retired}
use Rattle.ledger.specs.Ledger.{Sizes, Ledger, Inside, OutOfUse}
use Rattle.ledger.specs.Explains.{Phase, resting, waiting, acted, Run}
use Rattle.order.specs.Counts.{count, slots_holding, once, filled_with, in_hand_at, in_hand}
use Rattle.order.specs.Phases.{InPhase, Calm, Filling, all, two, one, Looks, Stores, first, again, writes, verifies, reads, overwrites, beside}
use Rattle.order.specs.Relation.{sizes}
use Rattle.order.specs.Theorems.{Explained}

-- A test that no number below n passes counts 0.
pub count_zero : (f : ℕ → Bool) (n : ℕ) → ((i : ℕ) → i < n → f i ≡ false) → count f n ≡ 0
unfolding count
count_zero f zero h = refl
count_zero f (suc n) h = ap (λ (b : Bool). cond b (suc (count f n)) (count f n)) (h n (omega arith)) ∙ count_zero f n (λ i l. h i (omega arith))

both_not : (a b : Bool) → (a ≡ true → b ≡ true → ⊥) → (a && b) ≡ false
both_not true true d = absurd (d refl refl)
both_not true false d = refl
both_not false b d = refl

once_zero : (v : Option Record) (r : Record) → (v ≡ Some r → ⊥) → once v r ≡ 0
once_zero None r d = refl
once_zero (Some x) r d = elim (cases_Bool (same_name (Some x) (Some r))) [
  | inl e ↦ absurd (d (same_name_is (Some x) (Some r) e))
  | inr e ↦ ap (λ (b : Bool). cond b 1 0) e
]

-- Where no write of a slot is owed, nothing is in hand.
calm_empty : (ws : List Write) (r : Record) → Calm ws → filled_with ws r ≡ 0
calm_empty [] r c = refl
calm_empty (w.FillSlot j v ∷ ws) r c = absurd (true≢false (sym (ap (λ (x : Bool). x || owes_fill ws j.index) (eq-eqb j.index j.index refl)) ∙ c j.index))
calm_empty (w.Release x ∷ ws) r c = calm_empty ws r c
calm_empty (w.ZeroCount x ∷ ws) r c = calm_empty ws r c
calm_empty (w.ClearDeleted x ∷ ws) r c = calm_empty ws r c
calm_empty (w.RaiseCount x ∷ ws) r c = calm_empty ws r c
calm_empty (w.ClearTraceOfHeld x ∷ ws) r c = calm_empty ws r c
calm_empty (w.LowerCount x ∷ ws) r c = calm_empty ws r c
calm_empty (w.SetDeleted x ∷ ws) r c = calm_empty ws r c
calm_empty (w.ClearTraceOfListed x ∷ ws) r c = calm_empty ws r c
calm_empty (w.ClearDone j ∷ ws) r c = calm_empty ws r c
calm_empty (w.FillPlace j x ∷ ws) r c = calm_empty ws r c
calm_empty (w.SetTrace x ∷ ws) r c = calm_empty ws r c
calm_empty (w.EmptyPlace j ∷ ws) r c = calm_empty ws r c
calm_empty (w.SetDone j ∷ ws) r c = calm_empty ws r c
calm_empty (w.AddClaim q j ∷ ws) r c = calm_empty ws r c
calm_empty (w.DropClaim q j ∷ ws) r c = calm_empty ws r c

not_in_hand : (m : Mine) (x r : Record) → m.hand ≡ Some x.number → (m.hand ≡ Some r.number → ⊥) → once (Some x) r + 0 ≡ 0
not_in_hand m x r h d = let none = once_zero (Some x) r (λ e. d (h ∙ ap num e)) in omega (arith, none)

-- What NEW still has in hand it has so for the protocol.
filling_hand : (z : machine.Sizes) (n : Notes) (m : Mine) (o : Outcome) (ws : List Write) → Filling ws → Owes z.each (AtPoint z n (End o)) m ws → (r : Record) → (m.hand ≡ Some r.number → ⊥) → filled_with ws r ≡ 0
filling_hand z n m o _ (all x i) (owes.zero_count _ h _) r d = not_in_hand m x r h d
filling_hand z n m o _ (two x i) (owes.clear_deleted _ h _) r d = not_in_hand m x r h d
filling_hand z n m o _ (one x i) (owes.hold_new _ _ _ _ h _ _) r d = not_in_hand m x r h d
filling_hand z n m o _ (one x i) (owes.write_slot _ _ _ h (owes.paid k)) r d = absurd (none_some (sym h ∙ k.1 i.index ∙ upd_same m.slot i.index (Some x.number) i.index refl))

-- No dereference and no store ends before its act.
not_looks : {q : Spot} {u : Plan} → Looks q u → {o : Outcome} → u.point ≡ End o → ⊥
not_looks first e = grind arith
not_looks (again j) e = grind arith
not_looks (writes j u) e = grind arith
not_looks (verifies j u) e = grind arith

not_stores : {q : Spot} {c : Option Record} {u : Plan} → Stores q c u → {o : Outcome} → u.point ≡ End o → ⊥
not_stores reads e = grind arith
not_stores (overwrites j) e = grind arith

-- Nothing is in hand of a record that the protocol has in no hand.
hand_zero : (z : machine.Sizes) (y : Sizes) (f : ℕ → Standing) (n : Notes) (m : Mine) (v : Option Plan) (x : Phase) → InPhase y f v x → Working z n m v → (r : Record) → (m.hand ≡ Some r.number → ⊥) → in_hand v r ≡ 0
hand_zero z y f n m None x i k r d = refl
hand_zero z y f n m (Some v) x i k r d = at_end v.owed v.point x i k
  where
    at_end : (ws : List Write) (q : Point) → (x : Phase) → InPhase y f (Some (plan ws q)) x → Owes z.each (AtPoint z n q) m ws → in_hand_at ws q r ≡ 0
    at_end ws (End o) resting i k = absurd i
    at_end ws (End o) (waiting op.New) i k = absurd (grind arith)
    at_end ws (End o) (waiting (op.Deref q)) i k = absurd (not_looks i.0 refl)
    at_end ws (End o) (waiting (op.Release q)) (i, _) k = ap (λ (u : Plan). filled_with u.owed r) i
    at_end ws (End o) (waiting (op.Cas q u v)) i k = absurd (grind arith)
    at_end ws (End o) (waiting (op.Store q u v)) i k = absurd (not_stores i.0 refl)
    at_end ws (End o) (waiting (op.Delete q)) i k = absurd i
    at_end ws (End o) (acted c) (_, inl j) k = calm_empty ws r j
    at_end ws (End o) (acted c) (_, inr j) k = filling_hand z n m o ws j k r d
    at_end ws Take x i k = refl
    at_end ws (Look q g) x i k = refl
    at_end ws (LookAgain q j g) x i k = refl
    at_end ws (Verify q j u g) x i k = refl
    at_end ws (Swap q u v g) x i k = refl
    at_end ws (Save q u g) x i k = refl
    at_end ws (Overwrite q u v g) x i k = refl
    at_end ws (AskDeleted c j) x i k = refl
    at_end ws (AskPlace q j) x i k = refl
    at_end ws (AskDone q j u) x i k = refl
    at_end ws (AskPlaceAgain q j u) x i k = refl
    at_end ws (CountFirst c) x i k = refl
    at_end ws (CountAgain c) x i k = refl
    at_end ws (AskSlot q j) x i k = refl
    at_end ws (CountSecond c) x i k = refl
    at_end ws (AskTrace c) x i k = refl
    at_end ws (AskClaims c) x i k = refl
    at_end ws (AskLink c j) x i k = refl
    at_end ws (Give c) x i k = refl

-- The record r, listed under the place w of the protocol, was let through by the scan.
module _ (t : Table) (k : Sound t) (run : Run) (e : Explained t run) (r : Record) (w : ℕ) (below : w < 512) (full : k.state.lists w ≡ Some r.number) (gone : through (k.state.phase w) ≡ true) where
  abbrev l : Ledger
  l = e.ledger

  nowhere : Unreferenced shape k.state.names k.state.owes_up k.state.owes_clear k.state.owes_down k.state.held r.number
  nowhere = k.inv.gone.unreferenced w r.number below gone full

  protocol_retired : k.state.standing r.number ≡ Retired
  protocol_retired = k.inv.listed.retired w r.number below full

  retired : l.standing r ≡ Retired
  retired = e.related.standings r ∙ sym (k.fits.agrees.standings r.number) ∙ protocol_retired

  not_in_slot : (q i : ℕ) → q < t.sizes.stations → i < 8 → same_name (t.shared.slots q i) (Some r) ≡ true → is_verified (t.seats q).work i ≡ true → ⊥
  not_in_slot q i b h same firm =
      let most = k.lawful.stations in
      let named : (mine k.state q).slot i ≡ Some r.number = row_at k.state.slot q i h ∙ k.fits.agrees.slots q i h ∙ same_num (t.shared.slots q i) (Some r) same in
      nowhere.slots (slot_number q i) (omega arith)
      (sym (row_at k.state.held q i h) ∙ verified_holds t.sizes (t.seats q).notes (mine k.state q) (t.seats q).work i (k.fits.seats q b) firm r.number named)

  -- Nobody holds it, and no operation has it beside.
  pub nobody : (q : Station) → q.number < t.sizes.stations → (l.holds q r ≡ 0) × (beside (t.seats q.number).work (e.phases q) r ≡ 0)
  nobody q b =
      let most = k.lawful.stations in
      let h = e.related.holds q r b in
      let slots : slots_holding t q.number r ≡ 0 = count_zero _ 8 (λ i i8. both_not _ _ (λ same firm. not_in_slot q.number i b i8 same firm)) in
      let hand = hand_zero t.sizes (sizes t.sizes) t.standing (t.seats q.number).notes (mine k.state q.number) (t.seats q.number).work (e.phases q) (e.related.phases q b) (k.fits.seats q.number b) r
      (λ x. fresh≢retired (k.state.standing r.number) (k.inv.held.fresh q.number r.number (omega arith) x) protocol_retired) in
      (omega (arith, h, slots, hand), omega (arith, h, slots, hand))

  spotted : (q : Spot) → Inside (sizes t.sizes) q → Spotted q
  spotted (at.Root g) i = let most = k.lawful.roots in omega arith
  spotted (at.Link c x) (i, j) = let most = k.lawful.records in let four = k.lawful.positions in (omega arith, omega arith)

  pub out_of_use : OutOfUse (sizes t.sizes) l r
  out_of_use = (
    retired,
    (λ q b. (nobody q b).0),
    λ q i x. nowhere.spots (spot_number q) (spotted_below q (spotted q i))
        (spot_names t.sizes t.shared t.standing k.state k.fits.agrees q (spotted q i) ∙ ap num (sym (e.related.names q) ∙ x)),
  )
