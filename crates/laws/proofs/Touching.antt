-- Whatever record an access touches or gives back, its station may touch.
use Rattle.std.proofs.Common.{◌≡◌, ℕ, ◌+◌, ◌<◌, ◌⊎◌, List, [], ◌∷◌, length, Some, None, Option, sym, refl, ap, ◌∙◌, subst, inl, inr, arith}
use Rattle.terms.specs.declared.Record.{Record}
use Rattle.terms.specs.declared.Spot.{Spot}
use Rattle.terms.specs.declared.Spot.TheVariants as at
use Rattle.terms.specs.declared.Standing.{Standing}
use Rattle.memory.specs.declared.access.Write.{Write}
use Rattle.memory.specs.declared.access.Access.{Access}
use Rattle.memory.specs.Shared.{Shared}
use Rattle.memory.specs.Perform.{container, touched_by_write, touched, given}
use Rattle.work.specs.declared.work.Entry.{Entry}
use Rattle.work.specs.declared.work.Reached.{Reached}
use Rattle.work.specs.declared.work.AfterLook.{AfterLook}
use Rattle.work.specs.declared.work.AfterLook.TheVariants as look
use Rattle.work.specs.declared.work.AfterSwap.{AfterSwap}
use Rattle.work.specs.declared.work.AfterSwap.TheVariants as swap
use Rattle.work.specs.declared.work.AfterStore.{AfterStore}
use Rattle.work.specs.declared.work.AfterStore.TheVariants as store
use Rattle.work.specs.declared.work.Point.{Point}
use Rattle.work.specs.declared.work.Point.TheVariants.{End, Take, Look, LookAgain, Verify, Swap, Save, Overwrite, AskDeleted, AskPlace, AskDone, AskPlaceAgain, CountFirst, CountAgain, AskSlot, CountSecond, AskTrace, AskClaims, AskLink, Give}
use Rattle.work.specs.Plans.{Plan, Notes, access_at, next_access}
use Rattle.machine.specs.Tables.{Sizes}
use Rattle.protocol.specs.State.{State}
use Rattle.protocol.specs.Invariant.{Inv}
use Rattle.protocol.specs.Theorems.{MayTouch, as_held, as_listed, as_owed, in_hand}
use Rattle.protocol.proofs.Words.{none_some, some_same}
use Rattle.protocol.proofs.Promises.{touches_live}
use Rattle.laws.specs.Numbers.{shape, place_number}
use Rattle.laws.specs.Agree.{Agrees, num}
use Rattle.laws.specs.Mine.{Mine, mine}
use Rattle.laws.specs.Owes as owes
use Rattle.laws.specs.Owes.{Owes, Lists}
use Rattle.laws.specs.Lists.{place_of, Stands, Filed}
use Rattle.laws.specs.Points.{AtPoint, Firm, Opened, Naming, Within, Before, During, Swapping, Into, clean_spot, next_spot}
use Rattle.laws.specs.Fits.{Lawful, Working}
use Rattle.laws.specs.Theorems.{TouchesLive}
use Rattle.laws.proofs.Owed.{own_place}
use Rattle.laws.proofs.Dereference.{held_may, clean_may}

-- The access, if any, touches or gives back r.
abbrev Touches : Option Access → Record → Type 0
Touches None r = ⊥
Touches (Some x) r = (touched x ≡ Some r) ⊎ (given x ≡ Some r)

number : (c r : Record) → ◌≡◌ {A = Option Record} (Some c) (Some r) → c.number ≡ r.number
number c r e = some_same (ap num e)

no_record : (r : Record) → ◌≡◌ {A = Option Record} None (Some r) → ⊥
no_record r e = none_some (ap num e)

module _ (z : Sizes) (y : Lawful z) (p : ℕ) (pS : p < z.stations) (pN : p < 8) (s : Shared) (f : ℕ → Standing) (a : State) (b : Inv shape a) (g : Agrees z s f a) (n : Notes) where
  same : (c r : Record) → ◌≡◌ {A = Option Record} (Some c) (Some r) → MayTouch shape a p c.number → MayTouch shape a p r.number
  same c r e k = subst (λ (i : ℕ). MayTouch shape a p i) (number c r e) k

  listed : (j r : ℕ) → Lists (mine a p) j r → MayTouch shape a p r
  listed j r l = let k = own_place a p j r pN l in as_listed (place_number p j) k.below k.mine k.full

  owed_touch : (At : Mine → Type 0) (w : Write) (ws : List Write) → Owes z.each At (mine a p) (w ∷ ws) → (r : Record) → touched_by_write w ≡ Some r → MayTouch shape a p r.number
  owed_touch At _ ws (owes.zero_count c e o) r h = same c r h (in_hand e)
  owed_touch At _ ws (owes.clear_deleted c e o) r h = same c r h (in_hand e)
  owed_touch At _ ws (owes.hold_new i c l e k v o) r h = absurd (no_record r h)
  owed_touch At _ ws (owes.write_slot i v l e o) r h = absurd (no_record r h)
  owed_touch At _ ws (owes.release c q f i l e o) r h = absurd (no_record r h)
  owed_touch At _ ws (owes.raise_count c e o) r h = same c r h (as_held (b.owed.kept p c.number pN (b.owed.first p c.number pN e)))
  owed_touch At _ ws (owes.clear_trace c u e o) r h = same c r h (as_held (b.owed.kept p c.number pN e))
  owed_touch At _ ws (owes.lower_count c e o) r h = same c r h (as_owed e)
  owed_touch At _ ws (owes.mark_deleted c j k o) r h = same c r h (listed j c.number k)
  owed_touch At _ ws (owes.reset_trace c j k o) r h = same c r h (listed j c.number k)
  owed_touch At _ ws (owes.clear_done i o) r h = absurd (no_record r h)
  owed_touch At _ ws (owes.fill_place i c k e o) r h = absurd (no_record r h)
  owed_touch At _ ws (owes.mark_trace c j k e o) r h = same c r h (listed j c.number k)
  owed_touch At _ ws (owes.unmark_trace c j k e u o) r h = same c r h (listed j c.number k)
  owed_touch At _ ws (owes.empty_place i c k e o) r h = absurd (no_record r h)
  owed_touch At _ ws (owes.set_done i o) r h = absurd (no_record r h)
  owed_touch At _ ws (owes.refill_place i c k e o) r h = absurd (no_record r h)
  owed_touch At _ ws (owes.claim q i l k e o) r h = absurd (no_record r h)
  owed_touch At _ ws (owes.unclaim q i l k e o) r h = absurd (no_record r h)

  -- An entry that the walk stands at.
  entry : (e : Reached) (k : ℕ) (ks : List Entry) → Stands n e → e.left < k → Filed z.t1 (mine a p).lists n.list k ks → MayTouch shape a p e.entry.node.number
  entry e k ks w l d =
      let u = y.t1 in
      let low = d.front_low e.left l in
      as_listed (place_number p (place_of n.list e.left)) (omega arith) (omega arith) (d.front e.left l ∙ ap (λ (x : Entry). Some x.node.number) (sym w.here))

  named_slot : (l r : ℕ) → (mine a p).held l ≡ (mine a p).slot l → Naming z.each (mine a p).slot (Some r) l → MayTouch shape a p r
  named_slot l r e w = let u = y.each in let k = w.below in held_may z y p pS pN s f a b g n r (l, omega arith, e ∙ w.names)

  spot_touch : (q : Spot) → Within z (mine a p).held q → (r : Record) → container q ≡ Some r → MayTouch shape a p r.number
  spot_touch (at.Root i) w r h = absurd (no_record r h)
  spot_touch (at.Link c x) (l, k) r h = same c r h (held_may z y p pS pN s f a b g n c.number k)

  -- The container of a spot that is the link of c.
  link_touch : (q q2 : Spot) (c r : Record) → q ≡ q2 → container q2 ≡ Some c → container q ≡ Some r → MayTouch shape a p c.number → MayTouch shape a p r.number
  link_touch q q2 c r e h k m = same c r (sym h ∙ ap container (sym e) ∙ k) m

  before_touch : (q : Spot) (h : AfterLook) → Firm (mine a p).slot (mine a p).held → Before z n (mine a p) q h → (r : Record) → container q ≡ Some r → MayTouch shape a p r.number
  before_touch q look.Answer firm (_, w, _) r k = spot_touch q w r k
  before_touch q (look.CleanLink c) firm (w, e, _) r k = link_touch q (clean_spot c) c.node r e refl k (clean_may z y p pS pN s f a b g n c w)
  before_touch q (look.CleanNext c m) firm (w, e, _, (l, v)) r k = link_touch q (next_spot z c m) m r e refl k (named_slot l m.number (firm l) v)

  during_touch : (q : Spot) (i : ℕ) (h : AfterLook) → Opened z.each (mine a p).slot (mine a p).held i → During z n (mine a p) q i h → (r : Record) → container q ≡ Some r → MayTouch shape a p r.number
  during_touch q i look.Answer o (_, w, _) r k = spot_touch q w r k
  during_touch q i (look.CleanLink c) o (w, e, _) r k = link_touch q (clean_spot c) c.node r e refl k (clean_may z y p pS pN s f a b g n c w)
  during_touch q i (look.CleanNext c m) o (w, e, (l, d, v)) r k = link_touch q (next_spot z c m) m r e refl k (named_slot l m.number (o.others l d) v)

  swap_touch : (q : Spot) (o v : Option Record) (h : AfterSwap) → Swapping z n (mine a p) q o v h → (r : Record) → container q ≡ Some r → MayTouch shape a p r.number
  swap_touch q o v swap.Answer (_, w, _, _) r k = spot_touch q w r k
  swap_touch q o v (swap.CleanSwap c m t) (w, e, _, _, _) r k = link_touch q (clean_spot c) c.node r e refl k (clean_may z y p pS pN s f a b g n c w)
  swap_touch q o v (swap.ClearLink e x) (w, d, _, h, _, _, _) r k = link_touch q (Spot.Link e.entry.node x) e.entry.node r h refl k (entry e (e.left + 1) n.kept w (omega arith) d.filed)

  store_touch : (q : Spot) (v : Option Record) (h : AfterStore) → Into z n (mine a p) q v h → (r : Record) → container q ≡ Some r → MayTouch shape a p r.number
  store_touch q v store.Answer (_, (c, x, e, _, held), _, _) r k = link_touch q (Spot.Link c x) c r e refl k (held_may z y p pS pN s f a b g n c.number held)
  store_touch q v (store.GiveBack e x) (w, d, _, h, _, _, _, _) r k = link_touch q (Spot.Link e.entry.node x) e.entry.node r h refl k (entry e (e.left + 1) n.kept w (omega arith) d.filed)

  word : (x : Option Record) (r : Record) → (x ≡ Some r) ⊎ (◌≡◌ {A = Option Record} None (Some r)) → (x ≡ Some r → MayTouch shape a p r.number) → MayTouch shape a p r.number
  word x r (inl e) k = k e
  word x r (inr e) k = absurd (no_record r e)

  decide_touch : (x : Point) → AtPoint z n x (mine a p) → (r : Record) → Touches (access_at x) r → MayTouch shape a p r.number
  decide_touch (End o) k r t = absurd t
  decide_touch Take k r t = word None r t (λ h. absurd (no_record r h))
  decide_touch (Look q h) (k, firm, w) r t = word (container q) r t (before_touch q h firm w r)
  decide_touch (LookAgain q i h) (k, o, w) r t = word (container q) r t (during_touch q i.index h o w r)
  decide_touch (Verify q i v h) (k, o, w, e) r t = word (container q) r t (during_touch q i.index h o w r)
  decide_touch (Swap q o v h) (k, firm, w) r t = word (container q) r t (swap_touch q o v h w r)
  decide_touch (Save q v h) (k, firm, w) r t = word (container q) r t (store_touch q v h w r)
  decide_touch (Overwrite q o v h) (k, firm, w, _, _) r t = word (container q) r t (store_touch q v h w r)
  decide_touch (AskDeleted c m) (k, firm, w, room, (l, v)) r t = word (Some m) r t (λ h. same m r h (named_slot l m.number (firm l) v))
  decide_touch (AskPlace q i) k r t = word None r t (λ h. absurd (no_record r h))
  decide_touch (AskDone q i m) k r t = word None r t (λ h. absurd (no_record r h))
  decide_touch (AskPlaceAgain q i m) k r t = word None r t (λ h. absurd (no_record r h))
  decide_touch (CountFirst e) (k, firm, c, d, w, h) r t = word (Some e.entry.node) r t (λ v. same e.entry.node r v (entry e (length n.list) [] w w.below d.filed))
  decide_touch (CountAgain e) (k, firm, c, w, here, (v, d, h, others)) r t = word (Some e.entry.node) r t (λ x. same e.entry.node r x (entry e (length n.list) [] w w.below d.filed))
  decide_touch (AskSlot q i) k r t = word None r t (λ h. absurd (no_record r h))
  decide_touch (CountSecond e) (k, firm, c, w, d) r t = word (Some e.entry.node) r t (λ v. same e.entry.node r v (entry e (e.left + 1) n.kept w (omega arith) d.filed))
  decide_touch (AskTrace e) (k, firm, c, w, d) r t = word (Some e.entry.node) r t (λ v. same e.entry.node r v (entry e (e.left + 1) n.kept w (omega arith) d.filed))
  decide_touch (AskClaims e) k r t = word None r t (λ h. absurd (no_record r h))
  decide_touch (AskLink e x) (k, firm, c, w, d, l) r t = word (Some e.entry.node) r t (λ v. same e.entry.node r v (entry e (e.left + 1) n.kept w (omega arith) d.filed))
  decide_touch (Give e) (k, firm, c, w, d, _) r (inl t) = absurd (no_record r t)
  decide_touch (Give e) (k, firm, c, w, d, _) r (inr t) = same e.entry.node r t (entry e (e.left + 1) n.kept w (omega arith) d.filed)

  plan_touch : (ws : List Write) (x : Point) → Owes z.each (AtPoint z n x) (mine a p) ws → (r : Record) → Touches (next_access ws x) r → MayTouch shape a p r.number
  plan_touch [] x (owes.paid k) r t = decide_touch x k r t
  plan_touch (w ∷ ws) x o r (inl t) = owed_touch (AtPoint z n x) w ws o r t
  plan_touch (w ∷ ws) x o r (inr t) = absurd (no_record r t)

pub touches_sound : TouchesLive
touches_sound t k p pS w e x ax r h pooled =
    let most = k.lawful.stations in
    let pN : p < 8 = omega arith in
    let o : Owes t.sizes.each (AtPoint t.sizes (t.seats p).notes w.point) (mine k.state p) w.owed =
    subst (λ (i : Option Plan). Working t.sizes (t.seats p).notes (mine k.state p) i) e (k.fits.seats p pS) in
    let may = plan_touch t.sizes k.lawful p pS pN t.shared t.standing k.state k.inv k.fits.agrees (t.seats p).notes w.owed w.point o r (subst (λ (i : Option Access). Touches i r) (sym ax) h) in
    touches_live shape k.state p pN k.inv r.number may (k.fits.agrees.standings r.number ∙ pooled)
