-- CLEAN and CLEAN ALL, and the rounds of DELETE.
use Rattle.std.proofs.Common.{◌≡◌, ℕ, ◌+◌, ◌<◌, ◌≤◌, Bool, false, cond, eqb, ltb, leb, List, [], ◌∷◌, ◌++◌, length, Some, None, Option, sym, refl, ap, ◌∙◌, inl, inr, arith}
use mathlib.Core.Path.{fun_ext}
use Rattle.std.proofs.lemmas.Bool.{cases_eq, cases_lt, cond-true, cond_both, ltb-true, eqb-false, eq-eqb}
use Rattle.terms.specs.declared.Record.{Record}
use Rattle.memory.specs.declared.access.Write.{Write}
use Rattle.work.specs.Plans.{Notes, Sight, head_of}
use Rattle.work.specs.Steps.{release_of, round_at, round_of, next_place, scan_start, first_pass}
use Rattle.machine.specs.Tables.{Sizes}
use Rattle.protocol.specs.Words.{upd}
use Rattle.protocol.specs.State.{State, Phase, resting}
use Rattle.protocol.proofs.Words.{upd_other, none_some, upd_same}
use Rattle.laws.specs.Numbers.{shape, place_number}
use Rattle.laws.specs.Agree.{num}
use Rattle.laws.specs.Mine.{Mine, mine, Quiet, put_slot, put_held, put_phase, put_read, put_seen}
use Rattle.laws.specs.Owes as owes
use Rattle.laws.specs.Owes.{Owes, emptied_slot}
use Rattle.laws.specs.Lists.{place_of, Unscanned, First}
use Rattle.laws.specs.Points.{AtPoint, Firm, Naming, TwoRooms, RoomBeside, HeldHere}
use Rattle.laws.specs.Fits.{Lawful}
use Rattle.laws.proofs.Rows.{upd_here}
use Rattle.laws.proofs.Rooms.{one_room, firm_on, held_by, two_rooms}
use Rattle.terms.specs.declared.Station.{Station}
use Rattle.terms.specs.declared.Place.{Place}
use Rattle.work.specs.declared.work.Reached.{Reached}
use Rattle.protocol.specs.Effects.{after_reset_scan}
use Rattle.laws.proofs.Walks.{Walk, over, at, walk}

-- what the station has of its own once its scan knows nothing
abbrev pub rested : Mine → Mine
rested m = put_phase (λ _. resting) (put_read 0 (put_seen (λ _. false) m))

pub reset_mine : (a : State) (p : ℕ) → p < 8 → mine (after_reset_scan shape a p) p ≡ rested (mine a p)
reset_mine a p l =
    let phases : ◌≡◌ {A = ℕ → Phase} (λ j. cond (eqb (shape.ofp (place_number p j)) p) resting (a.phase (place_number p j))) (λ _. resting) =
    fun_ext (λ j. cond-true _ resting (a.phase (place_number p j)) (eq-eqb (shape.ofp (place_number p j)) p (omega arith))) in
    ap (λ (x : ℕ → Phase). put_phase x (put_read (upd a.read p 0 p) (put_seen (upd a.seen p (λ _. false) p) (mine a p)))) phases
    ∙ ap (λ (x : ℕ). put_phase (λ _. resting) (put_read x (put_seen (upd a.seen p (λ _. false) p) (mine a p)))) (upd_here a.read p 0)
    ∙ ap (λ (x : ℕ → Bool). put_phase (λ _. resting) (put_read 0 (put_seen x (mine a p)))) (upd_here a.seen p (λ _. false))

-- A release, of a name in the slot l beside an empty one: two slots are empty then.
pub releases : {each : ℕ} {At : Mine → Type 0} (m : Mine) (v : Option Record) (l : ℕ) (ws : List Write) → each ≤ 8 → Quiet m → Firm m.slot m.held →
    ((j r : ℕ) → m.slot j ≡ Some r → j < each) → RoomBeside each m.slot l → Naming each m.slot (num v) l →
    ((σ η : ℕ → Option ℕ) → Firm σ η → TwoRooms each σ → Owes each At (put_slot σ (put_held η m)) ws) → Owes each At m (release_of v ++ ws)
releases m None l ws u q firm below (k, d, e) w on = on m.slot m.held firm (k, l, d, e, record { below = w.below; none = w.names })
releases m (Some r) l ws u q firm below (k, d, e) w on =
    let low = w.below in
    owes.release r q (held_by m.slot m.held firm r.number) l (omega arith) w.names (λ j jK ej.
    on (upd m.slot j None) (upd m.held j None) (firm_on m.slot m.held j None firm) (two_rooms k j r.number (below j r.number ej) e ej))

pub release_end : (v : Option Record) → release_of v ++ [] ≡ release_of v
release_end None = refl
release_end (Some r) = refl

-- Both releases of CLEAN, of names in two slots.
pub both_releases : {each : ℕ} {At : Mine → Type 0} (m : Mine) (t : Option Record) (r : Record) (l k : ℕ) → each ≤ 8 → Quiet m → Firm m.slot m.held →
    ((j i : ℕ) → m.slot j ≡ Some i → j < each) → (l ≡ k → ⊥) → Naming each m.slot (Some r.number) l → Naming each m.slot (num t) k →
    ((σ η : ℕ → Option ℕ) → Firm σ η → TwoRooms each σ → Owes each At (put_slot σ (put_held η m)) []) → Owes each At m (release_of t ++ Write.Release r ∷ [])
both_releases m None r l k u q firm below d w v on =
    let low = w.below in
    owes.release r q (held_by m.slot m.held firm r.number) l (omega arith) w.names (λ j jK ej.
    on (upd m.slot j None) (upd m.held j None) (firm_on m.slot m.held j None firm) (two_rooms k j r.number (below j r.number ej) (record { below = v.below; none = v.names }) ej))
both_releases {each = each} {At = At} m (Some t) r l k u q firm below d w v on =
    let low = v.below in
    owes.release t q (held_by m.slot m.held firm t.number) k (omega arith) v.names (λ j jK ej. second j ej (elim (cases_eq j l) [
      | inl y ↦ (k, omega arith, upd_other m.slot j None k (λ h. d (sym y ∙ h)) ∙ v.names ∙ sym ej ∙ ap m.slot y ∙ w.names)
      | inr i ↦ (l, (let low2 = w.below in omega arith), upd_other m.slot j None l i ∙ w.names)
    ]))
  where
    second : (j : ℕ) → m.slot j ≡ Some t.number → HeldHere (upd m.slot j None) r.number → Owes each At (emptied_slot m j) (Write.Release r ∷ [])
    second j ej (i, iK, ei) =
        owes.release r (record { ups = q.ups; clears = q.clears; downs = q.downs; stores = q.stores; hands = q.hands }) (held_by (upd m.slot j None) (upd m.held j None) (firm_on m.slot m.held j None firm) r.number) i iK ei (λ h hK eh.
        on (upd (upd m.slot j None) h None) (upd (upd m.held j None) h None) (firm_on (upd m.slot j None) (upd m.held j None) h None (firm_on m.slot m.held j None firm))
        (two_rooms j h r.number (inside j h eh) (record { below = below j t.number ej; none = upd_same m.slot j None j refl }) eh))
      where
        inside : (j h : ℕ) → upd m.slot j None h ≡ Some r.number → h < each
        inside j h e = elim (cases_eq j h) [ inl y ↦ absurd (none_some (sym (upd_same m.slot j None h y) ∙ e)) | inr x ↦ below h r.number (sym (upd_other m.slot j None h x) ∙ e) ]

-- Where a round begins: nothing is owed or claimed, two slots are empty, and the scan knows nothing.
pub record RoundReady (z : Sizes) (n : Notes) (m : Mine) : Type 0 where
  pub quiet : Quiet m
  pub firm : Firm m.slot m.held
  pub unscanned : Unscanned z.t1 n m.lists m.place m.phase
  pub rests : (j : ℕ) → m.phase j ≡ resting
  pub unread : m.read ≡ 0
  pub unseen : (r : ℕ) → m.seen r ≡ false
  pub claimless : m.claiming ≡ None
  pub rooms : TwoRooms z.each m.slot

pub first_of : (z : Sizes) (n : Notes) (m : Mine) (k : ℕ) → RoundReady z n m → length n.list ≤ k → First n m.phase m.read m.seen k
first_of z n m k c l = record { ahead = λ i h. c.rests (place_of n.list i); behind = λ i h j. absurd (omega arith); unread = c.unread; none_seen = c.unseen }

-- SCAN begins at the head of the list.
pub scan_point : (z : Sizes) (n : Notes) (m : Mine) → RoundReady z n m → 0 < length n.list → AtPoint z n (scan_start n) m
scan_point z n m c l = go (head_of n.list) (walk n.list (length n.list) (omega arith))
  where
    go : (x : Option Reached) → Walk n.list (length n.list) x → AtPoint z n (first_pass x) m
    go None (over e) = absurd (omega arith)
    go (Some e) (at _ k h) = (c.quiet, c.firm, (c.claimless, c.rooms), c.unscanned, record { below = omega arith; here = h }, first_of z n m (e.left + 1) c (omega arith))

-- A round: CLEAN from the head, or SCAN, or the end.
pub round_point : (z : Sizes) → Lawful z → (n : Notes) (m : Mine) (u : Sight) → u.t1 ≡ z.t1 → RoundReady z n m → AtPoint z n (round_of u n) m
round_point z y n m u same c = go (head_of n.list) (walk n.list (length n.list) (omega arith))
  where
    go : (x : Option Reached) → Walk n.list (length n.list) x → AtPoint z n (round_at u n x) m
    go None (over e) = let l = y.some_place in (c.quiet, c.firm, record { unscanned = c.unscanned; short = omega arith; claimless = c.claimless }, one_room c.rooms)
    go (Some e) (at _ k h) =
        let room = c.unscanned.filed.room in
        cond_both (eqb (length n.list) u.t1) _ _ (λ x. AtPoint z n x m)
        (λ t. (c.quiet, c.firm, (record { unscanned = c.unscanned; below = y.some_link; cleanable = (c.claimless, omega arith, ap (λ x. x.node.number) (sym h)) }, refl, c.rooms)))
        (λ t. cond_both (leb u.t2 (length n.list)) _ _ (λ x. AtPoint z n x m)
        (λ _. (c.quiet, c.firm, (c.claimless, c.rooms), c.unscanned, record { below = omega arith; here = h }, first_of z n m (e.left + 1) c (omega arith)))
        (λ _. (c.quiet, c.firm, record { unscanned = c.unscanned; short = (let d = eqb-false (length n.list) u.t1 t in shorter (length n.list) d room); claimless = c.claimless }, one_room c.rooms)))
      where
        shorter : (k : ℕ) → (k ≡ u.t1 → ⊥) → k + 0 ≤ z.t1 → k < z.t1
        shorter k d l = elim (cases_lt k z.t1) [ inl i ↦ i | inr i ↦ absurd (d (omega arith)) ]

-- CLEAN ALL: the next place, or another round.
pub next_point : (z : Sizes) → Lawful z → (n : Notes) (m : Mine) (u : Sight) → u.t1 ≡ z.t1 → u.stations ≡ z.stations → (q : Station) (i : Place) → q.number < z.stations → RoundReady z n m →
    AtPoint z n (next_place q i u n) m
next_point z y n m u same most q i l c =
    cond_both (ltb (i.index + 1) u.t1) _ _ (λ x. AtPoint z n x m)
    (λ t. let k = ltb-true (i.index + 1) u.t1 t in
    (c.quiet, c.firm, record { unscanned = c.unscanned; station_in = l; place_in = omega arith; claim = c.claimless; rooms = c.rooms }))
    (λ _. cond_both (ltb (q.number + 1) u.stations) _ _ (λ x. AtPoint z n x m)
    (λ t. let k = ltb-true (q.number + 1) u.stations t in let j = y.some_place in
    (c.quiet, c.firm, record { unscanned = c.unscanned; station_in = omega arith; place_in = omega arith; claim = c.claimless; rooms = c.rooms }))
    (λ _. round_point z y n m u same c))
