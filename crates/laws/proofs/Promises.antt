-- What soundness promises of the table's own words.
use Rattle.std.proofs.Common.{◌≡◌, ℕ, ◌/◌, ◌<◌, ◌≤◌, [], length, ℤ, pos, neg_ℤ, ◌≤ℤ◌, Some, None, Option, sym, refl, ap, ◌∙◌, subst, inl, inr, arith}
use Rattle.terms.specs.declared.Record.{Record}
use Rattle.terms.specs.declared.Outcome.{Outcome}
use Rattle.terms.specs.declared.Standing.{Standing}
use Rattle.terms.specs.declared.Standing.TheVariants.{Pooled, Fresh}
use Rattle.work.specs.declared.work.Point.TheVariants.{End, Look}
use Rattle.work.specs.declared.work.AfterLook.TheVariants as look
use Rattle.work.specs.Plans.{Plan}
use Rattle.machine.specs.Tables.{Table}
use Rattle.machine.specs.Holds.{Hold}
use Rattle.protocol.specs.Shape.{Used}
use Rattle.protocol.proofs.Promises.{bounded}
use Rattle.protocol.proofs.Words.{none_some}
use Rattle.laws.specs.Numbers.{shape, slot_number, place_number, link_number}
use Rattle.laws.specs.Agree.{num}
use Rattle.laws.specs.Mine.{mine}
use Rattle.laws.specs.Owes as owes
use Rattle.laws.specs.Lists.{place_of, node_of}
use Rattle.laws.specs.Points.{AtPoint}
use Rattle.laws.specs.Fits.{Working, Sound}
use Rattle.laws.specs.Theorems.{fresh_table, begins, turns, RunsAreSound, SoundIsBounded, SoundIsSafe, SoundHolds, IdleEntry, SoundLists, SoundPlaces, TwoEmpty, CleanHasRoom, SoundPool}
use Rattle.laws.proofs.Rows.{row_at}
use Rattle.laws.proofs.Holding.{verified_holds}
use Rattle.laws.proofs.Turning.{turn_sound}
use Rattle.laws.proofs.Checks.{new_sound}
use Rattle.laws.proofs.Beginning.{begin_sound}

pub runs_sound : RunsAreSound
runs_sound z y t fresh_table = new_sound z y
runs_sound z y t (begins {t = m} k p o e) = (begin_sound m (runs_sound z y m k) p o e).sound
runs_sound z y t (turns {t = m} k p l w e pick h) = (turn_sound m (runs_sound z y m k) p l w e pick h).sound

pub sound_bounded : SoundIsBounded
sound_bounded t k = record {
  low = λ r. subst (λ (x : ℤ). neg_ℤ (pos 8) ≤ℤ x) (k.fits.agrees.counts r) ((bounded shape k.state k.inv).counts r).low;
  high = λ r. subst (λ (x : ℤ). x ≤ℤ pos 536) (k.fits.agrees.counts r) ((bounded shape k.state k.inv).counts r).high;
  claims = λ p i l h. subst (λ (x : ℕ). x ≤ 8) (k.fits.agrees.claims p i l) ((bounded shape k.state k.inv).claims (place_number p i) (omega arith));
}

used_not : (x y : Standing) → x ≡ y → Used x → (y ≡ Pooled → ⊥) × (y ≡ Fresh → ⊥)
used_not x y e (inl u) = ((λ h. grind arith), (λ h. grind arith))
used_not x y e (inr u) = ((λ h. grind arith), (λ h. grind arith))

pub sound_safe : SoundIsSafe
sound_safe t k = record {
  roots = λ g r l e. used_not (k.state.standing r.number) (t.standing r.number) (k.fits.agrees.standings r.number) (k.inv.named.used g r.number (omega arith) (k.fits.agrees.roots g l ∙ ap num e));
  links = λ q x r l h e. used_not (k.state.standing r.number) (t.standing r.number) (k.fits.agrees.standings r.number) (k.inv.named.used (link_number q x) r.number (omega arith) (k.fits.agrees.links q x h ∙ ap num e));
}

-- an idle station is at rest
pub at_rest : (t : Table) (k : Sound t) (p : ℕ) → p < t.sizes.stations → (t.seats p).work ≡ None → AtPoint t.sizes (t.seats p).notes (End Outcome.Done) (mine k.state p)
at_rest t k p l e = subst (λ (i : Option Plan). Working t.sizes (t.seats p).notes (mine k.state p) i) e (k.fits.seats p l)

module _ (t : Table) (k : Sound t) where
  hold_held : (p i : ℕ) (r : Record) → Hold t p i r → (slot_number p i < 64) × (slot_number p i / 8 ≡ p) × (k.state.held (slot_number p i) ≡ Some r.number)
  hold_held p i r h =
      let l = h.station in
      let most = k.lawful.stations in
      let e = h.slot in
      let names = row_at k.state.slot p i h.slot ∙ k.fits.agrees.slots p i h.slot ∙ ap num h.names in (
        omega arith,
        omega arith,
        sym (row_at k.state.held p i h.slot) ∙ verified_holds t.sizes (t.seats p).notes (mine k.state p) (t.seats p).work i (k.fits.seats p h.station) h.verified r.number names,
      )

  idle_listed : (p i : ℕ) → IdleEntry t p i → (place_number p (place_of (t.seats p).notes.list i) < 512) × (k.state.lists (place_number p (place_of (t.seats p).notes.list i)) ≡ Some (node_of (t.seats p).notes.list i))
  idle_listed p i h =
      let l = h.station in
      let most = k.lawful.stations in
      let many = k.lawful.t1 in
      let d = (at_rest t k p h.station h.idle).2.unscanned.filed in
      let low = d.front_low i h.below in
      (omega arith, d.front i h.below)

pub sound_holds : SoundHolds
sound_holds t k = record {
  live = λ p i r h e. let (c, _, x) = hold_held t k p i r h in k.inv.held.live (slot_number p i) r.number c x (k.fits.agrees.standings r.number ∙ e);
  alone = λ p q i j r h g e. let (c, cp, x) = hold_held t k p i r h in let (d, dp, y) = hold_held t k q j r g in
      sym cp ∙ k.inv.held.alone (slot_number p i) (slot_number q j) r.number c d x y (k.fits.agrees.standings r.number ∙ e) ∙ dp;
}

pub sound_lists : SoundLists
sound_lists t k = record {
  retired = λ p i h. let (c, x) = idle_listed t k p i h in sym (k.fits.agrees.standings _) ∙ k.inv.listed.retired _ (node_of (t.seats p).notes.list i) c x;
  once = λ p q i j h g e. let (c, x) = idle_listed t k p i h in let (d, y) = idle_listed t k q j g in
      let same = k.inv.listed.once _ _ (node_of (t.seats p).notes.list i) c d x (y ∙ ap Some (sym e)) in
      let hp = h.station in let gp = g.station in let most = k.lawful.stations in
      let pq : p ≡ q = omega arith in
      (pq, twice p q i j h g pq (omega arith));
}
  where
    twice : (p q i j : ℕ) → IdleEntry t p i → IdleEntry t q j → p ≡ q → place_of (t.seats p).notes.list i ≡ place_of (t.seats q).notes.list j → i ≡ j
    twice p q i j h g e same =
        let back : place_of (t.seats q).notes.list j ≡ place_of (t.seats p).notes.list j = ap (λ (x : ℕ). place_of (t.seats x).notes.list j) (sym e) in
        (at_rest t k p h.station h.idle).2.unscanned.filed.front_apart i j h.below (subst (λ (x : ℕ). j < length (t.seats x).notes.list) (sym e) g.below) (same ∙ back)

pub sound_places : SoundPlaces
sound_places t k = record {
  retired = λ p j r l h e. sym (k.fits.agrees.standings r.number) ∙ k.inv.listed.retired (place_number p j) r.number (omega arith) (listed p j r l h e);
  once = λ p q i j r pl ql il jl e g.
      let same = k.inv.listed.once (place_number p i) (place_number q j) r.number (omega arith) (omega arith) (listed p i r pl il e) (listed q j r ql jl g) in
      (omega arith, omega arith);
}
  where
    listed : (p j : ℕ) (r : Record) → p < 8 → j < 64 → t.shared.places p j ≡ Some r → k.state.lists (place_number p j) ≡ Some r.number
    listed p j r l h e = k.inv.claimed.placed (place_number p j) r.number (omega arith) (k.fits.agrees.places p j l ∙ ap num e)

pub none_of : (v : Option Record) → num v ≡ None → v ≡ None
none_of None e = refl
none_of (Some r) e = absurd (none_some (sym e))

pub clean_room : CleanHasRoom
clean_room t k p l q c e = go (subst (λ (i : Option Plan). Working t.sizes (t.seats p).notes (mine k.state p) i) e (k.fits.seats p l))
  where
    empty : (i : ℕ) → i < t.sizes.each → (mine k.state p).slot i ≡ None → t.shared.slots p i ≡ None
    empty i h x = let u = k.lawful.each in none_of (t.shared.slots p i) (sym (k.fits.agrees.slots p i (omega arith)) ∙ sym (row_at k.state.slot p i (omega arith)) ∙ x)

    go : owes.Owes t.sizes.each (AtPoint t.sizes (t.seats p).notes (Look q (look.CleanLink c))) (mine k.state p) [] → TwoEmpty t p
    go (owes.paid (_, _, (_, _, (i, j, d, x, y)))) = record { one = i; other = j; apart = d; one_below = x.below; other_below = y.below; one_empty = empty i x.below x.none; other_empty = empty j y.below y.none }

pub sound_pool : SoundPool
sound_pool t k = record { pooled = λ r e. (k.fits.pooled r e).0; complete = k.fits.complete }
