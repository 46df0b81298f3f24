-- Each step keeps the invariant: NEW, following and letting go.
use Rattle.std.proofs.Common.{◌≡◌, ℕ, ◌<◌, true, pos, Some, None, Option, ap, ◌∙◌, inl, inr, arith}
use Rattle.std.proofs.lemmas.Int.{ints}
use Rattle.terms.specs.declared.Standing.TheVariants.{Pooled, Fresh}
use Rattle.protocol.specs.Words.{times}
use Rattle.protocol.specs.State.{State}
use Rattle.protocol.specs.Shape.{Shape}
use Rattle.protocol.specs.Effects.{after_take, after_zero_count, after_clear_deleted, after_hold_new, after_write_slot, after_verify, after_release}
use Rattle.protocol.specs.Invariant.{Inv}
use Rattle.protocol.specs.Steps.{Ready, OwnSlot}
use Rattle.protocol.proofs.Words.{upd_tells, times_zero, none_some, some_same}
use Rattle.protocol.proofs.Named.{named_standing, unnamed}
use Rattle.protocol.proofs.Held.{held_verify, held_release, held_write_slot, held_take, held_hold_new}
use Rattle.protocol.proofs.Owed.{owed_slot, owed_standing, unlowered}
use Rattle.protocol.proofs.Listed.{listed_standing}
use Rattle.protocol.proofs.Marks.{marks_take, marks_hold_new, marks_clear}
use Rattle.protocol.proofs.Cover.{cover_hold, cover_release}
use Rattle.protocol.proofs.Gone.{unreferenced_slot}
use Rattle.protocol.proofs.Rights.{saved_slot, saved_standing}
use Rattle.protocol.proofs.Parts.{Listing, three, with_slots, with_debts, with_marks}

module _ (h : Shape) (s : State) (b : Inv h s) (p : ℕ) (pN : p < h.stations) where
  -- A pooled record is in nobody's reach.
  pub keep_take : (r : ℕ) → s.standing r ≡ Pooled → Ready s p → Inv h (after_take s p r)
  keep_take r z k = record {
    named = named_standing b.named r Fresh (inr (unnamed b.named r (inl z)));
    held = held_take b.held p r z pN;
    listed = listed_standing b.listed r Fresh (λ e. grind arith);
    marks = marks_take b.marks p r pN k.hands;
    owed = owed_standing b.owed r Fresh (inr (unlowered b.owed r (inl z)));
    saved = saved_standing b.saved r Fresh (λ y q yN d g e. grind arith);
    counted = b.counted;
    claimed = b.claimed;
    traced = b.traced;
    scanned = b.scanned;
    gone = b.gone;
    cleared = b.cleared;
  }

  -- A record in hand is named nowhere,
  hand_unnamed : (r : ℕ) → s.hand p ≡ Some r → (times h.spots s.names r ≡ 0) × (times h.stations s.owes_up r ≡ 0) × (times h.stations s.owes_down r ≡ 0)
  hand_unnamed r d =
      let new = b.held.fresh p r pN d in (
        times_zero h.spots s.names r (unnamed b.named r (inr new)),
        times_zero h.stations s.owes_up r (λ z zN e.
            let (c, cK, o, l) = b.owed.kept z r zN (b.owed.first z r zN e) in b.held.free p c r pN cK d l),
        times_zero h.stations s.owes_down r (unlowered b.owed r (inr new)),
      )

  -- so its count is 0 already.
  pub keep_zero_count : (r : ℕ) → s.hand p ≡ Some r → Inv h (after_zero_count s r)
  keep_zero_count r d = with_debts h s b
      (record {
        sum = λ a. elim (upd_tells s.count r (pos 0) a) [
          | inl (x, y) ↦ let (q, u, l) = hand_unnamed a (d ∙ ap Some y) in rw x (omega (arith, ints))
          | inr (x, y) ↦ rw x (b.counted.sum a)
        ];
      })
      b.owed (record { traced = b.traced; scanned = b.scanned; gone = b.gone })

  pub keep_clear_deleted : (r : ℕ) → s.hand p ≡ Some r → Inv h (after_clear_deleted s p r)
  keep_clear_deleted r d = with_marks h s b (marks_clear b.marks p r d)

  -- A record in hand is fresh, so no scan has come to it.
  pub keep_hold_new : (c r : ℕ) → OwnSlot h p c → s.held c ≡ None → s.hand p ≡ Some r → s.wiped p ≡ true → Inv h (after_hold_new s p c r)
  keep_hold_new c r k z d wp =
      let new = b.held.fresh p r pN d in
      let other : (a : ℕ) → Listing h s b a → r ≡ a → ⊥ = λ a (w, wW, l) y. let t = b.listed.retired w a wW l in grind arith in
      with_slots h s b (held_hold_new b.held p c r pN k.mine d) (marks_hold_new b.marks p wp)
      (owed_slot b.owed p c (Some r) k.mine (inl z))
      (saved_slot b.saved p c (Some r) k.mine (inl z))
      (three h s b (λ a t. t)
      (λ m n a t e. cover_hold c r z (λ x y. elim e [ inl u ↦ omega arith | inr u ↦ absurd (other a u x) ]))
      (λ a e l. unreferenced_slot l c (Some r) (λ x. other a e (some_same x))))

  pub keep_write_slot : (c : ℕ) (v : Option ℕ) → s.held c ≡ None → Inv h (after_write_slot s c v)
  keep_write_slot c v z = with_slots h s b (held_write_slot b.held c v z) b.marks b.owed b.saved (record { traced = b.traced; scanned = b.scanned; gone = b.gone })

  -- A spot names the record, so it is neither unnamed nor unreferenced.
  pub keep_verify : (q c r : ℕ) → q < h.spots → OwnSlot h p c → s.held c ≡ None → s.slot c ≡ Some r → s.names q ≡ Some r → Inv h (after_verify s c r)
  keep_verify q c r qQ k z d e =
      with_slots h s b (held_verify b.held c r d (b.named.used q r qQ e)) b.marks
      (owed_slot b.owed p c (Some r) k.mine (inl z))
      (saved_slot b.saved p c (Some r) k.mine (inl z))
      (three h s b (λ a t. t)
      (λ m n a t u. cover_hold c r z (λ x y. absurd (y.spots q qQ (e ∙ ap Some x))))
      (λ a u l. unreferenced_slot l c (Some r) (λ x. l.spots q qQ (e ∙ x))))

  -- The station owes no clearing, so no cover rests on its slot.
  pub keep_release : (c : ℕ) → OwnSlot h p c → Ready s p → Inv h (after_release s c)
  keep_release c k m =
      with_slots h s b (held_release b.held c) b.marks
      (owed_slot b.owed p c None k.mine (inr m.clears))
      (saved_slot b.saved p c None k.mine (inr m.stores))
      (three h s b (λ a t. t)
      (λ i n a t u. cover_release c (ap s.owes_clear k.mine ∙ m.clears))
      (λ a u l. unreferenced_slot l c None none_some))
