-- How a step changes standings, and what that means for a record that somebody holds.
use Rattle.std.proofs.Common.{◌≡◌, ℕ, Some, None, Option, sym, refl, ap, ◌∙◌, subst, inl, inr, arith}
use Rattle.terms.specs.declared.Standing.TheVariants.{Pooled, Fresh, Retired}
use Rattle.protocol.specs.State.{State}
use Rattle.protocol.specs.Shape.{Shape, Holds, Carries}
use Rattle.protocol.specs.Effects.{after_write}
use Rattle.protocol.specs.Invariant.{Inv}
use Rattle.protocol.specs.Steps.{take, zero_count, clear_deleted, hold_new, write_slot, verify, release, swap, begin_store, save, store, clear_link, raise_count, clear_trace, lower_count, retire, mark_deleted, reset_trace, fill_place, claim, look_again, unclaim, reset_scan, first_not_zero, first_zero, mark_trace, second_zero, unmark_trace, read_slot, pass, empty_place, find_unclaimed, give, refill_place}
use Rattle.protocol.specs.Theorems.{Change, same, taken, linked, withdrawn, given, Changes, Rise, Rises, Stays, Rely}
use Rattle.protocol.proofs.Words.{upd_tells, linking_tells, none_some}
use Rattle.protocol.proofs.Rights.{unreferenced_at}

-- A write links what p carries.
write_changes : (h : Shape) (s : State) (p q : ℕ) (o n : Option ℕ) → Carries h s.held p n → (r : ℕ) → Change h s p (after_write s p q o n) r
write_changes h s p q o n g r = elim (linking_tells n s.standing r) [
  | inl (x, y) ↦ linked (g r y) x
  | inr (x, y) ↦ same x
]

pub changes : Changes
changes h s p t (take r z k) a = elim (upd_tells s.standing r Fresh a) [ inl (x, y) ↦ taken (ap s.standing (sym y) ∙ z) x | inr (x, y) ↦ same x ]
changes h s p t (zero_count _ _) a = same refl
changes h s p t (clear_deleted _ _) a = same refl
changes h s p t (hold_new _ _ _ _ _ _) a = same refl
changes h s p t (write_slot _ _ _ _) a = same refl
changes h s p t (verify _ _ _ _ _ _ _ _) a = same refl
changes h s p t (release _ _ _) a = same refl
changes h s p t (swap q o n qQ e k g m) a = write_changes h s p q o n g a
changes h s p t (begin_store _ _ _ _ _ _) a = same refl
changes h s p t (save _ _ _ _) a = same refl
changes h s p t (store q b o n e kn so eU eC eD own y g) a = write_changes h s p q o n g a
changes h s p t (clear_link q w r k o e kn so eU eC eD wW mine l x own i j) a = elim (linking_tells None s.standing a) [ inl (_, y) ↦ absurd (none_some y) | inr (y, _) ↦ same y ]
changes h s p t (raise_count _ _) a = same refl
changes h s p t (clear_trace _ _ _) a = same refl
changes h s p t (lower_count _ _) a = same refl
changes h s p t (retire w r g d wW o l m) a = elim (upd_tells s.standing r Retired a) [ inl (x, y) ↦ withdrawn (subst (λ i. Holds h s.held p i) y g) x | inr (x, y) ↦ same x ]
changes h s p t (mark_deleted _ _ _) a = same refl
changes h s p t (reset_trace _ _ _) a = same refl
changes h s p t (fill_place _ _ _ _) a = same refl
changes h s p t (claim _ _) a = same refl
changes h s p t (look_again _ _ _ _ _) a = same refl
changes h s p t (unclaim _ _) a = same refl
changes h s p t (reset_scan _ _) a = same refl
changes h s p t (first_not_zero _ _ _ _ _) a = same refl
changes h s p t (first_zero _ _ _ _) a = same refl
changes h s p t (mark_trace _ _ _ _) a = same refl
changes h s p t (second_zero _ _ _ _ _ _) a = same refl
changes h s p t (unmark_trace _ _ _ _ _) a = same refl
changes h s p t (read_slot _ _ _ _) a = same refl
changes h s p t (pass _ _ _ _ _ _ _) a = same refl
changes h s p t (empty_place _ _ _ _) a = same refl
changes h s p t (find_unclaimed _ _ _ _ _) a = same refl
changes h s p t (give w r k e) a = elim (upd_tells s.standing r Pooled a) [ inl (x, y) ↦ given w k.below k.mine (k.full ∙ ap Some y) e x | inr (x, y) ↦ same x ]
changes h s p t (refill_place _ _ _ _) a = same refl

module _ (h : Shape) (s : State) (p : ℕ) (b : Inv h s) (t : State) (z r : ℕ) (g : Holds h s.held z r) where
  rise : Change h s p t r → Rise (s.standing r) (t.standing r)
  rise (same x) = record { used = λ u. rw x u; retired = λ u. x ∙ u }
  rise (taken x y) = let (c, cK, o, e) = g in absurd (b.held.live c r cK e x)
  rise (linked _ x) = record { used = λ u. grind arith; retired = λ u. grind arith }
  rise (withdrawn _ x) = record { used = λ u. inr x; retired = λ u. x }
  rise (given w wW o l e x) = let (c, cK, i, y) = g in absurd ((unreferenced_at h s b w r wW e l).slots c cK y)

  stays : (z ≡ p → ⊥) → Change h s p t r → Stays (s.standing r) (t.standing r)
  stays d (same x) = inl x
  stays d (taken x y) = let (c, cK, o, e) = g in absurd (b.held.live c r cK e x)
  stays d (linked (c, cK, o, e) x) =
      let (i, iK, u, f) = g in
      let new : s.standing r ≡ Fresh → ⊥ = λ y. d (sym u ∙ b.held.alone i c r iK cK f e y ∙ o) in
      grind arith
  stays d (withdrawn (c, cK, o, e) x) =
      let (i, iK, u, f) = g in
      let new : s.standing r ≡ Fresh → ⊥ = λ y. d (sym u ∙ b.held.alone i c r iK cK f e y ∙ o) in
      let live = b.held.live i r iK f in
      grind arith
  stays d (given w wW o l e x) = let (c, cK, i, y) = g in absurd ((unreferenced_at h s b w r wW e l).slots c cK y)

pub rises : Rises
rises h s p b t k z r g = rise h s p b t z r g (changes h s p t k r)

pub rely : Rely
rely h s p b t k z r d g = stays h s p b t z r g d (changes h s p t k r)
