-- Each step keeps the invariant: DELETE, the claims of CLEAN ALL, and giving back.
use Rattle.std.proofs.Common.{◌≡◌, ℕ, ◌<◌, true, false, Some, None, Option, sym, refl, ap, ◌∙◌, inl, inr, arith}
use Rattle.std.proofs.lemmas.Bool.{false≢true}
use Rattle.terms.specs.declared.Standing.TheVariants.{Pooled, Retired}
use Rattle.protocol.specs.Words.{upd}
use Rattle.protocol.specs.State.{State, resting, giving}
use Rattle.protocol.specs.Shape.{Shape, Holds, through, vacated}
use Rattle.protocol.specs.Effects.{after_retire, after_mark_deleted, after_trace, after_fill_place, after_claim, after_look_again, after_unclaim, after_give}
use Rattle.protocol.specs.Invariant.{Inv}
use Rattle.protocol.specs.Steps.{Ready, OwnPlace}
use Rattle.protocol.proofs.Words.{upd_tells, upd_other, none_some}
use Rattle.protocol.proofs.Named.{named_standing}
use Rattle.protocol.proofs.Held.{held_retire, held_give}
use Rattle.protocol.proofs.Owed.{owed_standing}
use Rattle.protocol.proofs.Listed.{listed_retire, listed_give}
use Rattle.protocol.proofs.Marks.{marks_standing, marks_mark}
use Rattle.protocol.proofs.Claimed.{claimed_place, claimed_more, claimed_less, claimed_look}
use Rattle.protocol.proofs.Traced.{traced_map, scanned_map, traced_place, scanned_place}
use Rattle.protocol.proofs.Gone.{gone_place}
use Rattle.protocol.proofs.Parts.{with_marks, with_claimed, with_scanned}
use Rattle.protocol.proofs.Rights.{unreferenced_at, saved_place, saved_standing, cleared_place}

module _ (h : Shape) (s : State) (b : Inv h s) (p : ℕ) (pN : p < h.stations) where
  pub keep_retire : (w r : ℕ) → Holds h s.held p r → (s.standing r ≡ Retired → ⊥) → w < h.places → h.ofp w ≡ p → s.lists w ≡ None → Ready s p → Inv h (after_retire s w r)
  keep_retire w r g d wW o l m =
      let other : (v a : ℕ) → s.lists v ≡ Some a → w ≡ v → ⊥ = λ v a y e. none_some (sym l ∙ ap s.lists e ∙ y) in
      let old : (v a : ℕ) → s.lists v ≡ Some a → upd s.lists w (Some r) v ≡ Some a = λ v a y. upd_other s.lists w (Some r) v (other v a y) ∙ y in
      let busy : (v a : ℕ) → v < h.places → (s.phase v ≡ resting → ⊥) → upd s.lists w (Some r) v ≡ Some a → s.lists v ≡ Some a =
      λ v a vW n y. sym (upd_other s.lists w (Some r) v (λ e. n (b.listed.idle v vW (ap s.lists (sym e) ∙ l)))) ∙ y in
      record {
        counted = b.counted;
        named = named_standing b.named r Retired (inl (inr refl));
        held = held_retire b.held p r g;
        listed = listed_retire b.listed w r wW d l;
        marks = marks_standing b.marks r Retired (inr refl);
        owed = owed_standing b.owed r Retired (inl (inr refl));
        saved = saved_place
            (saved_standing b.saved r Retired (λ z q zN e (c, cK, u, x) t.
            let (i, iK, v, y) = g in none_some (sym m.stores ∙ ap s.storing (sym v ∙ b.held.alone i c r iK cK y x t ∙ u) ∙ e)))
            p m.stores (λ v vW n. (upd_other s.lists w (Some r) v (λ e. n (ap h.ofp (sym e) ∙ o)), refl));
        claimed = claimed_place b.claimed (λ v a z vW y n zN e. (old v a y, n)) (λ v a vW y. old v a (b.claimed.placed v a vW y)) b.claimed.empty;
        traced = traced_place (λ a (v, vW, y, e). (v, vW, old v a y, e)) b.traced;
        scanned = scanned_place (λ v a vW e y. (e, busy v a vW (λ t. grind arith) y)) b.scanned;
        gone = gone_place b.gone (λ v a vW e y. (e, busy v a vW (λ t. grind arith) y));
        cleared = cleared_place b.cleared (λ v a vW e y. inl (e, busy v a vW (λ t. grind arith) y, refl));
      }

  pub keep_mark_deleted : (w r : ℕ) → OwnPlace h s p w r → Inv h (after_mark_deleted s r)
  keep_mark_deleted w r k = with_marks h s b (marks_mark b.marks r (b.listed.retired w r k.below k.full))

  -- A trace mark goes off: fewer records have to be covered.
  pub keep_reset_trace : (r : ℕ) → Inv h (after_trace s r false)
  keep_reset_trace r =
      let on : (a : ℕ) → upd s.trace r false a ≡ true → s.trace a ≡ true = λ a t. grind (arith, upd_tells) in
      with_scanned h s b (traced_map (λ a t. (on a t, λ c. c)) b.traced) (scanned_map (λ w a wW l t. (on a t, λ m n c. c)) b.scanned)

  pub keep_fill_place : (w r : ℕ) → OwnPlace h s p w r → s.phase w ≡ resting → Inv h (after_fill_place s w r)
  keep_fill_place w r k e = with_claimed h s b (claimed_place b.claimed (λ v a z vW l n zN c. (l, n))
      (λ v a vW y. grind (arith, upd_tells, b.claimed.placed v a vW, k.full))
      (λ v vW t. grind (arith, upd_tells, b.claimed.empty v vW)))

  pub keep_claim : (w : ℕ) → s.claiming p ≡ None → Inv h (after_claim s p w)
  keep_claim w e = with_claimed h s b (claimed_more b.claimed p w pN e)

  pub keep_look_again : (w : ℕ) (v : Option ℕ) → w < h.places → s.claiming p ≡ Some w → s.place w ≡ v → Inv h (after_look_again s p v)
  keep_look_again w v wW e f = with_claimed h s b (claimed_look b.claimed p w pN v wW e f)

  pub keep_unclaim : (w : ℕ) → s.claiming p ≡ Some w → Inv h (after_unclaim s p w)
  keep_unclaim w e = with_claimed h s b (claimed_less b.claimed p w pN e)

  -- An unreferenced record goes back to the pool.
  pub keep_give : (w r : ℕ) → OwnPlace h s p w r → s.phase w ≡ giving → Inv h (after_give s w r)
  keep_give w r k e =
      let l = unreferenced_at h s b w r k.below e k.full in
      let old = b.listed.retired w r k.below k.full in
      let apart : (v : ℕ) → (upd s.phase w resting v ≡ resting → ⊥) → w ≡ v → ⊥ = λ v n y. n (grind (arith, upd_tells)) in
      let stay : (v a : ℕ) → (upd s.phase w resting v ≡ resting → ⊥) → upd s.lists w None v ≡ Some a → (upd s.phase w resting v ≡ s.phase v) × (s.lists v ≡ Some a) =
      λ v a n y. (upd_other s.phase w resting v (apart v n), sym (upd_other s.lists w None v (apart v n)) ∙ y) in
      record {
        counted = b.counted;
        named = named_standing b.named r Pooled (inr l.spots);
        held = held_give b.held r l.slots old;
        listed = listed_give b.listed w r k.below k.full;
        marks = marks_standing b.marks r Pooled (inl refl);
        owed = owed_standing b.owed r Pooled (inr l.downs);
        saved = saved_place
            (saved_standing b.saved r Pooled (λ z q zN d g t. grind arith))
            p k.ready.stores
            (λ v vW d. let n : w ≡ v → ⊥ = λ y. d (ap h.ofp (sym y) ∙ k.mine) in (upd_other s.lists w None v n, upd_other s.phase w resting v n));
        claimed = claimed_place b.claimed
            (λ v a z vW y n zN c. let d : w ≡ v → ⊥ = λ t. n (ap s.phase (sym t) ∙ e) in
            (upd_other s.lists w None v d ∙ y, λ t. n (sym (upd_other s.phase w resting v d) ∙ t)))
            (λ v a vW y. upd_other s.lists w None v (λ t. none_some (sym (b.claimed.empty v vW (ap (λ i. vacated (s.phase i)) (sym t) ∙ ap vacated e)) ∙ y)) ∙ b.claimed.placed v a vW y)
            (λ v vW t. elim (upd_tells s.phase w resting v) [ inl (x, y) ↦ absurd (false≢true (ap vacated (sym x) ∙ t)) | inr (x, y) ↦ b.claimed.empty v vW (ap vacated (sym x) ∙ t) ]);
        traced = traced_place (λ a (v, vW, y, x). let n : w ≡ v → ⊥ = λ t. grind arith in (v, vW, upd_other s.lists w None v n ∙ y, upd_other s.phase w resting v n ∙ x)) b.traced;
        scanned = scanned_place (λ v a vW y m. let (x, z) = stay v a (λ t. grind arith) m in (sym x ∙ y, z)) b.scanned;
        gone = gone_place b.gone (λ v a vW y m. let (x, z) = stay v a (λ t. false≢true (ap through (sym t) ∙ y)) m in (ap through (sym x) ∙ y, z));
        cleared = cleared_place b.cleared (λ v a vW y m. let (x, z) = stay v a (λ t. grind arith) m in inl (sym x ∙ y, z, refl));
      }
