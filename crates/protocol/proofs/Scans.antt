-- Each step keeps the invariant: SCAN.
use Rattle.std.proofs.Common.{◌≡◌, ℕ, ◌<◌, ◌≤◌, Bool, true, false, cond, eqb, ◌⊎◌, pos, Some, None, Option, sym, refl, ap, ◌∙◌, inl, inr, arith}
use Rattle.std.proofs.lemmas.Bool.{cases_eq, cond-true, cond-false, eq-eqb, ne_eqb, false≢true}
use Rattle.protocol.specs.Words.{upd}
use Rattle.protocol.specs.State.{State, Phase, resting, marking, passed, gone, emptied, giving}
use Rattle.protocol.specs.Setters.{set_trace, set_phase}
use Rattle.protocol.specs.Shape.{Shape, through, vacated}
use Rattle.protocol.specs.Clauses.{Cover}
use Rattle.protocol.specs.Effects.{after_trace, after_phase, after_unmark_trace, after_read_slot, after_empty_place, after_find_unclaimed, after_refill_place, after_reset_scan}
use Rattle.protocol.specs.Invariant.{Inv}
use Rattle.protocol.specs.Steps.{Ready, OwnPlace}
use Rattle.protocol.proofs.Words.{upd_tells, upd_other, upd_same}
use Rattle.protocol.proofs.Listed.{listed_phase}
use Rattle.protocol.proofs.Claimed.{claimed_place}
use Rattle.protocol.proofs.Traced.{cover_zero, traced_place, traced_mark, traced_done, traced_cover, scanned_done, scanned_mark, scanned_read}
use Rattle.protocol.proofs.Gone.{unreferenced_now, gone_place, gone_more}
use Rattle.protocol.proofs.Rights.{saved_place, cleared_place}
use Rattle.protocol.proofs.Phases.{listed_now, saved_now, claimed_now, claimed_same, gone_now, cleared_now, with_phase}
use Rattle.protocol.proofs.Parts.{with_scanned}

module _ (h : Shape) (s : State) (b : Inv h s) (p w r : ℕ) (k : OwnPlace h s p w r) where
  -- The first pass is done with w: its record is covered, or its mark is off afterwards.
  keep_done : (trace : ℕ → Bool) → s.read p ≡ 0 → ((a : ℕ) → trace a ≡ true → s.trace a ≡ true) →
      (trace r ≡ true → Cover h s.names s.owes_up s.owes_clear s.owes_down s.held 0 false r) →
      Inv h (set_trace trace (set_phase (upd s.phase w passed) s))
  keep_done trace z f g = record {
    counted = b.counted;
    named = b.named;
    held = b.held;
    marks = b.marks;
    owed = b.owed;
    listed = listed_now h s b p w r k passed;
    saved = saved_now h s b p w r k passed;
    claimed = claimed_same h s b p w r k passed refl;
    traced = traced_done b.listed b.traced w r k.below k.full trace f g;
    scanned = scanned_done b.listed b.scanned w r k.full (ap s.read k.mine ∙ z) trace f g;
    gone = gone_now h s b p w r k passed (λ t. absurd (false≢true t));
    cleared = cleared_now h s b p w r k passed (λ t. grind arith);
  }

  pub keep_first_not_zero : s.phase w ≡ resting → s.read p ≡ 0 → Inv h (after_phase s w passed)
  keep_first_not_zero e z = keep_done s.trace z (λ a t. t) (traced_cover b.listed b.traced w r k.below k.full (λ t. grind arith))

  pub keep_second_zero : s.read p ≡ 0 → s.count r ≡ pos 0 → Inv h (after_phase s w passed)
  keep_second_zero z c = keep_done s.trace z (λ a t. t) (λ t. cover_zero r b.counted b.owed c)

  pub keep_unmark_trace : s.read p ≡ 0 → Inv h (after_unmark_trace s w r)
  keep_unmark_trace z = keep_done (upd s.trace r false) z (λ a t. grind (arith, upd_tells)) (λ t. absurd (false≢true (sym (upd_same s.trace r false r refl) ∙ t)))

  pub keep_first_zero : s.phase w ≡ resting → Inv h (after_phase s w marking)
  keep_first_zero e = with_phase h s b p w r k marking (λ t. grind arith) (λ t. grind arith)
      (claimed_same h s b p w r k marking refl)
      (gone_now h s b p w r k marking (λ t. absurd (false≢true t)))
      (cleared_now h s b p w r k marking (λ t. grind arith))

  pub keep_mark_trace : s.phase w ≡ marking → Inv h (after_trace s r true)
  keep_mark_trace e = with_scanned h s b
      (traced_mark b.listed b.traced w r k.below k.full e)
      (scanned_mark b.listed b.scanned w r k.below k.full e)

  pub keep_pass : s.phase w ≡ passed → h.slots ≤ s.read p → s.trace r ≡ true → s.seen p r ≡ false → Inv h (after_phase s w gone)
  keep_pass e z t n = with_phase h s b p w r k gone (λ t. grind arith) (λ t. grind arith)
      (claimed_same h s b p w r k gone refl)
      (gone_more b.gone w r gone k.full
      (unreferenced_now z b.owed (let c = b.scanned.covered w r k.below e k.full t in rw (k.mine, n) at c)))
      (cleared_now h s b p w r k gone (λ t. grind arith))

  pub keep_empty_place : s.phase w ≡ gone → Inv h (after_empty_place s w)
  keep_empty_place e = with_phase h s b p w r k emptied (λ t. grind arith) (λ t. grind arith)
      (claimed_now h s b p w r k emptied (upd s.place w None) (λ t. absurd (grind arith))
      (λ v a vW y. grind (arith, upd_tells, b.claimed.placed v a vW)) (λ v vW t. grind (arith, upd_tells, b.claimed.empty v vW)))
      (gone_now h s b p w r k emptied (λ t. ap through e))
      (cleared_now h s b p w r k emptied (λ t. grind arith))

  pub keep_find_unclaimed : s.phase w ≡ emptied → s.claims w ≡ 0 → Inv h (after_find_unclaimed s w)
  keep_find_unclaimed e c = with_phase h s b p w r k giving (λ t. grind arith) (λ t. grind arith)
      (claimed_now h s b p w r k giving s.place (λ t. c) b.claimed.placed (λ v vW t. grind (arith, upd_tells, b.claimed.empty v vW)))
      (gone_now h s b p w r k giving (λ t. ap through e))
      (cleared_place b.cleared (λ v a vW t l. elim (cases_eq w v) [
        | inl y ↦ inr (upd_same s.low w 0 v y)
        | inr d ↦ inl (sym (upd_other s.phase w giving v d) ∙ t, l, upd_other s.low w 0 v d)
      ]))

  pub keep_refill_place : s.phase w ≡ emptied → Inv h (after_refill_place s w r)
  keep_refill_place e = with_phase h s b p w r k resting (λ t. grind arith) (λ t. grind arith)
      (claimed_now h s b p w r k resting (upd s.place w (Some r)) (λ t. absurd (grind arith))
      (λ v a vW y. grind (arith, upd_tells, b.claimed.placed v a vW, k.full)) (λ v vW t. grind (arith, upd_tells, b.claimed.empty v vW)))
      (gone_now h s b p w r k resting (λ t. absurd (false≢true t)))
      (cleared_now h s b p w r k resting (λ t. grind arith))

module _ (h : Shape) (s : State) (b : Inv h s) (p : ℕ) where
  pub keep_read_slot : (c : ℕ) (v : Option ℕ) → s.read p ≡ c → s.slot c ≡ v → Inv h (after_read_slot s p c v)
  keep_read_slot c v e f = with_scanned h s b b.traced (scanned_read b.listed b.scanned p c v s.slot b.held.shown e f)

  -- All places of p come to rest.
  abbrev rested : ℕ → Phase
  rested w = cond (eqb (h.ofp w) p) resting (s.phase w)

  rested_tells : (w : ℕ) → ((h.ofp w ≡ p) × (rested w ≡ resting)) ⊎ ((h.ofp w ≡ p → ⊥) × (rested w ≡ s.phase w))
  rested_tells w = elim (cases_eq (h.ofp w) p) [
    | inl e ↦ inl (e, cond-true (eqb (h.ofp w) p) resting (s.phase w) (eq-eqb (h.ofp w) p e))
    | inr d ↦ inr (d, cond-false (eqb (h.ofp w) p) resting (s.phase w) (ne_eqb (h.ofp w) p d))
  ]

  pub keep_reset_scan : Ready s p → ((w : ℕ) → w < h.places → h.ofp w ≡ p → (s.phase w ≡ resting) ⊎ (s.phase w ≡ passed)) → Inv h (after_reset_scan h s p)
  keep_reset_scan m f =
      let busy : (v : ℕ) → (rested v ≡ resting → ⊥) → (h.ofp v ≡ p → ⊥) × (rested v ≡ s.phase v) = λ v n. elim (rested_tells v) [ inl (e, x) ↦ absurd (n x) | inr t ↦ t ] in
      record {
        counted = b.counted;
        named = b.named;
        held = b.held;
        marks = b.marks;
        owed = b.owed;
        listed = listed_phase b.listed rested (λ v vW e z. elim (rested_tells v) [ inl (_, x) ↦ x | inr (_, x) ↦ x ∙ z ]);
        saved = saved_place b.saved p m.stores (λ v vW d. elim (rested_tells v) [ inl (e, x) ↦ absurd (d e) | inr (_, x) ↦ (refl, x) ]);
        claimed = claimed_place b.claimed (λ v a z vW l n zN c. (l, λ t. n (sym (busy v (λ u. grind arith)).1 ∙ t))) b.claimed.placed
            (λ v vW t. b.claimed.empty v vW (ap vacated (sym (busy v (λ u. false≢true (ap vacated (sym u) ∙ t))).1) ∙ t));
        traced = traced_place (λ a (v, vW, y, e). (v, vW, y, elim (rested_tells v) [ inl (o, x) ↦ let t = f v vW o in absurd (grind arith) | inr (_, x) ↦ x ∙ e ])) b.traced;
        scanned = record {
          covered = λ v a vW e l t.
              let (d, x) = busy v (λ u. grind arith) in
              rw (upd_other s.read p 0 (h.ofp v) (λ y. d (sym y)), upd_other s.seen p (λ _. false) (h.ofp v) (λ y. d (sym y))) (b.scanned.covered v a vW (sym x ∙ e) l t);
        };
        gone = gone_place b.gone (λ v a vW e l. (ap through (sym (busy v (λ u. false≢true (ap through (sym u) ∙ e))).1) ∙ e, l));
        cleared = cleared_place b.cleared (λ v a vW e l. inl (sym (busy v (λ u. grind arith)).1 ∙ e, l, refl));
      }
