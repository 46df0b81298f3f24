-- What is left to say of each clause where one place goes from one phase of a scan to another.
use Rattle.std.proofs.Common.{◌≡◌, ℕ, ◌<◌, true, false, Some, None, sym, refl, ap, ◌∙◌, inl, inr}
use Rattle.std.proofs.lemmas.Bool.{false≢true}
use Rattle.protocol.specs.Words.{upd, Names}
use Rattle.protocol.specs.State.{State, Phase, marking, passed, giving}
use Rattle.protocol.specs.Setters.{set_place, set_low, set_phase}
use Rattle.protocol.specs.Shape.{Shape, through, vacated}
use Rattle.protocol.specs.Clauses.{Listed, Saved, Claimed, Traced, Scanned, Gone, Cleared}
use Rattle.protocol.specs.Invariant.{Inv}
use Rattle.protocol.specs.Steps.{OwnPlace}
use Rattle.protocol.proofs.Words.{upd_tells, upd_other, none_some}
use Rattle.protocol.proofs.Listed.{listed_phase}
use Rattle.protocol.proofs.Claimed.{claimed_place, unclaimed}
use Rattle.protocol.proofs.Traced.{traced_place, scanned_place}
use Rattle.protocol.proofs.Gone.{gone_place}
use Rattle.protocol.proofs.Rights.{saved_place, cleared_place}

module _ (h : Shape) (s : State) (b : Inv h s) (p w r : ℕ) (k : OwnPlace h s p w r) (j : Phase) where
  abbrev next : ℕ → Phase
  next = upd s.phase w j

  pub listed_now : Listed h s.standing s.lists next
  listed_now = listed_phase b.listed next (λ v vW e z. upd_other s.phase w j v (λ y. none_some (sym e ∙ ap s.lists (sym y) ∙ k.full)) ∙ z)

  pub saved_now : Saved h s.names s.standing s.held s.lists next s.storing s.known s.saved
  saved_now = saved_place b.saved p k.ready.stores (λ v vW d. (refl, upd_other s.phase w j v (λ e. d (ap h.ofp (sym e) ∙ k.mine))))

  -- The place's word may change with the phase.
  pub claimed_now : (place : Names) → (j ≡ giving → s.claims w ≡ 0) →
      ((v a : ℕ) → v < h.places → place v ≡ Some a → s.lists v ≡ Some a) →
      ((v : ℕ) → v < h.places → vacated (next v) ≡ true → place v ≡ None) →
      Claimed h s.lists next place s.claims s.claiming s.valid
  claimed_now place f g m = claimed_place b.claimed
      (λ v a z vW l n zN e. (
        l,
        λ t. elim (upd_tells s.phase w j v) [
          | inl (x, y) ↦ unclaimed b.claimed w k.below (f (sym x ∙ t)) z zN (e ∙ ap Some (sym y))
          | inr (x, y) ↦ n (sym x ∙ t)
        ],
      ))
      g m

  -- Or it stays.
  pub claimed_same : vacated j ≡ false → Claimed h s.lists next s.place s.claims s.claiming s.valid
  claimed_same e = claimed_now s.place (λ t. absurd (false≢true (sym e ∙ ap vacated t))) b.claimed.placed
      (λ v vW t. elim (upd_tells s.phase w j v) [
        | inl (x, y) ↦ absurd (false≢true (sym e ∙ ap vacated (sym x) ∙ t))
        | inr (x, y) ↦ b.claimed.empty v vW (ap vacated (sym x) ∙ t)
      ])

  pub traced_now : (s.phase w ≡ marking → ⊥) → Traced h s.names s.trace s.owes_up s.owes_clear s.owes_down s.held s.lists next
  traced_now d = traced_place (λ a (v, vW, l, e). (v, vW, l, upd_other s.phase w j v (λ y. d (ap s.phase y ∙ e)) ∙ e)) b.traced

  pub scanned_now : (j ≡ passed → ⊥) → Scanned h s.names s.trace s.owes_up s.owes_clear s.owes_down s.held s.lists next s.read s.seen
  scanned_now d = scanned_place (λ v a vW e l. (elim (upd_tells s.phase w j v) [ inl (x, y) ↦ absurd (d (sym x ∙ e)) | inr (x, y) ↦ sym x ∙ e ], l)) b.scanned

  pub gone_now : (through j ≡ true → through (s.phase w) ≡ true) → Gone h s.names s.owes_up s.owes_clear s.owes_down s.held s.lists next
  gone_now f = gone_place b.gone (λ v a vW e l. (
    elim (upd_tells s.phase w j v) [
      | inl (x, y) ↦ ap (λ i. through (s.phase i)) (sym y) ∙ f (ap through (sym x) ∙ e)
      | inr (x, y) ↦ ap through (sym x) ∙ e
    ],
    l,
  ))

  pub cleared_now : (j ≡ giving → ⊥) → Cleared h s.names s.lists next s.low
  cleared_now d = cleared_place b.cleared (λ v a vW e l. elim (upd_tells s.phase w j v) [
    | inl (x, y) ↦ absurd (d (sym x ∙ e))
    | inr (x, y) ↦ inl (sym x ∙ e, l, refl)
  ])

  -- The phase, and perhaps the place's word and its next link to clear, change; w was not being marked, and does not
  -- become passed.
  pub with_phase : {place : Names} {low : ℕ → ℕ} → (s.phase w ≡ marking → ⊥) → (j ≡ passed → ⊥) →
      Claimed h s.lists next place s.claims s.claiming s.valid →
      Gone h s.names s.owes_up s.owes_clear s.owes_down s.held s.lists next →
      Cleared h s.names s.lists next low → Inv h (set_place place (set_low low (set_phase next s)))
  with_phase d e c g k = record {
    listed = listed_now;
    saved = saved_now;
    claimed = c;
    traced = traced_now d;
    scanned = scanned_now e;
    gone = g;
    cleared = k;
    counted = b.counted;
    named = b.named;
    held = b.held;
    marks = b.marks;
    owed = b.owed;
  }
