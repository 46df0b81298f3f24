-- Claims, over every change of lists, phases, places and claims.
use Rattle.std.proofs.Common.{◌≡◌, ℕ, ◌+◌, ◌-◌, ◌<◌, true, Some, None, Option, sym, ap, ◌∙◌, inl, inr, arith}
use Rattle.protocol.specs.Words.{upd, Names, Nowhere}
use Rattle.protocol.specs.State.{Phase, giving}
use Rattle.protocol.specs.Shape.{Shape, vacated}
use Rattle.protocol.specs.Clauses.{Claimed}
use Rattle.protocol.proofs.Words.{upd_tells, upd_other, times_upd, times_none, none_some, some_same, once_here, once_else}

module _ {h : Shape} {lists : Names} {phase : ℕ → Phase} {place : Names} {claims : ℕ → ℕ} {claiming valid : Names} (b : Claimed h lists phase place claims claiming valid) where
  -- Lists, phases and places change, but nothing that somebody found in a claimed place.
  pub claimed_place : {lists' : Names} {phase' : ℕ → Phase} {place' : Names} →
      ((w r p : ℕ) → w < h.places → lists w ≡ Some r → (phase w ≡ giving → ⊥) → p < h.stations → claiming p ≡ Some w → (lists' w ≡ Some r) × (phase' w ≡ giving → ⊥)) →
      ((w r : ℕ) → w < h.places → place' w ≡ Some r → lists' w ≡ Some r) →
      ((w : ℕ) → w < h.places → vacated (phase' w) ≡ true → place' w ≡ None) →
      Claimed h lists' phase' place' claims claiming valid
  claimed_place f g k = record {
    number = b.number;
    listed = λ p r pN e.
        let (w, wW, c, l, n) = b.listed p r pN e in
        let (y, x) = f w r p wW l n pN c in
        (w, wW, c, y, x);
    placed = g;
    empty = k;
  }

  -- A claim number of 0: nobody claims the place.
  pub unclaimed : (w : ℕ) → w < h.places → claims w ≡ 0 → Nowhere h.stations claiming w
  unclaimed w wW z = times_none h.stations claiming w (sym (b.number w wW) ∙ z)

  module _ (p w : ℕ) (pN : p < h.stations) where
    pub claimed_more : claiming p ≡ None → Claimed h lists phase place (upd claims w (claims w + 1)) (upd claiming p (Some w)) valid
    claimed_more z = record {
      number = λ i iW.
          let f = times_upd h.stations claiming p (Some w) i pN in
          let y = once_else (claiming p) i (λ t. none_some (sym z ∙ t)) in
          elim (upd_tells claims w (claims w + 1) i) [
            | inl (x, j) ↦ rw x (omega (arith, b.number i iW, ap claims j, once_here (Some w) i (ap Some j)))
            | inr (x, j) ↦ rw x (omega (arith, b.number i iW, once_else (Some w) i (λ t. j (some_same t))))
          ];
      listed = λ i a iN e.
          let (v, vW, c, l, n) = b.listed i a iN e in
          (v, vW, upd_other claiming p (Some w) i (λ t. none_some (sym z ∙ ap claiming t ∙ c)) ∙ c, l, n);
      placed = b.placed;
      empty = b.empty;
    }

    pub claimed_less : claiming p ≡ Some w → Claimed h lists phase place (upd claims w (claims w - 1)) (upd claiming p None) (upd valid p None)
    claimed_less z = record {
      number = λ i iW.
          let f = times_upd h.stations claiming p None i pN in
          let y = once_else None i none_some in
          elim (upd_tells claims w (claims w - 1) i) [
            | inl (x, j) ↦ rw x (omega (arith, b.number i iW, ap claims j, once_here (claiming p) i (z ∙ ap Some j)))
            | inr (x, j) ↦ rw x (omega (arith, b.number i iW, once_else (claiming p) i (λ t. j (some_same (sym z ∙ t)))))
          ];
      listed = λ i a iN e. elim (upd_tells valid p None i) [
        | inl (x, j) ↦ absurd (none_some (sym x ∙ e))
        | inr (x, j) ↦
            let (v, vW, c, l, n) = b.listed i a iN (sym x ∙ e) in
            (v, vW, upd_other claiming p None i j ∙ c, l, n)
      ];
      placed = b.placed;
      empty = b.empty;
    }

    -- A second look at the claimed place: what it names is listed, and is not being given back.
    pub claimed_look : (v : Option ℕ) → w < h.places → claiming p ≡ Some w → place w ≡ v → Claimed h lists phase place claims claiming (upd valid p v)
    claimed_look v wW z y = record {
      number = b.number;
      listed = λ i a iN e. elim (upd_tells valid p v i) [
        | inl (x, j) ↦
            let f : place w ≡ Some a = y ∙ sym x ∙ e in
            (w, wW, ap claiming (sym j) ∙ z, b.placed w a wW f, λ g. none_some (sym (b.empty w wW (ap vacated g)) ∙ f))
        | inr (x, j) ↦ b.listed i a iN (sym x ∙ e)
      ];
      placed = b.placed;
      empty = b.empty;
    }
