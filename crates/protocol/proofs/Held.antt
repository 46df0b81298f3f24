-- Holds, over the accesses that change slots, hands and standings.
use Rattle.std.proofs.Common.{◌≡◌, ℕ, ◌<◌, Some, None, Option, ◌∙◌, inl, inr, arith}
use Rattle.terms.specs.declared.Standing.{Standing}
use Rattle.terms.specs.declared.Standing.TheVariants.{Pooled, Fresh, Retired}
use Rattle.protocol.specs.Words.{upd, Names, Nowhere}
use Rattle.protocol.specs.Shape.{Shape, Used, linking, Holds, Carries}
use Rattle.protocol.specs.Clauses.{Held}
use Rattle.protocol.proofs.Words.{upd_tells, linking_tells}

module _ {h : Shape} {standing : ℕ → Standing} {slot held hand : Names} (b : Held h standing slot held hand) where
  pub held_verify : (c r : ℕ) → slot c ≡ Some r → Used (standing r) → Held h standing slot (upd held c (Some r)) hand
  held_verify c r y u = record {
    live = λ i a iK e f. grind (arith, upd_tells, b.live i a iK);
    alone = λ i j a iK jK e f g. grind (arith, upd_tells, b.alone i j a iK jK);
    fresh = b.fresh;
    free = λ z i a zN iK e f. grind (arith, upd_tells, b.free z i a zN iK, b.fresh z a zN);
    one_hand = b.one_hand;
    shown = λ i a iK e. grind (arith, upd_tells, b.shown i a iK);
  }

  pub held_release : (c : ℕ) → Held h standing (upd slot c None) (upd held c None) hand
  held_release c = record {
    live = λ i a iK e f. grind (arith, upd_tells, b.live i a iK);
    alone = λ i j a iK jK e f g. grind (arith, upd_tells, b.alone i j a iK jK);
    fresh = b.fresh;
    free = λ z i a zN iK e f. grind (arith, upd_tells, b.free z i a zN iK);
    one_hand = b.one_hand;
    shown = λ i a iK e. grind (arith, upd_tells, b.shown i a iK);
  }

  pub held_write_slot : (c : ℕ) (v : Option ℕ) → held c ≡ None → Held h standing (upd slot c v) held hand
  held_write_slot c v z = record {
    live = b.live;
    alone = b.alone;
    fresh = b.fresh;
    free = b.free;
    one_hand = b.one_hand;
    shown = λ i a iK e. grind (arith, upd_tells, b.shown i a iK);
  }

  pub held_write : (p : ℕ) (n : Option ℕ) → Carries h held p n → Held h (linking n standing) slot held hand
  held_write p n g = record {
    live = λ i a iK e f. grind (arith, linking_tells, b.live i a iK);
    alone = λ i j a iK jK e f k. grind (arith, linking_tells, b.alone i j a iK jK);
    fresh = λ z a zN e. elim (linking_tells n standing a) [
      | inl (x, y) ↦ let (c, cK, o, l) = g a y in absurd (b.free z c a zN cK e l)
      | inr (x, y) ↦ x ∙ b.fresh z a zN e
    ];
    free = b.free;
    one_hand = b.one_hand;
    shown = b.shown;
  }

  pub held_retire : (p r : ℕ) → Holds h held p r → Held h (upd standing r Retired) slot held hand
  held_retire p r (c, cK, o, l) = record {
    live = λ i a iK e f. grind (arith, upd_tells, b.live i a iK);
    alone = λ i j a iK jK e f k. grind (arith, upd_tells, b.alone i j a iK jK);
    fresh = λ z a zN e. grind (arith, upd_tells, b.fresh z a zN, b.free z c a zN cK);
    free = b.free;
    one_hand = b.one_hand;
    shown = b.shown;
  }

  pub held_take : (p r : ℕ) → standing r ≡ Pooled → p < h.stations → Held h (upd standing r Fresh) slot held (upd hand p (Some r))
  held_take p r z pN = record {
    live = λ i a iK e f. grind (arith, upd_tells, b.live i a iK);
    alone = λ i j a iK jK e f k. grind (arith, upd_tells, b.alone i j a iK jK, b.live i a iK);
    fresh = λ y a yN e. grind (arith, upd_tells, b.fresh y a yN);
    free = λ y i a yN iK e f. grind (arith, upd_tells, b.free y i a yN iK, b.live i a iK);
    one_hand = λ x y a xN yN e f. grind (arith, upd_tells, b.one_hand x y a xN yN, b.fresh x a xN, b.fresh y a yN);
    shown = b.shown;
  }

  pub held_hold_new : (p c r : ℕ) → p < h.stations → h.of c ≡ p → hand p ≡ Some r → Held h standing (upd slot c (Some r)) (upd held c (Some r)) (upd hand p None)
  held_hold_new p c r pN o y = record {
    live = λ i a iK e f. grind (arith, upd_tells, b.live i a iK, b.fresh p r pN);
    alone = λ i j a iK jK e f g. grind (arith, upd_tells, b.alone i j a iK jK, b.free p i r pN iK, b.free p j r pN jK);
    fresh = λ z a zN e. grind (arith, upd_tells, b.fresh z a zN);
    free = λ z i a zN iK e f. grind (arith, upd_tells, b.free z i a zN iK, b.one_hand z p a zN pN);
    one_hand = λ x z a xN zN e f. grind (arith, upd_tells, b.one_hand x z a xN zN);
    shown = λ i a iK e. grind (arith, upd_tells, b.shown i a iK);
  }

  pub held_give : (r : ℕ) → Nowhere h.slots held r → standing r ≡ Retired → Held h (upd standing r Pooled) slot held hand
  held_give r g t = record {
    live = λ i a iK e f. grind (arith, upd_tells, b.live i a iK, g i iK);
    alone = λ i j a iK jK e f k. grind (arith, upd_tells, b.alone i j a iK jK);
    fresh = λ z a zN e. grind (arith, upd_tells, b.fresh z a zN);
    free = b.free;
    one_hand = b.one_hand;
    shown = b.shown;
  }
