-- What is owed, over every change of debts, slots and standings.
use Rattle.std.proofs.Common.{◌≡◌, ℕ, ◌⊎◌, Some, None, Option, sym, ap, ◌∙◌, inl, inr, arith}
use Rattle.terms.specs.declared.Standing.{Standing}
use Rattle.terms.specs.declared.Standing.TheVariants.{Pooled, Fresh}
use Rattle.protocol.specs.Words.{upd, Names, Nowhere}
use Rattle.protocol.specs.Shape.{Shape, Used, linking, Holds, Carries}
use Rattle.protocol.specs.Clauses.{Owed}
use Rattle.protocol.proofs.Words.{upd_tells, upd_other, linking_tells, none_some}

-- A hold stays where another slot changes, or one that does not hold this.
pub holds_keep : (h : Shape) (held : Names) (z r c : ℕ) (v : Option ℕ) → (h.of c ≡ z → held c ≡ Some r → ⊥) → Holds h held z r → Holds h (upd held c v) z r
holds_keep h held z r c v g (d, dK, o, e) =
    (d, dK, o, upd_other held c v d (λ t. g (ap h.of t ∙ o) (ap held t ∙ e)) ∙ e)

module _ {h : Shape} {standing : ℕ → Standing} {held owes_up owes_clear owes_down : Names} (b : Owed h standing held owes_up owes_clear owes_down) where
  pub owed_write : (p : ℕ) (o n : Option ℕ) → Carries h held p n → ((r : ℕ) → o ≡ Some r → Used (standing r)) →
      Owed h (linking n standing) held (upd owes_up p n) (upd owes_clear p n) (upd owes_down p o)
  owed_write p o n g k = record {
    first = λ z a zN e. grind (arith, upd_tells, b.first z a zN);
    kept = λ z a zN e. elim (upd_tells owes_clear p n z) [
      | inl (x, y) ↦ let (c, cK, i, l) = g a (sym x ∙ e) in (c, cK, i ∙ y, l)
      | inr (x, y) ↦ b.kept z a zN (sym x ∙ e)
    ];
    left = λ z a zN e. grind (arith, upd_tells, linking_tells, b.left z a zN, k a);
  }

  pub owed_raise : (p : ℕ) → Owed h standing held (upd owes_up p None) owes_clear owes_down
  owed_raise p = record { first = λ z a zN e. grind (arith, upd_tells, b.first z a zN); kept = b.kept; left = b.left }

  pub owed_clear : (p : ℕ) → owes_up p ≡ None → Owed h standing held owes_up (upd owes_clear p None) owes_down
  owed_clear p t = record {
    first = λ z a zN e. grind (arith, upd_tells, b.first z a zN);
    kept = λ z a zN e. elim (upd_tells owes_clear p None z) [
      | inl (x, y) ↦ absurd (none_some (sym x ∙ e))
      | inr (x, y) ↦ b.kept z a zN (sym x ∙ e)
    ];
    left = b.left;
  }

  pub owed_lower : (p : ℕ) → Owed h standing held owes_up owes_clear (upd owes_down p None)
  owed_lower p = record { first = b.first; kept = b.kept; left = λ z a zN e. grind (arith, upd_tells, b.left z a zN) }

  -- A slot of p changes: it held nothing, or p owes no clearing.
  pub owed_slot : (p c : ℕ) (v : Option ℕ) → h.of c ≡ p → (held c ≡ None) ⊎ (owes_clear p ≡ None) → Owed h standing (upd held c v) owes_up owes_clear owes_down
  owed_slot p c v o g = record {
    first = b.first;
    kept = λ z a zN e. holds_keep h held z a c v (λ i y. grind arith) (b.kept z a zN e);
    left = b.left;
  }

  -- A standing changes: to linked or retired, or that of a record whose count nobody has to lower.
  pub owed_standing : (r : ℕ) (t : Standing) → Used t ⊎ Nowhere h.stations owes_down r → Owed h (upd standing r t) held owes_up owes_clear owes_down
  owed_standing r t g = record {
    first = b.first;
    kept = b.kept;
    left = λ z a zN e. elim g [
      | inl u ↦ grind (arith, upd_tells, b.left z a zN)
      | inr n ↦ grind (arith, upd_tells, b.left z a zN, n z zN)
    ];
  }

  -- Nobody has to lower the count of a record that is pooled or fresh.
  pub unlowered : (r : ℕ) → (standing r ≡ Pooled) ⊎ (standing r ≡ Fresh) → Nowhere h.stations owes_down r
  unlowered r y z zN e = grind (arith, b.left z r zN)
