-- Spots name linked or retired records, over every change of spots and standings.
use Rattle.std.proofs.Common.{◌≡◌, ℕ, ◌⊎◌, Some, Option, inl, inr, arith}
use Rattle.terms.specs.declared.Standing.{Standing}
use Rattle.terms.specs.declared.Standing.TheVariants.{Pooled, Fresh}
use Rattle.protocol.specs.Words.{upd, Names, Nowhere}
use Rattle.protocol.specs.Shape.{Shape, Used, linking}
use Rattle.protocol.specs.Clauses.{Named}
use Rattle.protocol.proofs.Words.{upd_tells, linking_tells}

module _ {h : Shape} {names : Names} {standing : ℕ → Standing} (b : Named h names standing) where
  pub named_write : (q : ℕ) (n : Option ℕ) → ((r : ℕ) → n ≡ Some r → standing r ≡ Pooled → ⊥) → Named h (upd names q n) (linking n standing)
  named_write q n g = record { used = λ i a iQ e. grind (arith, upd_tells, linking_tells, b.used i a iQ, g a) }

  -- A standing changes: to linked or retired, or that of a record that no spot names.
  pub named_standing : (r : ℕ) (t : Standing) → Used t ⊎ Nowhere h.spots names r → Named h names (upd standing r t)
  named_standing r t g = record {
    used = λ i a iQ e. elim g [
      | inl u ↦ grind (arith, upd_tells, b.used i a iQ)
      | inr n ↦ grind (arith, upd_tells, b.used i a iQ, n i iQ)
    ];
  }

  -- No spot names a record that is pooled or fresh.
  pub unnamed : (r : ℕ) → (standing r ≡ Pooled) ⊎ (standing r ≡ Fresh) → Nowhere h.spots names r
  unnamed r z i iQ e = grind (arith, b.used i r iQ)
