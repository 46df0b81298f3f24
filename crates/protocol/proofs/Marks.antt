-- The deleted mark, over every change of standings, marks and hands.
use Rattle.std.proofs.Common.{◌≡◌, ℕ, ◌<◌, Bool, true, false, ◌⊎◌, Some, None, Option, sym, refl, ap, ◌∙◌, inl, inr, arith}
use Rattle.std.proofs.lemmas.Bool.{cases_eq}
use Rattle.terms.specs.declared.Standing.{Standing}
use Rattle.terms.specs.declared.Standing.TheVariants.{Pooled, Fresh, Retired}
use Rattle.protocol.specs.Words.{upd, Names}
use Rattle.protocol.specs.Shape.{Shape, linking}
use Rattle.protocol.specs.Clauses.{Marks}
use Rattle.protocol.proofs.Words.{upd_tells, upd_same, upd_other, linking_tells, some_same}

module _ {h : Shape} {standing : ℕ → Standing} {deleted : ℕ → Bool} {hand : Names} {wiped : ℕ → Bool} (b : Marks h standing deleted hand wiped) where
  -- A record is pooled or retired.
  pub marks_standing : (r : ℕ) (t : Standing) → (t ≡ Pooled) ⊎ (t ≡ Retired) → Marks h (upd standing r t) deleted hand wiped
  marks_standing r t g = record { clear = λ a u. b.clear a (grind (arith, upd_tells)) }

  pub marks_write : (n : Option ℕ) → ((r : ℕ) → n ≡ Some r → standing r ≡ Pooled → ⊥) → Marks h (linking n standing) deleted hand wiped
  marks_write n g = record { clear = λ a u. b.clear a (grind (arith, linking_tells, g a)) }

  pub marks_take : (p r : ℕ) → p < h.stations → hand p ≡ None → Marks h (upd standing r Fresh) deleted (upd hand p (Some r)) (upd wiped p false)
  marks_take p r pN z = record {
    clear = λ a u. elim (upd_tells standing r Fresh a) [
      | inl (x, y) ↦ inr (p, pN, upd_same hand p (Some r) p refl ∙ ap Some y, upd_same wiped p false p refl)
      | inr (x, y) ↦ elim (b.clear a (grind arith)) [
        | inl t ↦ inl t
        | inr (q, qN, e, f) ↦ inr (q, qN, grind (arith, upd_tells), grind (arith, upd_tells))
      ]
    ];
  }

  pub marks_hold_new : (p : ℕ) → wiped p ≡ true → Marks h standing deleted (upd hand p None) wiped
  marks_hold_new p z = record {
    clear = λ a u. elim (b.clear a u) [
      | inl t ↦ inl t
      | inr (q, qN, e, f) ↦ inr (q, qN, grind (arith, upd_tells), f)
    ];
  }

  pub marks_clear : (p r : ℕ) → hand p ≡ Some r → Marks h standing (upd deleted r false) hand (upd wiped p true)
  marks_clear p r z = record {
    clear = λ a u. elim (cases_eq r a) [
      | inl t ↦ inl (upd_same deleted r false a t)
      | inr d ↦ elim (b.clear a u) [
        | inl t ↦ inl (upd_other deleted r false a d ∙ t)
        | inr (q, qN, e, f) ↦ inr (q, qN, e, upd_other wiped p true q (λ y. d (some_same (sym z ∙ ap hand y ∙ e))) ∙ f)
      ]
    ];
  }

  pub marks_mark : (r : ℕ) → standing r ≡ Retired → Marks h standing (upd deleted r true) hand wiped
  marks_mark r z = record {
    clear = λ a u. elim (b.clear a u) [
      | inl t ↦ inl (upd_other deleted r true a (λ y. grind arith) ∙ t)
      | inr k ↦ inr k
    ];
  }
