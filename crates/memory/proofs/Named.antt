-- A name changes no standing but that of a fresh record.
use Rattle.std.proofs.Common.{◌≡◌, ℕ, sym, ap, ◌∙◌, refl}
use Rattle.terms.specs.declared.Standing.{Standing}
use Rattle.terms.specs.declared.Standing.TheVariants.{Pooled, Fresh, Linked, Retired}
use Rattle.terms.specs.Words.{put, once_named}
use Rattle.memory.proofs.Together.{put_kept}

pub named_kept : (f : ℕ → Standing) (n r : ℕ) → ((f r ≡ Fresh) → ⊥) → ◌≡◌ {A = ℕ → Standing} f (put n f r (once_named (f r)))
named_kept f n r d = sym (ap (λ v. put n f r v) (go (f r) d) ∙ put_kept n f r)
  where
    go : (v : Standing) → ((v ≡ Fresh) → ⊥) → once_named v ≡ v
    go Pooled d = refl
    go Fresh d = absurd (d refl)
    go Linked d = refl
    go Retired d = refl
