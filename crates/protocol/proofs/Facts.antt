-- Small consequences of the invariant, for those who show that a machine takes such steps.
use Rattle.std.proofs.Common.{◌≡◌, ℕ, ◌<◌, Some, None, Option, sym, refl, ◌∙◌}
use Rattle.terms.specs.declared.Standing.TheVariants.{Retired}
use Rattle.protocol.specs.State.{State}
use Rattle.protocol.specs.Shape.{Shape}
use Rattle.protocol.specs.Invariant.{Inv}
use Rattle.protocol.specs.Steps.{Step, Moves, stay, go}
use Rattle.protocol.proofs.Words.{none_some}

-- A name that is no record's is none.
pub none_if : (a : Option ℕ) → ((r : ℕ) → a ≡ Some r → ⊥) → a ≡ None
none_if None f = refl
none_if (Some r) f = absurd (f r refl)

module _ (h : Shape) (s : State) (b : Inv h s) where
  -- An empty slot holds nothing.
  pub empty_unheld : (c : ℕ) → c < h.slots → s.slot c ≡ None → s.held c ≡ None
  empty_unheld c cK e = none_if (s.held c) (λ r y. none_some (sym e ∙ b.held.shown c r cK y))

  -- A place that lists nothing names nothing.
  pub unlisted_empty : (w : ℕ) → w < h.places → s.lists w ≡ None → s.place w ≡ None
  unlisted_empty w wW e = none_if (s.place w) (λ r y. none_some (sym e ∙ b.claimed.placed w r wW y))

  -- Without a claim nothing was found in a claimed place.
  pub unclaimed_invalid : (p : ℕ) → p < h.stations → s.claiming p ≡ None → s.valid p ≡ None
  unclaimed_invalid p pN e = none_if (s.valid p) (λ r y. let (w, wW, c, l, n) = b.claimed.listed p r pN y in none_some (sym e ∙ c))

  -- What was found in a claimed place is retired.
  pub valid_retired : (p r : ℕ) → p < h.stations → s.valid p ≡ Some r → s.standing r ≡ Retired
  valid_retired p r pN y = let (w, wW, c, l, n) = b.claimed.listed p r pN y in b.listed.retired w r wW l

-- One step is a turn, and turns join.
pub one_move : (h : Shape) (s : State) (p : ℕ) (t : State) → Step h s p t → Moves h s p t
one_move h s p t k = go stay t k

pub moves_on : (h : Shape) (s : State) (p : ℕ) (t u : State) → Moves h s p t → Moves h t p u → Moves h s p u
moves_on h s p t u f stay = f
moves_on h s p t u f (go {t = m} g _ k) = go (moves_on h s p t m f g) u k
