-- What holds of one step holds of all that a station does in a turn.
use Rattle.std.proofs.Common.{◌≡◌, ℕ, sym, refl, ap, ◌∙◌, inl, arith}
use Rattle.terms.specs.declared.Standing.{Standing}
use Rattle.protocol.specs.State.{State}
use Rattle.protocol.specs.Shape.{Shape, Holds}
use Rattle.protocol.specs.Steps.{stay, go}
use Rattle.protocol.specs.Own.{SlotWords, Untouched}
use Rattle.protocol.specs.Theorems.{Stays, TurnsKeep}
use Rattle.protocol.proofs.All.{keeps}
use Rattle.protocol.proofs.Changes.{rely}
use Rattle.protocol.proofs.Others.{untouched}

pub stays_on : (a b c : Standing) → Stays a b → Stays b c → Stays a c
stays_on a b c f g = grind arith

pub untouched_on : (h : Shape) (p : ℕ) (s t u : State) → Untouched h s p t → Untouched h t p u → Untouched h s p u
untouched_on h p s t u f g = record {
  slots = λ c d. g.slots c d ∙ f.slots c d;
  places = λ w d. g.places w d ∙ f.places w d;
  stations = λ z d. g.stations z d ∙ f.stations z d;
}

-- Another station holds afterwards what it held before.
pub holds_on : (h : Shape) (s : State) (p : ℕ) (t : State) → Untouched h s p t → (z r : ℕ) → (z ≡ p → ⊥) → Holds h s.held z r → Holds h t.held z r
holds_on h s p t f z r d (c, cK, o, e) = (c, cK, o, ap (λ (x : SlotWords). x.held) (f.slots c (λ y. d (sym o ∙ y))) ∙ e)

pub turns : TurnsKeep
turns h s p pN b t stay = record {
  inv = b;
  others = record { slots = λ _ _. refl; places = λ _ _. refl; stations = λ _ _. refl };
  rely = λ z r d g. inl refl;
}
turns h s p pN b t (go {t = m} k _ x) =
    let f = turns h s p pN b m k in
    record {
      inv = keeps h m p pN f.inv t x;
      others = untouched_on h p s m t f.others (untouched h m p t x);
      rely = λ z r d g. stays_on (s.standing r) (m.standing r) (t.standing r) (f.rely z r d g)
          (rely h m p f.inv t x z r d (holds_on h s p m f.others z r d g));
    }
