-- What the invariant promises: bounds, and what is never pooled.
use Rattle.std.proofs.Common.{◌≡◌, ◌⊎◌, sym, refl, ◌∙◌, inl, inr, arith}
use Rattle.std.proofs.lemmas.Bool.{false≢true}
use Rattle.std.proofs.lemmas.Int.{ints}
use Rattle.terms.specs.declared.Standing.{Standing}
use Rattle.terms.specs.declared.Standing.TheVariants.{Pooled, Fresh, Linked, Retired}
use Rattle.protocol.specs.State.{State}
use Rattle.protocol.specs.Shape.{Shape, Used}
use Rattle.protocol.specs.Invariant.{Inv}
use Rattle.protocol.specs.Theorems.{Bounded, Safe, AllSafe, as_held, as_listed, as_claimed, as_owed, in_hand, TouchesLive, FreshAlone, ListedOnce, MarkedRetired}
use Rattle.protocol.proofs.Words.{times_most}
use Rattle.protocol.proofs.All.{always}

pub bounded : Bounded
bounded h s b = record {
  counts = λ r.
      let x = b.counted.sum r in
      let u = times_most h.stations s.owes_up r in
      let d = times_most h.stations s.owes_down r in
      let n = times_most h.spots s.names r in
      record { low = omega (arith, ints); high = omega (arith, ints) };
  claims = λ w wW. omega (arith, b.claimed.number w wW, times_most h.stations s.claiming w);
}

used_live : (a : Standing) → Used a → a ≡ Pooled → ⊥
used_live a u e = grind arith

retired_live : (a : Standing) → a ≡ Retired → a ≡ Pooled → ⊥
retired_live a u e = grind arith

pub safe : (h : Shape) (s : State) → Inv h s → Safe h s
safe h s b = record {
  spots = λ q r qQ e. used_live (s.standing r) (b.named.used q r qQ e);
  slots = b.held.live;
}

pub all_safe : AllSafe
all_safe h s k = safe h s (always h s k)

pub touches_live : TouchesLive
touches_live h s p pN b r (as_held (c, cK, o, e)) = b.held.live c r cK e
touches_live h s p pN b r (as_listed w wW o e) = retired_live (s.standing r) (b.listed.retired w r wW e)
touches_live h s p pN b r (as_claimed e) = let (w, wW, c, l, n) = b.claimed.listed p r pN e in retired_live (s.standing r) (b.listed.retired w r wW l)
touches_live h s p pN b r (as_owed e) = used_live (s.standing r) (b.owed.left p r pN e)
touches_live h s p pN b r (in_hand e) = λ z. let f = b.held.fresh p r pN e in grind arith

pub fresh_alone : FreshAlone
fresh_alone h s b = record {
  holder = λ p z r (c, cK, o, e) (d, dK, i, f) t. sym o ∙ b.held.alone c d r cK dK e f t ∙ i;
  unheld = λ p z r pN e (c, cK, o, f). b.held.free p c r pN cK e f;
}

pub listed_once : ListedOnce
listed_once h s b = record { retired = b.listed.retired; once = b.listed.once }

pub marked_retired : MarkedRetired
marked_retired h s b p r (c, cK, o, e) d = by (s.standing r) refl
  where
    clear : (s.standing r ≡ Fresh) ⊎ (s.standing r ≡ Linked) → ⊥
    clear u = elim (b.marks.clear r u) [
      | inl x ↦ false≢true (sym x ∙ d)
      | inr (z, zN, y, x) ↦ b.held.free z c r zN cK y e
    ]

    by : (a : Standing) → s.standing r ≡ a → a ≡ Retired
    by Pooled t = absurd (b.held.live c r cK e t)
    by Fresh t = absurd (clear (inl t))
    by Linked t = absurd (clear (inr t))
    by Retired t = refl
