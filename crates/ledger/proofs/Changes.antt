-- What each change of the ledger leaves at a given record, link or station.
use Rattle.std.proofs.Common.{◌≡◌, ℕ, Bool, true, false, ◌≢◌, ◌⊎◌, Some, None, Option, sym, refl, ap, ◌∙◌, inl, inr, arith}
use Rattle.terms.specs.declared.Record.{Record}
use Rattle.terms.specs.declared.Station.{Station}
use Rattle.terms.specs.declared.Position.{Position}
use Rattle.terms.specs.declared.Spot.{Spot}
use Rattle.terms.specs.declared.Spot.TheVariants.{Root, Link}
use Rattle.terms.specs.declared.Standing.{Standing}
use Rattle.terms.specs.declared.Standing.TheVariants.{Pooled, Fresh, Linked, Retired}
use Rattle.terms.specs.Words.{once_named}
use Rattle.ledger.specs.Words.{same_record, same_station, changed}
use Rattle.ledger.specs.Ledger.{Ledger, with_holds, naming, noting}
use Rattle.ledger.proofs.Words.{same_record_is, same_station_is, name_same, record_same, position_same, at_key, tells}

-- What a changed function gives, for each kind of key.
pub stand_tells : (f : Record → Standing) (r : Record) (t : Standing) (s : Record) → ((s ≡ r) × (changed same_record f r t s ≡ t)) ⊎ ((same_record s r ≡ false) × (changed same_record f r t s ≡ f s))
stand_tells f r t s = tells same_record f r t s same_record_is

-- Either these are the holds that changed, or they are as before.
pub holds_tells : (l : Ledger) (s : Station) (r : Record) (n : ℕ) (t : Station) (m : Record) →
    ((t ≡ s) × (m ≡ r) × ((with_holds l s r n).holds t m ≡ n)) ⊎ ((with_holds l s r n).holds t m ≡ l.holds t m)
holds_tells l s r n t m = elim (tells same_station l.holds s (changed same_record (l.holds s) r n) t same_station_is) [
  | inl (is, e) ↦ elim (tells same_record (l.holds s) r n m same_record_is) [
    | inl (is', e') ↦ inl (is, is', ap (λ (f : Record → ℕ). f m) e ∙ e')
    | inr (_, e') ↦ inr (ap (λ (f : Record → ℕ). f m) e ∙ e' ∙ ap (λ s. l.holds s m) (sym is))
  ]
  | inr (_, e) ↦ inr (ap (λ (f : Record → ℕ). f m) e)
]

-- A record keeps its standing when a name is written, or it was fresh, is the one named, and is linked now.
pub naming_tells : (f : Record → Standing) (n : Option Record) (m : Record) →
    (naming f n m ≡ f m) ⊎ ((n ≡ Some m) × (f m ≡ Fresh) × (naming f n m ≡ Linked))
naming_tells f None m = inl refl
naming_tells f (Some r) m = elim (stand_tells f r (once_named (f r)) m) [
  | inl (is, e) ↦ elim (once (f r)) [
    | inl same ↦ inl (e ∙ same ∙ ap f (sym is))
    | inr (fresh, linked) ↦ inr (ap (λ r. Some r) (sym is), ap f is ∙ fresh, e ∙ linked)
  ]
  | inr (_, e) ↦ inl e
]
  where
    once : (t : Standing) → (once_named t ≡ t) ⊎ ((t ≡ Fresh) × (once_named t ≡ Linked))
    once Pooled = inl refl
    once Fresh = inr (refl, refl)
    once Linked = inl refl
    once Retired = inl refl

-- The record that is named is fresh no more.
pub naming_ends : (f : Record → Standing) (m : Record) → naming f (Some m) m ≢ Fresh
naming_ends f m e = once (f m) (sym (at_key same_record f m (once_named (f m)) record_same) ∙ e)
  where
    once : (t : Standing) → once_named t ≢ Fresh
    once t e = grind arith

-- What a link has named stays noted, and what is written is noted.
pub noting_keeps : (f : Record → Position → Option Record → Bool) (q : Spot) (n : Option Record) (m : Record) (x : Position) (k : Option Record) →
    f m x k ≡ true → noting f q n m x k ≡ true
noting_keeps f (Root g) n m x k h = h
noting_keeps f (Link r y) n m x k h = grind (arith, tells)

pub noting_notes : (f : Record → Position → Option Record → Bool) (r : Record) (x : Position) (n : Option Record) → noting f (Link r x) n r x n ≡ true
noting_notes f r x n = rw (record_same r, position_same x, name_same n)

-- Of what a link has named after a write, what is new is what was written.
pub noting_tells : (f : Record → Position → Option Record → Bool) (q : Spot) (n : Option Record) (r : Record) (x : Position) (k : Option Record) →
    noting f q n r x k ≡ true → (f r x k ≡ true) ⊎ ((q ≡ Link r x) × (n ≡ k))
noting_tells f (Root g) n r x k h = inl h
noting_tells f (Link m y) n r x k h = grind (arith, tells, same_record_is)
