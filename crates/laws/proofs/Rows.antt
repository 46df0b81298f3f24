-- The rows of one station's own words, with one point changed or left.
use Rattle.std.proofs.Common.{◌≡◌, ℕ, ◌+◌, ◌*◌, ◌<◌, ◌≤◌, ◌⊎◌, None, Option, sym, refl, ap, ◌∙◌, inl, inr, arith}
use mathlib.Core.Path.{fun_ext}
use Rattle.std.proofs.lemmas.Bool.{cases_eq, cases_lt, cond-true, cond-false, lt-ltb, le-ltb}
use Rattle.protocol.specs.Words.{Names, upd}
use Rattle.protocol.proofs.Words.{upd_same, upd_other}
use Rattle.laws.specs.Numbers.{slot_number, place_number}
use Rattle.laws.specs.Mine.{row, column}

pub upd_here : {A : Type 0} (f : ℕ → A) (i : ℕ) (v : A) → upd f i v i ≡ v
upd_here f i v = upd_same f i v i refl

pub row_tells : (f : Names) (p i : ℕ) → ((row f p i ≡ f (slot_number p i)) × (i < 8)) ⊎ ((row f p i ≡ None) × (8 ≤ i))
unfolding row
row_tells f p i = elim (cases_lt i 8) [
  | inl l ↦ inl (cond-true _ (f (slot_number p i)) None (lt-ltb i 8 l), l)
  | inr l ↦ inr (cond-false _ (f (slot_number p i)) None (le-ltb i 8 l), l)
]

pub row_at : (f : Names) (p i : ℕ) → i < 8 → row f p i ≡ f (slot_number p i)
row_at f p i l = elim (row_tells f p i) [ inl (e, _) ↦ e | inr (_, k) ↦ absurd (omega arith) ]

-- One slot of the station changed.
pub row_upd : (f : Names) (p i : ℕ) (v : Option ℕ) → i < 8 → ◌≡◌ {A = Names} (row (upd f (slot_number p i) v) p) (upd (row f p) i v)
row_upd f p i v l = fun_ext (λ k. elim (row_tells f p k) [
  | inl (e, b) ↦ elim (cases_eq i k) [
    | inl y ↦ row_at (upd f (slot_number p i) v) p k b ∙ upd_same f (slot_number p i) v (slot_number p k) (ap (λ n. 8 * p + n) y) ∙ sym (upd_same (row f p) i v k y)
    | inr d ↦ row_at (upd f (slot_number p i) v) p k b ∙ upd_other f (slot_number p i) v (slot_number p k) (λ y. d (omega arith)) ∙ sym e ∙ sym (upd_other (row f p) i v k d)
  ]
  | inr (e, b) ↦ elim (row_tells (upd f (slot_number p i) v) p k) [
    | inl (_, c) ↦ absurd (omega arith)
    | inr (c, _) ↦ c ∙ sym e ∙ sym (upd_other (row f p) i v k (λ y. omega arith))
  ]
])

-- All slots of the station as they were.
pub row_same : (f g : Names) (p : ℕ) → ((i : ℕ) → i < 8 → g (slot_number p i) ≡ f (slot_number p i)) → ◌≡◌ {A = Names} (row g p) (row f p)
row_same f g p h = fun_ext (λ k. elim (row_tells f p k) [
  | inl (e, b) ↦ row_at g p k b ∙ h k b ∙ sym e
  | inr (e, b) ↦ elim (row_tells g p k) [ inl (_, c) ↦ absurd (omega arith) | inr (c, _) ↦ c ∙ sym e ]
])

-- One place of the station changed.
pub column_upd : {A : Type 0} (f : ℕ → A) (p j : ℕ) (v : A) → ◌≡◌ {A = ℕ → A} (column (upd f (place_number p j) v) p) (upd (column f p) j v)
column_upd f p j v = fun_ext (λ k. elim (cases_eq j k) [
  | inl y ↦ upd_same f (place_number p j) v (place_number p k) (ap (λ n. 8 * n + p) y) ∙ sym (upd_same (column f p) j v k y)
  | inr d ↦ upd_other f (place_number p j) v (place_number p k) (λ y. d (omega arith)) ∙ sym (upd_other (column f p) j v k d)
])
