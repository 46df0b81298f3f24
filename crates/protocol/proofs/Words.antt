-- One point of a function changed, and how often a name stands below a bound.
use Rattle.std.proofs.Common.{◌≡◌, ℕ, zero, suc, ◌+◌, ◌<◌, ◌≤◌, Bool, true, eqb, ◌⊎◌, Some, None, Option, sym, refl, ap, ◌∙◌, inl, inr, arith}
use Rattle.std.proofs.lemmas.Bool.{eq-eqb, ne_eqb, cond-true, cond-false, cases_eq}
use Rattle.terms.specs.declared.Standing.{Standing}
use Rattle.protocol.specs.Words.{upd, Names, once_if, times, Nowhere}
use Rattle.terms.specs.Words.{once_named}
use Rattle.protocol.specs.Shape.{linking, seeing}

pub upd_same : {A : Type 0} (f : ℕ → A) (i : ℕ) (v : A) (j : ℕ) → i ≡ j → upd f i v j ≡ v
unfolding upd
upd_same f i v j e = cond-true (eqb i j) v (f j) (eq-eqb i j e)

pub upd_other : {A : Type 0} (f : ℕ → A) (i : ℕ) (v : A) (j : ℕ) → (i ≡ j → ⊥) → upd f i v j ≡ f j
unfolding upd
upd_other f i v j d = cond-false (eqb i j) v (f j) (ne_eqb i j d)

-- Both ways at once, to be taken apart.
pub upd_tells : {A : Type 0} (f : ℕ → A) (i : ℕ) (v : A) (j : ℕ) → ((upd f i v j ≡ v) × (i ≡ j)) ⊎ ((upd f i v j ≡ f j) × (i ≡ j → ⊥))
upd_tells f i v j = elim (cases_eq i j) [ inl e ↦ inl (upd_same f i v j e, e) | inr d ↦ inr (upd_other f i v j d, d) ]

-- A name is r, or it is not.
pub names_or : (a : Option ℕ) (r : ℕ) → (a ≡ Some r) ⊎ (a ≡ Some r → ⊥)
names_or None r = inr (λ e. grind arith)
names_or (Some a) r = elim (cases_eq a r) [ inl e ↦ inl (ap Some e) | inr d ↦ inr (λ e. grind arith) ]

-- The same of the standings after a write.
pub linking_tells : (n : Option ℕ) (f : ℕ → Standing) (r : ℕ) → ((linking n f r ≡ once_named (f r)) × (n ≡ Some r)) ⊎ ((linking n f r ≡ f r) × (n ≡ Some r → ⊥))
unfolding linking
linking_tells None f r = inr (refl, λ e. grind arith)
linking_tells (Some a) f r = elim (upd_tells f a (once_named (f a)) r) [
  | inl (x, e) ↦ inl (x ∙ ap (λ i. once_named (f i)) e, ap Some e)
  | inr (x, d) ↦ inr (x, λ e. grind arith)
]

-- And of what a scan has seen after it read a slot.
pub seeing_tells : (v : Option ℕ) (f : ℕ → Bool) (r : ℕ) → ((seeing v f r ≡ true) × (v ≡ Some r)) ⊎ ((seeing v f r ≡ f r) × (v ≡ Some r → ⊥))
unfolding seeing
seeing_tells None f r = inr (refl, λ e. grind arith)
seeing_tells (Some a) f r = elim (upd_tells f a true r) [
  | inl (x, e) ↦ inl (x, ap Some e)
  | inr (x, d) ↦ inr (x, λ e. grind arith)
]

pub once_tells : (a : Option ℕ) (r : ℕ) → ((once_if a r ≡ 1) × (a ≡ Some r)) ⊎ ((once_if a r ≡ 0) × (a ≡ Some r → ⊥))
unfolding once_if
once_tells None r = inr (refl, λ e. grind arith)
once_tells (Some a) r = elim (cases_eq a r) [
  | inl e ↦ inl (cond-true (eqb a r) 1 0 (eq-eqb a r e), ap Some e)
  | inr d ↦ inr (cond-false (eqb a r) 1 0 (ne_eqb a r d), λ e. grind arith)
]

-- A name counts once for its own record, and not for others.
pub once_here : (a : Option ℕ) (r : ℕ) → a ≡ Some r → once_if a r ≡ 1
once_here a r e = elim (once_tells a r) [ inl t ↦ t.0 | inr t ↦ absurd (t.1 e) ]

pub once_else : (a : Option ℕ) (r : ℕ) → (a ≡ Some r → ⊥) → once_if a r ≡ 0
once_else a r d = elim (once_tells a r) [ inl t ↦ absurd (d t.1) | inr t ↦ t.0 ]

-- A change at or past the bound is not seen.
pub times_past : (n : ℕ) (f : Names) (i : ℕ) (v : Option ℕ) (r : ℕ) → n ≤ i → times n (upd f i v) r ≡ times n f r
unfolding times
times_past zero f i v r h = refl
times_past (suc n) f i v r h =
    let ih = times_past n f i v r (omega arith) in
    rw (upd_other f i v n (omega arith)) (omega arith)

-- A change below the bound takes the old name out and puts the new one in.
pub times_upd : (n : ℕ) (f : Names) (i : ℕ) (v : Option ℕ) (r : ℕ) → i < n → times n (upd f i v) r + once_if (f i) r ≡ times n f r + once_if v r
unfolding times
times_upd zero f i v r h = absurd (omega arith)
times_upd (suc n) f i v r h = elim (cases_eq i n) [
  | inl e ↦ let s = times_past n f i v r (omega arith) in let a = ap f e in rw (upd_same f i v n e, a) (omega arith)
  | inr d ↦ let ih = times_upd n f i v r (omega arith) in rw (upd_other f i v n d) (omega arith)
]

-- Found, or nowhere.
pub times_find : (n : ℕ) (f : Names) (r : ℕ) → ((i : ℕ) × (i < n) × (f i ≡ Some r)) ⊎ ((times n f r ≡ 0) × Nowhere n f r)
unfolding times
times_find zero f r = inr (refl, λ i h e. omega arith)
times_find (suc n) f r = elim (once_tells (f n) r) [
  | inl t ↦ inl (n, omega arith, t.1)
  | inr t ↦ elim (times_find n f r) [
    | inl w ↦ inl (w.0, omega arith, w.2)
    | inr z ↦ inr (omega arith, λ i h e. elim (cases_eq i n) [ inl j ↦ t.1 (ap f (sym j) ∙ e) | inr d ↦ z.1 i (omega arith) e ])
  ]
]

pub times_none : (n : ℕ) (f : Names) (r : ℕ) → times n f r ≡ 0 → Nowhere n f r
unfolding times
times_none zero f r z i h e = omega arith
times_none (suc n) f r z i h e = elim (cases_eq i n) [
  | inl j ↦ elim (once_tells (f n) r) [ inl t ↦ omega arith | inr t ↦ t.1 (ap f (sym j) ∙ e) ]
  | inr d ↦ times_none n f r (omega arith) i (omega arith) e
]

pub times_zero : (n : ℕ) (f : Names) (r : ℕ) → Nowhere n f r → times n f r ≡ 0
times_zero n f r h = elim (times_find n f r) [ inl w ↦ absurd (h w.0 w.1 w.2) | inr z ↦ z.0 ]

pub times_most : (n : ℕ) (f : Names) (r : ℕ) → times n f r ≤ n
unfolding times
times_most zero f r = omega arith
times_most (suc n) f r = omega (arith, times_most n f r, once_tells (f n) r)

pub none_some : {r : ℕ} → ◌≡◌ {A = Option ℕ} None (Some r) → ⊥
none_some e = grind arith

pub some_same : {a r : ℕ} → ◌≡◌ {A = Option ℕ} (Some a) (Some r) → a ≡ r
some_same e = grind arith
