-- A list shorter than the number of its places leaves one of them empty.
use Rattle.std.proofs.Common.{◌≡◌, ℕ, zero, suc, ◌-◌, ◌<◌, ◌≤◌, false, cond, ltb, length, Some, None, Option, sym, refl, ap, ◌∙◌, inl, inr, arith}
use Rattle.std.proofs.lemmas.Bool.{cases_eq, cases_lt, cond-true, cond-false, lt-ltb, le-ltb, true≢false}
use Rattle.terms.specs.declared.Record.{Record}
use Rattle.terms.specs.Words.{is_none, lowest}
use Rattle.terms.proofs.Lowest.{lowest_before}
use Rattle.laws.specs.Agree.{num}
use Rattle.laws.specs.Lists.{place_of}
use Rattle.laws.specs.Theorems.{IdleHasPlace}
use Rattle.laws.proofs.Promises.{at_rest}

-- x, less by 1 if it lies above v
squeeze : ℕ → ℕ → ℕ
squeeze v x = cond (ltb v x) (x - 1) x

squeeze_low : (v x : ℕ) → x ≤ v → squeeze v x ≡ x
unfolding squeeze
squeeze_low v x l = cond-false (ltb v x) (x - 1) x (le-ltb v x l)

squeeze_high : (v x : ℕ) → v < x → squeeze v x ≡ x - 1
unfolding squeeze
squeeze_high v x l = cond-true (ltb v x) (x - 1) x (lt-ltb v x l)

-- If each number below n is one of m values, then n is at most m.
pub covers : (m n : ℕ) (f : ℕ → ℕ) → ((i : ℕ) → i < n → (k : ℕ) × (k < m) × (f k ≡ i)) → n ≤ m
covers zero zero f h = omega arith
covers zero (suc n) f h = let (k, l, e) = h 0 (omega arith) in absurd (omega arith)
covers (suc m) zero f h = omega arith
covers (suc m) (suc n) f h =
    let less : n ≤ m = covers m n (λ k. squeeze (f m) (f k)) (λ i l. elim (cases_lt i (f m)) [
      | inl below ↦ (let (k, kl, e) = h i (omega arith) in (k, not_last k kl (λ q. let same = ap f q in omega arith), squeeze_low (f m) (f k) (omega arith) ∙ e))
      | inr above ↦ (let (k, kl, e) = h (suc i) (omega arith) in (k, not_last k kl (λ q. let same = ap f q in omega arith), squeeze_high (f m) (f k) (omega arith) ∙ omega arith))
    ]) in
    omega arith
  where
    not_last : (k : ℕ) → k < suc m → (k ≡ m → ⊥) → k < m
    not_last k l d = elim (cases_eq k m) [ inl q ↦ absurd (d q) | inr _ ↦ omega arith ]

pub idle_place : IdleHasPlace
idle_place t k p l e =
    let j : ℕ = lowest (λ i. is_none (t.shared.places p i)) t.sizes.t1 in
    elim (cases_lt j t.sizes.t1) [
      | inl h ↦ lt-ltb j t.sizes.t1 h
      | inr h ↦
          let st = (at_rest t k p l e).2 in
          let short = st.short in
          let all : t.sizes.t1 ≤ length (t.seats p).notes.list = covers (length (t.seats p).notes.list) t.sizes.t1 (place_of (t.seats p).notes.list) (λ i il. found i il h) in
          absurd (omega arith)
    ]
  where
    taken : (v : Option Record) → is_none v ≡ false → (r : ℕ) × (num v ≡ Some r)
    taken None x = absurd (true≢false x)
    taken (Some r) x = (r.number, refl)

    found : (i : ℕ) → i < t.sizes.t1 → t.sizes.t1 ≤ lowest (λ i. is_none (t.shared.places p i)) t.sizes.t1 → (q : ℕ) × (q < length (t.seats p).notes.list) × (place_of (t.seats p).notes.list q ≡ i)
    found i il h =
        let st = (at_rest t k p l e).2 in
        let most = k.lawful.stations in
        let (r, x) = taken (t.shared.places p i) (lowest_before (λ i. is_none (t.shared.places p i)) t.sizes.t1 i (omega arith)) in
        elim (st.unscanned.filed.only i r (sym (st.unscanned.named i) ∙ k.fits.agrees.places p i (omega arith) ∙ x)) [ inl w ↦ w | inr (q, ql, _) ↦ absurd (omega arith) ]
