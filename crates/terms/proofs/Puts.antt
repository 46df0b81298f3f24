-- One point of a function changed, within its bound.
use Rattle.std.proofs.Common.{◌≡◌, ℕ, zero, suc, ◌<◌, ◌≤◌, ◌⊎◌, List, [], length, get_or, set, replicate, sym, refl, ap, ◌∙◌, inl, inr, arith, get_or-set_other, get_or-set_same}
use mathlib.Core.Path.{fun_ext}
use Rattle.std.proofs.lemmas.Bool.{eq-eqb, ne_eqb, cases_eq, cases_lt, lt-ltb, le-ltb, cond-true, cond-false, and_from, and_left, and_right}
use Rattle.std.proofs.lemmas.List.{set_past, get_or_default, get_or_past}
use Rattle.terms.specs.Words.{reads, cells, put}

-- Both ways at once, to be taken apart.
pub put_tells : {A : Type 0} (n : ℕ) (f : ℕ → A) (i : ℕ) (v : A) (j : ℕ) →
    ((put n f i v j ≡ v) × (i ≡ j) × (i < n)) ⊎ ((put n f i v j ≡ f j) × ((i ≡ j) → i < n → ⊥))
unfolding put
put_tells n f i v j = elim (cases_eq i j) [
  | inl e ↦ elim (cases_lt i n) [
    | inl h ↦ inl (cond-true _ v (f j) (and_from _ _ (eq-eqb i j e) (lt-ltb i n h)), e, h)
    | inr h ↦ inr (cond-false _ v (f j) (and_right _ _ (le-ltb i n h)), λ _ k. omega arith)
  ]
  | inr d ↦ inr (cond-false _ v (f j) (and_left _ _ (ne_eqb i j d)), λ e _. d e)
]

pub put_past : {A : Type 0} (n : ℕ) (f : ℕ → A) (i : ℕ) (v : A) → n ≤ i → ◌≡◌ {A = ℕ → A} f (put n f i v)
put_past n f i v h = fun_ext (λ j. grind (arith, put_tells n f i v j))

-- What an index finds below the end is what the list reads as there, whatever stands past the end.
pub found_at : {A : Type 0} (xs : List A) (i : ℕ) (d v : A) → i < length xs → v ≡ get_or xs i v → v ≡ reads d xs i
unfolding reads
found_at xs i d v h e = e ∙ get_or_default xs i v d h

pub row_at : {A : Type 0} (rows : List (List A)) (i : ℕ) (d : A) (v : List A) → i < length rows → v ≡ get_or rows i v → ◌≡◌ {A = ℕ → A} (reads d v) (cells d rows i)
unfolding reads cells
row_at {A = A} rows i d v h e = ap (λ (l : List A). reads d l) (found_at rows i [] v h e)

-- Writing into a list is writing into what it reads as.
pub reads_set : {A : Type 0} (d : A) (xs : List A) (i n : ℕ) (v : A) → length xs ≡ n → ◌≡◌ {A = ℕ → A} (reads d (set xs i v)) (put n (reads d xs) i v)
unfolding reads
reads_set d xs i n v e = fun_ext (λ j. grind (arith, put_tells, get_or-set_same, get_or-set_other, set_past))

-- The same of a row of rows.
pub cells_set : {A : Type 0} (d : A) (rows : List (List A)) (row : List A) (i h : ℕ) (g : ℕ → A) → length rows ≡ h → ◌≡◌ {A = ℕ → A} (reads d row) g →
    ◌≡◌ {A = ℕ → ℕ → A} (cells d (set rows i row)) (put h (cells d rows) i g)
unfolding cells reads
cells_set {A = A} d rows row i h g e r = fun_ext (λ j. fun_ext (λ x. elim (put_tells h (cells d rows) i g j) [
  | inl (p, y, k) ↦
      let a : get_or (set rows i row) j [] ≡ row = grind (arith, get_or-set_same) in
      ap (λ l. get_or l x d) a ∙ ap (λ (f : ℕ → A). f x) r ∙ sym (ap (λ (f : ℕ → A). f x) p)
  | inr (p, k) ↦
      let a : get_or (set rows i row) j [] ≡ get_or rows j [] = grind (arith, get_or-set_other, set_past, cases_eq i j) in
      ap (λ l. get_or l x d) a ∙ sym (ap (λ (f : ℕ → A). f x) p)
]))

-- A list of one value reads as that value everywhere.
pub reads_replicate : {A : Type 0} (v : A) (n : ℕ) → ◌≡◌ {A = ℕ → A} (reads v (replicate n v)) (λ _. v)
unfolding reads
reads_replicate v n = fun_ext (λ i. go n i)
  where
    go : (n i : ℕ) → get_or (replicate n v) i v ≡ v
    go zero i = refl
    go (suc n) zero = refl
    go (suc n) (suc i) = go n i

pub cells_replicate : {A : Type 0} (v : A) (h : ℕ) (row : List A) → ◌≡◌ {A = ℕ → A} (reads v row) (λ _. v) → ◌≡◌ {A = ℕ → ℕ → A} (cells v (replicate h row)) (λ _ _. v)
unfolding cells reads
cells_replicate {A = A} v h row e = fun_ext (λ i. go h i)
  where
    go : (h i : ℕ) → ◌≡◌ {A = ℕ → A} (λ x. get_or (get_or (replicate h row) i []) x v) (λ _. v)
    go zero i = fun_ext (λ x. refl)
    go (suc h) zero = e
    go (suc h) (suc i) = go h i

-- A row read whole, past the last one as a row of one value, reads as the row.
pub row_read : {A : Type 0} (w : ℕ) (rows : List (List A)) (i : ℕ) (v : A) → ◌≡◌ {A = ℕ → A} (reads v (reads (replicate w v) rows i)) (cells v rows i)
unfolding reads cells
row_read {A = A} w rows i v = elim (cases_lt i (length rows)) [
  | inl h ↦ ap (λ (l : List A). reads v l) (get_or_default rows i _ [] h)
  | inr h ↦ ap (λ (l : List A). reads v l) (get_or_past rows i (replicate w v) h) ∙ reads_replicate v w ∙ sym (ap (λ (l : List A). reads v l) (get_or_past rows i [] h))
]
