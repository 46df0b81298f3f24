-- A word of the table changed within its bounds is the same word of the protocol's state changed.
use Rattle.std.proofs.Common.{◌≡◌, ℕ, ◌<◌, ◌⊎◌, sym, ap, ◌∙◌, inl, inr}
use Rattle.terms.specs.Words.{put, put_in}
use Rattle.terms.proofs.Puts.{put_tells}
use Rattle.protocol.specs.Words.{upd}
use Rattle.protocol.proofs.Words.{upd_same, upd_other}

-- A word of a row of words.
pub one_word : {A : Type 0} (n : ℕ) (g f : ℕ → A) (r : ℕ) (v : A) → r < n → ((j : ℕ) → g j ≡ f j) → (j : ℕ) → upd g r v j ≡ put n f r v j
one_word n g f r v l h j = elim (put_tells n f r v j) [
  | inl (e, y, _) ↦ upd_same g r v j y ∙ sym e
  | inr (e, d) ↦ upd_other g r v j (λ y. d y l) ∙ h j ∙ sym e
]

pub put_in_tells : {A : Type 0} (h w : ℕ) (f : ℕ → ℕ → A) (i x : ℕ) (v : A) → i < h → x < w → (j y : ℕ) →
    ((put_in h w f i x v j y ≡ v) × (i ≡ j) × (x ≡ y)) ⊎ ((put_in h w f i x v j y ≡ f j y) × (i ≡ j → x ≡ y → ⊥))
unfolding put_in
put_in_tells {A = A} h w f i x v ih xw j y = elim (put_tells h f i (put w (f i) x v) j) [
  | inl (e, ij, _) ↦ elim (put_tells w (f i) x v y) [
    | inl (c, xy, _) ↦ inl (ap (λ (g : ℕ → A). g y) e ∙ c, ij, xy)
    | inr (c, d) ↦ inr (ap (λ (g : ℕ → A). g y) e ∙ c ∙ ap (λ k. f k y) ij, λ _ xy. d xy xw)
  ]
  | inr (e, d) ↦ inr (ap (λ (g : ℕ → A). g y) e, λ ij _. d ij ih)
]

-- A word of rows of words that are numbered by n, read through φ.
pub one_cell : {A B : Type 0} (φ : A → B) (n : ℕ → ℕ → ℕ) (h w : ℕ) (g : ℕ → B) (f : ℕ → ℕ → A) (i x : ℕ) (v : A) → i < h → x < w → (j y : ℕ) →
    (n i x ≡ n j y → (i ≡ j) × (x ≡ y)) → g (n j y) ≡ φ (f j y) → upd g (n i x) (φ v) (n j y) ≡ φ (put_in h w f i x v j y)
one_cell φ n h w g f i x v ih xw j y inj s = elim (put_in_tells h w f i x v ih xw j y) [
  | inl (e, ij, xy) ↦ upd_same g (n i x) (φ v) (n j y) (ap (λ k. n k x) ij ∙ ap (λ k. n j k) xy) ∙ sym (ap φ e)
  | inr (e, d) ↦ upd_other g (n i x) (φ v) (n j y) (λ q. d (inj q).0 (inj q).1) ∙ s ∙ sym (ap φ e)
]
