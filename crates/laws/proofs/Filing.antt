-- What is filed as an entry is kept, given back or added, and as a scan closes.
use Rattle.std.proofs.Common.{◌≡◌, ℕ, zero, suc, ◌+◌, ◌<◌, ltb, List, [], ◌∷◌, ◌++◌, length, Some, None, sym, refl, ap, ◌∙◌, subst, inl, inr, arith}
use Rattle.std.proofs.lemmas.Bool.{cases_eq, cases_lt, cond-true, lt-ltb}
use Rattle.work.specs.declared.work.Entry.{Entry}
use Rattle.work.specs.Plans.{pushed}
use Rattle.protocol.specs.Words.{Names, upd}
use Rattle.protocol.proofs.Words.{upd_same, upd_other, none_some}
use Rattle.laws.specs.Lists.{entry_at, place_of, Filed}

-- A list with one entry more: its length, the entries before, and the new one.
pub snoc_length : (es : List Entry) (e : Entry) → length (es ++ e ∷ []) ≡ length es + 1
snoc_length [] e = refl
snoc_length (x ∷ es) e = let h = snoc_length es e in omega arith

pub snoc_before : (es : List Entry) (e : Entry) (k : ℕ) → k < length es → entry_at (es ++ e ∷ []) k ≡ entry_at es k
snoc_before [] e k l = absurd (omega arith)
snoc_before (x ∷ es) e zero l = refl
snoc_before (x ∷ es) e (suc k) l = snoc_before es e k (omega arith)

pub snoc_last : (es : List Entry) (e : Entry) → entry_at (es ++ e ∷ []) (length es) ≡ e
snoc_last [] e = refl
snoc_last (x ∷ es) e = snoc_last es e

-- What holds of the entries before and of the new one holds of all.
pub snoc_all : (es : List Entry) (e : Entry) (P : ℕ → Entry → Type 0) → ((k : ℕ) → k < length es → P k (entry_at es k)) → P (length es) e →
    (k : ℕ) → k < length (es ++ e ∷ []) → P k (entry_at (es ++ e ∷ []) k)
snoc_all es e P before last k l =
    let n = snoc_length es e in
    elim (cases_lt k (length es)) [
      | inl h ↦ subst (P k) (sym (snoc_before es e k h)) (before k h)
      | inr h ↦
          let same : length es ≡ k = omega arith in
          subst (λ (i : ℕ). P i (entry_at (es ++ e ∷ []) i)) same (subst (P (length es)) (sym (snoc_last es e)) last)
    ]

pub pushed_snoc : (es : List Entry) (e : Entry) → length es < 64 → pushed es e ≡ es ++ e ∷ []
pushed_snoc es e l = cond-true (ltb (length es) 64) (es ++ e ∷ []) es (lt-ltb (length es) 64 l)

-- The next entry of the walk is kept.
pub keeps : (t1 : ℕ) (lists : Names) (es : List Entry) (k : ℕ) (ks : List Entry) → Filed t1 lists es (k + 1) ks → Filed t1 lists es k (ks ++ entry_at es k ∷ [])
keeps t1 lists es k ks d =
    let n = snoc_length ks (entry_at es k) in
    let inside = d.inside in
    let room = d.room in
    record {
      inside = omega arith;
      room = omega arith;
      front = λ i l. d.front i (omega arith);
      back = snoc_all ks (entry_at es k) (λ i x. lists x.place.index ≡ Some x.node.number) d.back (d.front k (omega arith));
      front_low = λ i l. d.front_low i (omega arith);
      back_low = snoc_all ks (entry_at es k) (λ i x. x.place.index < t1) d.back_low (d.front_low k (omega arith));
      front_apart = λ i j l m. d.front_apart i j (omega arith) (omega arith);
      back_apart = λ i j l m. snoc_all ks (entry_at es k) (λ i x. (j : ℕ) → j < length (ks ++ entry_at es k ∷ []) → x.place.index ≡ place_of (ks ++ entry_at es k ∷ []) j → i ≡ j)
          (λ i h. snoc_all ks (entry_at es k) (λ j x. place_of ks i ≡ x.place.index → i ≡ j) (λ j g. d.back_apart i j h g) (λ e. absurd (d.apart k i (omega arith) h (sym e))))
          (snoc_all ks (entry_at es k) (λ j x. place_of es k ≡ x.place.index → length ks ≡ j) (λ j g e. absurd (d.apart k j (omega arith) g e)) (λ e. refl)) i l j m;
      apart = λ i j l. snoc_all ks (entry_at es k) (λ j x. place_of es i ≡ x.place.index → ⊥) (λ j m. d.apart i j (omega arith) m)
          (λ e. let h = d.front_apart i k (omega arith) (omega arith) e in omega arith) j;
      only = λ j r e. elim (d.only j r e) [
        | inl (i, l, h) ↦ elim (cases_eq i k) [
          | inl y ↦ inr (length ks, omega arith, ap (λ x. x.place.index) (snoc_last ks (entry_at es k)) ∙ ap (place_of es) (sym y) ∙ h)
          | inr x ↦ inl (i, omega arith, h)
        ]
        | inr (i, l, h) ↦ inr (i, omega arith, ap (λ x. x.place.index) (snoc_before ks (entry_at es k) i l) ∙ h)
      ];
    }

-- The next entry of the walk is given back.
pub gives : (t1 : ℕ) (lists : Names) (es : List Entry) (k : ℕ) (ks : List Entry) → Filed t1 lists es (k + 1) ks → Filed t1 (upd lists (place_of es k) None) es k ks
gives t1 lists es k ks d =
    let inside = d.inside in
    let room = d.room in
    record {
      inside = omega arith;
      room = omega arith;
      front = λ i l. upd_other lists (place_of es k) None (place_of es i) (λ e. let h = d.front_apart k i (omega arith) (omega arith) e in omega arith) ∙ d.front i (omega arith);
      back = λ i l. upd_other lists (place_of es k) None (place_of ks i) (λ e. d.apart k i (omega arith) l e) ∙ d.back i l;
      front_low = λ i l. d.front_low i (omega arith);
      back_low = d.back_low;
      front_apart = λ i j l m. d.front_apart i j (omega arith) (omega arith);
      back_apart = d.back_apart;
      apart = λ i j l. d.apart i j (omega arith);
      only = λ j r e. elim (cases_eq (place_of es k) j) [
        | inl y ↦ absurd (none_some (sym (upd_same lists (place_of es k) None j y) ∙ e))
        | inr x ↦ elim (d.only j r (sym (upd_other lists (place_of es k) None j x) ∙ e)) [
          | inl (i, l, h) ↦ inl (i, elim (cases_eq i k) [ inl y ↦ absurd (x (ap (place_of es) (sym y) ∙ h)) | inr w ↦ omega arith ], h)
          | inr w ↦ inr w
        ]
      ];
    }

-- The scan closes: what was kept is the list.
pub shuts : (t1 : ℕ) (lists : Names) (es ks : List Entry) → Filed t1 lists es 0 ks → Filed t1 lists ks (length ks) []
shuts t1 lists es ks d =
    let room = d.room in
    record {
      inside = omega arith;
      room = omega arith;
      front = d.back;
      back = λ i l. absurd (omega arith);
      front_low = d.back_low;
      back_low = λ i l. absurd (omega arith);
      front_apart = d.back_apart;
      back_apart = λ i j l. absurd (omega arith);
      apart = λ i j l m. absurd (omega arith);
      only = λ j r e. elim (d.only j r e) [ inl (i, l, h) ↦ absurd (omega arith) | inr w ↦ inl w ];
    }

-- One entry more, under a free place.
pub adds : (t1 : ℕ) (lists : Names) (es : List Entry) (e : Entry) → Filed t1 lists es (length es) [] → length es < t1 → e.place.index < t1 → lists e.place.index ≡ None →
    Filed t1 (upd lists e.place.index (Some e.node.number)) (es ++ e ∷ []) (length (es ++ e ∷ [])) []
adds t1 lists es e d short low free =
    let n = snoc_length es e in
    let j0 : ℕ = e.place.index in
    let new : (k : ℕ) → k < length es → j0 ≡ place_of es k → ⊥ = λ k l y. none_some (sym free ∙ ap lists y ∙ d.front k l) in
    record {
      inside = omega arith;
      room = omega arith;
      front = snoc_all es e (λ i x. upd lists j0 (Some e.node.number) x.place.index ≡ Some x.node.number)
          (λ k l. upd_other lists j0 (Some e.node.number) (place_of es k) (new k l) ∙ d.front k l) (upd_same lists j0 (Some e.node.number) j0 refl);
      back = λ i l. absurd (omega arith);
      front_low = snoc_all es e (λ i x. x.place.index < t1) d.front_low low;
      back_low = λ i l. absurd (omega arith);
      front_apart = λ i j l m. snoc_all es e (λ i x. (j : ℕ) → j < length (es ++ e ∷ []) → x.place.index ≡ place_of (es ++ e ∷ []) j → i ≡ j)
          (λ i h. snoc_all es e (λ j x. place_of es i ≡ x.place.index → i ≡ j) (λ j g. d.front_apart i j h g) (λ y. absurd (new i h (sym y))))
          (snoc_all es e (λ j x. j0 ≡ x.place.index → length es ≡ j) (λ j g y. absurd (new j g y)) (λ y. refl)) i l j m;
      back_apart = λ i j l. absurd (omega arith);
      apart = λ i j l m. absurd (omega arith);
      only = λ j r y. elim (cases_eq j0 j) [
        | inl h ↦ inl (length es, omega arith, ap (λ x. x.place.index) (snoc_last es e) ∙ h)
        | inr h ↦ elim (d.only j r (sym (upd_other lists j0 (Some e.node.number) j h) ∙ y)) [
          | inl (i, l, w) ↦ inl (i, omega arith, ap (λ x. x.place.index) (snoc_before es e i l) ∙ w)
          | inr (i, l, w) ↦ absurd (omega arith)
        ]
      ];
    }
