-- What covers a marked record, over every change of the words that it speaks of, and a slot read.
use Rattle.std.proofs.Common.{◌≡◌, ℕ, suc, ◌<◌, ◌≤◌, Bool, true, Some, None, Option, sym, ap, ◌∙◌, inl, inr, arith}
use Rattle.std.proofs.lemmas.Bool.{cases_eq}
use Rattle.protocol.specs.Words.{upd, Names, Nowhere}
use Rattle.protocol.specs.Shape.{Shape, Carries}
use Rattle.protocol.specs.Clauses.{Cover, seen_before, owed, unnamed_yet, Unnamed}
use Rattle.protocol.proofs.Words.{upd_tells, upd_other, upd_same, names_or, none_some}

-- A row of names in which one word changes to another name than r.
pub nowhere_upd : (n : ℕ) (f : Names) (i : ℕ) (v : Option ℕ) (r : ℕ) → (v ≡ Some r → ⊥) → Nowhere n f r → Nowhere n (upd f i v) r
nowhere_upd n f i v r d b j jn e = grind (arith, upd_tells, b j jn)

module _ {h : Shape} {names owes_up owes_clear owes_down held : Names} {k : ℕ} {s : Bool} {r : ℕ} where
  -- Writing a spot: what p writes there, p holds, and from then on p owes the clearing of its mark.
  pub cover_write : (p q : ℕ) (o n : Option ℕ) → q < h.spots → names q ≡ o → owes_clear p ≡ None → Carries h held p n →
      Cover h names owes_up owes_clear owes_down held k s r → Cover h (upd names q n) (upd owes_up p n) (upd owes_clear p n) (upd owes_down p o) held k s r
  cover_write p q o n qQ e t g (seen_before y) = seen_before y
  cover_write p q o n qQ e t g (owed c cK kc y x) = owed c cK kc y (grind (arith, upd_tells))
  cover_write p q o n qQ e t g (unnamed_yet u f) = elim (names_or n r) [
    | inl m ↦ let (c, cK, i, y) = g r m in owed c cK (f c cK y) y (upd_same owes_clear p n (h.of c) (sym i) ∙ m)
    | inr m ↦ unnamed_yet (record {
      spots = nowhere_upd h.spots names q n r m u.spots;
      ups = nowhere_upd h.stations owes_up p n r m u.ups;
      downs = nowhere_upd h.stations owes_down p o r (λ y. u.spots q qQ (e ∙ y)) u.downs;
    }) f
  ]

  pub cover_raise : (p : ℕ) → Cover h names owes_up owes_clear owes_down held k s r → Cover h names (upd owes_up p None) owes_clear owes_down held k s r
  cover_raise p (seen_before y) = seen_before y
  cover_raise p (owed c cK kc y x) = owed c cK kc y x
  cover_raise p (unnamed_yet u f) = unnamed_yet (record { spots = u.spots; ups = nowhere_upd h.stations owes_up p None r none_some u.ups; downs = u.downs }) f

  pub cover_lower : (p : ℕ) → Cover h names owes_up owes_clear owes_down held k s r → Cover h names owes_up owes_clear (upd owes_down p None) held k s r
  cover_lower p (seen_before y) = seen_before y
  cover_lower p (owed c cK kc y x) = owed c cK kc y x
  cover_lower p (unnamed_yet u f) = unnamed_yet (record { spots = u.spots; ups = u.ups; downs = nowhere_upd h.stations owes_down p None r none_some u.downs }) f

  -- p no longer owes the clearing of another record's mark.
  pub cover_clear : (p : ℕ) → (owes_clear p ≡ Some r → ⊥) → Cover h names owes_up owes_clear owes_down held k s r → Cover h names owes_up (upd owes_clear p None) owes_down held k s r
  cover_clear p d (seen_before y) = seen_before y
  cover_clear p d (owed c cK kc y x) = owed c cK kc y (upd_other owes_clear p None (h.of c) (λ t. d (ap owes_clear t ∙ x)) ∙ x)
  cover_clear p d (unnamed_yet u f) = unnamed_yet u f

  -- A slot that held nothing now holds a.
  pub cover_hold : (c a : ℕ) → held c ≡ None → (a ≡ r → Unnamed h names owes_up owes_down r → k ≤ c) →
      Cover h names owes_up owes_clear owes_down held k s r → Cover h names owes_up owes_clear owes_down (upd held c (Some a)) k s r
  cover_hold c a z g (seen_before y) = seen_before y
  cover_hold c a z g (owed d dK kd y x) = owed d dK kd (grind (arith, upd_tells)) x
  cover_hold c a z g (unnamed_yet u f) = unnamed_yet u (λ i iK y. elim (upd_tells held c (Some a) i) [
    | inl (x, t) ↦ let w = g (grind arith) u in omega arith
    | inr (x, t) ↦ f i iK (sym x ∙ y)
  ])

  -- A slot of a station that owes no clearing is emptied.
  pub cover_release : (c : ℕ) → owes_clear (h.of c) ≡ None → Cover h names owes_up owes_clear owes_down held k s r → Cover h names owes_up owes_clear owes_down (upd held c None) k s r
  cover_release c z (seen_before y) = seen_before y
  cover_release c z (owed d dK kd y x) = owed d dK kd (grind (arith, upd_tells)) x
  cover_release c z (unnamed_yet u f) = unnamed_yet u (λ i iK y. f i iK (grind (arith, upd_tells)))

  -- The next slot is read; t says whether r is seen now.
  pub cover_read : (slot : Names) (t : Bool) → ((c a : ℕ) → c < h.slots → held c ≡ Some a → slot c ≡ Some a) → (slot k ≡ Some r → t ≡ true) → (s ≡ true → t ≡ true) →
      Cover h names owes_up owes_clear owes_down held k s r → Cover h names owes_up owes_clear owes_down held (suc k) t r
  cover_read slot t b a g (seen_before y) = seen_before (g y)
  cover_read slot t b a g (owed c cK kc y x) = elim (cases_eq c k) [
    | inl e ↦ seen_before (a (ap slot (sym e) ∙ b c r cK y))
    | inr d ↦ owed c cK (omega arith) y x
  ]
  cover_read slot t b a g (unnamed_yet u f) = elim (names_or (slot k) r) [
    | inl e ↦ seen_before (a e)
    | inr d ↦ unnamed_yet u (λ i iK y. elim (cases_eq i k) [
      | inl e ↦ absurd (d (ap slot (sym e) ∙ b i r iK y))
      | inr n ↦ let w = f i iK y in omega arith
    ])
  ]

  pub cover_seen : (t : Bool) → (s ≡ true → t ≡ true) → Cover h names owes_up owes_clear owes_down held k s r → Cover h names owes_up owes_clear owes_down held k t r
  cover_seen t g (seen_before y) = seen_before (g y)
  cover_seen t g (owed c cK kc y x) = owed c cK kc y x
  cover_seen t g (unnamed_yet u f) = unnamed_yet u f
