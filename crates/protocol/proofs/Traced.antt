-- The trace mark and the scan, over every access.
use Rattle.std.proofs.Common.{◌≡◌, ℕ, suc, ◌<◌, Bool, true, false, ℤ, pos, Some, Option, sym, ap, ◌∙◌, subst, inl, inr, arith}
use Rattle.std.proofs.lemmas.Bool.{cases_eq, false≢true}
use Rattle.std.proofs.lemmas.Int.{ints}
use Rattle.terms.specs.declared.Standing.{Standing}
use Rattle.protocol.specs.Words.{upd, Names}
use Rattle.protocol.specs.State.{Phase, marking, passed}
use Rattle.protocol.specs.Shape.{Shape, seeing}
use Rattle.protocol.specs.Clauses.{Cover, owed, unnamed_yet, Traced, Scanned, Marking, Listed, Counted, Owed}
use Rattle.protocol.proofs.Words.{upd_other, upd_same, seeing_tells, times_find, times_none, some_same}
use Rattle.protocol.proofs.Cover.{cover_seen, cover_read}

-- A count of 0 says that r is covered before any slot is read.
pub cover_zero : {h : Shape} {names : Names} {count : ℕ → ℤ} {standing : ℕ → Standing} {owes_up owes_clear owes_down held : Names} (r : ℕ) →
    Counted h names count owes_up owes_down → Owed h standing held owes_up owes_clear owes_down → count r ≡ pos 0 → Cover h names owes_up owes_clear owes_down held 0 false r
cover_zero {h} {names} {count} {standing} {owes_up} {owes_clear} {owes_down} r b w z = elim (times_find h.stations owes_up r) [
  | inl (i, iN, e) ↦
      let t = w.first i r iN e in
      let (c, cK, o, y) = w.kept i r iN t in
      owed c cK (omega arith) y (ap owes_clear o ∙ t)
  | inr (e, f) ↦ let x = b.sum r in unnamed_yet (record {
    spots = times_none h.spots names r (omega (arith, ints));
    ups = f;
    downs = times_none h.stations owes_down r (omega (arith, ints));
  }) (λ c cK y. omega arith)
]

-- Where the words that `Cover` speaks of change.
module _ {h : Shape} {names owes_up owes_clear owes_down held names' owes_up' owes_clear' owes_down' held' lists : Names} {phase : ℕ → Phase} {trace trace' : ℕ → Bool} where
  pub traced_map : ((r : ℕ) → trace' r ≡ true → (trace r ≡ true) × (Cover h names owes_up owes_clear owes_down held 0 false r → Cover h names' owes_up' owes_clear' owes_down' held' 0 false r)) →
      Traced h names trace owes_up owes_clear owes_down held lists phase → Traced h names' trace' owes_up' owes_clear' owes_down' held' lists phase
  traced_map f b = record { covered = λ r t. let (e, g) = f r t in elim (b.covered r e) [ inl m ↦ inl m | inr c ↦ inr (g c) ] }

  pub scanned_map : {read : ℕ → ℕ} {seen : ℕ → ℕ → Bool} →
      ((w r : ℕ) → w < h.places → lists w ≡ Some r → trace' r ≡ true → (trace r ≡ true) ×
      ((k : ℕ) (s : Bool) → Cover h names owes_up owes_clear owes_down held k s r → Cover h names' owes_up' owes_clear' owes_down' held' k s r)) →
      Scanned h names trace owes_up owes_clear owes_down held lists phase read seen → Scanned h names' trace' owes_up' owes_clear' owes_down' held' lists phase read seen
  scanned_map {read} {seen} f b = record {
    covered = λ w r wW e l t.
        let (y, g) = f w r wW l t in g (read (h.ofp w)) (seen (h.ofp w) r) (b.covered w r wW e l y);
  }

-- Where lists or phases change.
module _ {h : Shape} {names owes_up owes_clear owes_down held : Names} where
  -- Whoever is marking goes on marking.
  pub traced_place : {trace : ℕ → Bool} {lists lists' : Names} {phase phase' : ℕ → Phase} →
      ((r : ℕ) → Marking h lists phase r → Marking h lists' phase' r) →
      Traced h names trace owes_up owes_clear owes_down held lists phase → Traced h names trace owes_up owes_clear owes_down held lists' phase'
  traced_place f b = record { covered = λ r t. elim (b.covered r t) [ inl m ↦ inl (f r m) | inr c ↦ inr c ] }

  -- A place leaves the passed ones, or stays out.
  pub scanned_place : {trace : ℕ → Bool} {lists lists' : Names} {phase phase' : ℕ → Phase} {read : ℕ → ℕ} {seen : ℕ → ℕ → Bool} →
      ((w r : ℕ) → w < h.places → phase' w ≡ passed → lists' w ≡ Some r → (phase w ≡ passed) × (lists w ≡ Some r)) →
      Scanned h names trace owes_up owes_clear owes_down held lists phase read seen → Scanned h names trace owes_up owes_clear owes_down held lists' phase' read seen
  scanned_place f b = record { covered = λ w r wW e l t. let (y, x) = f w r wW e l in b.covered w r wW y x t }

  module _ {trace : ℕ → Bool} {standing : ℕ → Standing} {lists : Names} {phase : ℕ → Phase} (l : Listed h standing lists phase)
      (b : Traced h names trace owes_up owes_clear owes_down held lists phase) (w r : ℕ) (wW : w < h.places) (full : lists w ≡ Some r) where
    -- The station that lists it sets the mark.
    pub traced_mark : phase w ≡ marking → Traced h names (upd trace r true) owes_up owes_clear owes_down held lists phase
    traced_mark e = record {
      covered = λ a t. elim (cases_eq r a) [
        | inl y ↦ inl (w, wW, full ∙ ap Some y, e)
        | inr d ↦ b.covered a (sym (upd_other trace r true a d) ∙ t)
      ];
    }

    -- The first pass is done with w, and its record is covered or has its mark clear.
    pub traced_done : (trace' : ℕ → Bool) → ((a : ℕ) → trace' a ≡ true → trace a ≡ true) →
        (trace' r ≡ true → Cover h names owes_up owes_clear owes_down held 0 false r) →
        Traced h names trace' owes_up owes_clear owes_down held lists (upd phase w passed)
    traced_done trace' k g = record {
      covered = λ a t. elim (cases_eq r a) [
        | inl y ↦ inr (subst (λ x. Cover h names owes_up owes_clear owes_down held 0 false x) y (g (ap trace' y ∙ t)))
        | inr d ↦ elim (b.covered a (k a t)) [
          | inl (v, vW, e, f) ↦ inl (v, vW, e, upd_other phase w passed v (λ x. d (some_same (sym full ∙ ap lists x ∙ e))) ∙ f)
          | inr c ↦ inr c
        ]
      ];
    }

    -- Nobody else marks what w lists: it is covered before the first look.
    pub traced_cover : (phase w ≡ marking → ⊥) → trace r ≡ true → Cover h names owes_up owes_clear owes_down held 0 false r
    traced_cover d t = elim (b.covered r t) [
      | inl (v, vW, y, f) ↦ absurd (d (ap phase (l.once w v r wW vW full y) ∙ f))
      | inr c ↦ c
    ]

  module _ {trace : ℕ → Bool} {standing : ℕ → Standing} {lists : Names} {phase : ℕ → Phase} {read : ℕ → ℕ} {seen : ℕ → ℕ → Bool} (l : Listed h standing lists phase)
      (b : Scanned h names trace owes_up owes_clear owes_down held lists phase read seen) where
    pub scanned_done : (w r : ℕ) → lists w ≡ Some r → read (h.ofp w) ≡ 0 → (trace' : ℕ → Bool) → ((a : ℕ) → trace' a ≡ true → trace a ≡ true) →
        (trace' r ≡ true → Cover h names owes_up owes_clear owes_down held 0 false r) →
        Scanned h names trace' owes_up owes_clear owes_down held lists (upd phase w passed) read seen
    scanned_done w r full z trace' k g = record {
      covered = λ v a vW e y t. elim (cases_eq w v) [
        | inl i ↦
            let j : r ≡ a = some_same (sym full ∙ ap lists i ∙ y) in
            let c = cover_seen (seen (h.ofp w) r) (λ x. absurd (false≢true x)) (g (ap trace' j ∙ t)) in
            subst (λ x. Cover h names owes_up owes_clear owes_down held (read (h.ofp x)) (seen (h.ofp x) a) a) i
            (subst (λ x. Cover h names owes_up owes_clear owes_down held (read (h.ofp w)) (seen (h.ofp w) x) x) j (rw z c))
        | inr d ↦ b.covered v a vW (sym (upd_other phase w passed v d) ∙ e) y (k a t)
      ];
    }

    -- The station that lists it sets the mark: no scan is done with that record.
    pub scanned_mark : (w r : ℕ) → w < h.places → lists w ≡ Some r → phase w ≡ marking →
        Scanned h names (upd trace r true) owes_up owes_clear owes_down held lists phase read seen
    scanned_mark w r wW full z = record {
      covered = λ v a vW e y t. elim (cases_eq r a) [
        | inl i ↦ let x = l.once w v r wW vW full (y ∙ ap Some (sym i)) in absurd (grind arith)
        | inr d ↦ b.covered v a vW e y (sym (upd_other trace r true a d) ∙ t)
      ];
    }

    -- The next slot is read.
    pub scanned_read : (p c : ℕ) (v : Option ℕ) (slot : Names) → ((i a : ℕ) → i < h.slots → held i ≡ Some a → slot i ≡ Some a) → read p ≡ c → slot c ≡ v →
        Scanned h names trace owes_up owes_clear owes_down held lists phase (upd read p (suc c)) (upd seen p (seeing v (seen p)))
    scanned_read p c v slot shown z f = record {
      covered = λ w a wW e y t. elim (cases_eq p (h.ofp w)) [
        | inl i ↦ rw (upd_same read p (suc c) (h.ofp w) i, upd_same seen p (seeing v (seen p)) (h.ofp w) i)
            (cover_read slot (seeing v (seen p) a) shown
            (λ x. elim (seeing_tells v (seen p) a) [ inl (u, _) ↦ u | inr (_, n) ↦ absurd (n (sym f ∙ x)) ])
            (λ x. elim (seeing_tells v (seen p) a) [ inl (u, _) ↦ u | inr (u, _) ↦ u ∙ x ])
            (rw (← z, i) (b.covered w a wW e y t)))
        | inr d ↦ rw (upd_other read p (suc c) (h.ofp w) d, upd_other seen p (seeing v (seen p)) (h.ofp w) d) (b.covered w a wW e y t)
      ];
    }
