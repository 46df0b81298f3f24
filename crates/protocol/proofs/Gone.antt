-- Records that the second pass has let through, over every access.
use Rattle.std.proofs.Common.{◌≡◌, ℕ, ◌<◌, ◌≤◌, true, false, Some, None, Option, sym, ap, ◌∙◌, subst, inl, inr, arith}
use Rattle.std.proofs.lemmas.Bool.{cases_eq, false≢true}
use Rattle.terms.specs.declared.Standing.{Standing}
use Rattle.protocol.specs.Words.{upd, Names, Nowhere}
use Rattle.protocol.specs.State.{Phase}
use Rattle.protocol.specs.Shape.{Shape, Carries, through}
use Rattle.protocol.specs.Clauses.{Cover, seen_before, owed, unnamed_yet, Unreferenced, Gone, Owed}
use Rattle.protocol.proofs.Words.{upd_other, none_some, some_same}
use Rattle.protocol.proofs.Cover.{nowhere_upd}

module _ {h : Shape} {names owes_up owes_clear owes_down held : Names} {r : ℕ} (b : Unreferenced h names owes_up owes_clear owes_down held r) where
  -- What p writes it holds, so that is another record.
  pub unreferenced_write : (p q : ℕ) (o n : Option ℕ) → q < h.spots → names q ≡ o → Carries h held p n → Unreferenced h (upd names q n) (upd owes_up p n) (upd owes_clear p n) (upd owes_down p o) held r
  unreferenced_write p q o n qQ e g =
      let d : n ≡ Some r → ⊥ = λ y. let (c, cK, f, x) = g r y in b.slots c cK x in
      record {
        spots = nowhere_upd h.spots names q n r d b.spots;
        ups = nowhere_upd h.stations owes_up p n r d b.ups;
        clears = nowhere_upd h.stations owes_clear p n r d b.clears;
        downs = nowhere_upd h.stations owes_down p o r (λ y. b.spots q qQ (e ∙ y)) b.downs;
        slots = b.slots;
      }

  pub unreferenced_raise : (p : ℕ) → Unreferenced h names (upd owes_up p None) owes_clear owes_down held r
  unreferenced_raise p = record { spots = b.spots; ups = nowhere_upd h.stations owes_up p None r none_some b.ups; clears = b.clears; downs = b.downs; slots = b.slots }

  pub unreferenced_clear : (p : ℕ) → Unreferenced h names owes_up (upd owes_clear p None) owes_down held r
  unreferenced_clear p = record { spots = b.spots; ups = b.ups; clears = nowhere_upd h.stations owes_clear p None r none_some b.clears; downs = b.downs; slots = b.slots }

  pub unreferenced_lower : (p : ℕ) → Unreferenced h names owes_up owes_clear (upd owes_down p None) held r
  unreferenced_lower p = record { spots = b.spots; ups = b.ups; clears = b.clears; downs = nowhere_upd h.stations owes_down p None r none_some b.downs; slots = b.slots }

  pub unreferenced_slot : (c : ℕ) (v : Option ℕ) → (v ≡ Some r → ⊥) → Unreferenced h names owes_up owes_clear owes_down (upd held c v) r
  unreferenced_slot c v d = record { spots = b.spots; ups = b.ups; clears = b.clears; downs = b.downs; slots = nowhere_upd h.slots held c v r d b.slots }

-- A marked record that a scan of all slots did not see is lost.
pub unreferenced_now : {h : Shape} {names owes_up owes_clear owes_down held : Names} {standing : ℕ → Standing} {k : ℕ} {r : ℕ} → h.slots ≤ k → Owed h standing held owes_up owes_clear owes_down →
    Cover h names owes_up owes_clear owes_down held k false r → Unreferenced h names owes_up owes_clear owes_down held r
unreferenced_now all w (seen_before y) = absurd (false≢true y)
unreferenced_now all w (owed c cK kc y x) = absurd (omega arith)
unreferenced_now {h} {held = held} {r = r} all w (unnamed_yet u f) =
    let g : Nowhere h.slots held r = λ c cK y. omega (arith, f c cK y) in
    record {
      spots = u.spots;
      ups = u.ups;
      clears = λ i iN y. let (c, cK, o, x) = w.kept i r iN y in g c cK x;
      downs = u.downs;
      slots = g;
    }

module _ {h : Shape} {names owes_up owes_clear owes_down held lists : Names} {phase : ℕ → Phase} (b : Gone h names owes_up owes_clear owes_down held lists phase) where
  pub gone_map : {names' owes_up' owes_clear' owes_down' held' : Names} →
      ((w r : ℕ) → w < h.places → lists w ≡ Some r → Unreferenced h names owes_up owes_clear owes_down held r → Unreferenced h names' owes_up' owes_clear' owes_down' held' r) →
      Gone h names' owes_up' owes_clear' owes_down' held' lists phase
  gone_map f = record { unreferenced = λ w r wW e l. f w r wW l (b.unreferenced w r wW e l) }

  pub gone_place : {lists' : Names} {phase' : ℕ → Phase} →
      ((w r : ℕ) → w < h.places → through (phase' w) ≡ true → lists' w ≡ Some r → (through (phase w) ≡ true) × (lists w ≡ Some r)) →
      Gone h names owes_up owes_clear owes_down held lists' phase'
  gone_place f = record { unreferenced = λ w r wW e l. let (y, x) = f w r wW e l in b.unreferenced w r wW y x }

  -- One more record is let through.
  pub gone_more : (w r : ℕ) (f : Phase) → lists w ≡ Some r → Unreferenced h names owes_up owes_clear owes_down held r → Gone h names owes_up owes_clear owes_down held lists (upd phase w f)
  gone_more w r f l g = record {
    unreferenced = λ v a vW e y. elim (cases_eq w v) [
      | inl i ↦ subst (λ x. Unreferenced h names owes_up owes_clear owes_down held x) (some_same (sym l ∙ ap lists i ∙ y)) g
      | inr d ↦ b.unreferenced v a vW (rw (upd_other phase w f v d) at e) y
    ];
  }
