-- Counts, over every change of spots, counts and what is owed.
use Rattle.std.proofs.Common.{◌≡◌, ℕ, ◌<◌, ℤ, pos, ◌+ℤ◌, ◌-ℤ◌, Some, None, Option, sym, refl, ap, ◌∙◌, inl, inr, arith}
use Rattle.std.proofs.lemmas.Int.{ints}
use Rattle.protocol.specs.Words.{upd, Names, once_if}
use Rattle.protocol.specs.Shape.{Shape}
use Rattle.protocol.specs.Clauses.{Counted}
use Rattle.protocol.proofs.Words.{upd_tells, once_here, once_else, times_upd, none_some, some_same}

once_none : (a : Option ℕ) (r : ℕ) → a ≡ None → once_if a r ≡ 0
once_none a r e = once_else a r (λ t. none_some (sym e ∙ t))

module _ {h : Shape} {names : Names} {count : ℕ → ℤ} {owes_up owes_down : Names} (b : Counted h names count owes_up owes_down) (p : ℕ) (pN : p < h.stations) where
  pub counted_write : (q : ℕ) (o n : Option ℕ) → q < h.spots → names q ≡ o → owes_up p ≡ None → owes_down p ≡ None → Counted h (upd names q n) count (upd owes_up p n) (upd owes_down p o)
  counted_write q o n qQ e u d = record {
    sum = λ r.
        omega (
          arith,
          ints,
          b.sum r,
          times_upd h.spots names q n r qQ,
          times_upd h.stations owes_up p n r pN,
          times_upd h.stations owes_down p o r pN,
          once_none (owes_up p) r u,
          once_none (owes_down p) r d,
          ap (λ a. once_if a r) e,
        );
  }

  pub counted_raise : (r : ℕ) → owes_up p ≡ Some r → Counted h names (upd count r (count r +ℤ pos 1)) (upd owes_up p None) owes_down
  counted_raise r e = record {
    sum = λ a.
        let f = times_upd h.stations owes_up p None a pN in
        let z = once_none None a refl in
        elim (upd_tells count r (count r +ℤ pos 1) a) [
          | inl (x, j) ↦ rw x (omega (arith, ints, b.sum a, ap count j, once_here (owes_up p) a (e ∙ ap Some j)))
          | inr (x, j) ↦ rw x (omega (arith, ints, b.sum a, once_else (owes_up p) a (λ t. j (some_same (sym e ∙ t)))))
        ];
  }

  pub counted_lower : (r : ℕ) → owes_down p ≡ Some r → Counted h names (upd count r (count r -ℤ pos 1)) owes_up (upd owes_down p None)
  counted_lower r e = record {
    sum = λ a.
        let f = times_upd h.stations owes_down p None a pN in
        let z = once_none None a refl in
        elim (upd_tells count r (count r -ℤ pos 1) a) [
          | inl (x, j) ↦ rw x (omega (arith, ints, b.sum a, ap count j, once_here (owes_down p) a (e ∙ ap Some j)))
          | inr (x, j) ↦ rw x (omega (arith, ints, b.sum a, once_else (owes_down p) a (λ t. j (some_same (sym e ∙ t)))))
        ];
  }
