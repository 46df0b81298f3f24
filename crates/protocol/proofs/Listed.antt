-- Lists, over every change of standings, lists and phases.
use Rattle.std.proofs.Common.{◌≡◌, ℕ, ◌<◌, Some, None, Option, arith}
use Rattle.terms.specs.declared.Standing.{Standing}
use Rattle.terms.specs.declared.Standing.TheVariants.{Pooled, Retired}
use Rattle.protocol.specs.Words.{upd, Names}
use Rattle.protocol.specs.State.{Phase, resting}
use Rattle.protocol.specs.Shape.{Shape, linking}
use Rattle.protocol.specs.Clauses.{Listed}
use Rattle.protocol.proofs.Words.{upd_tells, linking_tells}

module _ {h : Shape} {standing : ℕ → Standing} {lists : Names} {phase : ℕ → Phase} (b : Listed h standing lists phase) where
  -- The standing of a record that is not retired changes.
  pub listed_standing : (r : ℕ) (t : Standing) → (standing r ≡ Retired → ⊥) → Listed h (upd standing r t) lists phase
  listed_standing r t g = record {
    retired = λ w a wW e. grind (arith, upd_tells, b.retired w a wW);
    once = b.once;
    idle = b.idle;
  }

  pub listed_write : (n : Option ℕ) → Listed h (linking n standing) lists phase
  listed_write n = record {
    retired = λ w a wW e. grind (arith, linking_tells, b.retired w a wW);
    once = b.once;
    idle = b.idle;
  }

  -- The phases of places change, of which some are full and the others come to rest.
  pub listed_phase : (phase' : ℕ → Phase) → ((w : ℕ) → w < h.places → lists w ≡ None → phase w ≡ resting → phase' w ≡ resting) → Listed h standing lists phase'
  listed_phase phase' f = record { retired = b.retired; once = b.once; idle = λ w wW e. f w wW e (b.idle w wW e) }

  pub listed_retire : (w r : ℕ) → w < h.places → (standing r ≡ Retired → ⊥) → lists w ≡ None → Listed h (upd standing r Retired) (upd lists w (Some r)) phase
  listed_retire w r wW d e = record {
    retired = λ i a iW x. grind (arith, upd_tells, b.retired i a iW);
    once = λ i j a iW jW x y. grind (arith, upd_tells, b.once i j a iW jW, b.retired i a iW, b.retired j a jW);
    idle = λ i iW x. grind (arith, upd_tells, b.idle i iW);
  }

  pub listed_give : (w r : ℕ) → w < h.places → lists w ≡ Some r → Listed h (upd standing r Pooled) (upd lists w None) (upd phase w resting)
  listed_give w r wW d = record {
    retired = λ i a iW e. grind (arith, upd_tells, b.retired i a iW, b.once i w r iW wW);
    once = λ i j a iW jW e f. grind (arith, upd_tells, b.once i j a iW jW);
    idle = λ i iW e. grind (arith, upd_tells, b.idle i iW);
  }
