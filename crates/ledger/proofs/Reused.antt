-- The run in which a record is made, named, withdrawn, returned and made again: each ledger by name.
use Rattle.std.proofs.Common.{true, ◌∷◌, Some, None, refl, arith, lit<}
use Rattle.terms.specs.declared.Spot.TheVariants.{Root, Link}
use Rattle.terms.specs.declared.Standing.TheVariants.{Pooled, Fresh}
use Rattle.terms.specs.declared.Operation.TheVariants.{New, Deref, Release, Cas, Delete}
use Rattle.terms.specs.declared.Outcome.TheVariants.{Found, Swapped, Done}
use Rattle.ledger.specs.Ledger.{Sizes, Ledger, opening, with_standing, hold, let_go, write, retire, Allows, Unnamed, NamesNothing, OutOfUse, return}
use Rattle.terms.specs.declared.Operation.{Operation}
use Rattle.terms.specs.declared.Outcome.{Outcome}
use Rattle.ledger.specs.Explains.{Run, begins, ends, call, act, Phases, moved, resting, waiting, acted}
use Rattle.ledger.specs.Examples.{chain, station, numbered, top, ReusedIsExplained}
use Rattle.ledger.proofs.Quiet.{Quiet, quiet_start, quiet_silent, quiet_whole, quiet_explained}

abbrev sizes : Sizes
sizes = chain 2 1

-- NEW by station 0.
abbrev made : Ledger
made = hold (with_standing opening (numbered 0) Fresh) (station 0) (Some (numbered 0))

-- CAS by station 0: the root names the record.
abbrev placed : Ledger
placed = write made top (Some (numbered 0))

-- DEREF by station 1.
abbrev followed : Ledger
followed = hold placed (station 1) (Some (numbered 0))

-- CAS by station 0: the root names none.
abbrev emptied : Ledger
emptied = write followed top None

-- DELETE by station 0.
abbrev withdrawn : Ledger
withdrawn = retire (let_go emptied (station 0) (numbered 0)) (numbered 0)

-- RELEASE by station 1.
abbrev free : Ledger
free = let_go withdrawn (station 1) (numbered 0)

-- RETURN.
abbrev pooled : Ledger
pooled = with_standing free (numbered 0) Pooled

-- NEW by station 1.
abbrev again : Ledger
again = hold (with_standing pooled (numbered 0) Fresh) (station 1) (Some (numbered 0))

made_allowed : Allows sizes opening (station 0) New (Found (Some (numbered 0))) made
made_allowed = (lit< tt, (lit< tt, refl, refl))

placed_allowed : Allows sizes made (station 0) (Cas top None (Some (numbered 0))) (Swapped true) placed
placed_allowed = (lit< tt, (lit< tt, lit< tt, refl, refl))

followed_allowed : Allows sizes placed (station 1) (Deref top) (Found (Some (numbered 0))) followed
followed_allowed = (lit< tt, (lit< tt, refl, refl))

emptied_allowed : Allows sizes followed (station 0) (Cas top (Some (numbered 0)) None) (Swapped true) emptied
emptied_allowed = (lit< tt, (lit< tt, tt, refl, refl))

withdrawn_allowed : Allows sizes emptied (station 0) (Delete (numbered 0)) Done withdrawn
withdrawn_allowed = (lit< tt, (lit< tt, λ e. grind arith, refl, refl))

free_allowed : Allows sizes withdrawn (station 1) (Release (numbered 0)) Done free
free_allowed = (lit< tt, (lit< tt, λ e. grind arith, refl, refl))

free_left : OutOfUse sizes free (numbered 0)
free_left = (refl, λ s below. grind arith, unnamed)
  where
    unnamed : Unnamed sizes free (numbered 0)
    unnamed (Root g) inside e = grind arith
    unnamed (Link r x) inside e = grind arith

free_bare : NamesNothing sizes free (numbered 0)
free_bare x below = refl

again_allowed : Allows sizes pooled (station 1) New (Found (Some (numbered 0))) again
again_allowed = (lit< tt, (lit< tt, refl, refl))

-- Two operations overlap: station 1 acts first, and station 0 ends first.
abbrev swap : Operation
swap = Cas top (Some (numbered 0)) None

abbrev found : Outcome
found = Found (Some (numbered 0))

abbrev ended : Phases → Phases
ended before = moved (moved (moved (moved (moved (moved before
    (station 1) (waiting (Deref top))) (station 0) (waiting swap)) (station 1) (acted found)) (station 0) (acted (Swapped true))) (station 0) resting) (station 1) resting

overlap : {run : Run} → Quiet sizes run placed →
    Quiet sizes (ends (station 1) found ∷ ends (station 0) (Swapped true) ∷ begins (station 0) swap ∷ begins (station 1) (Deref top) ∷ run) emptied
overlap q = record {
  phases = ended q.phases;
  explains = call (ends (station 1) found) (call (ends (station 0) (Swapped true))
      (act (station 0) swap (Swapped true) (act (station 1) (Deref top) found
      (call (begins (station 0) swap) (call (begins (station 1) (Deref top)) q.explains (q.rests (station 1), refl)) (q.rests (station 0), refl))
      refl followed_allowed) refl emptied_allowed) (refl, refl)) (refl, refl);
  rests = λ t. let r = q.rests t in grind arith;
}

pub reused_explained : ReusedIsExplained
reused_explained = quiet_explained
    (quiet_whole (station 1) New (Found (Some (numbered 0))) again
    (quiet_silent (return (numbered 0)) pooled
    (quiet_whole (station 1) (Release (numbered 0)) Done free
    (quiet_whole (station 0) (Delete (numbered 0)) Done withdrawn
    (overlap
    (quiet_whole (station 0) (Cas top None (Some (numbered 0))) (Swapped true) placed
    (quiet_whole (station 0) New (Found (Some (numbered 0))) made (quiet_start sizes) made_allowed)
    placed_allowed))
    withdrawn_allowed)
    free_allowed)
    (free_left, free_bare, refl))
    again_allowed)
