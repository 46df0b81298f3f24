-- Every run of a new table is explained.
use Rattle.std.proofs.Common.{◌≡◌, [], ◌∷◌, refl, subst}
use Rattle.machine.specs.Tables as machine
use Rattle.machine.specs.Tables.{Table, new_table}
use Rattle.laws.specs.Fits.{Lawful}
use Rattle.laws.specs.Theorems as laws
use Rattle.laws.proofs.Promises.{runs_sound}
use Rattle.ledger.specs.Ledger.{opening}
use Rattle.ledger.specs.Explains as explains
use Rattle.ledger.specs.Explains.{resting, nothing, Run}
use Rattle.order.specs.Relation.{sizes}
use Rattle.order.specs.Theorems.{Explained, Course, fresh_table, leaves, begin, turn, RunsAreExplained}
use Rattle.order.proofs.Starts.{new_related}
use Rattle.order.proofs.Withdraws.{beginnings_explained}
use Rattle.order.proofs.Turns.{turns_explained}

-- A new table goes with the ledger's start, and a call that leaves the table leaves the ledger.
pub new_explained : (z : machine.Sizes) → Explained (new_table z) []
new_explained z = record { ledger = opening; phases = λ s. resting; explains = explains.start; related = new_related z }

pub left_explained : (t : Table) (run : Run) → Explained t run → Explained t (nothing ∷ run)
left_explained t run e = record { ledger = e.ledger; phases = e.phases; explains = explains.call nothing e.explains refl; related = e.related }

module _ (z : machine.Sizes) (y : Lawful z) where
  -- the run of the table alone
  course_run : (t : Table) (run : Run) → Course z t run → laws.Run z t
  course_run _ _ fresh_table = laws.fresh_table
  course_run _ _ (leaves {t = t} {run = run} c) = course_run t run c
  course_run _ _ (begin {t = t} {run = run} c s o e) = laws.begins (course_run t run c) s.number o e
  course_run _ _ (turn {t = t} {run = run} c s b w e pick from any) = laws.turns (course_run t run c) s.number b w e pick from

  course_sizes : (t : Table) (run : Run) → Course z t run → t.sizes ≡ z
  course_sizes _ _ fresh_table = refl
  course_sizes _ _ (leaves {t = t} {run = run} c) = course_sizes t run c
  course_sizes _ _ (begin {t = t} {run = run} c s o e) = course_sizes t run c
  course_sizes _ _ (turn {t = t} {run = run} c s b w e pick from any) = course_sizes t run c

  course_explained : (t : Table) (run : Run) → Course z t run → Explained t run
  course_explained _ _ fresh_table = new_explained z
  course_explained _ _ (leaves {t = t} {run = run} c) = left_explained t run (course_explained t run c)
  course_explained _ _ (begin {t = t} {run = run} c s o e) = beginnings_explained t (runs_sound z y t (course_run t run c)) run (course_explained t run c) s o e
  course_explained _ _ (turn {t = t} {run = run} c s b w e pick from any) = turns_explained t (runs_sound z y t (course_run t run c)) run (course_explained t run c) s b w e pick from any

pub runs_explained : RunsAreExplained
runs_explained z y t run c =
    let e = course_explained z y t run c in
    (e.ledger, e.phases, subst (λ (i : machine.Sizes). explains.Explains (sizes i) run e.ledger e.phases) (course_sizes z y t run c) e.explains)
