-- Two small runs that are explained.
-- Assumes nothing.
use Rattle.std.specs.Prelude.{ℕ, true, List, [], ◌∷◌, Some, None}
use Rattle.terms.specs.declared.Record.{Record}
use Rattle.terms.specs.declared.Station.{Station}
use Rattle.terms.specs.declared.Position.{Position}
use Rattle.terms.specs.declared.Spot.{Spot}
use Rattle.terms.specs.declared.Spot.TheVariants.{Root, Link}
use Rattle.terms.specs.declared.Operation.TheVariants.{New, Deref, Release, Cas, Store, Delete}
use Rattle.terms.specs.declared.Outcome.TheVariants.{Found, Swapped, Done}
use Rattle.ledger.specs.Ledger.{Sizes}
use Rattle.ledger.specs.Explains.{Happening, begins, ends, Run, Explained}

-- A table with one root, whose records have one link that follows itself.
abbrev pub chain : ℕ → ℕ → Sizes
chain stations records = record { stations = stations; records = records; roots = 1; positions = 1; follow = λ x. x }

-- A run told in the order of time, onto what was before.
abbrev pub told : List Happening → Run → Run
told [] run = run
told (h ∷ hs) run = told hs (h ∷ run)

abbrev pub station : ℕ → Station
station n = record { number = n }

abbrev pub numbered : ℕ → Record
numbered n = record { number = n }

-- The one root, and the one link of a record.
abbrev pub top : Spot
top = Root (record { index = 0 })

abbrev pub only : Position
only = record { index = 0 }

-- Station 0 makes the one record, names it in the root, and takes it out of there while station 1 follows the root: the
-- two operations overlap, and station 1 still finds it. Station 0 withdraws it, station 1 lets it go, and then station 1
-- makes a record and is given the same one again: in between it was returned to the pool.
abbrev pub reused : Run
reused = told (
    begins (station 0) New ∷ ends (station 0) (Found (Some (numbered 0))) ∷
    begins (station 0) (Cas top None (Some (numbered 0))) ∷ ends (station 0) (Swapped true) ∷
    begins (station 1) (Deref top) ∷ begins (station 0) (Cas top (Some (numbered 0)) None) ∷
    ends (station 0) (Swapped true) ∷ ends (station 1) (Found (Some (numbered 0))) ∷
    begins (station 0) (Delete (numbered 0)) ∷ ends (station 0) Done ∷
    begins (station 1) (Release (numbered 0)) ∷ ends (station 1) Done ∷
    begins (station 1) New ∷ ends (station 1) (Found (Some (numbered 0))) ∷ []) []

abbrev pub ReusedIsExplained : Type 0
ReusedIsExplained = Explained (chain 2 1) reused

-- Record 0 links to 1 and 1 to 2. Records 0 and 1 are withdrawn, and 0 is still held. Then record 1 is made again, so it
-- was returned; nothing could name it then, so the link of 0 was led past it, and its own link was cleared. The link of 0
-- now leads to 2.
abbrev pub led_past : Run
led_past = told (
    begins (station 0) New ∷ ends (station 0) (Found (Some (numbered 0))) ∷
    begins (station 0) New ∷ ends (station 0) (Found (Some (numbered 1))) ∷
    begins (station 0) New ∷ ends (station 0) (Found (Some (numbered 2))) ∷
    begins (station 0) (Store (numbered 1) only (Some (numbered 2))) ∷ ends (station 0) Done ∷
    begins (station 0) (Store (numbered 0) only (Some (numbered 1))) ∷ ends (station 0) Done ∷
    begins (station 0) (Cas top None (Some (numbered 0))) ∷ ends (station 0) (Swapped true) ∷
    begins (station 0) (Deref top) ∷ ends (station 0) (Found (Some (numbered 0))) ∷
    begins (station 0) (Delete (numbered 0)) ∷ ends (station 0) Done ∷
    begins (station 0) (Delete (numbered 1)) ∷ ends (station 0) Done ∷
    begins (station 0) New ∷ ends (station 0) (Found (Some (numbered 1))) ∷
    begins (station 0) (Deref (Link (numbered 0) only)) ∷ ends (station 0) (Found (Some (numbered 2))) ∷ []) []

abbrev pub LedPastIsExplained : Type 0
LedPastIsExplained = Explained (chain 1 3) led_past
