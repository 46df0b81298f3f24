-- A turn of one station leaves the others as they were, so the whole table fits again.
use Rattle.std.proofs.Common.{◌≡◌, ℕ, ◌<◌, Bool, true, List, [], ◌∷◌, Option, sym, ap, subst, inl, inr, arith}
use Rattle.terms.specs.declared.Standing.{Standing}
use Rattle.terms.specs.declared.Standing.TheVariants.{Pooled}
use Rattle.terms.proofs.Puts.{put_tells}
use Rattle.memory.specs.Shared.{Shared}
use Rattle.memory.specs.declared.access.Write.{Write}
use Rattle.work.specs.declared.work.Point.{Point}
use Rattle.work.specs.declared.work.Point.TheVariants.{End, Take, Look, LookAgain, Verify, Swap, Save, Overwrite, AskDeleted, AskPlace, AskDone, AskPlaceAgain, CountFirst, CountAgain, AskSlot, CountSecond, AskTrace, AskClaims, AskLink, Give}
use Rattle.work.specs.Plans.{Plan, Notes, noted}
use Rattle.work.specs.Steps.{Turn, settled, settle}
use Rattle.machine.specs.Tables.{Sizes, Seat, Table}
use Rattle.machine.specs.Steps.{work_after, seated}
use Rattle.protocol.specs.State.{State}
use Rattle.protocol.specs.Own.{Untouched, SlotWords, PlaceWords}
use Rattle.protocol.proofs.Turns.{turns}
use Rattle.laws.specs.Numbers.{shape, slot_number, place_number}
use Rattle.laws.specs.Mine.{Mine, mine}
use Rattle.laws.specs.Owes as owes
use Rattle.laws.specs.Owes.{Owes}
use Rattle.laws.specs.Points.{AtPoint}
use Rattle.laws.specs.Fits.{Working, Seated, Sound, Follows}
use Rattle.laws.proofs.Rows.{row_same}
use Rattle.laws.proofs.Owed.{Turned}

-- What another station has of its own is as it was.
pub others_mine : (a b : State) (p z : ℕ) → z < 8 → (z ≡ p → ⊥) → Untouched shape a p b → mine b z ≡ mine a z
others_mine a b p z l d u =
    let slots : (i : ℕ) → i < 8 → ◌≡◌ {A = SlotWords} _ _ = λ i k. u.slots (slot_number z i) (λ e. d (omega arith)) in
    let places : (j : ℕ) → ◌≡◌ {A = PlaceWords} _ _ = λ j. u.places (place_number z j) (λ e. d (omega arith)) in
    let own = u.stations z d in
    let s = row_same a.slot b.slot z (λ i k. ap (λ (x : SlotWords). x.slot) (slots i k)) in
    let h = row_same a.held b.held z (λ i k. ap (λ (x : SlotWords). x.held) (slots i k)) in
    λ i. record {
      slot = s i;
      held = h i;
      place = λ j. (places j i).place;
      lists = λ j. (places j i).lists;
      phase = λ j. (places j i).phase;
      low = λ j. (places j i).low;
      owes_up = (own i).owes_up;
      owes_clear = (own i).owes_clear;
      owes_down = (own i).owes_down;
      hand = (own i).hand;
      wiped = (own i).wiped;
      storing = (own i).storing;
      known = (own i).known;
      saved = (own i).saved;
      read = (own i).read;
      seen = (own i).seen;
      claiming = (own i).claiming;
      valid = (own i).valid;
    }

-- An operation ends with its last access.
pub settles : (z : Sizes) (n : Notes) (m : Mine) (ws : List Write) (x : Point) → Owes z.each (AtPoint z n x) m ws → Working z n m (work_after (settled ws x))
settles z n m (w ∷ ws) x o = o
settles z n m [] (End a) (owes.paid k) = k
settles z n m [] Take o = o
settles z n m [] (Look q g) o = o
settles z n m [] (LookAgain q i g) o = o
settles z n m [] (Verify q i v g) o = o
settles z n m [] (Swap q u v g) o = o
settles z n m [] (Save q v g) o = o
settles z n m [] (Overwrite q u v g) o = o
settles z n m [] (AskDeleted c r) o = o
settles z n m [] (AskPlace q i) o = o
settles z n m [] (AskDone q i r) o = o
settles z n m [] (AskPlaceAgain q i r) o = o
settles z n m [] (CountFirst e) o = o
settles z n m [] (CountAgain e) o = o
settles z n m [] (AskSlot q i) o = o
settles z n m [] (CountSecond e) o = o
settles z n m [] (AskTrace e) o = o
settles z n m [] (AskClaims e) o = o
settles z n m [] (AskLink e x) o = o
settles z n m [] (Give e) o = o

-- What a decision, with its note, leaves to its station.
abbrev pub Decided : Sizes → ℕ → Shared → (ℕ → Standing) → State → Notes → Turn → Type 0
Decided z p s f a n x = Turned z p s f a (λ m. Owes z.each (AtPoint z (noted n x.note) x.does.point) m x.does.owed)

pub decided_works : (z : Sizes) (p : ℕ) (s : Shared) (f : ℕ → Standing) (a : State) (n : Notes) (x : Turn) → Decided z p s f a n x →
    Turned z p s f a (λ m. Working z (noted n x.note) m (work_after (settle x.does)))
decided_works z p s f a n x d = record { to = d.to; moves = d.moves; agrees = d.agrees; after = settles z (noted n x.note) (mine d.to p) x.does.owed x.does.point d.after }

-- The whole table after what one station did.
module _ (t : Table) (k : Sound t) (p : ℕ) (pS : p < t.sizes.stations) where
  pub sound_after : (s : Shared) (f : ℕ → Standing) (w : Option Plan) (n : Notes) (pool : ℕ → Bool) →
      (x : Turned t.sizes p s f k.state (λ m. Working t.sizes n m w)) →
      ((r : ℕ) → pool r ≡ true → (f r ≡ Pooled) × (r < t.sizes.records)) →
      ((r : ℕ) → r < t.sizes.records → f r ≡ Pooled → pool r ≡ true) →
      Follows t k p (record { sizes = t.sizes; shared = s; standing = f; seats = seated t.seats p w n; pool = pool })
  sound_after s f w n pool x pools complete =
      let a = k.state in
      let b = x.to in
      let size = k.lawful.stations in
      let turn = turns shape a p (omega arith) k.inv b x.moves in
      record {
        moves = x.moves;
        sound = record {
          lawful = k.lawful;
          state = b;
          inv = turn.inv;
          fits = record {
            agrees = x.agrees;
            pooled = pools;
            complete = complete;
            seats = λ z zS. elim (put_tells 8 t.seats p (record { work = w; notes = n }) z) [
              | inl (e, y, _) ↦ subst (λ (s : Seat). Seated t.sizes s (mine b z)) (sym e) (subst (λ (i : ℕ). Working t.sizes n (mine b i) w) y x.after)
              | inr (e, d) ↦ subst (λ (s : Seat). Seated t.sizes s (mine b z)) (sym e)
                  (subst (λ (m : Mine). Seated t.sizes (t.seats z) m) (sym (others_mine a b p z (omega arith) (λ y. d (sym y) (omega arith)) turn.others)) (k.fits.seats z zS))
            ];
          };
        };
      }
