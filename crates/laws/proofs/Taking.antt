-- NEW: a record from the pool, or none.
use Rattle.std.proofs.Common.{◌≡◌, ℕ, ◌<◌, false, [], ◌∷◌, Some, None, sym, refl, ◌∙◌, subst, arith}
use Rattle.terms.specs.declared.Outcome.{Outcome}
use Rattle.terms.specs.declared.Standing.{Standing}
use Rattle.terms.specs.declared.Standing.TheVariants.{Pooled, Fresh}
use Rattle.terms.specs.Words.{is_none, lowest}
use Rattle.memory.specs.declared.access.Write.{Write}
use Rattle.memory.specs.Shared.{Shared}
use Rattle.memory.specs.Standings.{set_standing}
use Rattle.work.specs.declared.work.Point.TheVariants.{End, Take}
use Rattle.work.specs.Plans.{Notes, slot}
use Rattle.work.specs.Steps.{quiet, taken_of}
use Rattle.machine.specs.Tables.{Sizes, sight_in}
use Rattle.protocol.specs.State.{State}
use Rattle.protocol.specs.Invariant.{Inv}
use Rattle.protocol.specs.Effects.{after_take}
use Rattle.protocol.specs.Steps as step
use Rattle.protocol.proofs.Words.{upd_other}
use Rattle.protocol.proofs.Facts.{one_move}
use Rattle.laws.specs.Numbers.{shape}
use Rattle.laws.specs.Agree.{Agrees}
use Rattle.laws.specs.Mine.{Mine, mine, put_hand, put_wiped}
use Rattle.laws.specs.Owes as owes
use Rattle.laws.specs.Owes.{Owes}
use Rattle.laws.specs.Points.{AtPoint, Empty, RoomBeside}
use Rattle.laws.specs.Fits.{Lawful}
use Rattle.laws.proofs.Rows.{upd_here, row_at}
use Rattle.laws.proofs.Words.{one_word}
use Rattle.laws.proofs.Rooms.{lowest_empty, beside, beside_on, one_room, beside_room, firm_on}
use Rattle.laws.proofs.Owed.{ready_of}
use Rattle.laws.proofs.Seats.{Decided}

-- The lowest empty slot of a station that has one.
pub free_empty : (z : Sizes) → Lawful z → (p : ℕ) (s : Shared) (f : ℕ → Standing) (a : State) → Agrees z s f a → (i : ℕ) → Empty z.each (mine a p).slot i →
    Empty z.each (mine a p).slot (lowest (λ k. is_none (s.slots p k)) z.each)
free_empty z y p s f a g i e =
    let u = y.each in
    lowest_empty z.each (s.slots p) (mine a p).slot (λ k l. row_at a.slot p k (omega arith) ∙ g.slots p k (omega arith)) i e

module _ (z : Sizes) (y : Lawful z) (p : ℕ) (pS : p < z.stations) (pN : p < 8) (s : Shared) (f : ℕ → Standing) (a : State) (b : Inv shape a) (g : Agrees z s f a) (n : Notes) where
  pub take_none : AtPoint z n Take (mine a p) → Decided z p s f a n (quiet (taken_of None (sight_in z s p)))
  take_none (q, firm, steady, rooms) = record { to = a; moves = step.stay; agrees = g; after = owes.paid (q, firm, steady, one_room rooms) }

  pub take_some : (r : ℕ) → a.standing r ≡ Pooled → r < z.records → AtPoint z n Take (mine a p) →
      Decided z p s (set_standing f r Fresh) a n (quiet (taken_of (Some (record { number = r })) (sight_in z s p)))
  take_some r e l (q, firm, steady, rooms) =
      let u = y.records in
      let l8 : r < 128 = omega arith in
      let m : Mine = mine a p in
      let i : ℕ = lowest (λ k. is_none (s.slots p k)) z.each in
      let (k, _, _, first, _) = rooms in
      let free : Empty z.each m.slot i = free_empty z y p s f a g k first in
      let same : mine (after_take a p r) p ≡ put_hand (Some r) (put_wiped false m) = rw (upd_here a.hand p (Some r), upd_here a.wiped p false) in
      let left : RoomBeside z.each m.slot i = beside i rooms in
      record {
        to = after_take a p r;
        moves = one_move shape a p (after_take a p r) (step.take r e (ready_of a p q));
        agrees = record { roots = g.roots; links = g.links; counts = g.counts; traces = g.traces; deleteds = g.deleteds; standings = one_word 128 a.standing f r Fresh l8 g.standings; slots = g.slots; places = g.places; claims = g.claims; beyond = λ j h. upd_other a.standing r Fresh j (λ x. omega arith) ∙ g.beyond j h; blank = g.blank };
        after = subst (λ (x : Mine). Owes z.each (AtPoint z n (End (Outcome.Found (Some (record { number = r }))))) x (Write.ZeroCount (record { number = r }) ∷ Write.ClearDeleted (record { number = r }) ∷ Write.FillSlot (slot i) (Some (record { number = r })) ∷ [])) (sym same)
            (owes.zero_count (record { number = r }) refl (owes.clear_deleted (record { number = r }) refl (owes.hold_new (slot i) (record { number = r }) free.below (firm i ∙ free.none) refl refl
            (owes.paid (record { ups = q.ups; clears = q.clears; downs = q.downs; stores = q.stores; hands = refl }, firm_on m.slot m.held i (Some r) firm, steady, beside_room i (beside_on i (Some r) left))))));
      }
