-- The writes that a station owes, in order: each is one that the protocol lets it make by what it has of its own, and
-- after the last one something holds of what it has.
use Rattle.std.specs.Prelude.{◌≡◌, ℕ, ◌<◌, true, List, [], ◌∷◌, Some, None, Option}
use Rattle.terms.specs.declared.Record.{Record}
use Rattle.terms.specs.declared.Station.{Station}
use Rattle.terms.specs.declared.Slot.{Slot}
use Rattle.terms.specs.declared.Place.{Place}
use Rattle.memory.specs.declared.access.Write.{Write}
use Rattle.memory.specs.declared.access.Write.TheVariants as w
use Rattle.protocol.specs.Words.{upd}
use Rattle.protocol.specs.State.{resting, marking, passed, gone, emptied}
use Rattle.laws.specs.Numbers.{place_number}
use Rattle.laws.specs.Agree.{num}
use Rattle.laws.specs.Mine.{Mine, Quiet, put_slot, put_held, put_place, put_phase, put_owes_up, put_owes_clear, put_owes_down, put_hand, put_wiped, put_claiming, put_valid}

-- the record r stands in the list, under the place j
pub record Lists (m : Mine) (j r : ℕ) : Type 0 where
  pub below : j < 64
  pub full : m.lists j ≡ Some r
  pub quiet : Quiet m

-- the slot i is empty
abbrev pub emptied_slot : Mine → ℕ → Mine
emptied_slot m i = put_slot (upd m.slot i None) (put_held (upd m.held i None) m)

-- the slot i holds the record that was in hand
abbrev pub new_held : Mine → ℕ → ℕ → Mine
new_held m i r = put_slot (upd m.slot i (Some r)) (put_held (upd m.held i (Some r)) (put_hand None m))

pub data Owes (each : ℕ) (At : Mine → Type 0) : Mine → List Write → Type 0 where
  paid : {m : Mine} → At m → Owes each At m []
  -- NEW, with its record in hand
  zero_count : {m : Mine} {ws : List Write} (r : Record) → m.hand ≡ Some r.number → Owes each At m ws → Owes each At m (w.ZeroCount r ∷ ws)
  clear_deleted : {m : Mine} {ws : List Write} (r : Record) → m.hand ≡ Some r.number → Owes each At (put_wiped true m) ws → Owes each At m (w.ClearDeleted r ∷ ws)
  hold_new : {m : Mine} {ws : List Write} (i : Slot) (r : Record) → i.index < each → m.held i.index ≡ None → m.hand ≡ Some r.number → m.wiped ≡ true →
      Owes each At (new_held m i.index r.number) ws → Owes each At m (w.FillSlot i (Some r) ∷ ws)
  -- a name, not verified, into a slot that holds nothing
  write_slot : {m : Mine} {ws : List Write} (i : Slot) (v : Option Record) → i.index < each → m.held i.index ≡ None →
      Owes each At (put_slot (upd m.slot i.index (num v)) m) ws → Owes each At m (w.FillSlot i v ∷ ws)
  -- A slot names the record, and each that does holds it; whichever is emptied, the rest is right.
  release : {m : Mine} {ws : List Write} (r : Record) → Quiet m → ((k : ℕ) → m.slot k ≡ Some r.number → m.held k ≡ Some r.number) → (i : ℕ) → i < 8 → m.slot i ≡ Some r.number →
      ((k : ℕ) → k < 8 → m.slot k ≡ Some r.number → Owes each At (emptied_slot m k) ws) → Owes each At m (w.Release r ∷ ws)
  -- what follows a write of a name into a spot
  raise_count : {m : Mine} {ws : List Write} (r : Record) → m.owes_up ≡ Some r.number → Owes each At (put_owes_up None m) ws → Owes each At m (w.RaiseCount r ∷ ws)
  clear_trace : {m : Mine} {ws : List Write} (r : Record) → m.owes_up ≡ None → m.owes_clear ≡ Some r.number → Owes each At (put_owes_clear None m) ws → Owes each At m (w.ClearTraceOfHeld r ∷ ws)
  lower_count : {m : Mine} {ws : List Write} (r : Record) → m.owes_down ≡ Some r.number → Owes each At (put_owes_down None m) ws → Owes each At m (w.LowerCount r ∷ ws)
  -- DELETE and SCAN, of a record in the list
  mark_deleted : {m : Mine} {ws : List Write} (r : Record) (j : ℕ) → Lists m j r.number → Owes each At m ws → Owes each At m (w.SetDeleted r ∷ ws)
  reset_trace : {m : Mine} {ws : List Write} (r : Record) (j : ℕ) → Lists m j r.number → Owes each At m ws → Owes each At m (w.ClearTraceOfListed r ∷ ws)
  clear_done : {m : Mine} {ws : List Write} (i : Place) → Owes each At m ws → Owes each At m (w.ClearDone i ∷ ws)
  fill_place : {m : Mine} {ws : List Write} (i : Place) (r : Record) → Lists m i.index r.number → m.phase i.index ≡ resting →
      Owes each At (put_place (upd m.place i.index (Some r.number)) m) ws → Owes each At m (w.FillPlace i r ∷ ws)
  mark_trace : {m : Mine} {ws : List Write} (r : Record) (j : ℕ) → Lists m j r.number → m.phase j ≡ marking → Owes each At m ws → Owes each At m (w.SetTrace r ∷ ws)
  unmark_trace : {m : Mine} {ws : List Write} (r : Record) (j : ℕ) → Lists m j r.number → m.phase j ≡ marking → m.read ≡ 0 →
      Owes each At (put_phase (upd m.phase j passed) m) ws → Owes each At m (w.ClearTraceOfListed r ∷ ws)
  empty_place : {m : Mine} {ws : List Write} (i : Place) (r : ℕ) → Lists m i.index r → m.phase i.index ≡ gone →
      Owes each At (put_place (upd m.place i.index None) (put_phase (upd m.phase i.index emptied) m)) ws → Owes each At m (w.EmptyPlace i ∷ ws)
  set_done : {m : Mine} {ws : List Write} (i : Place) → Owes each At m ws → Owes each At m (w.SetDone i ∷ ws)
  refill_place : {m : Mine} {ws : List Write} (i : Place) (r : Record) → Lists m i.index r.number → m.phase i.index ≡ emptied →
      Owes each At (put_place (upd m.place i.index (Some r.number)) (put_phase (upd m.phase i.index resting) m)) ws → Owes each At m (w.FillPlace i r ∷ ws)
  -- CLEAN ALL
  claim : {m : Mine} {ws : List Write} (z : Station) (i : Place) → z.number < 8 → i.index < 64 → m.claiming ≡ None →
      Owes each At (put_claiming (Some (place_number z.number i.index)) m) ws → Owes each At m (w.AddClaim z i ∷ ws)
  unclaim : {m : Mine} {ws : List Write} (z : Station) (i : Place) → z.number < 8 → i.index < 64 → m.claiming ≡ Some (place_number z.number i.index) →
      Owes each At (put_claiming None (put_valid None m)) ws → Owes each At m (w.DropClaim z i ∷ ws)
