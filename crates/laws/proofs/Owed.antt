-- A write that a station owes is a step of the protocol, and what it still owes is right.
use Rattle.std.proofs.Common.{◌≡◌, ℕ, ◌+◌, ◌-◌, ◌<◌, ◌≤◌, min, true, false, ◌⊎◌, List, ◌∷◌, ℤ, pos, negsuc, ◌+ℤ◌, ◌-ℤ◌, Some, None, Option, sym, refl, ap, ◌∙◌, subst, inl, inr, arith}
use Rattle.std.specs.Int.{saturate_to_bits}
use Rattle.std.proofs.lemmas.Int.{ints}
use Rattle.std.proofs.lemmas.Bool.{cases_lt}
use Rattle.terms.specs.declared.Record.{Record}
use Rattle.terms.specs.declared.Standing.{Standing}
use Rattle.machine.specs.Tables.{Sizes}
use Rattle.laws.specs.Fits.{Lawful}
use Rattle.terms.specs.Words.{put, put_in}
use Rattle.memory.specs.declared.access.Write.{Write}
use Rattle.memory.specs.Shared.{Shared, lowest_naming}
use Rattle.memory.specs.Perform.{change_of}
use Rattle.protocol.specs.Words.{upd}
use Rattle.protocol.specs.State.{State, resting, passed, emptied}
use Rattle.protocol.specs.Invariant.{Inv}
use Rattle.protocol.specs.Effects.{after_zero_count, after_clear_deleted, after_hold_new, after_write_slot, after_release, after_raise_count, after_clear_trace, after_lower_count, after_mark_deleted, after_trace, after_fill_place, after_claim, after_unclaim, after_unmark_trace, after_empty_place, after_refill_place}
use Rattle.protocol.specs.Steps as step
use Rattle.protocol.specs.Steps.{Step, Moves, Ready, OwnSlot, OwnPlace}
use Rattle.protocol.specs.Theorems.{MayTouch, as_held, as_listed, as_owed, in_hand}
use Rattle.protocol.proofs.Facts.{one_move}
use Rattle.protocol.proofs.Promises.{touches_live, bounded}
use Rattle.laws.specs.Numbers.{shape, slot_number, place_number}
use Rattle.laws.specs.Agree.{Agrees, num}
use Rattle.laws.specs.Mine.{Mine, mine, Quiet, put_wiped, put_owes_up, put_owes_clear, put_owes_down, put_claiming, put_valid, put_place, put_phase, put_slot}
use Rattle.laws.specs.Owes as owes
use Rattle.laws.specs.Owes.{Owes, Lists, emptied_slot, new_held}
use Rattle.protocol.proofs.Words.{upd_other, upd_tells}
use Rattle.laws.proofs.Rows.{upd_here, row_at, row_upd, column_upd}
use Rattle.laws.proofs.Words.{one_word, one_cell}
use Rattle.laws.proofs.Names.{naming_below, naming_names, plain_sum, plain_claim}

-- What a turn comes to: moves of the protocol to a state that agrees with what the table holds then.
pub record Turned (z : Sizes) (p : ℕ) (s : Shared) (f : ℕ → Standing) (a : State) (After : Mine → Type 0) : Type 0 where
  pub to : State
  pub moves : Moves shape a p to
  pub agrees : Agrees z s f to
  pub after : After (mine to p)

-- The numbering keeps slots, places and links apart.
pub slots_apart : (z i j y : ℕ) → i < 8 → y < 8 → slot_number z i ≡ slot_number j y → (z ≡ j) × (i ≡ y)
slots_apart z i j y l k e = (omega arith, omega arith)

pub places_apart : (z i j y : ℕ) → z < 8 → j < 8 → place_number z i ≡ place_number j y → (z ≡ j) × (i ≡ y)
places_apart z i j y l k e = (omega arith, omega arith)

pub own_slot : (p i : ℕ) → p < 8 → i < 8 → OwnSlot shape p (slot_number p i)
own_slot p i l k = record { below = omega arith; mine = omega arith }

pub ready_of : (a : State) (p : ℕ) → Quiet (mine a p) → Ready a p
ready_of a p q = record { ups = q.ups; clears = q.clears; downs = q.downs; stores = q.stores; hands = q.hands }

pub own_place : (a : State) (p j r : ℕ) → p < 8 → Lists (mine a p) j r → OwnPlace shape a p (place_number p j) r
own_place a p j r l k = let b = k.below in record { below = omega arith; mine = omega arith; full = k.full; ready = ready_of a p k.quiet }

module _ (z : Sizes) (y : Lawful z) (p : ℕ) (pS : p < z.stations) (pN : p < 8) (s : Shared) (f : ℕ → Standing) (a : State) (b : Inv shape a) (g : Agrees z s f a) where
  -- A record that the station may touch is one of the 128.
  pub within : (r : ℕ) → MayTouch shape a p r → r < 128
  within r k = elim (cases_lt r 128) [ inl l ↦ l | inr l ↦ absurd (touches_live shape a p pN b r k (g.beyond r l)) ]

  pub listed_within : (j r : ℕ) → Lists (mine a p) j r → r < 128
  listed_within j r l = let k = own_place a p j r pN l in within r (as_listed (place_number p j) k.below k.mine k.full)

  clear_within : (r : ℕ) → a.owes_clear p ≡ Some r → r < 128
  clear_within r e = within r (as_held (b.owed.kept p r pN e))

  -- A word of the eight stations' slots or places set.
  pub slot_set : (i : ℕ) (v : Option Record) → i < 8 → (q k : ℕ) → k < 8 → upd a.slot (slot_number p i) (num v) (slot_number q k) ≡ num (put_in 8 8 s.slots p i v q k)
  slot_set i v l q k kK = one_cell num slot_number 8 8 a.slot s.slots p i v pN l q k (slots_apart p i q k l kK) (g.slots q k kK)

  pub place_set : (j : ℕ) (v : Option Record) → j < 64 → (q k : ℕ) → q < 8 → upd a.place (place_number p j) (num v) (place_number q k) ≡ num (put_in 8 64 s.places p j v q k)
  place_set j v l q k qN = one_cell num place_number 8 64 a.place s.places p j v pN l q k (places_apart p j q k pN qN) (g.places q k qN)

  claims_set : (q j n : ℕ) → q < 8 → j < 64 → (i k : ℕ) → i < 8 → upd a.claims (place_number q j) n (place_number i k) ≡ put_in 8 64 s.claims q j n i k
  claims_set q j n qN l i k iN = one_cell (λ (x : ℕ). x) place_number 8 64 a.claims s.claims q j n qN l i k (places_apart q j i k qN iN) (g.claims i k iN)

  -- An empty slot of the table may name anything, and any slot nothing.
  blank_set : (i : ℕ) (v : Option ℕ) → i < z.each → (q k : ℕ) → k < 8 → (z.each ≤ k) ⊎ (z.stations ≤ q) → upd a.slot (slot_number p i) v (slot_number q k) ≡ None
  blank_set i v l q k kK e =
      let u = y.each in
      upd_other a.slot (slot_number p i) v (slot_number q k) (λ h. elim e [ inl h1 ↦ omega arith | inr h1 ↦ omega arith ]) ∙ g.blank q k kK e

  blank_none : (i : ℕ) → (q k : ℕ) → k < 8 → (z.each ≤ k) ⊎ (z.stations ≤ q) → upd a.slot (slot_number p i) None (slot_number q k) ≡ None
  blank_none i q k kK e = elim (upd_tells a.slot (slot_number p i) None (slot_number q k)) [ inl (h, _) ↦ h | inr (h, _) ↦ h ∙ g.blank q k kK e ]

  module _ (At : Mine → Type 0) (ws : List Write) where
    abbrev Paid : Write → Type 0
    Paid w = Turned z p (change_of s p w) f a (λ m. Owes z.each At m ws)

    -- One step, with what the station has of its own afterwards.
    by_step : {u : Shared} (t : State) (m : Mine) → Step shape a p t → Agrees z u f t → mine t p ≡ m → Owes z.each At m ws → Turned z p u f a (λ n. Owes z.each At n ws)
    by_step t m k h e o = record { to = t; moves = one_move shape a p t k; agrees = h; after = subst (λ (x : Mine). Owes z.each At x ws) (sym e) o }

    pub pay : (w : Write) → Owes z.each At (mine a p) (w ∷ ws) → Paid w
    pay _ (owes.zero_count r e o) =
        let l : r.number < 128 = within r.number (in_hand e) in
        by_step (after_zero_count a r.number) (mine a p) (step.zero_count r.number e) (record { roots = g.roots; links = g.links; counts = one_word 128 a.count s.counts r.number (pos 0) l g.counts; traces = g.traces; deleteds = g.deleteds; standings = g.standings; slots = g.slots; places = g.places; claims = g.claims; beyond = g.beyond; blank = g.blank }) (refl) o
    pay _ (owes.clear_deleted r e o) =
        let l : r.number < 128 = within r.number (in_hand e) in
        by_step (after_clear_deleted a p r.number) (put_wiped true (mine a p)) (step.clear_deleted r.number e) (record { roots = g.roots; links = g.links; counts = g.counts; traces = g.traces; deleteds = one_word 128 a.deleted s.deleteds r.number (false) l g.deleteds; standings = g.standings; slots = g.slots; places = g.places; claims = g.claims; beyond = g.beyond; blank = g.blank }) (ap (λ v. put_wiped v (mine a p)) (upd_here a.wiped p true)) o
    pay _ (owes.hold_new i r l h e v o) =
        let u = y.each in
        let l8 : i.index < 8 = omega arith in
        by_step (after_hold_new a p (slot_number p i.index) r.number) (new_held (mine a p) i.index r.number) (step.hold_new (slot_number p i.index) r.number (own_slot p i.index pN l8) (sym (row_at a.held p i.index l8) ∙ h) e v) (record { roots = g.roots; links = g.links; counts = g.counts; traces = g.traces; deleteds = g.deleteds; standings = g.standings; slots = slot_set i.index (Some r) l8; places = g.places; claims = g.claims; beyond = g.beyond; blank = blank_set i.index (Some r.number) l }) (rw (row_upd a.slot p i.index (Some r.number) l8, row_upd a.held p i.index (Some r.number) l8, upd_here a.hand p None)) o
    pay _ (owes.write_slot i v l h o) =
        let u = y.each in
        let l8 : i.index < 8 = omega arith in
        by_step (after_write_slot a (slot_number p i.index) (num v)) (put_slot (upd (mine a p).slot i.index (num v)) (mine a p)) (step.write_slot (slot_number p i.index) (num v) (own_slot p i.index pN l8) (sym (row_at a.held p i.index l8) ∙ h)) (record { roots = g.roots; links = g.links; counts = g.counts; traces = g.traces; deleteds = g.deleteds; standings = g.standings; slots = slot_set i.index v l8; places = g.places; claims = g.claims; beyond = g.beyond; blank = blank_set i.index (num v) l }) (rw (row_upd a.slot p i.index (num v) l8)) o
    pay _ (owes.release r q _ i l e o) =
        let named : num (s.slots p i) ≡ Some r.number = sym (g.slots p i l) ∙ sym (row_at a.slot p i l) ∙ e in
        let k : ℕ = lowest_naming (s.slots p) r in
        let kK : k < 8 = naming_below (s.slots p) r i l named in
        let there : (mine a p).slot k ≡ Some r.number = row_at a.slot p k kK ∙ g.slots p k kK ∙ naming_names (s.slots p) r i l named in
        by_step (after_release a (slot_number p k)) (emptied_slot (mine a p) k) (step.release (slot_number p k) (own_slot p k pN kK) (ready_of a p q)) (record { roots = g.roots; links = g.links; counts = g.counts; traces = g.traces; deleteds = g.deleteds; standings = g.standings; slots = slot_set k None kK; places = g.places; claims = g.claims; beyond = g.beyond; blank = blank_none k })
        (rw (row_upd a.slot p k None kK, row_upd a.held p k None kK)) (o k kK there)
    pay _ (owes.raise_count r e o) =
        let l : r.number < 128 = clear_within r.number (b.owed.first p r.number pN e) in
        let n = (bounded shape a b).counts r.number in
        let low = n.low in
        let high = n.high in
        let sum : a.count r.number +ℤ pos 1 ≡ saturate_to_bits 15 (s.counts r.number +ℤ pos 1) =
        sym (plain_sum (a.count r.number +ℤ pos 1) (omega (arith, ints)) (omega (arith, ints))) ∙ ap (λ (z : ℤ). saturate_to_bits 15 (z +ℤ pos 1)) (g.counts r.number) in
        by_step (after_raise_count a p r.number) (put_owes_up None (mine a p)) (step.raise_count r.number e) (record { roots = g.roots; links = g.links; counts = λ j. one_word 128 a.count s.counts r.number (a.count r.number +ℤ pos 1) l g.counts j ∙ ap (λ (z : ℤ). put 128 s.counts r.number z j) sum; traces = g.traces; deleteds = g.deleteds; standings = g.standings; slots = g.slots; places = g.places; claims = g.claims; beyond = g.beyond; blank = g.blank }) (ap (λ v. put_owes_up v (mine a p)) (upd_here a.owes_up p None)) o
    pay _ (owes.clear_trace r u e o) =
        let l : r.number < 128 = clear_within r.number e in
        by_step (after_clear_trace a p r.number) (put_owes_clear None (mine a p)) (step.clear_trace r.number u e) (record { roots = g.roots; links = g.links; counts = g.counts; traces = one_word 128 a.trace s.traces r.number (false) l g.traces; deleteds = g.deleteds; standings = g.standings; slots = g.slots; places = g.places; claims = g.claims; beyond = g.beyond; blank = g.blank }) (ap (λ v. put_owes_clear v (mine a p)) (upd_here a.owes_clear p None)) o
    pay _ (owes.lower_count r e o) =
        let l : r.number < 128 = within r.number (as_owed e) in
        let n = (bounded shape a b).counts r.number in
        let low = n.low in
        let high = n.high in
        let sum : a.count r.number -ℤ pos 1 ≡ saturate_to_bits 15 (s.counts r.number +ℤ negsuc 0) =
        sym (plain_sum (a.count r.number -ℤ pos 1) (omega (arith, ints)) (omega (arith, ints))) ∙ ap (λ (z : ℤ). saturate_to_bits 15 (z +ℤ negsuc 0)) (g.counts r.number) in
        by_step (after_lower_count a p r.number) (put_owes_down None (mine a p)) (step.lower_count r.number e) (record { roots = g.roots; links = g.links; counts = λ j. one_word 128 a.count s.counts r.number (a.count r.number -ℤ pos 1) l g.counts j ∙ ap (λ (z : ℤ). put 128 s.counts r.number z j) sum; traces = g.traces; deleteds = g.deleteds; standings = g.standings; slots = g.slots; places = g.places; claims = g.claims; beyond = g.beyond; blank = g.blank }) (ap (λ v. put_owes_down v (mine a p)) (upd_here a.owes_down p None)) o
    pay _ (owes.mark_deleted r j k o) =
        let l : r.number < 128 = listed_within j r.number k in
        by_step (after_mark_deleted a r.number) (mine a p) (step.mark_deleted (place_number p j) r.number (own_place a p j r.number pN k)) (record { roots = g.roots; links = g.links; counts = g.counts; traces = g.traces; deleteds = one_word 128 a.deleted s.deleteds r.number (true) l g.deleteds; standings = g.standings; slots = g.slots; places = g.places; claims = g.claims; beyond = g.beyond; blank = g.blank }) (refl) o
    pay _ (owes.reset_trace r j k o) =
        let l : r.number < 128 = listed_within j r.number k in
        by_step (after_trace a r.number false) (mine a p) (step.reset_trace (place_number p j) r.number (own_place a p j r.number pN k)) (record { roots = g.roots; links = g.links; counts = g.counts; traces = one_word 128 a.trace s.traces r.number (false) l g.traces; deleteds = g.deleteds; standings = g.standings; slots = g.slots; places = g.places; claims = g.claims; beyond = g.beyond; blank = g.blank }) (refl) o
    pay _ (owes.clear_done i o) = record { to = a; moves = step.stay; agrees = record { roots = g.roots; links = g.links; counts = g.counts; traces = g.traces; deleteds = g.deleteds; standings = g.standings; slots = g.slots; places = g.places; claims = g.claims; beyond = g.beyond; blank = g.blank }; after = o }
    pay _ (owes.fill_place i r k e o) =
        by_step (after_fill_place a (place_number p i.index) r.number) (put_place (upd (mine a p).place i.index (Some r.number)) (mine a p)) (step.fill_place (place_number p i.index) r.number (own_place a p i.index r.number pN k) e) (record { roots = g.roots; links = g.links; counts = g.counts; traces = g.traces; deleteds = g.deleteds; standings = g.standings; slots = g.slots; places = place_set i.index (Some r) k.below; claims = g.claims; beyond = g.beyond; blank = g.blank }) (rw (column_upd a.place p i.index (Some r.number))) o
    pay _ (owes.mark_trace r j k e o) =
        let l : r.number < 128 = listed_within j r.number k in
        by_step (after_trace a r.number true) (mine a p) (step.mark_trace (place_number p j) r.number (own_place a p j r.number pN k) e) (record { roots = g.roots; links = g.links; counts = g.counts; traces = one_word 128 a.trace s.traces r.number (true) l g.traces; deleteds = g.deleteds; standings = g.standings; slots = g.slots; places = g.places; claims = g.claims; beyond = g.beyond; blank = g.blank }) (refl) o
    pay _ (owes.unmark_trace r j k e n o) =
        let l : r.number < 128 = listed_within j r.number k in
        by_step (after_unmark_trace a (place_number p j) r.number) (put_phase (upd (mine a p).phase j passed) (mine a p)) (step.unmark_trace (place_number p j) r.number (own_place a p j r.number pN k) e n) (record { roots = g.roots; links = g.links; counts = g.counts; traces = one_word 128 a.trace s.traces r.number (false) l g.traces; deleteds = g.deleteds; standings = g.standings; slots = g.slots; places = g.places; claims = g.claims; beyond = g.beyond; blank = g.blank }) (rw (column_upd a.phase p j passed)) o
    pay _ (owes.empty_place i r k e o) =
        by_step (after_empty_place a (place_number p i.index)) (put_place (upd (mine a p).place i.index None) (put_phase (upd (mine a p).phase i.index emptied) (mine a p))) (step.empty_place (place_number p i.index) r (own_place a p i.index r pN k) e) (record { roots = g.roots; links = g.links; counts = g.counts; traces = g.traces; deleteds = g.deleteds; standings = g.standings; slots = g.slots; places = place_set i.index None k.below; claims = g.claims; beyond = g.beyond; blank = g.blank }) (rw (column_upd a.place p i.index None, column_upd a.phase p i.index emptied)) o
    pay _ (owes.set_done i o) = record { to = a; moves = step.stay; agrees = record { roots = g.roots; links = g.links; counts = g.counts; traces = g.traces; deleteds = g.deleteds; standings = g.standings; slots = g.slots; places = g.places; claims = g.claims; beyond = g.beyond; blank = g.blank }; after = o }
    pay _ (owes.refill_place i r k e o) =
        by_step (after_refill_place a (place_number p i.index) r.number) (put_place (upd (mine a p).place i.index (Some r.number)) (put_phase (upd (mine a p).phase i.index resting) (mine a p))) (step.refill_place (place_number p i.index) r.number (own_place a p i.index r.number pN k) e) (record { roots = g.roots; links = g.links; counts = g.counts; traces = g.traces; deleteds = g.deleteds; standings = g.standings; slots = g.slots; places = place_set i.index (Some r) k.below; claims = g.claims; beyond = g.beyond; blank = g.blank }) (rw (column_upd a.place p i.index (Some r.number), column_upd a.phase p i.index resting)) o
    pay _ (owes.claim v i vN l e o) =
        let n = (bounded shape a b).claims (place_number v.number i.index) (omega arith) in
        let sum : a.claims (place_number v.number i.index) + 1 ≡ min (s.claims v.number i.index + 1) 255 =
        sym (plain_claim (a.claims (place_number v.number i.index)) n) ∙ ap (λ (x : ℕ). min (x + 1) 255) (g.claims v.number i.index vN) in
        by_step (after_claim a p (place_number v.number i.index)) (put_claiming (Some (place_number v.number i.index)) (mine a p)) (step.claim (place_number v.number i.index) e) (record { roots = g.roots; links = g.links; counts = g.counts; traces = g.traces; deleteds = g.deleteds; standings = g.standings; slots = g.slots; places = g.places; claims = λ q y k. claims_set v.number i.index (a.claims (place_number v.number i.index) + 1) vN l q y k ∙ ap (λ (n : ℕ). put_in 8 64 s.claims v.number i.index n q y) sum; beyond = g.beyond; blank = g.blank }) (ap (λ n. put_claiming n (mine a p)) (upd_here a.claiming p (Some (place_number v.number i.index)))) o
    pay _ (owes.unclaim v i vN l e o) =
        by_step (after_unclaim a p (place_number v.number i.index)) (put_claiming None (put_valid None (mine a p))) (step.unclaim (place_number v.number i.index) e) (record { roots = g.roots; links = g.links; counts = g.counts; traces = g.traces; deleteds = g.deleteds; standings = g.standings; slots = g.slots; places = g.places; claims = λ q y k. claims_set v.number i.index (a.claims (place_number v.number i.index) - 1) vN l q y k ∙ ap (λ (n : ℕ). put_in 8 64 s.claims v.number i.index (n - 1) q y) (g.claims v.number i.index vN); beyond = g.beyond; blank = g.blank }) (rw (upd_here a.claiming p None, upd_here a.valid p None)) o
