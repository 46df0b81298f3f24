-- What a station does to the shared words and to its own, one kind of access to a step. A guard speaks only of
-- the station's own words and of what the access found, and, where an operation begins, of a standing that the
-- table looks at before it accepts the operation (a record to withdraw, a record to store into).
use Rattle.std.specs.Prelude.{◌≡◌, ℕ, ◌<◌, ◌≤◌, true, false, ◌⊎◌, pos, Some, None, Option, ◌≢◌}
use Rattle.terms.specs.declared.Standing.TheVariants.{Pooled, Retired}
use Rattle.protocol.specs.State.{State, resting, marking, passed, gone, emptied, giving}
use Rattle.protocol.specs.Shape.{Shape, Holds, Carries}
use Rattle.protocol.specs.Clauses.{SoleWriter}
use Rattle.protocol.specs.Effects.{after_take, after_zero_count, after_clear_deleted, after_hold_new, after_write_slot, after_verify, after_release, after_write, after_clear_link, after_begin_store, after_save, after_raise_count, after_clear_trace, after_lower_count, after_retire, after_mark_deleted, after_trace, after_fill_place, after_claim, after_look_again, after_unclaim, after_phase, after_unmark_trace, after_read_slot, after_empty_place, after_find_unclaimed, after_give, after_refill_place, after_reset_scan}

-- p owes nothing, is about to overwrite nothing, and has nothing in hand.
pub record Ready (s : State) (p : ℕ) : Type 0 where
  pub ups : s.owes_up p ≡ None
  pub clears : s.owes_clear p ≡ None
  pub downs : s.owes_down p ≡ None
  pub stores : s.storing p ≡ None
  pub hands : s.hand p ≡ None

-- c is a slot of p.
pub record OwnSlot (h : Shape) (p c : ℕ) : Type 0 where
  pub below : c < h.slots
  pub mine : h.of c ≡ p

-- w is a place of p, under which p lists r.
pub record OwnPlace (h : Shape) (s : State) (p w r : ℕ) : Type 0 where
  pub below : w < h.places
  pub mine : h.ofp w ≡ p
  pub full : s.lists w ≡ Some r
  pub ready : Ready s p

-- Why p may swap the spot q: it is a root, or a link of a record that p holds, or lists and is not giving back,
-- or has found in a place that it claimed.
pub data Reach (h : Shape) (s : State) (p q : ℕ) : Type 0 where
  root : h.owner q ≡ None → Reach h s p q
  holding : (r : ℕ) → h.owner q ≡ Some r → Holds h s.held p r → Reach h s p q
  listing : (w r : ℕ) → h.owner q ≡ Some r → w < h.places → h.ofp w ≡ p → s.lists w ≡ Some r → (s.phase w ≢ giving) → Reach h s p q
  claimed : (r : ℕ) → h.owner q ≡ Some r → s.valid p ≡ Some r → Reach h s p q

pub data Step (h : Shape) (s : State) (p : ℕ) : State → Type 0 where
  -- NEW.
  -- NN1: r is taken from the pool.
  take : (r : ℕ) → s.standing r ≡ Pooled → Ready s p → Step h s p (after_take s p r)
  -- NN2: its count is set to 0.
  zero_count : (r : ℕ) → s.hand p ≡ Some r → Step h s p (after_zero_count s r)
  -- NN3: its deleted mark is cleared.
  clear_deleted : (r : ℕ) → s.hand p ≡ Some r → Step h s p (after_clear_deleted s p r)
  -- NN5: it is written into an empty slot.
  hold_new : (c r : ℕ) → OwnSlot h p c → s.held c ≡ None → s.hand p ≡ Some r → s.wiped p ≡ true → Step h s p (after_hold_new s p c r)
  -- Following a spot, and letting go.
  -- D4: a name, any, is written into a slot that holds nothing.
  write_slot : (c : ℕ) (v : Option ℕ) → OwnSlot h p c → s.held c ≡ None → Step h s p (after_write_slot s c v)
  -- D5: the spot q names what the slot names.
  verify : (q c r : ℕ) → q < h.spots → OwnSlot h p c → s.held c ≡ None → s.slot c ≡ Some r → s.names q ≡ Some r → Step h s p (after_verify s c r)
  -- R2, also as DN1 and within CLEAN: a slot is emptied.
  release : (c : ℕ) → OwnSlot h p c → Ready s p → Step h s p (after_release s c)
  -- Writing a spot.
  -- C1: the swap finds o and writes n.
  swap : (q : ℕ) (o n : Option ℕ) → q < h.spots → s.names q ≡ o → Reach h s p q → Carries h s.held p n → Ready s p → Step h s p (after_write s p q o n)
  -- A store begins (STORE, or in giving back): nobody else may write the links of r.
  begin_store : (q r : ℕ) → q < h.spots → h.owner q ≡ Some r → SoleWriter h s.standing s.held s.lists s.phase p r → Ready s p → Step h s p (after_begin_store s p q)
  -- S1: the spot is read.
  save : (q : ℕ) (o : Option ℕ) → s.storing p ≡ Some q → s.names q ≡ o → Step h s p (after_save s p o)
  -- S2: the spot, a link of a record that p holds, is overwritten.
  store : (q a : ℕ) (o n : Option ℕ) → s.storing p ≡ Some q → s.known p ≡ true → s.saved p ≡ o →
      s.owes_up p ≡ None → s.owes_clear p ≡ None → s.owes_down p ≡ None →
      h.owner q ≡ Some a → Holds h s.held p a → Carries h s.held p n → Step h s p (after_write s p q o n)
  -- S2 in giving back (TN3): the next link of the record under w is overwritten with none.
  clear_link : (q w r k : ℕ) (o : Option ℕ) → s.storing p ≡ Some q → s.known p ≡ true → s.saved p ≡ o →
      s.owes_up p ≡ None → s.owes_clear p ≡ None → s.owes_down p ≡ None →
      w < h.places → h.ofp w ≡ p → s.lists w ≡ Some r → s.phase w ≡ giving → h.owner q ≡ Some r → h.position q ≡ k → s.low w ≡ k → Step h s p (after_clear_link s p q o w k)
  -- C3, S4: the count of the record now named is raised,
  raise_count : (r : ℕ) → s.owes_up p ≡ Some r → Step h s p (after_raise_count s p r)
  -- C4, S5: then its trace mark is cleared,
  clear_trace : (r : ℕ) → s.owes_up p ≡ None → s.owes_clear p ≡ Some r → Step h s p (after_clear_trace s p r)
  -- C5, S6: and the count of the record no longer named is lowered.
  lower_count : (r : ℕ) → s.owes_down p ≡ Some r → Step h s p (after_lower_count s p r)
  -- DELETE.
  -- It begins: r is retired and listed under a free place.
  retire : (w r : ℕ) → Holds h s.held p r → (s.standing r ≢ Retired) → w < h.places → h.ofp w ≡ p → s.lists w ≡ None → Ready s p → Step h s p (after_retire s w r)
  -- DN2: its deleted mark is set,
  mark_deleted : (w r : ℕ) → OwnPlace h s p w r → Step h s p (after_mark_deleted s r)
  -- and its trace mark is cleared.
  reset_trace : (w r : ℕ) → OwnPlace h s p w r → Step h s p (after_trace s r false)
  -- DN5: the place names it.
  fill_place : (w r : ℕ) → OwnPlace h s p w r → s.phase w ≡ resting → Step h s p (after_fill_place s w r)
  -- CLEAN ALL.
  -- CA5: the place w is claimed,
  claim : (w : ℕ) → s.claiming p ≡ None → Step h s p (after_claim s p w)
  -- CA6: looked at again,
  look_again : (w : ℕ) (v : Option ℕ) → w < h.places → s.claiming p ≡ Some w → s.place w ≡ v → Step h s p (after_look_again s p v)
  -- CA8: and let go.
  unclaim : (w : ℕ) → s.claiming p ≡ Some w → Step h s p (after_unclaim s p w)
  -- SCAN.
  -- It begins or ends: its station knows nothing.
  reset_scan : Ready s p → ((w : ℕ) → w < h.places → h.ofp w ≡ p → (s.phase w ≡ resting) ⊎ (s.phase w ≡ passed)) → Step h s p (after_reset_scan h s p)
  -- SC4: the count is not 0 (which is not needed), and no slot is read yet.
  first_not_zero : (w r : ℕ) → OwnPlace h s p w r → s.phase w ≡ resting → s.read p ≡ 0 → Step h s p (after_phase s w passed)
  -- SC4: the count is 0 (which is not needed).
  first_zero : (w r : ℕ) → OwnPlace h s p w r → s.phase w ≡ resting → Step h s p (after_phase s w marking)
  -- SC5: the trace mark is set.
  mark_trace : (w r : ℕ) → OwnPlace h s p w r → s.phase w ≡ marking → Step h s p (after_trace s r true)
  -- SC6: the count is 0 again.
  second_zero : (w r : ℕ) → OwnPlace h s p w r → s.phase w ≡ marking → s.read p ≡ 0 → s.count r ≡ pos 0 → Step h s p (after_phase s w passed)
  -- After an SC6 that found the count not 0: the trace mark is cleared again.
  unmark_trace : (w r : ℕ) → OwnPlace h s p w r → s.phase w ≡ marking → s.read p ≡ 0 → Step h s p (after_unmark_trace s w r)
  -- SC11: the next slot is read.
  read_slot : (c : ℕ) (v : Option ℕ) → s.read p ≡ c → s.slot c ≡ v → Step h s p (after_read_slot s p c v)
  -- SC19: all slots are read, the record was not seen, and its trace mark is set.
  pass : (w r : ℕ) → OwnPlace h s p w r → s.phase w ≡ passed → h.slots ≤ s.read p → s.trace r ≡ true → s.seen p r ≡ false → Step h s p (after_phase s w gone)
  -- SC20: its place is emptied.
  empty_place : (w r : ℕ) → OwnPlace h s p w r → s.phase w ≡ gone → Step h s p (after_empty_place s w)
  -- SC21: nobody claims the place.
  find_unclaimed : (w r : ℕ) → OwnPlace h s p w r → s.phase w ≡ emptied → s.claims w ≡ 0 → Step h s p (after_find_unclaimed s w)
  -- SC23: the record goes back to the pool.
  give : (w r : ℕ) → OwnPlace h s p w r → s.phase w ≡ giving → Step h s p (after_give s w r)
  -- SC27: the place names the record again, which is kept.
  refill_place : (w r : ℕ) → OwnPlace h s p w r → s.phase w ≡ emptied → Step h s p (after_refill_place s w r)

-- What one station does, one step after another. One access may come with steps that are private work alone:
-- a store that begins, a record that is retired, a scan that begins or ends.
pub data Moves (h : Shape) (s : State) (p : ℕ) : State → Type 0 where
  stay : Moves h s p s
  go : {t : State} → Moves h s p t → (u : State) → Step h t p u → Moves h s p u
