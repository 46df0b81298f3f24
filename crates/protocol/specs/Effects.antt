-- What each kind of access leaves: the state s with the words set that the access, and the private work that
-- goes with it, change. p is the station, c one of its slots, w a place, q a spot, r a record, o, n and v names.
use Rattle.std.specs.Prelude.{ℕ, suc, ◌+◌, ◌-◌, Bool, true, false, cond, pos, ◌+ℤ◌, ◌-ℤ◌, Some, None, Option, ◌==◌}
use Rattle.terms.specs.declared.Standing.TheVariants.{Pooled, Fresh, Retired}
use Rattle.protocol.specs.Words.{upd}
use Rattle.protocol.specs.State.{State, Phase, resting, passed, emptied, giving}
use Rattle.protocol.specs.Setters.{set_names, set_count, set_trace, set_deleted, set_standing, set_slot, set_place, set_claims, set_held, set_owes_up, set_owes_clear, set_owes_down, set_hand, set_wiped, set_storing, set_known, set_saved, set_lists, set_phase, set_low, set_read, set_seen, set_claiming, set_valid}
use Rattle.protocol.specs.Shape.{Shape, linking, seeing}

-- r is out of the pool and in p's hand.
abbrev pub after_take : State → (p r : ℕ) → State
after_take s p r = set_standing (upd s.standing r Fresh) (set_hand (upd s.hand p (Some r)) (set_wiped (upd s.wiped p false) s))

-- r's count is 0.
abbrev pub after_zero_count : State → (r : ℕ) → State
after_zero_count s r = set_count (upd s.count r (pos 0)) s

-- The deleted mark of r, which p has in hand, is clear.
abbrev pub after_clear_deleted : State → (p r : ℕ) → State
after_clear_deleted s p r = set_deleted (upd s.deleted r false) (set_wiped (upd s.wiped p true) s)

-- The record in p's hand is in its slot c, and held.
abbrev pub after_hold_new : State → (p c r : ℕ) → State
after_hold_new s p c r = set_slot (upd s.slot c (Some r)) (set_held (upd s.held c (Some r)) (set_hand (upd s.hand p None) s))

-- The slot c names v, not verified.
abbrev pub after_write_slot : State → (c : ℕ) (v : Option ℕ) → State
after_write_slot s c v = set_slot (upd s.slot c v) s

-- The slot c holds r.
abbrev pub after_verify : State → (c r : ℕ) → State
after_verify s c r = set_held (upd s.held c (Some r)) s

-- The slot c is empty.
abbrev pub after_release : State → (c : ℕ) → State
after_release s c = set_slot (upd s.slot c None) (set_held (upd s.held c None) s)

-- The spot q, which named o, names n; p owes what follows, and a fresh n becomes linked.
abbrev pub after_write : State → (p q : ℕ) (o n : Option ℕ) → State
after_write s p q o n =
    set_names (upd s.names q n) (set_owes_up (upd s.owes_up p n) (set_owes_clear (upd s.owes_clear p n) (set_owes_down (upd s.owes_down p o)
    (set_storing (upd s.storing p None) (set_standing (linking n s.standing) s)))))

-- The same with none, and the k links of the record in w up to this one are cleared.
abbrev pub after_clear_link : State → (p q : ℕ) (o : Option ℕ) (w k : ℕ) → State
after_clear_link s p q o w k = set_low (upd s.low w (suc k)) (after_write s p q o None)

-- p is about to overwrite q, and has not read it.
abbrev pub after_begin_store : State → (p q : ℕ) → State
after_begin_store s p q = set_storing (upd s.storing p (Some q)) (set_known (upd s.known p false) s)

-- p has read o there.
abbrev pub after_save : State → (p : ℕ) (o : Option ℕ) → State
after_save s p o = set_saved (upd s.saved p o) (set_known (upd s.known p true) s)

-- The count of r is raised, as p owed.
abbrev pub after_raise_count : State → (p r : ℕ) → State
after_raise_count s p r = set_count (upd s.count r (s.count r +ℤ pos 1)) (set_owes_up (upd s.owes_up p None) s)

-- The trace mark of r is cleared, as p owed.
abbrev pub after_clear_trace : State → (p r : ℕ) → State
after_clear_trace s p r = set_trace (upd s.trace r false) (set_owes_clear (upd s.owes_clear p None) s)

-- The count of r is lowered, as p owed.
abbrev pub after_lower_count : State → (p r : ℕ) → State
after_lower_count s p r = set_count (upd s.count r (s.count r -ℤ pos 1)) (set_owes_down (upd s.owes_down p None) s)

-- r is retired, and listed under w.
abbrev pub after_retire : State → (w r : ℕ) → State
after_retire s w r = set_standing (upd s.standing r Retired) (set_lists (upd s.lists w (Some r)) s)

-- r's deleted mark is set.
abbrev pub after_mark_deleted : State → (r : ℕ) → State
after_mark_deleted s r = set_deleted (upd s.deleted r true) s

-- r's trace mark is b.
abbrev pub after_trace : State → (r : ℕ) (b : Bool) → State
after_trace s r b = set_trace (upd s.trace r b) s

-- The place w names r.
abbrev pub after_fill_place : State → (w r : ℕ) → State
after_fill_place s w r = set_place (upd s.place w (Some r)) s

-- One more claim on w, p's.
abbrev pub after_claim : State → (p w : ℕ) → State
after_claim s p w = set_claims (upd s.claims w (s.claims w + 1)) (set_claiming (upd s.claiming p (Some w)) s)

-- p found v in the place that it claimed.
abbrev pub after_look_again : State → (p : ℕ) (v : Option ℕ) → State
after_look_again s p v = set_valid (upd s.valid p v) s

-- p's claim on w is gone, and with it what p found there.
abbrev pub after_unclaim : State → (p w : ℕ) → State
after_unclaim s p w = set_claims (upd s.claims w (s.claims w - 1)) (set_claiming (upd s.claiming p None) (set_valid (upd s.valid p None) s))

-- The scan is with w where f says.
abbrev pub after_phase : State → (w : ℕ) (f : Phase) → State
after_phase s w f = set_phase (upd s.phase w f) s

-- The trace mark of r, listed under w, is clear again, and the first pass is done with it.
abbrev pub after_unmark_trace : State → (w r : ℕ) → State
after_unmark_trace s w r = set_trace (upd s.trace r false) (after_phase s w passed)

-- p's scan has read the slot c, which names v.
abbrev pub after_read_slot : State → (p c : ℕ) (v : Option ℕ) → State
after_read_slot s p c v = set_read (upd s.read p (suc c)) (set_seen (upd s.seen p (seeing v (s.seen p))) s)

-- The place w names nothing.
abbrev pub after_empty_place : State → (w : ℕ) → State
after_empty_place s w = set_place (upd s.place w None) (after_phase s w emptied)

-- The record under w is being given back, beginning with its link 0.
abbrev pub after_find_unclaimed : State → (w : ℕ) → State
after_find_unclaimed s w = set_low (upd s.low w 0) (after_phase s w giving)

-- r is pooled, and w lists nothing.
abbrev pub after_give : State → (w r : ℕ) → State
after_give s w r = set_standing (upd s.standing r Pooled) (set_lists (upd s.lists w None) (after_phase s w resting))

-- The place w names r again, and the scan is done with it.
abbrev pub after_refill_place : State → (w r : ℕ) → State
after_refill_place s w r = set_place (upd s.place w (Some r)) (after_phase s w resting)

-- p's scan knows nothing.
abbrev pub after_reset_scan : Shape → State → (p : ℕ) → State
after_reset_scan h s p = set_phase (λ w. cond (h.ofp w == p) resting (s.phase w)) (set_read (upd s.read p 0) (set_seen (upd s.seen p (λ _. false)) s))
