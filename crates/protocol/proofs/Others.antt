-- A step of one station leaves alone what every other station has of its own.
use Rattle.std.proofs.Common.{◌≡◌, ℕ, suc, true, false, Some, None, Option, sym, refl, ap, ◌∙◌}
use Rattle.std.proofs.lemmas.Bool.{ne_eqb}
use Rattle.protocol.specs.State.{State, resting, marking, passed, gone, emptied, giving}
use Rattle.protocol.specs.Shape.{seeing}
use Rattle.protocol.specs.Effects.{after_write}
use Rattle.protocol.specs.Steps.{take, zero_count, clear_deleted, hold_new, write_slot, verify, release, swap, begin_store, save, store, clear_link, raise_count, clear_trace, lower_count, retire, mark_deleted, reset_trace, fill_place, claim, look_again, unclaim, reset_scan, first_not_zero, first_zero, mark_trace, second_zero, unmark_trace, read_slot, pass, empty_place, find_unclaimed, give, refill_place}
use Rattle.protocol.specs.Own.{station_words}
use Rattle.protocol.specs.Theorems.{OthersUntouched}
use Rattle.protocol.proofs.Words.{upd_other}

-- Another station is not p,
not_me : {p z : ℕ} → (z ≡ p → ⊥) → p ≡ z → ⊥
not_me d e = d (sym e)

-- and what is of another station is not what is of p.
not_mine : {p i j : ℕ} (of : ℕ → ℕ) → of i ≡ p → (of j ≡ p → ⊥) → i ≡ j → ⊥
not_mine of mine d e = d (ap of (sym e) ∙ mine)

write_stations : (s : State) (p q : ℕ) (o n : Option ℕ) (z : ℕ) → (z ≡ p → ⊥) → station_words (after_write s p q o n) z ≡ station_words s z
write_stations s p q o n z d =
    rw (upd_other s.owes_up p n z (not_me d), upd_other s.owes_clear p n z (not_me d), upd_other s.owes_down p o z (not_me d), upd_other s.storing p None z (not_me d))

pub untouched : OthersUntouched
untouched h s p t (take r _ _) = record {
  slots = λ _ _. refl;
  places = λ _ _. refl;
  stations = λ z d. rw (upd_other s.hand p (Some r) z (not_me d), upd_other s.wiped p false z (not_me d));
}
untouched h s p t (zero_count _ _) = record { slots = λ _ _. refl; places = λ _ _. refl; stations = λ _ _. refl }
untouched h s p t (clear_deleted _ _) = record {
  slots = λ _ _. refl;
  places = λ _ _. refl;
  stations = λ z d. rw (upd_other s.wiped p true z (not_me d));
}
untouched h s p t (hold_new c r k _ _ _) = record {
  slots = λ i d. rw (upd_other s.slot c (Some r) i (not_mine h.of k.mine d), upd_other s.held c (Some r) i (not_mine h.of k.mine d));
  places = λ _ _. refl;
  stations = λ z d. rw (upd_other s.hand p None z (not_me d));
}
untouched h s p t (write_slot c v k _) = record {
  slots = λ i d. rw (upd_other s.slot c v i (not_mine h.of k.mine d));
  places = λ _ _. refl;
  stations = λ _ _. refl;
}
untouched h s p t (verify _ c r _ k _ _ _) = record {
  slots = λ i d. rw (upd_other s.held c (Some r) i (not_mine h.of k.mine d));
  places = λ _ _. refl;
  stations = λ _ _. refl;
}
untouched h s p t (release c k _) = record {
  slots = λ i d. rw (upd_other s.slot c None i (not_mine h.of k.mine d), upd_other s.held c None i (not_mine h.of k.mine d));
  places = λ _ _. refl;
  stations = λ _ _. refl;
}
untouched h s p t (swap q o n _ _ _ _ _) = record { slots = λ _ _. refl; places = λ _ _. refl; stations = write_stations s p q o n }
untouched h s p t (begin_store q _ _ _ _ _) = record {
  slots = λ _ _. refl;
  places = λ _ _. refl;
  stations = λ z d. rw (upd_other s.storing p (Some q) z (not_me d), upd_other s.known p false z (not_me d));
}
untouched h s p t (save _ o _ _) = record {
  slots = λ _ _. refl;
  places = λ _ _. refl;
  stations = λ z d. rw (upd_other s.saved p o z (not_me d), upd_other s.known p true z (not_me d));
}
untouched h s p t (store q _ o n _ _ _ _ _ _ _ _ _) = record { slots = λ _ _. refl; places = λ _ _. refl; stations = write_stations s p q o n }
untouched h s p t (clear_link q w _ k o _ _ _ _ _ _ _ mine _ _ _ _ _) = record {
  slots = λ _ _. refl;
  places = λ i d. rw (upd_other s.low w (suc k) i (not_mine h.ofp mine d));
  stations = write_stations s p q o None;
}
untouched h s p t (raise_count _ _) = record {
  slots = λ _ _. refl;
  places = λ _ _. refl;
  stations = λ z d. rw (upd_other s.owes_up p None z (not_me d));
}
untouched h s p t (clear_trace _ _ _) = record {
  slots = λ _ _. refl;
  places = λ _ _. refl;
  stations = λ z d. rw (upd_other s.owes_clear p None z (not_me d));
}
untouched h s p t (lower_count _ _) = record {
  slots = λ _ _. refl;
  places = λ _ _. refl;
  stations = λ z d. rw (upd_other s.owes_down p None z (not_me d));
}
untouched h s p t (retire w r _ _ _ mine _ _) = record {
  slots = λ _ _. refl;
  places = λ i d. rw (upd_other s.lists w (Some r) i (not_mine h.ofp mine d));
  stations = λ _ _. refl;
}
untouched h s p t (mark_deleted _ _ _) = record { slots = λ _ _. refl; places = λ _ _. refl; stations = λ _ _. refl }
untouched h s p t (reset_trace _ _ _) = record { slots = λ _ _. refl; places = λ _ _. refl; stations = λ _ _. refl }
untouched h s p t (fill_place w r k _) = record {
  slots = λ _ _. refl;
  places = λ i d. rw (upd_other s.place w (Some r) i (not_mine h.ofp k.mine d));
  stations = λ _ _. refl;
}
untouched h s p t (claim w _) = record {
  slots = λ _ _. refl;
  places = λ _ _. refl;
  stations = λ z d. rw (upd_other s.claiming p (Some w) z (not_me d));
}
untouched h s p t (look_again _ v _ _ _) = record {
  slots = λ _ _. refl;
  places = λ _ _. refl;
  stations = λ z d. rw (upd_other s.valid p v z (not_me d));
}
untouched h s p t (unclaim _ _) = record {
  slots = λ _ _. refl;
  places = λ _ _. refl;
  stations = λ z d. rw (upd_other s.claiming p None z (not_me d), upd_other s.valid p None z (not_me d));
}
untouched h s p t (reset_scan _ _) = record {
  slots = λ _ _. refl;
  places = λ i d. rw (ne_eqb (h.ofp i) p d);
  stations = λ z d. rw (upd_other s.read p 0 z (not_me d), upd_other s.seen p (λ _. false) z (not_me d));
}
untouched h s p t (first_not_zero w _ k _ _) = record {
  slots = λ _ _. refl;
  places = λ i d. rw (upd_other s.phase w passed i (not_mine h.ofp k.mine d));
  stations = λ _ _. refl;
}
untouched h s p t (first_zero w _ k _) = record {
  slots = λ _ _. refl;
  places = λ i d. rw (upd_other s.phase w marking i (not_mine h.ofp k.mine d));
  stations = λ _ _. refl;
}
untouched h s p t (mark_trace _ _ _ _) = record { slots = λ _ _. refl; places = λ _ _. refl; stations = λ _ _. refl }
untouched h s p t (second_zero w _ k _ _ _) = record {
  slots = λ _ _. refl;
  places = λ i d. rw (upd_other s.phase w passed i (not_mine h.ofp k.mine d));
  stations = λ _ _. refl;
}
untouched h s p t (unmark_trace w _ k _ _) = record {
  slots = λ _ _. refl;
  places = λ i d. rw (upd_other s.phase w passed i (not_mine h.ofp k.mine d));
  stations = λ _ _. refl;
}
untouched h s p t (read_slot c v _ _) = record {
  slots = λ _ _. refl;
  places = λ _ _. refl;
  stations = λ z d. rw (upd_other s.read p (suc c) z (not_me d), upd_other s.seen p (seeing v (s.seen p)) z (not_me d));
}
untouched h s p t (pass w _ k _ _ _ _) = record {
  slots = λ _ _. refl;
  places = λ i d. rw (upd_other s.phase w gone i (not_mine h.ofp k.mine d));
  stations = λ _ _. refl;
}
untouched h s p t (empty_place w _ k _) = record {
  slots = λ _ _. refl;
  places = λ i d. rw (upd_other s.place w None i (not_mine h.ofp k.mine d), upd_other s.phase w emptied i (not_mine h.ofp k.mine d));
  stations = λ _ _. refl;
}
untouched h s p t (find_unclaimed w _ k _ _) = record {
  slots = λ _ _. refl;
  places = λ i d. rw (upd_other s.low w 0 i (not_mine h.ofp k.mine d), upd_other s.phase w giving i (not_mine h.ofp k.mine d));
  stations = λ _ _. refl;
}
untouched h s p t (give w _ k _) = record {
  slots = λ _ _. refl;
  places = λ i d. rw (upd_other s.lists w None i (not_mine h.ofp k.mine d), upd_other s.phase w resting i (not_mine h.ofp k.mine d));
  stations = λ _ _. refl;
}
untouched h s p t (refill_place w r k _) = record {
  slots = λ _ _. refl;
  places = λ i d. rw (upd_other s.place w (Some r) i (not_mine h.ofp k.mine d), upd_other s.phase w resting i (not_mine h.ofp k.mine d));
  stations = λ _ _. refl;
}
