-- Every step of every station keeps the invariant, and so does every run.
use Rattle.std.proofs.Common.{sym, refl, inl, arith}
use Rattle.std.proofs.lemmas.Bool.{false≢true}
use Rattle.std.proofs.lemmas.Int.{ints}
use Rattle.protocol.specs.Steps.{take, zero_count, clear_deleted, hold_new, write_slot, verify, release, swap, begin_store, save, store, clear_link, raise_count, clear_trace, lower_count, retire, mark_deleted, reset_trace, fill_place, claim, look_again, unclaim, reset_scan, first_not_zero, first_zero, mark_trace, second_zero, unmark_trace, read_slot, pass, empty_place, find_unclaimed, give, refill_place}
use Rattle.protocol.specs.Theorems.{Kept, Starts, start, begins, goes, Always}
use Rattle.protocol.proofs.Words.{times_zero, none_some}
use Rattle.protocol.proofs.Keeps.{keep_take, keep_zero_count, keep_clear_deleted, keep_hold_new, keep_write_slot, keep_verify, keep_release}
use Rattle.protocol.proofs.Writes.{keep_swap, keep_begin_store, keep_save, keep_store, keep_clear_link, keep_raise_count, keep_clear_trace, keep_lower_count}
use Rattle.protocol.proofs.Lists.{keep_retire, keep_mark_deleted, keep_reset_trace, keep_fill_place, keep_claim, keep_look_again, keep_unclaim, keep_give}
use Rattle.protocol.proofs.Scans.{keep_reset_scan, keep_first_not_zero, keep_first_zero, keep_mark_trace, keep_second_zero, keep_unmark_trace, keep_read_slot, keep_pass, keep_empty_place, keep_find_unclaimed, keep_refill_place}

pub keeps : Kept
keeps h s p pN b t (take r z k) = keep_take h s b p pN r z k
keeps h s p pN b t (zero_count r d) = keep_zero_count h s b p pN r d
keeps h s p pN b t (clear_deleted r d) = keep_clear_deleted h s b p pN r d
keeps h s p pN b t (hold_new c r k z d wp) = keep_hold_new h s b p pN c r k z d wp
keeps h s p pN b t (write_slot c v _ z) = keep_write_slot h s b p pN c v z
keeps h s p pN b t (verify q c r qQ k z d e) = keep_verify h s b p pN q c r qQ k z d e
keeps h s p pN b t (release c k m) = keep_release h s b p pN c k m
keeps h s p pN b t (swap q o n qQ e k g m) = keep_swap h s b p pN q o n qQ e k g m
keeps h s p pN b t (begin_store q r qQ d k _) = keep_begin_store h s b p pN q r qQ d k
keeps h s p pN b t (save q o e f) = keep_save h s b p pN q o e f
keeps h s p pN b t (store q a o n e kn so eU eC eD own y g) = keep_store h s b p pN q a o n e kn so eU eC eD own y g
keeps h s p pN b t (clear_link q w r k o e kn so eU eC eD wW _ l _ own i j) = keep_clear_link h s b p pN q w r k o e kn so eU eC eD wW l own i j
keeps h s p pN b t (raise_count r e) = keep_raise_count h s b p pN r e
keeps h s p pN b t (clear_trace r e f) = keep_clear_trace h s b p pN r e f
keeps h s p pN b t (lower_count r e) = keep_lower_count h s b p pN r e
keeps h s p pN b t (retire w r g d wW o l m) = keep_retire h s b p pN w r g d wW o l m
keeps h s p pN b t (mark_deleted w r k) = keep_mark_deleted h s b p pN w r k
keeps h s p pN b t (reset_trace w r k) = keep_reset_trace h s b p pN r
keeps h s p pN b t (fill_place w r k e) = keep_fill_place h s b p pN w r k e
keeps h s p pN b t (claim w e) = keep_claim h s b p pN w e
keeps h s p pN b t (look_again w v wW e f) = keep_look_again h s b p pN w v wW e f
keeps h s p pN b t (unclaim w e) = keep_unclaim h s b p pN w e
keeps h s p pN b t (reset_scan m f) = keep_reset_scan h s b p m f
keeps h s p pN b t (first_not_zero w r k e z) = keep_first_not_zero h s b p w r k e z
keeps h s p pN b t (first_zero w r k e) = keep_first_zero h s b p w r k e
keeps h s p pN b t (mark_trace w r k e) = keep_mark_trace h s b p w r k e
keeps h s p pN b t (second_zero w r k _ z c) = keep_second_zero h s b p w r k z c
keeps h s p pN b t (unmark_trace w r k _ z) = keep_unmark_trace h s b p w r k z
keeps h s p pN b t (read_slot c v e f) = keep_read_slot h s b p c v e f
keeps h s p pN b t (pass w r k e z i n) = keep_pass h s b p w r k e z i n
keeps h s p pN b t (empty_place w r k e) = keep_empty_place h s b p w r k e
keeps h s p pN b t (find_unclaimed w r k e c) = keep_find_unclaimed h s b p w r k e c
keeps h s p pN b t (give w r k e) = keep_give h s b p pN w r k e
keeps h s p pN b t (refill_place w r k e) = keep_refill_place h s b p w r k e

pub starts : Starts
starts h = record {
  counted = record {
    sum = λ r.
        let q = times_zero h.spots start.names r (λ i _ e. none_some e) in
        let z = times_zero h.stations start.owes_up r (λ i _ e. none_some e) in
        omega (arith, ints);
  };
  named = record { used = λ q r _ e. absurd (none_some e) };
  held = record {
    live = λ c r _ e _. none_some e;
    alone = λ c d r _ _ e. absurd (none_some e);
    fresh = λ p r _ e. absurd (none_some e);
    free = λ p c r _ _ e _. none_some e;
    one_hand = λ p z r _ _ e. absurd (none_some e);
    shown = λ c r _ e. absurd (none_some e);
  };
  listed = record { retired = λ w r _ e. absurd (none_some e); once = λ v w r _ _ e. absurd (none_some e); idle = λ w _ e. refl };
  marks = record { clear = λ r u. inl refl };
  owed = record { first = λ z r _ e. absurd (none_some e); kept = λ z r _ e. absurd (none_some e); left = λ z r _ e. absurd (none_some e) };
  saved = record { save = λ p q _ e. absurd (none_some e) };
  claimed = record {
    number = λ w _. sym (times_zero h.stations start.claiming w (λ i _ e. none_some e));
    listed = λ p r _ e. absurd (none_some e);
    placed = λ w r _ e. absurd (none_some e);
    empty = λ w _ e. refl;
  };
  traced = record { covered = λ r t. absurd (false≢true t) };
  scanned = record { covered = λ w r _ _ e. absurd (none_some e) };
  gone = record { unreferenced = λ w r _ _ e. absurd (none_some e) };
  cleared = record { none = λ w r q _ _ e. absurd (none_some e) };
}

pub always : Always
always h s begins = starts h
always h s (goes {t = t} k p pN _ g) = keeps h t p pN (always h t k) s g
