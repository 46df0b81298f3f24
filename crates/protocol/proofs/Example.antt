-- A table of two stations, with one slot and one place each, one root and one record with one link, and the states
-- of a run in which the record is made, named, held by both, withdrawn, scanned four times and given back. Every
-- kind of step occurs in it.
use Rattle.std.proofs.Common.{◌≡◌, ℕ, ◌<◌, ◌≤◌, true, false, cond, eqb, Some, None, Option, sym, refl, ◌∙◌, inl, inr, arith}
use Rattle.std.proofs.lemmas.Bool.{cases_eq, cond-false, ne_eqb}
use Rattle.protocol.specs.State.{State, marking, passed, gone}
use Rattle.terms.specs.declared.Standing.TheVariants.{Linked, Retired}
use Rattle.protocol.specs.Shape.{Shape, Carries}
use Rattle.protocol.specs.Steps.{Ready, OwnSlot, OwnPlace}
use Rattle.protocol.specs.Effects.{after_take, after_zero_count, after_clear_deleted, after_hold_new, after_write_slot, after_verify, after_release, after_write, after_clear_link, after_begin_store, after_save, after_raise_count, after_clear_trace, after_lower_count, after_retire, after_mark_deleted, after_trace, after_fill_place, after_claim, after_look_again, after_unclaim, after_phase, after_unmark_trace, after_read_slot, after_empty_place, after_find_unclaimed, after_give, after_refill_place, after_reset_scan}
use Rattle.protocol.specs.Theorems.{start}
use Rattle.protocol.proofs.Words.{none_some}

-- Spot 0 is the root, spot 1 the link of record 0.
abbrev pub owner_of : ℕ → Option ℕ
owner_of q = cond (eqb q 1) (Some 0) None

pub the_link : (q r : ℕ) → owner_of q ≡ Some r → q ≡ 1
the_link q r e = elim (cases_eq q 1) [ inl y ↦ y | inr d ↦ absurd (none_some (sym (cond-false (eqb q 1) (Some 0) None (ne_eqb q 1 d)) ∙ e)) ]

abbrev pub tiny : Shape
tiny = record {
  spots = 2;
  stations = 2;
  slots = 2;
  places = 2;
  of = λ c. c;
  ofp = λ w. w;
  owner = owner_of;
  position = λ _. 0;
  one_link = λ q i r _ _ e f _. the_link q r e ∙ sym (the_link i r f);
}

pub zero< : 0 < 2
zero< = omega arith

pub one< : 1 < 2
one< = omega arith

pub all : 2 ≤ 2
all = omega arith

pub linked_not : Linked ≡ Retired → ⊥
linked_not e = grind arith

pub nothing : {held : ℕ → Option ℕ} {p : ℕ} → Carries tiny held p None
nothing r e = absurd (none_some e)

pub slot0 : OwnSlot tiny 0 0
slot0 = record { below = zero<; mine = refl }

pub slot1 : OwnSlot tiny 1 1
slot1 = record { below = one<; mine = refl }

pub ready : (s : State) (p : ℕ) → s.owes_up p ≡ None → s.owes_clear p ≡ None → s.owes_down p ≡ None → s.storing p ≡ None → s.hand p ≡ None → Ready s p
ready s p u c d t k = record { ups = u; clears = c; downs = d; stores = t; hands = k }

pub under : (s : State) (p w r : ℕ) → w < 2 → w ≡ p → s.lists w ≡ Some r → Ready s p → OwnPlace tiny s p w r
under s p w r below mine full k = record { below = below; mine = mine; full = full; ready = k }

abbrev pub s0 : State
s0 = start

-- Station 0 makes the record.
abbrev pub s1 : State
s1 = after_take s0 0 0

abbrev pub s2 : State
s2 = after_zero_count s1 0

abbrev pub s3 : State
s3 = after_clear_deleted s2 0 0

abbrev pub s4 : State
s4 = after_hold_new s3 0 0 0

-- It stores none into its link,
abbrev pub s5 : State
s5 = after_begin_store s4 0 1

abbrev pub s6 : State
s6 = after_save s5 0 None

abbrev pub s7 : State
s7 = after_write s6 0 1 None None

-- and swaps it into the root.
abbrev pub s8 : State
s8 = after_write s7 0 0 None (Some 0)

abbrev pub s9 : State
s9 = after_raise_count s8 0 0

abbrev pub s10 : State
s10 = after_clear_trace s9 0 0

-- Station 1 follows the root.
abbrev pub s11 : State
s11 = after_write_slot s10 1 (Some 0)

abbrev pub s12 : State
s12 = after_verify s11 1 0

-- Station 0 swaps it out again and withdraws it.
abbrev pub s13 : State
s13 = after_write s12 0 0 (Some 0) None

abbrev pub s14 : State
s14 = after_lower_count s13 0 0

abbrev pub s15 : State
s15 = after_retire s14 0 0

abbrev pub s16 : State
s16 = after_release s15 0

abbrev pub s17 : State
s17 = after_mark_deleted s16 0

abbrev pub s18 : State
s18 = after_trace s17 0 false

abbrev pub s19 : State
s19 = after_fill_place s18 0 0

-- A first scan marks it and takes the mark back.
abbrev pub s20 : State
s20 = after_reset_scan tiny s19 0

abbrev pub s21 : State
s21 = after_phase s20 0 marking

abbrev pub s22 : State
s22 = after_trace s21 0 true

abbrev pub s23 : State
s23 = after_unmark_trace s22 0 0

-- A second scan marks it, and sees it in the slot of station 1.
abbrev pub s24 : State
s24 = after_reset_scan tiny s23 0

abbrev pub s25 : State
s25 = after_phase s24 0 marking

abbrev pub s26 : State
s26 = after_trace s25 0 true

abbrev pub s27 : State
s27 = after_phase s26 0 passed

abbrev pub s28 : State
s28 = after_read_slot s27 0 0 None

abbrev pub s29 : State
s29 = after_read_slot s28 0 1 (Some 0)

abbrev pub s30 : State
s30 = after_reset_scan tiny s29 0

-- Station 1 claims the place, finds the record there and lets its hold go.
abbrev pub s31 : State
s31 = after_claim s30 1 0

abbrev pub s32 : State
s32 = after_look_again s31 1 (Some 0)

abbrev pub s33 : State
s33 = after_release s32 1

-- A third scan finds it in no slot, but its place is claimed: it is kept.
abbrev pub s34 : State
s34 = after_phase s33 0 passed

abbrev pub s35 : State
s35 = after_read_slot s34 0 0 None

abbrev pub s36 : State
s36 = after_read_slot s35 0 1 None

abbrev pub s37 : State
s37 = after_phase s36 0 gone

abbrev pub s38 : State
s38 = after_empty_place s37 0

abbrev pub s39 : State
s39 = after_refill_place s38 0 0

abbrev pub s40 : State
s40 = after_reset_scan tiny s39 0

-- Station 1 lets the claim go.
abbrev pub s41 : State
s41 = after_unclaim s40 1 0

-- A fourth scan gives the record back.
abbrev pub s42 : State
s42 = after_phase s41 0 passed

abbrev pub s43 : State
s43 = after_read_slot s42 0 0 None

abbrev pub s44 : State
s44 = after_read_slot s43 0 1 None

abbrev pub s45 : State
s45 = after_phase s44 0 gone

abbrev pub s46 : State
s46 = after_empty_place s45 0

abbrev pub s47 : State
s47 = after_find_unclaimed s46 0

abbrev pub s48 : State
s48 = after_begin_store s47 0 1

abbrev pub s49 : State
s49 = after_save s48 0 None

abbrev pub s50 : State
s50 = after_clear_link s49 0 1 None 0 0

abbrev pub s51 : State
s51 = after_give s50 0 0
