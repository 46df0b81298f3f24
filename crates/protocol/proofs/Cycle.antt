-- The run of the example, step by step.
use Rattle.std.proofs.Common.{◌≡◌, ◌⊎◌, Some, None, sym, refl, subst, inl, inr}
use Rattle.protocol.specs.Words.{upd}
use Rattle.protocol.specs.State.{resting, passed}
use Rattle.protocol.specs.Shape.{linking, seeing}
use Rattle.protocol.specs.Clauses.{making, giving_back}
use Rattle.protocol.specs.Steps.{root, take, zero_count, clear_deleted, hold_new, write_slot, verify, release, swap, begin_store, save, store, clear_link, raise_count, clear_trace, lower_count, retire, mark_deleted, reset_trace, fill_place, claim, look_again, unclaim, reset_scan, first_not_zero, first_zero, mark_trace, second_zero, unmark_trace, read_slot, pass, empty_place, find_unclaimed, give, refill_place}
use Rattle.protocol.specs.Theorems.{Run, begins, goes, Cycle}
use Rattle.protocol.proofs.Example.{tiny, zero<, one<, all, linked_not, nothing, slot0, slot1, ready, under, s0, s1, s2, s3, s4, s5, s6, s7, s8, s9, s10, s11, s12, s13, s14, s15, s16, s17, s18, s19, s20, s21, s22, s23, s24, s25, s26, s27, s28, s29, s30, s31, s32, s33, s34, s35, s36, s37, s38, s39, s40, s41, s42, s43, s44, s45, s46, s47, s48, s49, s50, s51}

r1 : Run tiny s0 s1
unfolding upd linking seeing
r1 = goes begins 0 zero< s1 (take 0 refl (ready s0 0 refl refl refl refl refl))

r2 : Run tiny s0 s2
unfolding upd linking seeing
r2 = goes r1 0 zero< s2 (zero_count 0 refl)

r3 : Run tiny s0 s3
unfolding upd linking seeing
r3 = goes r2 0 zero< s3 (clear_deleted 0 refl)

r4 : Run tiny s0 s4
unfolding upd linking seeing
r4 = goes r3 0 zero< s4 (hold_new 0 0 slot0 refl refl refl)

r5 : Run tiny s4 s5
unfolding upd linking seeing
r5 = goes begins 0 zero< s5 (begin_store 1 0 one< refl (making refl (0, zero<, refl, refl)) (ready s4 0 refl refl refl refl refl))

r6 : Run tiny s4 s6
unfolding upd linking seeing
r6 = goes r5 0 zero< s6 (save 1 None refl refl)

r7 : Run tiny s4 s7
unfolding upd linking seeing
r7 = goes r6 0 zero< s7 (store 1 0 None None refl refl refl refl refl refl refl (0, zero<, refl, refl) nothing)

r8 : Run tiny s4 s8
unfolding upd linking seeing
r8 = goes r7 0 zero< s8 (swap 0 None (Some 0) zero< refl (root refl) (λ r e. (0, zero<, refl, e)) (ready s7 0 refl refl refl refl refl))

r9 : Run tiny s4 s9
unfolding upd linking seeing
r9 = goes r8 0 zero< s9 (raise_count 0 refl)

r10 : Run tiny s4 s10
unfolding upd linking seeing
r10 = goes r9 0 zero< s10 (clear_trace 0 refl refl)

r11 : Run tiny s4 s11
unfolding upd linking seeing
r11 = goes r10 1 one< s11 (write_slot 1 (Some 0) slot1 refl)

r12 : Run tiny s4 s12
unfolding upd linking seeing
r12 = goes r11 1 one< s12 (verify 0 1 0 zero< slot1 refl refl refl)

r13 : Run tiny s4 s13
unfolding upd linking seeing
r13 = goes r12 0 zero< s13 (swap 0 (Some 0) None zero< refl (root refl) nothing (ready s12 0 refl refl refl refl refl))

r14 : Run tiny s4 s14
unfolding upd linking seeing
r14 = goes r13 0 zero< s14 (lower_count 0 refl)

r15 : Run tiny s4 s15
unfolding upd linking seeing
r15 = goes r14 0 zero< s15 (retire 0 0 (0, zero<, refl, refl) linked_not zero< refl refl (ready s14 0 refl refl refl refl refl))

r16 : Run tiny s15 s16
unfolding upd linking seeing
r16 = goes begins 0 zero< s16 (release 0 slot0 (ready s15 0 refl refl refl refl refl))

r17 : Run tiny s15 s17
unfolding upd linking seeing
r17 = goes r16 0 zero< s17 (mark_deleted 0 0 (under s16 0 0 0 zero< refl refl (ready s16 0 refl refl refl refl refl)))

r18 : Run tiny s15 s18
unfolding upd linking seeing
r18 = goes r17 0 zero< s18 (reset_trace 0 0 (under s17 0 0 0 zero< refl refl (ready s17 0 refl refl refl refl refl)))

r19 : Run tiny s15 s19
unfolding upd linking seeing
r19 = goes r18 0 zero< s19 (fill_place 0 0 (under s18 0 0 0 zero< refl refl (ready s18 0 refl refl refl refl refl)) refl)

r20 : Run tiny s15 s20
unfolding upd linking seeing
r20 = goes r19 0 zero< s20 (reset_scan (ready s19 0 refl refl refl refl refl) (λ w _ _. inl refl))

r21 : Run tiny s15 s21
unfolding upd linking seeing
r21 = goes r20 0 zero< s21 (first_zero 0 0 (under s20 0 0 0 zero< refl refl (ready s20 0 refl refl refl refl refl)) refl)

r22 : Run tiny s15 s22
unfolding upd linking seeing
r22 = goes r21 0 zero< s22 (mark_trace 0 0 (under s21 0 0 0 zero< refl refl (ready s21 0 refl refl refl refl refl)) refl)

r23 : Run tiny s15 s23
unfolding upd linking seeing
r23 = goes r22 0 zero< s23 (unmark_trace 0 0 (under s22 0 0 0 zero< refl refl (ready s22 0 refl refl refl refl refl)) refl refl)

r24 : Run tiny s15 s24
unfolding upd linking seeing
r24 = goes r23 0 zero< s24 (reset_scan (ready s23 0 refl refl refl refl refl) (λ w _ e. subst (λ i. (s23.phase i ≡ resting) ⊎ (s23.phase i ≡ passed)) (sym e) (inr refl)))

r25 : Run tiny s15 s25
unfolding upd linking seeing
r25 = goes r24 0 zero< s25 (first_zero 0 0 (under s24 0 0 0 zero< refl refl (ready s24 0 refl refl refl refl refl)) refl)

r26 : Run tiny s15 s26
unfolding upd linking seeing
r26 = goes r25 0 zero< s26 (mark_trace 0 0 (under s25 0 0 0 zero< refl refl (ready s25 0 refl refl refl refl refl)) refl)

r27 : Run tiny s15 s27
unfolding upd linking seeing
r27 = goes r26 0 zero< s27 (second_zero 0 0 (under s26 0 0 0 zero< refl refl (ready s26 0 refl refl refl refl refl)) refl refl refl)

r28 : Run tiny s15 s28
unfolding upd linking seeing
r28 = goes r27 0 zero< s28 (read_slot 0 None refl refl)

r29 : Run tiny s15 s29
unfolding upd linking seeing
r29 = goes r28 0 zero< s29 (read_slot 1 (Some 0) refl refl)

r30 : Run tiny s15 s30
unfolding upd linking seeing
r30 = goes r29 0 zero< s30 (reset_scan (ready s29 0 refl refl refl refl refl) (λ w _ e. subst (λ i. (s29.phase i ≡ resting) ⊎ (s29.phase i ≡ passed)) (sym e) (inr refl)))

r31 : Run tiny s15 s31
unfolding upd linking seeing
r31 = goes r30 1 one< s31 (claim 0 refl)

r32 : Run tiny s15 s32
unfolding upd linking seeing
r32 = goes r31 1 one< s32 (look_again 0 (Some 0) zero< refl refl)

r33 : Run tiny s15 s33
unfolding upd linking seeing
r33 = goes r32 1 one< s33 (release 1 slot1 (ready s32 1 refl refl refl refl refl))

r34 : Run tiny s15 s34
unfolding upd linking seeing
r34 = goes r33 0 zero< s34 (first_not_zero 0 0 (under s33 0 0 0 zero< refl refl (ready s33 0 refl refl refl refl refl)) refl refl)

r35 : Run tiny s15 s35
unfolding upd linking seeing
r35 = goes r34 0 zero< s35 (read_slot 0 None refl refl)

r36 : Run tiny s15 s36
unfolding upd linking seeing
r36 = goes r35 0 zero< s36 (read_slot 1 None refl refl)

r37 : Run tiny s15 s37
unfolding upd linking seeing
r37 = goes r36 0 zero< s37 (pass 0 0 (under s36 0 0 0 zero< refl refl (ready s36 0 refl refl refl refl refl)) refl all refl refl)

r38 : Run tiny s15 s38
unfolding upd linking seeing
r38 = goes r37 0 zero< s38 (empty_place 0 0 (under s37 0 0 0 zero< refl refl (ready s37 0 refl refl refl refl refl)) refl)

r39 : Run tiny s15 s39
unfolding upd linking seeing
r39 = goes r38 0 zero< s39 (refill_place 0 0 (under s38 0 0 0 zero< refl refl (ready s38 0 refl refl refl refl refl)) refl)

r40 : Run tiny s15 s40
unfolding upd linking seeing
r40 = goes r39 0 zero< s40 (reset_scan (ready s39 0 refl refl refl refl refl) (λ w _ e. subst (λ i. (s39.phase i ≡ resting) ⊎ (s39.phase i ≡ passed)) (sym e) (inl refl)))

r41 : Run tiny s15 s41
unfolding upd linking seeing
r41 = goes r40 1 one< s41 (unclaim 0 refl)

r42 : Run tiny s15 s42
unfolding upd linking seeing
r42 = goes r41 0 zero< s42 (first_not_zero 0 0 (under s41 0 0 0 zero< refl refl (ready s41 0 refl refl refl refl refl)) refl refl)

r43 : Run tiny s15 s43
unfolding upd linking seeing
r43 = goes r42 0 zero< s43 (read_slot 0 None refl refl)

r44 : Run tiny s15 s44
unfolding upd linking seeing
r44 = goes r43 0 zero< s44 (read_slot 1 None refl refl)

r45 : Run tiny s15 s45
unfolding upd linking seeing
r45 = goes r44 0 zero< s45 (pass 0 0 (under s44 0 0 0 zero< refl refl (ready s44 0 refl refl refl refl refl)) refl all refl refl)

r46 : Run tiny s15 s46
unfolding upd linking seeing
r46 = goes r45 0 zero< s46 (empty_place 0 0 (under s45 0 0 0 zero< refl refl (ready s45 0 refl refl refl refl refl)) refl)

r47 : Run tiny s15 s47
unfolding upd linking seeing
r47 = goes r46 0 zero< s47 (find_unclaimed 0 0 (under s46 0 0 0 zero< refl refl (ready s46 0 refl refl refl refl refl)) refl refl)

r48 : Run tiny s15 s48
unfolding upd linking seeing
r48 = goes r47 0 zero< s48 (begin_store 1 0 one< refl (giving_back 0 zero< refl refl refl) (ready s47 0 refl refl refl refl refl))

r49 : Run tiny s15 s49
unfolding upd linking seeing
r49 = goes r48 0 zero< s49 (save 1 None refl refl)

r50 : Run tiny s15 s50
unfolding upd linking seeing
r50 = goes r49 0 zero< s50 (clear_link 1 0 0 0 None refl refl refl refl refl refl zero< refl refl refl refl refl refl)

r51 : Run tiny s15 s51
unfolding upd linking seeing
r51 = goes r50 0 zero< s51 (give 0 0 (under s50 0 0 0 zero< refl refl (ready s50 0 refl refl refl refl refl)) refl)

pub cycle : Cycle
unfolding upd linking
cycle = record {
  shape = tiny;
  held = s4;
  listed = s15;
  back = s51;
  takes = r4;
  withdraws = r15;
  gives = r51;
  fresh = refl;
  retired = refl;
  pooled = refl;
  traced = refl;
}
