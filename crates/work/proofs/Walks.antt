-- A list kept in the front of an array: one entry more, and the entry that a walk comes to.
use Rattle.std.proofs.Common.{◌≡◌, ℕ, zero, suc, ◌+◌, ◌-◌, ◌<◌, ◌≤◌, ltb, List, length, get_or, take, set, Some, Option, sym, ap, ◌∙◌, arith}
use Rattle.std.proofs.lemmas.List.{take_more_set, length-take-le, get_or-take}
use Rattle.std.proofs.lemmas.Bool.{lt-ltb, cond-true}
use Rattle.work.specs.declared.work.Entry.{Entry}
use Rattle.work.specs.declared.work.Reached.{Reached}
use Rattle.work.specs.Plans.{pushed, reached, place}

pub pushed_more : (xs : List Entry) (n : ℕ) (e : Entry) → length xs ≡ 64 → n < 64 → take (n + 1) (set xs n e) ≡ pushed (take n xs) e
pushed_more xs n e l h =
    let k : length (take n xs) ≡ n = length-take-le n xs (omega arith) in
    let b : ltb (length (take n xs)) 64 ≡ _ = lt-ltb (length (take n xs)) 64 (omega (arith, k)) in
    take_more_set xs n e (omega arith) ∙ sym (cond-true _ _ _ b)

abbrev pub no_entry : Entry
no_entry = record { place = place 0; node = record { number = 0 } }

pub reached_at : (xs : List Entry) (n left : ℕ) → length xs ≡ 64 → n ≤ 64 → 0 < left → left ≤ n →
    ◌≡◌ {A = Option Reached} (Some (record { entry = get_or xs (left - 1) no_entry; left = left - 1 })) (reached (take n xs) left)
reached_at xs n zero l h p q = absurd (omega arith)
reached_at xs n (suc m) l h p q =
    let k : length (take n xs) ≡ n = length-take-le n xs (omega arith) in
    let b : ltb m (length (take n xs)) ≡ _ = lt-ltb m (length (take n xs)) (omega (arith, k)) in
    let e : suc m - 1 ≡ m = omega arith in
    rw e (ap (λ x. Some (record { entry = x; left = m })) (sym (get_or-take n xs m no_entry (omega arith))) ∙ sym (cond-true _ _ _ b))
