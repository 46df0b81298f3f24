-- The lowest slot that names a record, by what `position` finds, and that slot emptied.
use Rattle.std.proofs.Common.{◌≡◌, ℕ, ◌<◌, true, false, List, length, Option, Some, None, sym, ap, ◌∙◌, arith}
use Rattle.std.specs.List.{AllWithin, HoldsAt}
use Rattle.std.specs.Option.{MatchOption, unwrap_or}
use Rattle.terms.specs.declared.Record.{Record}
use Rattle.terms.specs.Words.{reads, same_name, put, put_in}
use Rattle.terms.proofs.Lowest.{lowest_is}
use Rattle.terms.proofs.Puts.{put_past}
use Rattle.memory.specs.declared.memory.Memory.{Memory}
use Rattle.memory.specs.Shared.{view, with_slots, lowest_naming, released}
use Rattle.memory.proofs.Together.{put_kept}

-- The index of the first that names r, if any does.
abbrev pub FirstNaming : Record → List (Option Record) → Option ℕ → Type 0
FirstNaming r names found = MatchOption found (AllWithin (λ v. same_name v (Some r) ≡ false) names 0 (length names))
    (λ i. (i < length names) × HoldsAt (λ v. same_name v (Some r) ≡ true) names i × AllWithin (λ v. same_name v (Some r) ≡ false) names 0 i)

pub lowest_first : (names : List (Option Record)) (slots : ℕ → Option Record) (r : Record) (found : Option ℕ) → length names ≡ 8 →
    ◌≡◌ {A = ℕ → Option Record} (reads None names) slots → FirstNaming r names found → unwrap_or found 8 ≡ lowest_naming slots r
unfolding reads
lowest_first names slots r found n e first = go found first ∙ ap (λ (f : ℕ → Option Record). lowest_naming f r) e
  where
    go : (found : Option ℕ) → FirstNaming r names found → unwrap_or found 8 ≡ lowest_naming (reads None names) r
    go None before = lowest_is _ 8 8 (omega arith) (λ j h. before j None (omega arith) (omega arith)) (λ h. absurd (omega arith))
    go (Some i) (inside, here, before) = lowest_is _ 8 i (omega arith) (λ j h. before j None (omega arith) h) (λ _. here None)

-- Where no slot names r, nothing changes: a write past the end of a row is none.
pub released_none : (m : Memory) (p : ℕ) (r : Record) → 8 ≡ lowest_naming ((view m).slots p) r → view m ≡ released (view m) p r
unfolding put_in
released_none m p r e =
    let f : ℕ → ℕ → Option Record = (view m).slots in
    ap (with_slots (view m))
    (sym (put_kept {A = ℕ → Option Record} 8 f p) ∙ ap (λ (row : ℕ → Option Record). put 8 f p row) (put_past 8 (f p) 8 None (omega arith)) ∙ ap (λ i. put 8 f p (put 8 (f p) i None)) e)
