-- Walks down a list, and the entries that are filed as it changes.
use Rattle.std.proofs.Common.{◌≡◌, ℕ, zero, suc, ◌+◌, ◌≤◌, ltb, List, length, Some, None, Option, sym, refl, subst, arith}
use Rattle.std.proofs.lemmas.Bool.{cond-true, lt-ltb}
use Rattle.work.specs.declared.work.Entry.{Entry}
use Rattle.work.specs.declared.work.Reached.{Reached}
use Rattle.work.specs.Plans.{reached}
use Rattle.laws.specs.Lists.{entry_at}

-- A walk with k entries before it comes to the next one, unless k is 0.
pub data Walk (es : List Entry) (k : ℕ) : Option Reached → Type 0 where
  over : k ≡ 0 → Walk es k None
  at : (e : Reached) → e.left + 1 ≡ k → e.entry ≡ entry_at es e.left → Walk es k (Some e)

pub walk : (es : List Entry) (k : ℕ) → k ≤ length es → Walk es k (reached es k)
walk es zero l = over refl
walk es (suc k) l =
    subst (λ (x : Option Reached). Walk es (suc k) x) (sym (cond-true (ltb k (length es)) (Some (record { entry = entry_at es k; left = k })) None (lt-ltb k (length es) (omega arith))))
    (at (record { entry = entry_at es k; left = k }) (omega arith) refl)
