-- Each record's standing, and what an access makes of it. No step decides by a standing: it is kept for the
-- refusals that speak of fresh and retired records.
use Rattle.std.specs.Prelude.{ℕ, cond, Some, None, Option}
use Rattle.terms.specs.declared.Record.{Record}
use Rattle.terms.specs.declared.Standing.{Standing}
use Rattle.terms.specs.declared.Standing.TheVariants as is
use Rattle.terms.specs.Words.{reads, put, once_named}
use Rattle.memory.specs.declared.access.WordAccess.{WordAccess}
use Rattle.memory.specs.declared.access.WordAccess.TheVariants as a
use Rattle.memory.specs.declared.access.Access.{Access}
use Rattle.memory.specs.declared.access.Access.TheVariants as t
use Rattle.memory.specs.declared.access.Found.{Found}
use Rattle.memory.specs.declared.standings.Standings.{Standings}
use Rattle.memory.specs.Found.{name_in, flag_in}

-- the standing of each record
abbrev pub standings : Standings → ℕ → Standing
standings t = reads is.Pooled t.standings

abbrev pub set_standing : (ℕ → Standing) → ℕ → Standing → ℕ → Standing
set_standing f r v = put 128 f r v

-- a name is written into a spot
abbrev pub named : (ℕ → Standing) → Option Record → ℕ → Standing
named f None = f
named f (Some r) = set_standing f r.number (once_named (f r.number))

-- a take found a record, which is fresh now
abbrev pub taken : (ℕ → Standing) → Option Record → ℕ → Standing
taken f None = f
taken f (Some r) = set_standing f r.number is.Fresh

abbrev pub standing_word : (ℕ → Standing) → WordAccess → Found → ℕ → Standing
standing_word f (a.Look q) x = f
standing_word f (a.Swap q old new) x = cond (flag_in x) (named f new) f
standing_word f (a.Overwrite q new) x = named f new
standing_word f (a.AskDeleted r) x = f
standing_word f (a.AskPlace z i) x = f
standing_word f (a.AskDone z i) x = f
standing_word f (a.AskCount r) x = f
standing_word f (a.AskSlot z i) x = f
standing_word f (a.AskTrace r) x = f
standing_word f (a.AskClaims i) x = f
standing_word f (a.Change w) x = f

-- the standings after an access that found x
abbrev pub standing_after : (ℕ → Standing) → Access → Found → ℕ → Standing
standing_after f t.Take x = taken f (name_in x)
standing_after f (t.Give r) x = set_standing f r.number is.Pooled
standing_after f (t.Word a) x = standing_word f a x
