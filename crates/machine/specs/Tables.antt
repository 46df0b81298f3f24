-- A whole table: its sizes, the shared words, the standings, what each station is doing and keeps, and the pool as a set.
use Rattle.std.specs.Prelude.{ℕ, Bool, Some, None, Option, nat_lt}
use Rattle.terms.specs.declared.Record.{Record}
use Rattle.terms.specs.declared.Standing.{Standing}
use Rattle.terms.specs.declared.Standing.TheVariants.{Pooled}
use Rattle.memory.specs.Shared.{Shared, blank}
use Rattle.work.specs.Plans.{Plan, Notes, no_notes, Sight}

-- How much there is of everything: stations, slots of each, records, roots, places of each list (T1), the length from
-- which a list is scanned (T2), links of a record, and the position that follows each.
pub record Sizes : Type 0 where
  pub stations : ℕ
  pub each : ℕ
  pub records : ℕ
  pub roots : ℕ
  pub t1 : ℕ
  pub t2 : ℕ
  pub positions : ℕ
  pub follow : ℕ → ℕ

-- what a station is in the middle of, if anything, and what it keeps for itself
pub record Seat : Type 0 where
  pub work : Option Plan
  pub notes : Notes

pub record Table : Type 0 where
  pub sizes : Sizes
  pub shared : Shared
  pub standing : ℕ → Standing
  pub seats : ℕ → Seat
  pub pool : ℕ → Bool

-- A new table: all none, zero and clear, every station idle, every record pooled.
abbrev pub new_table : Sizes → Table
new_table z = record {
  sizes = z;
  shared = blank;
  standing = λ _. Pooled;
  seats = λ _. record { work = None; notes = no_notes };
  pool = λ r. nat_lt r z.records;
}

-- what station p may look at without an access
abbrev pub sight_in : Sizes → Shared → ℕ → Sight
sight_in z s p = record {
  stations = z.stations;
  each = z.each;
  t1 = z.t1;
  t2 = z.t2;
  positions = z.positions;
  follow = z.follow;
  slots = s.slots p;
}

abbrev pub record_numbered : Option ℕ → Option Record
record_numbered None = None
record_numbered (Some n) = Some (record { number = n })
