-- When a whole table fits a state of the protocol, and the tables that are sound.
use Rattle.std.specs.Prelude.{◌≡◌, ℕ, ◌<◌, ◌≤◌, true, Some, None, Option}
use Rattle.terms.specs.declared.Outcome.{Outcome}
use Rattle.terms.specs.declared.Standing.TheVariants.{Pooled}
use Rattle.work.specs.declared.work.Point.TheVariants.{End}
use Rattle.work.specs.Plans.{Plan, Notes}
use Rattle.machine.specs.Tables.{Sizes, Seat, Table}
use Rattle.protocol.specs.State.{State}
use Rattle.protocol.specs.Invariant.{Inv}
use Rattle.protocol.specs.Steps.{Moves}
use Rattle.laws.specs.Numbers.{shape}
use Rattle.laws.specs.Agree.{Agrees}
use Rattle.laws.specs.Mine.{Mine, mine}
use Rattle.laws.specs.Owes.{Owes}
use Rattle.laws.specs.Points.{AtPoint}

-- The limits of a table's sizes.
pub record Lawful (z : Sizes) : Type 0 where
  pub stations : z.stations ≤ 8
  pub each : z.each ≤ 8
  pub two_slots : 2 ≤ z.each
  pub records : z.records ≤ 128
  pub roots : z.roots ≤ 16
  pub t1 : z.t1 ≤ 64
  pub some_place : 1 ≤ z.t1
  pub positions : z.positions ≤ 4
  pub some_link : 1 ≤ z.positions
  pub follow : (x : ℕ) → x < z.positions → z.follow x < z.positions

-- What a station does fits what it has of its own: an idle one is as an operation that ended left it, a busy one may
-- make the writes that it owes, and is then as its decision needs it.
abbrev pub Working : Sizes → Notes → Mine → Option Plan → Type 0
Working z n m None = AtPoint z n (End Outcome.Done) m
Working z n m (Some w) = Owes z.each (AtPoint z n w.point) m w.owed

abbrev pub Seated : Sizes → Seat → Mine → Type 0
Seated z s m = Working z s.notes m s.work

pub record Fits (t : Table) (a : State) : Type 0 where
  pub agrees : Agrees t.sizes t.shared t.standing a
  -- What lies in the pool is pooled, and is of the table; and every pooled record of the table lies in the pool.
  pub pooled : (r : ℕ) → t.pool r ≡ true → (t.standing r ≡ Pooled) × (r < t.sizes.records)
  pub complete : (r : ℕ) → r < t.sizes.records → t.standing r ≡ Pooled → t.pool r ≡ true
  pub seats : (p : ℕ) → p < t.sizes.stations → Seated t.sizes (t.seats p) (mine a p)

-- A table is sound if it fits some state in which the protocol's invariant holds.
pub record Sound (t : Table) : Type 0 where
  pub lawful : Lawful t.sizes
  pub state : State
  pub inv : Inv shape state
  pub fits : Fits t state

-- The table after what the station p did is sound, and is led to by moves of p that the protocol allows.
pub record Follows (t : Table) (k : Sound t) (p : ℕ) (u : Table) : Type 0 where
  pub sound : Sound u
  pub moves : Moves shape k.state p sound.state
