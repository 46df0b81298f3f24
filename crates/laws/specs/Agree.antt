-- When the shared words and the standings of a table are those of a state of the protocol.
use Rattle.std.specs.Prelude.{◌≡◌, ℕ, ◌<◌, ◌≤◌, ◌⊎◌, Some, None, Option}
use Rattle.terms.specs.declared.Record.{Record}
use Rattle.terms.specs.declared.Standing.{Standing}
use Rattle.terms.specs.declared.Standing.TheVariants.{Pooled}
use Rattle.memory.specs.Shared.{Shared}
use Rattle.machine.specs.Tables.{Sizes}
use Rattle.protocol.specs.State.{State}
use Rattle.laws.specs.Numbers.{slot_number, place_number, link_number}

-- a name as a number
abbrev pub num : Option Record → Option ℕ
num None = None
num (Some r) = Some r.number

pub record Agrees (z : Sizes) (s : Shared) (standing : ℕ → Standing) (a : State) : Type 0 where
  -- what each spot names,
  pub roots : (g : ℕ) → g < 16 → a.names g ≡ num (s.roots g)
  pub links : (r x : ℕ) → x < 4 → a.names (link_number r x) ≡ num (s.links r x)
  -- the count, the marks and the standing of each record,
  pub counts : (r : ℕ) → a.count r ≡ s.counts r
  pub traces : (r : ℕ) → a.trace r ≡ s.traces r
  pub deleteds : (r : ℕ) → a.deleted r ≡ s.deleteds r
  pub standings : (r : ℕ) → a.standing r ≡ standing r
  -- what each slot and each place names, and its claim number;
  pub slots : (q i : ℕ) → i < 8 → a.slot (slot_number q i) ≡ num (s.slots q i)
  pub places : (q j : ℕ) → q < 8 → a.place (place_number q j) ≡ num (s.places q j)
  pub claims : (q j : ℕ) → q < 8 → a.claims (place_number q j) ≡ s.claims q j
  -- a slot that the table does not have is empty,
  pub blank : (q i : ℕ) → i < 8 → (z.each ≤ i) ⊎ (z.stations ≤ q) → a.slot (slot_number q i) ≡ None
  -- and a record that no table has is never out of the pool.
  pub beyond : (r : ℕ) → 128 ≤ r → a.standing r ≡ Pooled
