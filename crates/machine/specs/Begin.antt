-- Whether an operation may begin, which refusal it earns, and what its beginning leaves.
use Rattle.std.specs.Prelude.{ℕ, zero, suc, ◌+◌, Bool, true, false, cond, not, List, [], ◌∷◌, ◌++◌, Some, None, Option, nat_lt}
use Rattle.terms.specs.declared.Record.{Record}
use Rattle.terms.specs.declared.Spot.{Spot}
use Rattle.terms.specs.declared.Spot.TheVariants as at
use Rattle.terms.specs.declared.Standing.{Standing}
use Rattle.terms.specs.declared.Standing.TheVariants as is
use Rattle.terms.specs.declared.Operation.{Operation}
use Rattle.terms.specs.declared.Operation.TheVariants as op
use Rattle.terms.specs.Words.{lowest, is_none}
use Rattle.frames.specs.declared.refusal.Refusal.{Refusal}
use Rattle.frames.specs.declared.refusal.Refused.{Refused}
use Rattle.memory.specs.Shared.{lowest_naming}
use Rattle.memory.specs.Standings.{set_standing}
use Rattle.work.specs.Plans.{Plan, noted}
use Rattle.work.specs.Steps.{begin_of}
use Rattle.machine.specs.Tables.{Sizes, Table, sight_in}
use Rattle.machine.specs.Steps.{seated}

-- A check: whether it passes, and the refusal that it earns otherwise, with the place of the byte in its frame.
pub record Check : Type 0 where
  pub passes : Bool
  pub refusal : Refused

abbrev pub check : Bool → Refusal → ℕ → Check
check b why at_byte = record { passes = b; refusal = record { why = why; place = at_byte } }

-- the refusal of the first check that fails
abbrev pub first_failing : List Check → Option Refused
first_failing [] = None
first_failing (c ∷ cs) = cond c.passes (first_failing cs) (Some c.refusal)

-- how many of the first n slots name a record
abbrev pub taken : (ℕ → Option Record) → ℕ → ℕ
taken f zero = 0
taken f (suc n) = cond (is_none (f n)) (taken f n) (suc (taken f n))

-- whether an idle station holds a record: one of its slots names it
abbrev pub holds : Table → ℕ → Record → Bool
holds t p r = nat_lt (lowest_naming (t.shared.slots p) r) 8

abbrev pub is_fresh : Standing → Bool
is_fresh is.Pooled = false
is_fresh is.Fresh = true
is_fresh is.Linked = false
is_fresh is.Retired = false

abbrev pub is_retired : Standing → Bool
is_retired is.Pooled = false
is_retired is.Fresh = false
is_retired is.Linked = false
is_retired is.Retired = true

abbrev pub is_idle : Option Plan → Bool
is_idle None = true
is_idle (Some w) = false

-- whether a record, a root and a position are of this table
abbrev pub record_in : Sizes → Record → Bool
record_in z r = nat_lt r.number z.records

-- Refusal 5: a spot stands at bytes 2 and 3 of its frame; a name may be none.
abbrev pub spot_ranges : Sizes → Spot → List Check
spot_ranges z (at.Root g) = check (nat_lt g.index z.roots) Refusal.Range 3 ∷ []
spot_ranges z (at.Link r x) = check (record_in z r) Refusal.Range 2 ∷ check (nat_lt x.index z.positions) Refusal.Range 3 ∷ []

abbrev pub name_ranges : Sizes → Option Record → ℕ → List Check
name_ranges z None at_byte = []
name_ranges z (Some r) at_byte = check (record_in z r) Refusal.Range at_byte ∷ []

abbrev pub ranges : Sizes → Operation → List Check
ranges z op.New = []
ranges z (op.Deref q) = spot_ranges z q
ranges z (op.Release r) = name_ranges z (Some r) 2
ranges z (op.Cas q old new) = spot_ranges z q ++ name_ranges z old 4 ++ name_ranges z new 5
ranges z (op.Store a x new) = spot_ranges z (at.Link a x) ++ name_ranges z new 4
ranges z (op.Delete r) = name_ranges z (Some r) 2

-- Refusal 10: a container, a named record and a new one are held; roots and old need no hold.
abbrev pub name_held : Table → ℕ → Option Record → ℕ → List Check
name_held t p None at_byte = []
name_held t p (Some r) at_byte = check (holds t p r) Refusal.NotHeld at_byte ∷ []

abbrev pub spot_held : Table → ℕ → Spot → List Check
spot_held t p (at.Root g) = []
spot_held t p (at.Link r x) = name_held t p (Some r) 2

abbrev pub held : Table → ℕ → Operation → List Check
held t p op.New = []
held t p (op.Deref q) = spot_held t p q
held t p (op.Release r) = name_held t p (Some r) 2
held t p (op.Cas q old new) = spot_held t p q ++ name_held t p new 5
held t p (op.Store a x new) = name_held t p (Some a) 2 ++ name_held t p new 4
held t p (op.Delete r) = name_held t p (Some r) 2

-- Refusal 11: one of the slots stays free beside the one that is taken.
abbrev pub room : Table → ℕ → Check
room t p = check (nat_lt (taken (t.shared.slots p) t.sizes.each + 1) t.sizes.each) Refusal.Slots 1

abbrev pub place_free : Table → ℕ → Bool
place_free t p = nat_lt (lowest (λ i. is_none (t.shared.places p i)) t.sizes.t1) t.sizes.t1

-- Refusals 11 to 15.
abbrev pub standings_fit : Table → ℕ → Operation → List Check
standings_fit t p op.New = room t p ∷ []
standings_fit t p (op.Deref q) = room t p ∷ []
standings_fit t p (op.Release r) = check (not (is_fresh (t.standing r.number))) Refusal.Fresh 2 ∷ []
standings_fit t p (op.Cas q old new) = []
standings_fit t p (op.Store a x new) = check (is_fresh (t.standing a.number)) Refusal.NotFresh 2 ∷ []
standings_fit t p (op.Delete r) = check (not (is_retired (t.standing r.number))) Refusal.Retired 2 ∷ check (place_free t p) Refusal.List 1 ∷ []

-- All checks of a beginning, in the order in which they are told: 4, 5, 8, 10 and on.
abbrev pub begin_checks : Table → ℕ → Operation → List Check
begin_checks t p o =
    check (nat_lt p t.sizes.stations) Refusal.Station 1
    ∷ ranges t.sizes o
    ++ check (is_idle (t.seats p).work) Refusal.Busy 1
    ∷ held t p o
    ++ standings_fit t p o

abbrev pub begin_refusal : Table → ℕ → Operation → Option Refused
begin_refusal t p o = first_failing (begin_checks t p o)

-- A DELETE that begins retires its record.
abbrev pub standing_begun : (ℕ → Standing) → Operation → ℕ → Standing
standing_begun f op.New = f
standing_begun f (op.Deref q) = f
standing_begun f (op.Release r) = f
standing_begun f (op.Cas q old new) = f
standing_begun f (op.Store a x new) = f
standing_begun f (op.Delete r) = set_standing f r.number is.Retired

-- the table after a beginning that is not refused
abbrev pub begun : Table → ℕ → Operation → Table
begun t p o = record {
  sizes = t.sizes;
  shared = t.shared;
  standing = standing_begun t.standing o;
  seats = seated t.seats p (Some (begin_of o (sight_in t.sizes t.shared p) (t.shared.places p) (t.seats p).notes).does)
      (noted (t.seats p).notes (begin_of o (sight_in t.sizes t.shared p) (t.shared.places p) (t.seats p).notes).note);
  pool = t.pool;
}
