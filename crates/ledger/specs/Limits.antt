-- What the ledger never allows, and how far an act is settled: the statements of theorems.
-- Assumes nothing.
use Rattle.std.specs.Prelude.{◌≡◌, ◌<◌, true, false, ◌≢◌, Some, None, Option}
use Rattle.terms.specs.declared.Record.{Record}
use Rattle.terms.specs.declared.Station.{Station}
use Rattle.terms.specs.declared.Position.{Position}
use Rattle.terms.specs.declared.Spot.{Spot}
use Rattle.terms.specs.declared.Spot.TheVariants.{Link}
use Rattle.terms.specs.declared.Standing.TheVariants.{Pooled, Fresh, Retired}
use Rattle.terms.specs.declared.Operation.{Operation}
use Rattle.terms.specs.declared.Operation.TheVariants.{New, Deref, Release, Cas, Store, Delete}
use Rattle.terms.specs.declared.Outcome.{Outcome}
use Rattle.terms.specs.declared.Outcome.TheVariants.{Found, Swapped}
use Rattle.ledger.specs.Ledger.{Sizes, Ledger, following, Inside, Holds, Allows, Silent, lead, clear, return, Permits}

-- The act is not allowed with this answer, or with any, whatever ledger it should leave.
abbrev pub RefusesAnswer : Sizes → Ledger → Station → Operation → Outcome → Type 0
RefusesAnswer z l s op answer = (after : Ledger) → ¬ (Allows z l s op answer after)

abbrev pub Refuses : Sizes → Ledger → Station → Operation → Type 0
Refuses z l s op = (answer : Outcome) → RefusesAnswer z l s op answer

-- The silent act is not permitted.
abbrev pub Forbids : Sizes → Ledger → Silent → Type 0
Forbids z l a = (after : Ledger) → ¬ (Permits z l a after)

-- NEW does not answer none while a record of the table is pooled, and answers no record that is not pooled.
abbrev pub NewFindsWhatIsPooled : Type 0
NewFindsWhatIsPooled = (z : Sizes) (l : Ledger) (s : Station) (r : Record) →
    (r.number < z.records → l.standing r ≡ Pooled → RefusesAnswer z l s New (Found None)) ×
    (l.standing r ≢ Pooled → RefusesAnswer z l s New (Found (Some r)))

-- DEREF answers nothing but what the spot names.
abbrev pub DerefFindsWhatIsNamed : Type 0
DerefFindsWhatIsNamed = (z : Sizes) (l : Ledger) (s : Station) (q : Spot) (n : Option Record) →
    l.names q ≢ n → RefusesAnswer z l s (Deref q) (Found n)

-- A link of a record that the station does not hold is neither followed nor swapped nor written.
abbrev pub LinksNeedHolds : Type 0
LinksNeedHolds = (z : Sizes) (l : Ledger) (s : Station) (r : Record) (x : Position) (old new : Option Record) → l.holds s r ≡ 0 →
    Refuses z l s (Deref (Link r x)) × Refuses z l s (Cas (Link r x) old new) × Refuses z l s (Store r x new)

-- A fresh record is not released, and neither is one that the station does not hold.
abbrev pub ReleaseHasLimits : Type 0
ReleaseHasLimits = (z : Sizes) (l : Ledger) (s : Station) (r : Record) →
    (l.standing r ≡ Fresh → Refuses z l s (Release r)) × (l.holds s r ≡ 0 → Refuses z l s (Release r))

-- CAS does not answer yes while the spot names another record, nor no while it names the old one, and does not write
-- a record that the station does not hold.
abbrev pub CasHasLimits : Type 0
CasHasLimits = (z : Sizes) (l : Ledger) (s : Station) (q : Spot) (old new : Option Record) (r : Record) →
    (l.names q ≢ old → RefusesAnswer z l s (Cas q old new) (Swapped true)) ×
    (l.names q ≡ old → RefusesAnswer z l s (Cas q old new) (Swapped false)) ×
    (l.holds s r ≡ 0 → Refuses z l s (Cas q old (Some r)))

-- STORE does not write into a record that is linked, or pooled or retired.
abbrev pub StoreHasLimits : Type 0
StoreHasLimits = (z : Sizes) (l : Ledger) (s : Station) (r : Record) (x : Position) (new : Option Record) →
    l.standing r ≢ Fresh → Refuses z l s (Store r x new)

-- A retired record is not withdrawn again, and none is withdrawn that the station does not hold.
abbrev pub DeleteHasLimits : Type 0
DeleteHasLimits = (z : Sizes) (l : Ledger) (s : Station) (r : Record) →
    (l.standing r ≡ Retired → Refuses z l s (Delete r)) × (l.holds s r ≡ 0 → Refuses z l s (Delete r))

-- A link is not led to what the following link of the record that it names has never named since that was retired, nor
-- to a record that is pooled or fresh.
abbrev pub LeadHasLimits : Type 0
LeadHasLimits = (z : Sizes) (l : Ledger) (r m t : Record) (x : Position) (n : Option Record) →
    (l.names (Link r x) ≡ Some m → l.since m (following z x) n ≡ false → Forbids z l (lead r x n)) ×
    (l.standing t ≡ Pooled → Forbids z l (lead r x (Some t))) ×
    (l.standing t ≡ Fresh → Forbids z l (lead r x (Some t)))

-- A record that is still named, or still held, or not retired, is not returned to the pool, nor are its links cleared; and
-- one with a link of its own is not returned.
abbrev pub ReturnHasLimits : Type 0
ReturnHasLimits = (z : Sizes) (l : Ledger) (r : Record) (x : Position) →
    ((q : Spot) → Inside z q → l.names q ≡ Some r → Forbids z l (return r) × Forbids z l (clear r x)) ×
    ((s : Station) → s.number < z.stations → Holds l s r → Forbids z l (return r) × Forbids z l (clear r x)) ×
    (l.standing r ≢ Retired → Forbids z l (return r) × Forbids z l (clear r x)) ×
    (x.index < z.positions → l.names (Link r x) ≢ None → Forbids z l (return r))

-- An act and its answer settle the ledger that it leaves; and an act other than NEW settles its answer too.
abbrev pub ActsAreSettled : Type 0
ActsAreSettled = (z : Sizes) (l : Ledger) (s : Station) (op : Operation) (first second : Outcome) (one other : Ledger) →
    Allows z l s op first one → Allows z l s op second other →
    (op ≢ New → first ≡ second) × (first ≡ second → one ≡ other)
