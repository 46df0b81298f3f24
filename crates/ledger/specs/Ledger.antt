-- The ledger of whole acts: what a station's operation does, seen from outside, and when it may be done.
-- It knows spots, holds and standings; it knows nothing of the steps in which a table works, nor of its slots,
-- counts and marks.
--
-- It can be run as a judge of a list of acts with their answers: begin with `opening`; for each act ask its
-- condition, which speaks of numbers below the sizes alone and so is a test of finitely many cases; then go on
-- with the ledger that the clause gives, which the act and its answer settle. (Judge has this as a theorem.)
-- Assumes nothing.
use Rattle.std.specs.Prelude.{◌≡◌, ℕ, ◌+◌, ◌-◌, ◌<◌, Bool, true, false, cond, ◌≢◌, Some, None, Option}
use Rattle.terms.specs.declared.Record.{Record}
use Rattle.terms.specs.declared.Station.{Station}
use Rattle.terms.specs.declared.Position.{Position}
use Rattle.terms.specs.declared.Spot.{Spot}
use Rattle.terms.specs.declared.Spot.TheVariants.{Root, Link}
use Rattle.terms.specs.declared.Standing.{Standing}
use Rattle.terms.specs.declared.Standing.TheVariants.{Pooled, Fresh, Retired}
use Rattle.terms.specs.declared.Operation.{Operation}
use Rattle.terms.specs.declared.Operation.TheVariants.{New, Deref, Release, Cas, Store, Delete}
use Rattle.terms.specs.declared.Outcome.{Outcome}
use Rattle.terms.specs.declared.Outcome.TheVariants.{Found, Swapped, Done}
use Rattle.terms.specs.Words.{same_name, once_named}
use Rattle.ledger.specs.Words.{same_record, same_station, same_position, same_spot, changed}

-- How much a table has of everything, and which position follows which: numbers below these are its stations,
-- its records, its roots and the positions of a record's links.
pub record Sizes : Type 0 where
  pub stations : ℕ
  pub records : ℕ
  pub roots : ℕ
  pub positions : ℕ
  pub follow : ℕ → ℕ

abbrev pub following : Sizes → Position → Position
following z x = record { index = z.follow x.index }

-- ---------------------------------------------------------------- what the ledger has

pub record Ledger : Type 0 where
  -- what each spot names
  pub names : Spot → Option Record
  -- how many holds each station has of each record
  pub holds : Station → Record → ℕ
  -- where each record is in its life
  pub standing : Record → Standing
  -- whether a link has named a name since its record was withdrawn: asked of retired records alone
  pub since : Record → Position → Option Record → Bool

-- A new table: every spot names none, nobody holds anything, every record is pooled.
abbrev pub opening : Ledger
opening = record { names = λ q. None; holds = λ s r. 0; standing = λ r. Pooled; since = λ r x n. false }

-- ---------------------------------------------------------------- how it changes

-- Station s has n holds of r.
abbrev pub with_holds : Ledger → Station → Record → ℕ → Ledger
with_holds l s r n = record {
  names = l.names;
  holds = changed same_station l.holds s (changed same_record (l.holds s) r n);
  standing = l.standing;
  since = l.since;
}

-- Record r has standing t.
abbrev pub with_standing : Ledger → Record → Standing → Ledger
with_standing l r t = record {
  names = l.names;
  holds = l.holds;
  standing = changed same_record l.standing r t;
  since = l.since;
}

-- Station s has one hold more of what a name names; none adds nothing.
abbrev pub hold : Ledger → Station → Option Record → Ledger
hold l s None = l
hold l s (Some r) = with_holds l s r (l.holds s r + 1)

-- Station s has one hold less of r.
abbrev pub let_go : Ledger → Station → Record → Ledger
let_go l s r = with_holds l s r (l.holds s r - 1)

abbrev pub naming : (Record → Standing) → Option Record → Record → Standing
naming f None = f
naming f (Some r) = changed same_record f r (once_named (f r))

-- A name written into a link is added to what the link has named; none is a name too.
abbrev pub noting : (Record → Position → Option Record → Bool) → Spot → Option Record → Record → Position → Option Record → Bool
noting f (Root g) n = f
noting f (Link r x) n = changed same_record f r (changed same_position (f r) x (changed same_name (f r x) n true))

-- Spot q comes to name n.
abbrev pub write : Ledger → Spot → Option Record → Ledger
write l q n = record {
  names = changed same_spot l.names q n;
  holds = l.holds;
  standing = naming l.standing n;
  since = noting l.since q n;
}

-- Record r is retired, and what its links have named since begins with what they name now.
abbrev pub retire : Ledger → Record → Ledger
retire l r = record {
  names = l.names;
  holds = l.holds;
  standing = changed same_record l.standing r Retired;
  since = changed same_record l.since r (λ x n. same_name n (l.names (Link r x)));
}

-- ---------------------------------------------------------------- what acts ask

-- A spot of the table.
abbrev pub Inside : Sizes → Spot → Type 0
Inside z (Root g) = g.index < z.roots
Inside z (Link r x) = (r.number < z.records) × (x.index < z.positions)

-- Station s holds r.
abbrev pub Holds : Ledger → Station → Record → Type 0
Holds l s r = 0 < l.holds s r

-- Station s holds what a name names; none asks nothing.
abbrev pub HoldsName : Ledger → Station → Option Record → Type 0
HoldsName l s None = Unit {0}
HoldsName l s (Some r) = Holds l s r

-- Station s may use a spot of the table: a root is free to all, and a link asks that its record is held.
abbrev pub Reaches : Sizes → Ledger → Station → Spot → Type 0
Reaches z l s (Root g) = g.index < z.roots
Reaches z l s (Link r x) = (x.index < z.positions) × Holds l s r

-- No record of the table is pooled.
abbrev pub NonePooled : Sizes → Ledger → Type 0
NonePooled z l = (r : Record) → r.number < z.records → l.standing r ≢ Pooled

-- No station holds r.
abbrev pub Unheld : Sizes → Ledger → Record → Type 0
Unheld z l r = (s : Station) → s.number < z.stations → l.holds s r ≡ 0

-- No link and no root names r.
abbrev pub Unnamed : Sizes → Ledger → Record → Type 0
Unnamed z l r = (q : Spot) → Inside z q → l.names q ≢ Some r

-- Every link of r names none.
abbrev pub NamesNothing : Sizes → Ledger → Record → Type 0
NamesNothing z l r = (x : Position) → x.index < z.positions → l.names (Link r x) ≡ None

-- What a name names is neither pooled nor fresh; none is neither.
abbrev pub Settled : Ledger → Option Record → Type 0
Settled l None = Unit {0}
Settled l (Some r) = (l.standing r ≢ Pooled) × (l.standing r ≢ Fresh)

-- A link at position x that names m may be led to n: m is retired, and since then its following link has named n.
abbrev pub LeadsTo : Sizes → Ledger → Position → Option Record → Option Record → Type 0
LeadsTo z l x None n = ⊥
LeadsTo z l x (Some m) n = (l.standing m ≡ Retired) × (l.since m (following z x) n ≡ true)

-- ---------------------------------------------------------------- the acts

-- NEW makes some pooled record fresh, with one hold of the station, and answers it. It answers none exactly when no
-- record is pooled, and then changes nothing.
abbrev pub Makes : Sizes → Ledger → Station → Outcome → Ledger → Type 0
Makes z l s (Found None) after = NonePooled z l × (after ≡ l)
Makes z l s (Found (Some r)) after =
    (r.number < z.records) × (l.standing r ≡ Pooled) × (after ≡ hold (with_standing l r Fresh) s (Some r))
Makes z l s (Swapped b) after = ⊥
Makes z l s Done after = ⊥

-- What an act of station s asks, answers and leaves.
abbrev pub Acts : Sizes → Ledger → Station → Operation → Outcome → Ledger → Type 0
Acts z l s New answer after = Makes z l s answer after
-- DEREF answers what the spot names and adds a hold of it, unless that is none.
Acts z l s (Deref q) answer after = Reaches z l s q × (answer ≡ Found (l.names q)) × (after ≡ hold l s (l.names q))
-- RELEASE takes one hold off a record that is not fresh.
Acts z l s (Release r) answer after = Holds l s r × (l.standing r ≢ Fresh) × (answer ≡ Done) × (after ≡ let_go l s r)
-- CAS answers yes and writes the new name exactly if the spot names the old one. The new record is held.
Acts z l s (Cas q old new) answer after =
    Reaches z l s q × HoldsName l s new ×
    (answer ≡ Swapped (same_name (l.names q) old)) × (after ≡ cond (same_name (l.names q) old) (write l q new) l)
-- STORE writes the new name into a link of a fresh record. The new record is held.
Acts z l s (Store r x new) answer after =
    Reaches z l s (Link r x) × (l.standing r ≡ Fresh) × HoldsName l s new × (answer ≡ Done) × (after ≡ write l (Link r x) new)
-- DELETE takes one hold off a record that is not retired, and retires it.
Acts z l s (Delete r) answer after = Holds l s r × (l.standing r ≢ Retired) × (answer ≡ Done) × (after ≡ retire (let_go l s r) r)

-- The ledger allows a station of the table the act of an operation with an answer, and is `after` then.
abbrev pub Allows : Sizes → Ledger → Station → Operation → Outcome → Ledger → Type 0
Allows z l s op answer after = (s.number < z.stations) × Acts z l s op answer after

-- ---------------------------------------------------------------- the silent acts

-- What may stand between the acts of the stations, with no station and no answer.
pub data Silent : Type 0 where
  -- link x of r comes to name n
  lead : (r : Record) (x : Position) (n : Option Record) → Silent
  -- link x of r comes to name none
  clear : (r : Record) (x : Position) → Silent
  -- r goes back to the pool
  return : (r : Record) → Silent

-- A retired record that nobody holds and nothing names.
abbrev pub OutOfUse : Sizes → Ledger → Record → Type 0
OutOfUse z l r = (l.standing r ≡ Retired) × Unheld z l r × Unnamed z l r

-- The ledger permits a silent act, and is `after` then.
abbrev pub Permits : Sizes → Ledger → Silent → Ledger → Type 0
-- LEAD sets a link of a retired record that names a retired record m to what m's following link has named since m
-- was retired, if that is none or a record that is not pooled or fresh now.
Permits z l (lead r x n) after =
    (l.standing r ≡ Retired) × LeadsTo z l x (l.names (Link r x)) n × Settled l n × (after ≡ write l (Link r x) n)
-- CLEAR sets a link to none in a retired record that nobody holds and nothing names.
Permits z l (clear r x) after = OutOfUse z l r × Inside z (Link r x) × (after ≡ write l (Link r x) None)
-- RETURN pools a retired record that nobody holds, that nothing names and whose own links name none.
Permits z l (return r) after = OutOfUse z l r × NamesNothing z l r × (after ≡ with_standing l r Pooled)
