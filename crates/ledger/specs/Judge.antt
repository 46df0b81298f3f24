-- The ledger can be run as a judge: for every act with its answer, and every silent act, it can be found out whether the
-- ledger allows it, and then what it leaves. The proof is the way to find out: each condition asks about numbers below
-- the sizes.
-- Assumes nothing.
use Rattle.terms.specs.declared.Station.{Station}
use Rattle.terms.specs.declared.Operation.{Operation}
use Rattle.terms.specs.declared.Outcome.{Outcome}
use Rattle.ledger.specs.Ledger.{Sizes, Ledger, Allows, Silent, Permits}

abbrev pub ActsCanBeJudged : Type 0
ActsCanBeJudged = (z : Sizes) (l : Ledger) (s : Station) (op : Operation) (answer : Outcome) →
    Dec ((after : Ledger) × Allows z l s op answer after)

abbrev pub SilentActsCanBeJudged : Type 0
SilentActsCanBeJudged = (z : Sizes) (l : Ledger) (a : Silent) → Dec ((after : Ledger) × Permits z l a after)
