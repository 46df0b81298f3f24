-- The subject's words compared, and a function changed at one of them.
-- Assumes nothing.
use Rattle.std.specs.Prelude.{Bool, false, cond, ◌&&◌, ◌==◌}
use Rattle.terms.specs.declared.Record.{Record}
use Rattle.terms.specs.declared.Station.{Station}
use Rattle.terms.specs.declared.Position.{Position}
use Rattle.terms.specs.declared.Spot.{Spot}
use Rattle.terms.specs.declared.Spot.TheVariants.{Root, Link}

-- Whether two records, stations or positions are the same: they have one number.
abbrev pub same_record : Record → Record → Bool
same_record r s = r.number == s.number

abbrev pub same_station : Station → Station → Bool
same_station s t = s.number == t.number

abbrev pub same_position : Position → Position → Bool
same_position x y = x.index == y.index

-- Whether two spots are the same: one root, or one link of one record.
abbrev pub same_spot : Spot → Spot → Bool
same_spot (Root g) (Root h) = g.index == h.index
same_spot (Root g) (Link s y) = false
same_spot (Link r x) (Root h) = false
same_spot (Link r x) (Link s y) = same_record r s && same_position x y

-- f with the value v at the key k and as it was elsewhere.
abbrev pub changed : {K V : Type 0} → (K → K → Bool) → (K → V) → K → V → K → V
changed same f k v j = cond (same j k) v (f j)
