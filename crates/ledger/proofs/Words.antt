-- The tests of Words say what they should, and what a changed function gives.
use Rattle.std.proofs.Common.{◌≡◌, Bool, true, false, cond, ◌≢◌, ◌⊎◌, Some, None, Option, refl, ap, ◌∙◌, inl, inr, arith}
use Rattle.std.proofs.lemmas.Bool.{eqb-true, eq-eqb, cases_Bool, and_parts, and_from}
use Rattle.terms.specs.declared.Record.{Record}
use Rattle.terms.specs.declared.Station.{Station}
use Rattle.terms.specs.declared.Position.{Position}
use Rattle.terms.specs.declared.Spot.{Spot}
use Rattle.terms.specs.declared.Spot.TheVariants.{Root, Link}
use Rattle.terms.specs.declared.Standing.{Standing}
use Rattle.terms.specs.declared.Standing.TheVariants.{Pooled, Fresh, Linked, Retired}
use Rattle.terms.specs.Words.{same_name}
use Rattle.ledger.specs.Words.{same_record, same_station, same_position, same_spot, changed}

pub same_record_is : (r s : Record) → same_record r s ≡ true → r ≡ s
same_record_is r s h = ap (λ n. record { number = n }) (eqb-true r.number s.number h)

pub same_station_is : (s t : Station) → same_station s t ≡ true → s ≡ t
same_station_is s t h = ap (λ n. record { number = n }) (eqb-true s.number t.number h)

pub same_position_is : (x y : Position) → same_position x y ≡ true → x ≡ y
same_position_is x y h = ap (λ n. record { index = n }) (eqb-true x.index y.index h)

pub same_spot_is : (p q : Spot) → same_spot p q ≡ true → p ≡ q
same_spot_is (Root g) (Root h) e = ap (λ n. Root (record { index = n })) (eqb-true g.index h.index e)
same_spot_is (Root g) (Link s y) e = grind arith
same_spot_is (Link r x) (Root h) e = grind arith
same_spot_is (Link r x) (Link s y) e =
    let (a, b) = and_parts (same_record r s) (same_position x y) e in
    ap (λ r. Link r x) (same_record_is r s a) ∙ ap (λ x. Link s x) (same_position_is x y b)

pub same_name_is : (m n : Option Record) → same_name m n ≡ true → m ≡ n
same_name_is None None e = refl
same_name_is None (Some s) e = grind arith
same_name_is (Some r) None e = grind arith
same_name_is (Some r) (Some s) e = ap (λ r. Some r) (same_record_is r s e)

pub record_same : (r : Record) → same_record r r ≡ true
record_same r = eq-eqb r.number r.number refl

pub station_same : (s : Station) → same_station s s ≡ true
station_same s = eq-eqb s.number s.number refl

pub position_same : (x : Position) → same_position x x ≡ true
position_same x = eq-eqb x.index x.index refl

pub spot_same : (q : Spot) → same_spot q q ≡ true
spot_same (Root g) = eq-eqb g.index g.index refl
spot_same (Link r x) = and_from (same_record r r) (same_position x x) (record_same r) (position_same x)

pub name_same : (n : Option Record) → same_name n n ≡ true
name_same None = refl
name_same (Some r) = record_same r

-- At the key a changed function has the new value, and elsewhere the old one.
pub at_key : {K V : Type 0} (same : K → K → Bool) (f : K → V) (k : K) (v : V) → ((j : K) → same j j ≡ true) → changed same f k v k ≡ v
at_key same f k v is = ap (λ b. cond b v (f k)) (is k)

pub tells : {K V : Type 0} (same : K → K → Bool) (f : K → V) (k : K) (v : V) (j : K) → ((i j : K) → same i j ≡ true → i ≡ j) →
    ((j ≡ k) × (changed same f k v j ≡ v)) ⊎ ((same j k ≡ false) × (changed same f k v j ≡ f j))
tells same f k v j is = elim (cases_Bool (same j k)) [
  | inl e ↦ inl (is j k e, ap (λ b. cond b v (f j)) e)
  | inr e ↦ inr (e, ap (λ b. cond b v (f j)) e)
]

-- No two standings are one.
pub pooled≢fresh : (t : Standing) → t ≡ Pooled → t ≡ Fresh → ⊥
pooled≢fresh t a b = grind arith

pub pooled≢retired : (t : Standing) → t ≡ Pooled → t ≡ Retired → ⊥
pooled≢retired t a b = grind arith

pub fresh≢retired : (t : Standing) → t ≡ Fresh → t ≡ Retired → ⊥
fresh≢retired t a b = grind arith

pub pooled≢linked : Pooled ≢ Linked
pooled≢linked e = grind arith

pub fresh≢linked : Fresh ≢ Linked
fresh≢linked e = grind arith

pub retired≢linked : Retired ≢ Linked
retired≢linked e = grind arith
