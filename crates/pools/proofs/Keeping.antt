-- What a pool keeps, as a member goes and as one comes. Assumes nothing.
use Rattle.std.proofs.Common.{◌≡◌, ℕ, ◌<◌, ◌≤◌, Bool, true, false, cond, not, ◌||◌, eqb, ltb, List, [], ◌∷◌, length, get_or, set, Some, ap, sym, refl, ◌∙◌, ⊎_elim, arith, length-set, get_or-set_other, get_or-set_same}
use mathlib.Core.Path.{fun_ext}
use Rattle.std.proofs.lemmas.Bool.{and_parts, not-true, cases_eq, cases_Bool, eq-eqb, or_left, or_right, cond-true, cond-false, cond_both, lt-ltb}
use Rattle.std.proofs.lemmas.Bool.Decides.{nat_tests}
use Rattle.pools.specs.Sets.{without, given}
use Rattle.pools.specs.Orders.{listed, apart, front, rest, put_first, Kept}
use Rattle.pools.specs.Joining.{Joins, put_first_joins}
use Rattle.pools.proofs.Distinct.{length_below}

-- a mark after one is written
pub mark_written : (members : List Bool) (node x : ℕ) (b : Bool) → node < length members → get_or (set members node b) x false ≡ cond (eqb x node) b (get_or members x false)
mark_written members node x b l = ⊎_elim here other (cases_eq x node)
  where
    here : x ≡ node → get_or (set members node b) x false ≡ cond (eqb x node) b (get_or members x false)
    here e = let w = get_or-set_same members node b false l in grind (arith, nat_tests, w)

    other : (x ≡ node → ⊥) → get_or (set members node b) x false ≡ cond (eqb x node) b (get_or members x false)
    other ne = let w = get_or-set_other members node x b false ne in grind (arith, nat_tests, w)

-- the order is no longer than the table has records
pub kept_few : (order : List ℕ) (members : List Bool) (size : ℕ) → Kept order members size → length order ≤ size
kept_few order members size k = length_below order size k.once k.inside

-- a new order with one number more
pub kept_more : (order new : List ℕ) (members : List Bool) (size node : ℕ) → Kept order members size → node < size → apart new ≡ true → ((x : ℕ) → listed new x ≡ (eqb x node || listed order x)) → Kept new (set members node true) size
kept_more order new members size node k l a lists = record {
  once = a;
  marks = λ x. let w = mark_written members node x true (omega (arith, k.few, k.places)) in let m = k.marks x in let n = lists x in grind (arith, nat_tests, w, m, n);
  inside = λ x h. let n = lists x in let i = k.inside x in grind (arith, nat_tests, n, i, h);
  few = k.few;
  places = length-set members node true ∙ k.places;
}

-- a record that has joined
pub kept_joined : (joined : List ℕ → ℕ → List ℕ) → Joins joined → (order : List ℕ) (members : List Bool) (size node : ℕ) → Kept order members size → node < size → Kept (joined order node) (set members node true) size
kept_joined joined j order members size node k l =
    kept_more order (joined order node) members size node k l (j.keeps_apart order node k.once) (j.lists order node)

-- the first one is a record of the table
pub kept_front : (order : List ℕ) (members : List Bool) (size node : ℕ) → Kept order members size → front order ≡ Some node → node < size
kept_front [] members size node k e = cc
kept_front (x ∷ xs) members size node k e = let is : node ≡ x = cc in k.inside node (or_left _ _ (eq-eqb node x is))

-- the first one goes
pub kept_rest : (order : List ℕ) (members : List Bool) (size node : ℕ) → Kept order members size → front order ≡ Some node → Kept (rest order) (set members node false) size
kept_rest [] members size node k e = cc
kept_rest (first ∷ order) members size node k e =
    let is : node ≡ first = cc in
    let p = and_parts (not (listed order first)) (apart order) k.once in
    let absent : listed order first ≡ false = not-true _ p.0 in
    let gone : listed order node ≡ false = ap (listed order) is ∙ absent in
    let l : node < size = kept_front (first ∷ order) members size node k e in
    record {
      once = p.1;
      marks = λ x. let w = mark_written members node x false (omega (arith, k.few, k.places)) in let m = k.marks x in grind (arith, nat_tests, w, m, gone);
      inside = λ x h. k.inside x (or_right _ _ h);
      few = k.few;
      places = length-set members node false ∙ k.places;
    }

-- there is room for a record of the table that is no member
pub room : (order : List ℕ) (members : List Bool) (size node : ℕ) → Kept order members size → node < size → get_or members node false ≡ false → length order < 128
room order members size node k l f =
    let more = kept_joined put_first put_first_joins order members size node k l in
    let e : put_first order node ≡ node ∷ order = cond-false (listed order node) order (node ∷ order) (sym (k.marks node) ∙ f) in
    omega (arith, kept_few _ _ size more, ap length e, k.few)

-- what the sets say: a mark taken off, and one put on
pub set_less : (members : List Bool) (node : ℕ) → node < length members → (λ x. get_or (set members node false) x false) ≡ without (Some node) (λ x. get_or members x false)
set_less members node l = fun_ext (λ x. let w = mark_written members node x false l in grind (arith, nat_tests, w, cases_Bool (get_or members x false)))

pub set_more : (members : List Bool) (size node : ℕ) → node < length members → node < size → (λ x. get_or (set members node true) x false) ≡ given size node (λ x. get_or members x false)
set_more members size node l h =
    fun_ext (λ x. let w = mark_written members node x true l in grind (arith, nat_tests, w, cases_Bool (get_or members x false))) ∙ sym (cond-true (ltb node size) _ _ (lt-ltb node size h))

-- a member that is given, or a number past the size, changes nothing
pub set_same : (members : List Bool) (size node : ℕ) → get_or members node false ≡ true → (λ x. get_or members x false) ≡ given size node (λ x. get_or members x false)
set_same members size node h =
    cond_both (ltb node size) _ _ (λ s. (λ x. get_or members x false) ≡ s) (λ e. fun_ext (λ x. grind (arith, nat_tests, h, cases_eq x node, cases_Bool (get_or members x false)))) (λ e. refl)
