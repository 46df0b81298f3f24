-- How a record joins an order, and that the orders of a stack and of a ring do so. Assumes nothing.
use Rattle.std.specs.Prelude.{◌≡◌, ℕ, Bool, true, false, cond, ◌||◌, ◌⊎◌, List, [], ◌∷◌, ◌++◌, ◌==◌, refl}
use Rattle.std.proofs.Common.{sym, ap, ◌∙◌, inl, inr}
use Rattle.std.proofs.lemmas.Bool.{and_parts, and_from, not-true, not_from_false, cases_eq, ne_eqb, eq-eqb, eqb-false, or_left, or_from, or_parts, cond-true, cond_both}
use Rattle.pools.specs.Orders.{listed, apart, put_first, put_last}

-- What holds of an order after a record has joined, wherever it stands.
pub record Joins (joined : List ℕ → ℕ → List ℕ) : Type 0 where
  pub lists : (xs : List ℕ) (x y : ℕ) → listed (joined xs x) y ≡ (y == x || listed xs y)
  pub keeps_apart : (xs : List ℕ) (x : ℕ) → apart xs ≡ true → apart (joined xs x) ≡ true
  pub keeps_member : (xs : List ℕ) (x : ℕ) → listed xs x ≡ true → joined xs x ≡ xs

-- a member adds nothing to what is listed
listed_already : (xs : List ℕ) (x y : ℕ) → listed xs x ≡ true → listed xs y ≡ (y == x || listed xs y)
listed_already xs x y h = by_cases (cases_eq y x)
  where
    by_cases : (y ≡ x) ⊎ (y ≡ x → ⊥) → listed xs y ≡ (y == x || listed xs y)
    by_cases (inl e) = ap (listed xs) e ∙ h ∙ sym (or_left _ _ (eq-eqb y x e))
    by_cases (inr ne) = ap (λ b. b || listed xs y) (sym (ne_eqb y x ne))

pub listed_push : (xs : List ℕ) (x y : ℕ) → listed (xs ++ x ∷ []) y ≡ (y == x || listed xs y)
listed_push [] x y = refl
listed_push (z ∷ xs) x y = ap (λ b. y == z || b) (listed_push xs x y) ∙ swap (y == z) (y == x) (listed xs y)
  where
    swap : (a b c : Bool) → (a || (b || c)) ≡ (b || (a || c))
    swap true true c = refl
    swap true false c = refl
    swap false true c = refl
    swap false false c = refl

pub apart_push : (xs : List ℕ) (x : ℕ) → apart xs ≡ true → listed xs x ≡ false → apart (xs ++ x ∷ []) ≡ true
apart_push [] x a h = refl
apart_push (z ∷ xs) x a h =
    let p = and_parts _ _ a in
    let q = or_parts _ _ h in
    let ne : (z == x) ≡ false = ne_eqb z x (λ e. eqb-false x z q.0 (sym e)) in
    and_from _ _ (not_from_false _ (listed_push xs x z ∙ or_from _ _ ne (not-true _ p.0))) (apart_push xs x p.1 q.1)

-- a member stays where it is, and any other record is added
joins_by : (added : List ℕ → ℕ → List ℕ) → ((xs : List ℕ) (x y : ℕ) → listed (added xs x) y ≡ (y == x || listed xs y)) → ((xs : List ℕ) (x : ℕ) → apart xs ≡ true → listed xs x ≡ false → apart (added xs x) ≡ true) → Joins (λ xs x. cond (listed xs x) xs (added xs x))
joins_by added lists keeps = record {
  lists = λ xs x y. cond_both (listed xs x) _ _ (λ order. listed order y ≡ (y == x || listed xs y)) (listed_already xs x y) (λ e. lists xs x y);
  keeps_apart = λ xs x a. cond_both (listed xs x) _ _ (λ order. apart order ≡ true) (λ e. a) (keeps xs x a);
  keeps_member = λ xs x e. cond-true (listed xs x) _ _ e;
}

pub put_first_joins : Joins put_first
put_first_joins = joins_by (λ xs x. x ∷ xs) (λ xs x y. refl) (λ xs x a e. and_from _ _ (not_from_false _ e) a)

pub put_last_joins : Joins put_last
put_last_joins = joins_by (λ xs x. xs ++ x ∷ []) listed_push apart_push
