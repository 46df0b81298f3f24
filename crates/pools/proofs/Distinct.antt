-- A list with no number twice, of numbers below a bound, is no longer than the bound. Assumes nothing.
use Rattle.std.proofs.Common.{◌≡◌, ℕ, ◌<◌, ◌≤◌, true, false, ◌||◌, eqb, List, [], ◌∷◌, length, sym, refl, ap, ◌∙◌}
use Rattle.std.specs.List.{IsDistinct, AllByRecursion, list_any}
use Rattle.std.proofs.lemmas.Bool.{and_parts, or_parts, not-true}
use Rattle.std.proofs.lemmas.Map.Steps.{length-le_from_distinct_below}
use Rattle.pools.specs.Orders.{listed, apart}

list_any-listed : (xs : List ℕ) (x : ℕ) → list_any (eqb x) xs ≡ listed xs x
list_any-listed [] x = refl
list_any-listed (y ∷ ys) x = ap (λ b. eqb x y || b) (list_any-listed ys x)

differs : (xs : List ℕ) (x : ℕ) → listed xs x ≡ false → AllByRecursion (λ y. eqb x y ≡ false) xs
differs [] x h = tt
differs (y ∷ ys) x h = let p = or_parts _ _ h in (p.0, differs ys x p.1)

IsDistinct-from_apart : (xs : List ℕ) → apart xs ≡ true → IsDistinct eqb xs
unfolding IsDistinct
IsDistinct-from_apart [] a = tt
IsDistinct-from_apart (x ∷ xs) a = let p = and_parts _ _ a in (differs xs x (not-true _ p.0), IsDistinct-from_apart xs p.1)

pub length_below : (xs : List ℕ) (n : ℕ) → apart xs ≡ true → ((x : ℕ) → listed xs x ≡ true → x < n) → length xs ≤ n
length_below xs n a h = length-le_from_distinct_below xs n (IsDistinct-from_apart xs a) (λ x e. h x (sym (list_any-listed xs x) ∙ e))
