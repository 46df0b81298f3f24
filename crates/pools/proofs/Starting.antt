-- What a new pool's order lists. Assumes nothing.
use Rattle.std.proofs.Common.{◌≡◌, ℕ, zero, suc, ◌+◌, ◌-◌, ◌<◌, ◌≤◌, Bool, true, false, ◌&&◌, ltb, leb, List, ◌++◌, length, get_or, replicate, drop, sym, refl, ap, ◌∙◌, ⊎_elim, subst, arith}
use Rattle.std.proofs.lemmas.List.{get_or-replicate, get_or_past, get_or-append_right, get_or-drop, length-replicate}
use Rattle.std.proofs.Math.ListN.{get_or-append}
use Rattle.std.proofs.lemmas.Bool.{and_from, and_left, not_from_false, lt-leb, ltb-true, lt-ltb, le-ltb, cases_lt}
use Rattle.std.proofs.lemmas.Bool.Decides.{nat_tests}
use Rattle.std.specs.List.{range_with_len}
use Rattle.pools.specs.Sets.{numbers_below}
use Rattle.pools.specs.Orders.{listed, apart, marked, Kept}

listed_counting : (a n x : ℕ) → listed (range_with_len a n) x ≡ (leb a x && ltb x (a + n))
listed_counting a zero x = grind (arith, nat_tests)
listed_counting a (suc n) x =
    let ih : listed (range_with_len (a + 1) n) x ≡ (leb (a + 1) x && ltb x (a + 1 + n)) = listed_counting (a + 1) n x in
    grind (arith, nat_tests, ih)

apart_counting : (a n : ℕ) → apart (range_with_len a n) ≡ true
apart_counting a zero = refl
apart_counting a (suc n) =
    and_from _ _ (not_from_false _ (listed_counting (a + 1) n a ∙ and_left _ _ (lt-leb (a + 1) a (omega arith)))) (apart_counting (a + 1) n)

listed_all : (m x : ℕ) → listed (range_with_len 0 m) x ≡ ltb x m
listed_all m x =
    let e : listed (range_with_len 0 m) x ≡ (leb 0 x && ltb x (0 + m)) = listed_counting 0 m x in
    grind (arith, nat_tests, e)

-- every record of the table, from 0 upward
pub kept_new : (order : List ℕ) (members : List Bool) (m : ℕ) → order ≡ range_with_len 0 m → marked members ≡ numbers_below m → m ≤ 128 → length members ≡ 128 → Kept order members m
kept_new order members m e marks few long =
    subst (λ o. Kept o members m) (sym e)
    record {
      once = apart_counting 0 m;
      marks = λ x. ap (λ (s : ℕ → Bool). s x) marks ∙ sym (listed_all m x);
      inside = λ x h. ltb-true x m (sym (listed_all m x) ∙ h);
      few = few;
      places = long;
    }

-- a number stands nowhere in a list of one value but past its end, where the same value is read
same_everywhere : (n x : ℕ) → get_or (replicate n false) x false ≡ false
same_everywhere n x = ⊎_elim (λ l. get_or-replicate n x false false l) (λ l. get_or_past (replicate n false) x false (omega (arith, length-replicate n false))) (cases_lt x n)

-- the marks of the first `m` numbers, of 128
pub marks_of : (front : List Bool) (m x : ℕ) → front ≡ replicate m true → get_or (front ++ drop m (replicate 128 false)) x false ≡ ltb x m
marks_of front m x e = ap (λ f. get_or (f ++ drop m (replicate 128 false)) x false) e ∙ ⊎_elim below past (cases_lt x m)
  where
    long : length (replicate m true) ≡ m
    long = length-replicate m true

    below : x < m → get_or (replicate m true ++ drop m (replicate 128 false)) x false ≡ ltb x m
    below l = get_or-append (replicate m true) _ false x (omega (arith, long)) ∙ get_or-replicate m x true false l ∙ sym (lt-ltb x m l)

    past : m ≤ x → get_or (replicate m true ++ drop m (replicate 128 false)) x false ≡ ltb x m
    past l = get_or-append_right (replicate m true) _ m x false long l ∙ get_or-drop m (replicate 128 false) (x - m) false ∙ same_everywhere 128 (m + (x - m)) ∙ sym (le-ltb x m l)
