-- A set from which members are taken one by one, and the list of those taken. Assumes nothing.
use Rattle.std.proofs.Common.{◌≡◌, ℕ, ◌<◌, ◌≤◌, Bool, true, false, ◌||◌, List, [], ◌∷◌, ◌++◌, length, Some, sym, refl, ap, ◌∙◌, arith}
use mathlib.Core.Path.{fun_ext}
use Rattle.std.proofs.lemmas.Bool.{cases_Bool, or_left}
use Rattle.std.proofs.lemmas.Bool.Decides.{nat_tests}
use Rattle.std.proofs.lemmas.List.{length_push}
use Rattle.pools.specs.Sets.{without}
use Rattle.pools.specs.Orders.{listed, apart}
use Rattle.pools.specs.Joining.{listed_push, apart_push}
use Rattle.pools.proofs.Distinct.{length_below}

-- `s` at the start, `xs` taken so far, `t` left
pub record Drained (s : ℕ → Bool) (xs : List ℕ) (t : ℕ → Bool) : Type 0 where
  pub once : apart xs ≡ true
  pub all : (x : ℕ) → s x ≡ (listed xs x || t x)
  pub left : (x : ℕ) → t x ≡ true → listed xs x ≡ false

pub drained_none : (s : ℕ → Bool) → Drained s [] s
drained_none s = record { once = refl; all = λ x. refl; left = λ x h. refl }

pub drained_more : (s t : ℕ → Bool) (xs : List ℕ) (node : ℕ) → Drained s xs t → t node ≡ true → Drained s (xs ++ node ∷ []) (without (Some node) t)
drained_more s t xs node d h = record {
  once = apart_push xs node d.once (d.left node h);
  all = λ x. let e = d.all x in let p = listed_push xs node x in grind (arith, nat_tests, e, p, h, cases_Bool (t x), cases_Bool (listed xs x));
  left = λ x q. let f = d.left x in let p = listed_push xs node x in grind (arith, nat_tests, f, p, q, cases_Bool (t x), cases_Bool (listed xs x));
}

pub drained_all : (s t : ℕ → Bool) (xs : List ℕ) → Drained s xs t → ((x : ℕ) → t x ≡ false) → listed xs ≡ s
drained_all s t xs d e = fun_ext (λ x. sym (d.all x ∙ ap (λ b. listed xs x || b) (e x) ∙ none (listed xs x)))
  where
    none : (b : Bool) → (b || false) ≡ b
    none true = refl
    none false = refl

-- where each member of `s` is below a bound, what was taken leaves room for a member that is left
pub drained_room : (s t : ℕ → Bool) (xs : List ℕ) (node n : ℕ) → Drained s xs t → t node ≡ true → ((x : ℕ) → s x ≡ true → x < n) → length xs < n
drained_room s t xs node n d h below =
    let more = drained_more s t xs node d h in
    let few : length (xs ++ node ∷ []) ≤ n = length_below _ n more.once (λ x l. below x (more.all x ∙ or_left (listed (xs ++ node ∷ []) x) _ l)) in
    omega (arith, few, length_push xs node)
