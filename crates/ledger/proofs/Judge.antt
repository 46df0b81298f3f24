-- Each condition of the ledger can be decided.
use Rattle.std.proofs.Common.{◌≡◌, ℕ, zero, suc, ◌<◌, Bool, true, false, ◌≢◌, Some, None, Option, sym, refl, ap, ◌∙◌, subst, inl, inr, arith}
use mathlib.Core.Logic.Dec
use native.Mathlib.Decide.{ℕ_discrete, dec_lt}
use Rattle.std.proofs.lemmas.Bool.{cases_Bool, cases_eq, both_ways}
use Rattle.terms.specs.declared.Record.{Record}
use Rattle.terms.specs.declared.Station.{Station}
use Rattle.terms.specs.declared.Position.{Position}
use Rattle.terms.specs.declared.Spot.{Spot}
use Rattle.terms.specs.declared.Spot.TheVariants.{Root, Link}
use Rattle.terms.specs.declared.Standing.{Standing}
use Rattle.terms.specs.declared.Standing.TheVariants.{Pooled, Fresh, Linked, Retired}
use Rattle.terms.specs.declared.Operation.{Operation}
use Rattle.terms.specs.declared.Operation.TheVariants.{New, Deref, Release, Cas, Store, Delete}
use Rattle.terms.specs.declared.Outcome.{Outcome}
use Rattle.terms.specs.declared.Outcome.TheVariants.{Found, Swapped, Done}
use Rattle.terms.specs.Words.{same_name}
use Rattle.ledger.specs.Ledger.{Sizes, Ledger, following, HoldsName, Reaches, NonePooled, Unheld, Unnamed, NamesNothing, Settled, LeadsTo, OutOfUse, Makes, Acts, lead, clear, return}
use Rattle.ledger.specs.Judge.{ActsCanBeJudged, SilentActsCanBeJudged}
use Rattle.ledger.proofs.Words.{same_name_is, name_same}

-- Whether something holds of all numbers below a bound.
below : (P : ℕ → Type 0) → ((n : ℕ) → Dec (P n)) → (k : ℕ) → Dec ((n : ℕ) → n < k → P n)
below P d zero = yes (λ n h. absurd (none h))
  where
    none : {n : ℕ} → n < 0 → ⊥
    none h = omega arith
below P d (suc k) = Dec.of_iff (more, less) (Dec.and (below P d k) (d k))
  where
    more : ((n : ℕ) → n < k → P n) × P k → (n : ℕ) → n < suc k → P n
    more (all, last) n h = elim (cases_eq n k) [ inl e ↦ subst P (sym e) last | inr other ↦ all n (omega arith) ]

    less : ((n : ℕ) → n < suc k → P n) → ((n : ℕ) → n < k → P n) × P k
    less all = (λ n h. all n (omega arith), all k (omega arith))

-- Whether two names, standings or tests are the same.
is_name : (m n : Option Record) → Dec (m ≡ n)
is_name m n = elim (cases_Bool (same_name m n)) [
  | inl e ↦ yes (same_name_is m n e)
  | inr e ↦ no (λ is. both_ways (same_name m n) e (subst (λ n. same_name m n ≡ true) is (name_same m)))
]

rank : Standing → ℕ
rank Pooled = 0
rank Fresh = 1
rank Linked = 2
rank Retired = 3

ranked : ℕ → Standing
ranked zero = Pooled
ranked (suc zero) = Fresh
ranked (suc (suc zero)) = Linked
ranked (suc (suc (suc n))) = Retired

rank_back : (t : Standing) → ranked (rank t) ≡ t
unfolding rank ranked
rank_back Pooled = refl
rank_back Fresh = refl
rank_back Linked = refl
rank_back Retired = refl

is_standing : (t u : Standing) → Dec (t ≡ u)
is_standing t u = Dec.of_iff (λ e. sym (rank_back t) ∙ ap ranked e ∙ rank_back u, λ e. ap rank e) (ℕ_discrete (rank t) (rank u))

is_test : (a b : Bool) → Dec (a ≡ b)
is_test true true = yes refl
is_test true false = no (λ e. grind arith)
is_test false true = no (λ e. grind arith)
is_test false false = yes refl

-- Whether an answer is the one expected.
is_done : (answer : Outcome) → Dec (answer ≡ Done)
is_done (Found n) = no (λ e. grind arith)
is_done (Swapped b) = no (λ e. grind arith)
is_done Done = yes refl

is_found : (answer : Outcome) (n : Option Record) → Dec (answer ≡ Found n)
is_found (Found m) n = Dec.of_iff (λ e. ap (λ k. Found k) e, λ e. cc) (is_name m n)
is_found (Swapped b) n = no (λ e. grind arith)
is_found Done n = no (λ e. grind arith)

is_swapped : (answer : Outcome) (b : Bool) → Dec (answer ≡ Swapped b)
is_swapped (Found n) b = no (λ e. grind arith)
is_swapped (Swapped a) b = Dec.of_iff (λ e. ap (λ k. Swapped k) e, λ e. cc) (is_test a b)
is_swapped Done b = no (λ e. grind arith)

-- What acts ask.
module _ (z : Sizes) (l : Ledger) where
  not_standing : (r : Record) (t : Standing) → Dec (l.standing r ≢ t)
  not_standing r t = Dec.not (is_standing (l.standing r) t)

  holds_name : (s : Station) (n : Option Record) → Dec (HoldsName l s n)
  holds_name s None = yes tt
  holds_name s (Some r) = dec_lt 0 (l.holds s r)

  reaches : (s : Station) (q : Spot) → Dec (Reaches z l s q)
  reaches s (Root g) = dec_lt g.index z.roots
  reaches s (Link r x) = Dec.and (dec_lt x.index z.positions) (dec_lt 0 (l.holds s r))

  none_pooled : Dec (NonePooled z l)
  none_pooled = Dec.of_iff (λ all r h. all r.number h, λ all n h. all (record { number = n }) h)
      (below (λ n. l.standing (record { number = n }) ≢ Pooled) (λ n. not_standing (record { number = n }) Pooled) z.records)

  unheld : (r : Record) → Dec (Unheld z l r)
  unheld r = Dec.of_iff (λ all s h. all s.number h, λ all n h. all (record { number = n }) h)
      (below (λ n. l.holds (record { number = n }) r ≡ 0) (λ n. ℕ_discrete (l.holds (record { number = n }) r) 0) z.stations)

  bare : (r : Record) → Dec (NamesNothing z l r)
  bare r = Dec.of_iff (λ all x h. all x.index h, λ all n h. all (record { index = n }) h)
      (below (λ n. l.names (Link r (record { index = n })) ≡ None) (λ n. is_name (l.names (Link r (record { index = n }))) None) z.positions)

  unnamed : (r : Record) → Dec (Unnamed z l r)
  unnamed r = Dec.of_iff (all, λ h. (λ n i. h (Root (record { index = n })) i, λ n i m j. h (Link (record { number = n }) (record { index = m })) (i, j)))
      (Dec.and (below AtRoot (λ n. unlike (Root (record { index = n }))) z.roots)
      (below (λ n. (m : ℕ) → m < z.positions → AtLink n m)
      (λ n. below (AtLink n) (λ m. unlike (Link (record { number = n }) (record { index = m }))) z.positions) z.records))
    where
      AtRoot : ℕ → Type 0
      AtRoot n = l.names (Root (record { index = n })) ≢ Some r

      AtLink : ℕ → ℕ → Type 0
      AtLink n m = l.names (Link (record { number = n }) (record { index = m })) ≢ Some r

      unlike : (q : Spot) → Dec (l.names q ≢ Some r)
      unlike q = Dec.not (is_name (l.names q) (Some r))

      all : ((n : ℕ) → n < z.roots → AtRoot n) × ((n : ℕ) → n < z.records → (m : ℕ) → m < z.positions → AtLink n m) → Unnamed z l r
      all (roots, links) (Root g) i = roots g.index i
      all (roots, links) (Link m x) (i, j) = links m.number i x.index j

  left : (r : Record) → Dec (OutOfUse z l r)
  left r = Dec.of_iff (λ ((a, b), c). (a, b, c), λ (a, b, c). ((a, b), c)) (Dec.and (Dec.and (is_standing (l.standing r) Retired) (unheld r)) (unnamed r))

  settled : (n : Option Record) → Dec (Settled l n)
  settled None = yes tt
  settled (Some r) = Dec.and (not_standing r Pooled) (not_standing r Fresh)

  leads_to : (x : Position) (m n : Option Record) → Dec (LeadsTo z l x m n)
  leads_to x None n = no (λ h. h)
  leads_to x (Some m) n = Dec.and (is_standing (l.standing m) Retired) (is_test (l.since m (following z x) n) true)

  -- The acts.
  makes : (s : Station) (answer : Outcome) → Dec ((after : Ledger) × Makes z l s answer after)
  makes s (Found None) = Dec.of_iff (λ h. (l, (h, refl)), λ (_, (h, _)). h) none_pooled
  makes s (Found (Some r)) = Dec.of_iff (λ (a, b). (_, (a, b, refl)), λ (_, (a, b, _)). (a, b))
      (Dec.and (dec_lt r.number z.records) (is_standing (l.standing r) Pooled))
  makes s (Swapped b) = no (λ (_, h). h)
  makes s Done = no (λ (_, h). h)

  acts : (s : Station) (op : Operation) (answer : Outcome) → Dec ((after : Ledger) × Acts z l s op answer after)
  acts s New answer = makes s answer
  acts s (Deref q) answer = Dec.of_iff (λ (a, b). (_, (a, b, refl)), λ (_, (a, b, _)). (a, b)) (Dec.and (reaches s q) (is_found answer (l.names q)))
  acts s (Release r) answer = Dec.of_iff (λ ((a, b), c). (_, (a, b, c, refl)), λ (_, (a, b, c, _)). ((a, b), c))
      (Dec.and (Dec.and (holds_name s (Some r)) (not_standing r Fresh)) (is_done answer))
  acts s (Cas q old new) answer = Dec.of_iff (λ ((a, b), c). (_, (a, b, c, refl)), λ (_, (a, b, c, _)). ((a, b), c))
      (Dec.and (Dec.and (reaches s q) (holds_name s new)) (is_swapped answer (same_name (l.names q) old)))
  acts s (Store r x new) answer = Dec.of_iff (λ ((a, b), (c, d)). (_, (a, b, c, d, refl)), λ (_, (a, b, c, d, _)). ((a, b), (c, d)))
      (Dec.and (Dec.and (reaches s (Link r x)) (is_standing (l.standing r) Fresh)) (Dec.and (holds_name s new) (is_done answer)))
  acts s (Delete r) answer = Dec.of_iff (λ ((a, b), c). (_, (a, b, c, refl)), λ (_, (a, b, c, _)). ((a, b), c))
      (Dec.and (Dec.and (holds_name s (Some r)) (not_standing r Retired)) (is_done answer))

pub acts_can_be_judged : ActsCanBeJudged
acts_can_be_judged z l s op answer =
    Dec.of_iff (λ (b, (after, a)). (after, (b, a)), λ (after, (b, a)). (b, (after, a))) (Dec.and (dec_lt s.number z.stations) (acts z l s op answer))

pub silent_acts_can_be_judged : SilentActsCanBeJudged
silent_acts_can_be_judged z l (lead r x n) = Dec.of_iff (λ ((a, b), c). (_, (a, b, c, refl)), λ (_, (a, b, c, _)). ((a, b), c))
    (Dec.and (Dec.and (is_standing (l.standing r) Retired) (leads_to z l x (l.names (Link r x)) n)) (settled z l n))
silent_acts_can_be_judged z l (clear r x) = Dec.of_iff (λ (a, b). (_, (a, b, refl)), λ (_, (a, b, _)). (a, b))
    (Dec.and (left z l r) (Dec.and (dec_lt r.number z.records) (dec_lt x.index z.positions)))
silent_acts_can_be_judged z l (return r) = Dec.of_iff (λ (a, b). (_, (a, b, refl)), λ (_, (a, b, _)). (a, b)) (Dec.and (left z l r) (bare z l r))
