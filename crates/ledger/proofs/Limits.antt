-- What the ledger never allows.
use Rattle.std.proofs.Common.{◌≡◌, ℕ, ◌<◌, Bool, true, ◌≢◌, Some, None, Option, sym, refl, ap, ◌∙◌, subst, arith}
use Rattle.std.proofs.lemmas.Bool.{both_ways}
use Rattle.terms.specs.declared.Record.{Record}
use Rattle.terms.specs.declared.Station.{Station}
use Rattle.terms.specs.declared.Operation.{Operation}
use Rattle.terms.specs.declared.Operation.TheVariants.{New, Deref, Release, Cas, Store, Delete}
use Rattle.terms.specs.declared.Outcome.{Outcome}
use Rattle.terms.specs.declared.Outcome.TheVariants.{Found, Swapped, Done}
use Rattle.terms.specs.Words.{same_name}
use Rattle.ledger.specs.Ledger.{Sizes, Ledger, LeadsTo, Acts, Makes}
use Rattle.ledger.specs.Limits.{NewFindsWhatIsPooled, DerefFindsWhatIsNamed, LinksNeedHolds, ReleaseHasLimits, CasHasLimits, StoreHasLimits, DeleteHasLimits, LeadHasLimits, ReturnHasLimits, ActsAreSettled}
use Rattle.ledger.proofs.Words.{same_name_is, name_same}

pub new_finds : NewFindsWhatIsPooled
new_finds z l s r = (λ below pooled after (_, (none, _)). none r below pooled, λ not after (_, (_, pooled, _)). not pooled)

found_in : Outcome → Option Record
found_in (Found n) = n
found_in (Swapped b) = None
found_in Done = None

swapped_in : Outcome → Bool
swapped_in (Found n) = true
swapped_in (Swapped b) = b
swapped_in Done = true

pub deref_finds : DerefFindsWhatIsNamed
unfolding found_in
deref_finds z l s q n other after (_, (_, said, _)) = other (sym (ap found_in said))

pub links_need_holds : LinksNeedHolds
links_need_holds z l s r x old new none = (
  λ answer after (_, ((_, held), _, _)). omega arith,
  λ answer after (_, ((_, held), _, _, _)). omega arith,
  λ answer after (_, ((_, held), _, _, _, _)). omega arith,
)

pub release_limits : ReleaseHasLimits
release_limits z l s r = (λ fresh answer after (_, (_, not, _, _)). not fresh, λ none answer after (_, (held, _, _, _)). omega arith)

pub cas_limits : CasHasLimits
unfolding swapped_in
cas_limits z l s q old new r = (
  λ other after (_, (_, _, said, _)). other (same_name_is (l.names q) old (sym (ap swapped_in said))),
  λ is after (_, (_, _, said, _)). both_ways (same_name (l.names q) old) (sym (ap swapped_in said)) (subst (λ n. same_name (l.names q) n ≡ true) is (name_same (l.names q))),
  λ none answer after (_, (_, held, _, _)). omega arith,
)

pub store_limits : StoreHasLimits
store_limits z l s r x new not answer after (_, (_, fresh, _, _, _)) = not fresh

pub delete_limits : DeleteHasLimits
delete_limits z l s r = (λ retired answer after (_, (_, not, _, _)). not retired, λ none answer after (_, (held, _, _, _)). omega arith)

pub lead_limits : LeadHasLimits
lead_limits z l r m t x n = (
  λ names never after (_, to, _, _). both_ways _ never (subst (λ k. LeadsTo z l x k n) names to).1,
  λ pooled after (_, _, (not, _), _). not pooled,
  λ fresh after (_, _, (_, not), _). not fresh,
)

pub return_limits : ReturnHasLimits
return_limits z l r x = (
  λ q inside is. (λ after ((_, _, unnamed), _, _). unnamed q inside is, λ after ((_, _, unnamed), _, _). unnamed q inside is),
  λ s below held. (λ after ((_, unheld, _), _, _). none (unheld s below) held, λ after ((_, unheld, _), _, _). none (unheld s below) held),
  λ not. (λ after ((retired, _, _), _, _). not retired, λ after ((retired, _, _), _, _). not retired),
  λ below not after (_, bare, _). not (bare x below),
)
  where
    none : {n : ℕ} → n ≡ 0 → 0 < n → ⊥
    none e h = omega arith

makes_settled : (z : Sizes) (l : Ledger) (s : Station) (answer : Outcome) (one other : Ledger) → Makes z l s answer one → Makes z l s answer other → one ≡ other
makes_settled z l s (Found None) one other (_, a) (_, b) = a ∙ sym b
makes_settled z l s (Found (Some r)) one other (_, _, a) (_, _, b) = a ∙ sym b
makes_settled z l s (Swapped x) one other a b = absurd a
makes_settled z l s Done one other a b = absurd a

pub acts_settled : ActsAreSettled
acts_settled z l s op first second one other (_, a) (_, b) = by op first second one other a b
  where
    by : (op : Operation) (first second : Outcome) (one other : Ledger) → Acts z l s op first one → Acts z l s op second other →
        (op ≢ New → first ≡ second) × (first ≡ second → one ≡ other)
    by New first second one other a b = (λ not. absurd (not refl), λ e. makes_settled z l s second one other (subst (λ o. Makes z l s o one) e a) b)
    by (Deref q) first second one other (_, a, c) (_, b, d) = (λ _. a ∙ sym b, λ _. c ∙ sym d)
    by (Release r) first second one other (_, _, a, c) (_, _, b, d) = (λ _. a ∙ sym b, λ _. c ∙ sym d)
    by (Cas q old new) first second one other (_, _, a, c) (_, _, b, d) = (λ _. a ∙ sym b, λ _. c ∙ sym d)
    by (Store r x new) first second one other (_, _, _, a, c) (_, _, _, b, d) = (λ _. a ∙ sym b, λ _. c ∙ sym d)
    by (Delete r) first second one other (_, _, a, c) (_, _, b, d) = (λ _. a ∙ sym b, λ _. c ∙ sym d)
