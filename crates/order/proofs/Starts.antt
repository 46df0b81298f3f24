-- A new table goes with the ledger's start.
use Rattle.std.proofs.Common.{◌≡◌, false, None, Option, refl, arith}
use Rattle.terms.specs.declared.Record.{Record}
use Rattle.terms.specs.declared.Spot.{Spot}
use Rattle.terms.specs.declared.Spot.TheVariants as at
use Rattle.memory.specs.Shared.{blank, name_at}
use Rattle.order.specs.Theorems.{NewIsRelated}
use Rattle.order.proofs.Begins.{count_none}

blank_names : (q : Spot) → ◌≡◌ {A = Option Record} None (name_at blank q)
blank_names (at.Root g) = refl
blank_names (at.Link r x) = refl

pub new_related : NewIsRelated
new_related z = record {
  names = blank_names;
  standings = λ r. refl;
  holds = λ s r b. let none = count_none (λ i. false) 8 (λ i. refl) in omega (arith, none);
  phases = λ s b. tt;
  past = λ s b. tt;
}
