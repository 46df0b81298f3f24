use Rattle.std.proofs.Common.{rules, ◌≡◌, None, Some, true, false, ap, sym, ◌∙◌}
use Rattle.std.proofs.lemmas.Iterator.{YieldsList-from_slice, IsFirst-from_position}
use Rattle.std.specs.Option.{unwrap_or}
use borrow.Author.Tests.{tests}
use Rattle.terms.specs.Words.{same_name}
use Rattle.memory.specs.Shared.{view, set_slot, lowest_naming}
use Rattle.memory.proofs.Lowest.{lowest_first, released_none}
use Rattle.memory.proofs.memory.Memory.release.Goals.{After-position}
use Rattle.memory.proofs.memory.Memory.release.Goals as goal

lowest : (c : After-position) → unwrap_or c.position.result 8 ≡ lowest_naming ((view c.args.self.now).slots c.args.station.number) c.args.r
lowest c = lowest_first c.own_slots-slots.result _ c.args.r c.position.result (search rules) c.own_slots-slots.ensures
    (IsFirst-from_position _ _ c.position.result (λ v. same_name v (Some c.args.r) ≡ true) (λ v. same_name v (Some c.args.r) ≡ false) c.position.ensures.ran
    (YieldsList-from_slice c.own_slots-slots.result cc) (λ x q k. search (rules, tests)) (λ x q k. search (rules, tests)))

pub returns-in-Some : goal.returns-in-Some
returns-in-Some c = c.set_slot.ensures ∙
    ap (λ i. set_slot (view c.args.self.now) c.args.station.number i None) (ap (λ o. unwrap_or o 8) (sym c.in-Some.is) ∙ lowest (goal.at.returns-in-Some c).After-position)

pub returns-in_default : goal.returns-in_default
returns-in_default c = released_none c.args.self.now c.args.station.number c.args.r
    (ap (λ o. unwrap_or o 8) (sym c.in_default.is) ∙ lowest (goal.at.returns-in_default c).After-position)
