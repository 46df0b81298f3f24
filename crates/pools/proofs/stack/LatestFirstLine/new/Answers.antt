-- Each place is written with its record, so that they are issued from 0 upward.
use Rattle.std.proofs.Common.{◌≡◌, ◌-◌, ◌<◌, length, refl, ◌∙◌, ap, arith, length-set}
use Rattle.std.proofs.lemmas.List.Edits.{fill_by_more}
use Rattle.std.specs.List.{range_with_len}
use Rattle.pools.proofs.Stacking.{stacked_new}
use Rattle.pools.proofs.stack.LatestFirstLine.new.Goals as goal
use Rattle.std.specs.Prelude.{reverse}

pub loop-k-init : goal.loop-k-init
loop-k-init c = ((λ j h. absurd (omega arith)), refl)

pub loop-k-preserved : goal.loop-k-preserved
loop-k-preserved c =
    let m = c.args.settings.now.records in
    let k = c.loop-k.k in
    let in' : k < length c.loop-k.items = omega (arith, c.loop-k.invariant.1, c.args.settings.now.records_in) in
    (fill_by_more (λ j. m - 1 - j) c.loop-k.items k 0 in' c.loop-k.invariant.0, length-set c.loop-k.items k (m - 1 - k) ∙ c.loop-k.invariant.1)

pub returns : goal.returns
returns c =
    ap reverse c.first_of-items.ensures
    ∙ stacked_new c.loop-k.items c.args.settings.now.records c.args.settings.now.records (omega arith) (omega (arith, c.loop-k.invariant.1, c.args.settings.now.records_in)) (λ j h. c.loop-k.invariant.0 j (omega arith))
    ∙ ap (λ from. range_with_len from c.args.settings.now.records) (omega arith)
