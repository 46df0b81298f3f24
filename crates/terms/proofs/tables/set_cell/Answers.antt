use Rattle.std.proofs.Common.{rules, [], refl, ap, ◌∙◌, ◌≡◌, ℕ, length, get_or}
use Rattle.terms.specs.Words.{put, put_in, cells, reads}
use Rattle.terms.proofs.Puts.{cells_set, put_past}
use Rattle.terms.proofs.tables.set_cell.Goals as goal

pub returns-then-i-rows : goal.returns-then-i-rows
unfolding put_in cells reads
returns-then-i-rows g c d =
    let wide : length (get_or c.args.rows.now c.args.i []) ≡ g.row.W = search rules in
    cells_set d c.args.rows.now c.set_word.new.words c.args.i _ _ refl
    (c.set_word.ensures d ∙ ap (λ (w : ℕ). put w (reads d (get_or c.args.rows.now c.args.i [])) c.args.x c.args.v) wide)

pub returns-else-i-rows : goal.returns-else-i-rows
unfolding put_in
returns-else-i-rows g c d = put_past _ _ c.args.i _ c.if-i-rows.false
