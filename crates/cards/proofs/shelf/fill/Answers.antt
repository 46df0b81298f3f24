use Rattle.std.proofs.Common.{rules}
use Rattle.cards.specs.Numbers.{bytes_fit}
use Rattle.cards.proofs.shelf.fill.Goals as goal

pub returns : goal.returns
returns g c =
    let fit = bytes_fit c.args.bytes.now c.type_inv.bytes in
    let laws = g.met.C.Card.lawful in
    search rules
