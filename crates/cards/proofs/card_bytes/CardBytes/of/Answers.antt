use Rattle.std.proofs.Common.{rules}
use Rattle.std.proofs.lemmas.List.{take_min}
use Rattle.cards.proofs.card_bytes.CardBytes.of.Goals as goal

pub returns : goal.returns
returns c = let e = take_min 61 c.args.bytes.now in search rules
