use Rattle.std.proofs.Common.{refl}
use Rattle.terms.proofs.Puts.{reads_set, put_past}
use Rattle.terms.proofs.tables.set_word.Goals as goal

pub returns-then-i-words : goal.returns-then-i-words
returns-then-i-words g c d = reads_set d _ c.args.i _ c.args.v refl

pub returns-else-i-words : goal.returns-else-i-words
returns-else-i-words g c d = put_past _ _ c.args.i c.args.v c.if-i-words.false
