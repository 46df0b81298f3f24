use Rattle.std.proofs.Common.{rules}
use Rattle.memory.specs.Shared.{blank_record}
use Rattle.memory.proofs.Together.{record_words_put}
use Rattle.memory.proofs.memory.Memory.update_record.Goals as goal

pub returns : goal.returns
returns g c = (_, search rules, record_words_put c.args.self.now _ c.args.r.number _ _ (search rules) (c.set_word.ensures blank_record))
