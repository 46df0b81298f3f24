use Rattle.std.proofs.Common.{rules}
use Rattle.memory.specs.Shared.{blank_place}
use Rattle.memory.proofs.Together.{place_words_put}
use Rattle.memory.proofs.memory.Memory.update_place.Goals as goal

pub returns : goal.returns
returns g c = (_, search rules, place_words_put c.args.self.now _ _ _ _ _ (search rules) (c.set_cell.ensures blank_place))
