use Rattle.laws.proofs.spots_name_no_pooled_record.Goals as goal
use Rattle.laws.proofs.Promises.{sound_safe}

pub returns : goal.returns
returns c = sound_safe
