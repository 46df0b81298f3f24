use Rattle.ledger.proofs.acts_have_limits.Goals as goal
use Rattle.ledger.proofs.Limits.{new_finds, deref_finds, links_need_holds, release_limits, cas_limits, store_limits, delete_limits}

pub returns : goal.returns
returns c = record { makes = new_finds; follows = deref_finds; links = links_need_holds; releases = release_limits; swaps = cas_limits; stores = store_limits; withdraws = delete_limits }
