use Rattle.wgr_laws.proofs.OwnPeers.{added_as_asked, added_counts, moved_alone, renewed_alone, routes_stay}
use Rattle.wgr_laws.proofs.only_what_is_asked_changes.Goals as goal

pub returns : goal.returns
returns c = record { added = added_as_asked; next = added_counts; moved = moved_alone; renewed = renewed_alone; routes = routes_stay }
