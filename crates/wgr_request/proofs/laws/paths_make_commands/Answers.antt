use Rattle.wgr_request.proofs.Asking.{path_lists}
use Rattle.wgr_request.proofs.Making.{paths_make}
use Rattle.wgr_request.proofs.laws.paths_make_commands.Goals as goal

pub returns : goal.returns
returns c = record { commands = paths_make; networks = path_lists }
