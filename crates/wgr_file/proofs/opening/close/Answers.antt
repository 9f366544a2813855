use Rattle.wgr_file.proofs.FileLemmas.{closed_as}
use Rattle.wgr_file.proofs.opening.close.Goals as goal

pub returns : goal.returns
returns g c = closed_as c.into_connection.result c.args.register c.close.result c.into_connection.ensures c.close.ensures
