use Rattle.wgr_file.proofs.FileLemmas.{killed_left}
use Rattle.wgr_file.proofs.laws.killed.Goals as goal

pub returns : goal.returns
returns g c =
    killed_left c.args.register c.into_store.result c.close.result c.into_store.ensures.numbered c.into_store.ensures.sound (rw c.into_connection.ensures at c.into_store.ensures.quiet) c.close.ensures
