use Rattle.wgr_reopen.proofs.AgainLemmas.{stop_is_left}
use Rattle.wgr_reopen.proofs.stopped.Goals as goal

pub returns-clause-left : goal.returns-clause-left
returns-clause-left g c =
    stop_is_left c.args.register c.into_store.result c.close-files.result (record { log = c.crash.new.self; db = c.crash-2.new.self }) c.into_store.ensures.numbered c.into_store.ensures.sound
    (rw c.into_connection.ensures at c.into_store.ensures.quiet) c.close-files.ensures c.crash.ensures.left c.crash-2.ensures.left c.crash.ensures.clean c.crash-2.ensures.clean
