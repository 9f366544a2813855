use Rattle.sqlite.specs.WalFiles.{image_at}
use Rattle.wgr_file.proofs.FileLemmas.{ended}
use Rattle.wgr_file.proofs.order.operate.Goals as goal

pub returns-clause-ended : goal.returns-clause-ended
returns-clause-ended g c =
    ended c.in_ok-register.register c.operate-ended.new.self (image_at g.S.Start) c.close.result c.args.order.now c.operate-ended.result c.in_ok-register.ensures.open c.operate-ended.ensures.clean c.operate-ended.ensures.ends c.operate-ended.ensures.stops
    c.close.ensures
