use Rattle.std.proofs.Common.{None}
use Rattle.sqlite.specs.WalFiles.{image_at}
use Rattle.wgr_file.proofs.FileLemmas.{stays_open}
use Rattle.wgr_prog.proofs.AnsweringLemmas.{same_office}
use Rattle.wgr_prog.proofs.request_words.open_office.Goals as goal

pub returns-in-Ok-clause-open : goal.returns-in-Ok-clause-open
returns-in-Ok-clause-open g c = same_office _ _ None c.in_ok-register.register c.in-Ok.office c.in-Ok.ensures.ok c.in_ok-register.ensures.open

pub returns-in-Err-clause-kept : goal.returns-in-Err-clause-kept
returns-in-Err-clause-kept g c =
    stays_open c.in_ok-register.register c.in-Err.register (image_at g.S.Start) c.close.result c.in_ok-register.ensures.open c.in-Err.ensures.err c.close.ensures
