use Rattle.sqlite.specs.WalFiles.{image_at}
use Rattle.wgr_file.proofs.FileLemmas.{sound_of, those_of}
use Rattle.wgr_file.proofs.database.make.Goals as goal

pub returns-in-Ok-clause-sound : goal.returns-in-Ok-clause-sound
returns-in-Ok-clause-sound g c = sound_of c.in-Ok.conn c.in-Ok.ensures.opened

pub returns-in-Ok-clause-found : goal.returns-in-Ok-clause-found
returns-in-Ok-clause-found g c = those_of c.in-Ok.conn (image_at g.S.Start) c.in-Ok.ensures.opened c.in-Ok.ensures.found
