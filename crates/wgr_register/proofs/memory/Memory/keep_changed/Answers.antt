use Rattle.wgr_register.specs.Loaded.{entries_of}
use Rattle.wgr_register.proofs.LoadedLemmas.{formed_others}
use Rattle.wgr_register.proofs.memory.Memory.keep_changed.Goals as goal

pub returns : goal.returns
returns c t is own = record { networks = c.keep_changed.ensures t (formed_others c.args.id (entries_of c.args.self.now.networks) t is.networks) own; files = is.files; outlines = is.outlines }
