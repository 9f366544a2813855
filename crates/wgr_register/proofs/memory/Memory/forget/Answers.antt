use Rattle.wgr_register.proofs.memory.Memory.forget.Goals as goal

pub returns : goal.returns
returns c t is = record { networks = c.forget.ensures t is.networks; files = c.drop_files.ensures t is.files; outlines = c.forget_outline.ensures t is.outlines }
