use Rattle.wgr_register.proofs.memory.Memory.made_text.Goals as goal

pub returns-clause-rest : goal.returns-clause-rest
returns-clause-rest g c t is formed = record { networks = is.networks; files = c.made_text.ensures.current t is.files formed; outlines = is.outlines }
