use Rattle.wgr_register.proofs.memory.Memory.kept_text.Goals as goal

pub returns-clause-text : goal.returns-clause-text
returns-clause-text g c t is = c.kept_text.ensures.text t is.files

pub returns-clause-rest : goal.returns-clause-rest
returns-clause-rest g c t is = record { networks = is.networks; files = c.kept_text.ensures.current t is.files; outlines = is.outlines }
