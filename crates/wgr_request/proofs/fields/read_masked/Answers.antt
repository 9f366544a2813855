use Rattle.wgr_request.proofs.fields.read_masked.Goals as goal

pub returns-in-None : goal.returns-in-None
returns-in-None c p s = c.in-None.ensures.none s.0 s.1 s.2
