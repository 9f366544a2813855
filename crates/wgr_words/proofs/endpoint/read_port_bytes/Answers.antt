use Rattle.wgr_words.proofs.EndpointLemmas.{port_is_text}
use Rattle.wgr_words.proofs.endpoint.read_port_bytes.Goals as goal

pub returns-in-Err-clause-none : goal.returns-in-Err-clause-none
returns-in-Err-clause-none c n is = c.in-Err.ensures.cases.0 (port_is_text c.args.digits.now n is)
