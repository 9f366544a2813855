use Rattle.wgr_words.proofs.EndpointLemmas.{no_listener}
use Rattle.wgr_words.proofs.endpoint.read_address.Goals as goal

pub returns-in-Err-clause-none : goal.returns-in-Err-clause-none
returns-in-Err-clause-none c = no_listener c.args.text.now c.in_ok-unbracketed.field-0.now c.in_default.ensures c.in_ok-unbracketed.ensures.some c.in-Err.ensures
