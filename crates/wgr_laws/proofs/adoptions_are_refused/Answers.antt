use Rattle.wgr_laws.proofs.AdoptCounts.{adopt_refusals, other_servers_are_refused}
use Rattle.wgr_laws.proofs.adoptions_are_refused.Goals as goal

pub returns : goal.returns
returns c = record { refusals = adopt_refusals; other = other_servers_are_refused }
