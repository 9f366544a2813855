use Rattle.wgr_text.proofs.RoundTrips.{written_addr, written_prefix}
use Rattle.wgr_text.proofs.laws.written_is_read_back.Goals as goal

pub returns : goal.returns
returns c = record { address = written_addr; prefix = written_prefix }
