use Rattle.wgr_laws.proofs.AdoptedPeers.{lines_are_peers, new_peers_are_lines}
use Rattle.wgr_laws.proofs.lines_become_peers.Goals as goal

pub returns : goal.returns
returns c = record { lines = lines_are_peers; new = new_peers_are_lines }
