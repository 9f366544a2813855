use Rattle.std.proofs.Common.{sym, ◌∙◌, ap}
use Rattle.wgr_peers.specs.Peers.{expired, expired_addresses}
use Rattle.wgr_peers.proofs.TableLemmas.{none_expired}
use Rattle.wgr_peers.proofs.peer_table.PeerTable.expired.Goals as goal

pub returns-then-now-self-clause-numbers : goal.returns-then-now-self-clause-numbers
returns-then-now-self-clause-numbers c = c.new.ensures ∙ sym (none_expired _ c.args.now _ c.if-now-self.true c.self.invariant.ends).0 ∙ ap (expired c.args.now) c.self.view_is

pub returns-then-now-self-clause-addresses : goal.returns-then-now-self-clause-addresses
returns-then-now-self-clause-addresses c = c.new-2.ensures ∙ sym (none_expired _ c.args.now _ c.if-now-self.true c.self.invariant.ends).1 ∙ ap (expired_addresses c.args.now) c.self.view_is
