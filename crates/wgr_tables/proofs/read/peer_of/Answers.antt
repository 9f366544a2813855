use Rattle.std.proofs.Common.{rules, ◌≡◌, ap}
use Rattle.sqlite.specs.Order.{Row}
use Rattle.sqlite_value.specs.Order.{column}
use Rattle.wgr_peers.specs.declared.peer.Peer.{Peer}
use Rattle.wgr_model.specs.Rows.{peer_row}
use Rattle.wgr_columns.specs.Fields.{IsPeerIdAt}
use Rattle.wgr_columns.specs.Stored.{IsKeptPeer, stored_peer}
use Rattle.wgr_tables.proofs.read.peer_of.Goals as goal

pub returns-in_err-number-clause-only : goal.returns-in_err-number-clause-only
returns-in_err-number-clause-only c =
    let there : (p : Peer) → IsKeptPeer p → c.args.row.now ≡ stored_peer (peer_row c.args.network p) → IsPeerIdAt c.args.row.now 0 c.args.network = (λ p kept is. (p.number, kept.number, ap (λ (x : Row). column x 0) is)) in
    search (rules, there)
