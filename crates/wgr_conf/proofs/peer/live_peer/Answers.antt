use Rattle.std.proofs.Common.{sym}
use Rattle.wgr_peers.specs.Peers.{is_live}
use Rattle.wgr_core.proofs.LookLemmas.{absent_kept}
use Rattle.wgr_conf.proofs.Live.{kept, left_out}
use Rattle.wgr_conf.proofs.peer.live_peer.Goals as goal
use Rattle.wgr_conf.proofs.peer.live_peer.Goals.{in_default-via-in-Some+else-is_live, in_default-via-in_default}

pub returns-in-Some : goal.returns-in-Some
returns-in-Some c =
    sym (kept (is_live c.args.now) c.args.network.now.peers c.args.number c.in-Some.peer.now c.rules_hold.ensures.numbered (sym c.in-Some.ensures) (sym c.if-is_live.ensures))

pub returns-in_default : goal.returns-in_default
returns-in_default c = elim c.in_default.branch [
  | in_default-via-in-Some+else-is_live w ↦ sym (left_out (is_live c.args.now) c.args.network.now.peers c.args.number w.in-Some.peer.now c.rules_hold.ensures.numbered (sym w.in-Some.ensures) (sym w.if-is_live.ensures))
  | in_default-via-in_default w ↦ sym (absent_kept (is_live c.args.now) c.args.network.now.peers c.args.number (sym w.in_default.ensures))
]
