use Rattle.std.proofs.Common.{◌≡◌, [], List, nat_eq, sym, ap, ◌∙◌, subst}
use Rattle.std.specs.Prelude.{OnOk}
use Rattle.std.specs.List.{list_any}
use Rattle.wgr_peers.specs.declared.peer.Peer.{Peer}
use Rattle.wgr_peers.specs.Peers.{put_peer, AreApart}
use Rattle.wgr_peers.proofs.TableLemmas.{new_key}
use Rattle.wgr_peers.proofs.ExchangeLemmas.{none_gone, put_last}
use Rattle.wgr_peers.proofs.peer_table.PeerTable.put.Goals as goal

pub push-requires-clause-new_key : goal.push-requires-clause-new_key
push-requires-clause-new_key c =
    new_key c.args.self.now c.args.peer [] (subst AreApart (put_last c.args.self.now c.args.peer (c.is_below.ensures.0 c.if-is_below.true)) c.requires.fits)

pub returns-then-is_below-clause-ok : goal.returns-then-is_below-clause-ok
returns-then-is_below-clause-ok c =
    subst (λ (ps : List Peer). OnOk c.push.result (c.push.new.self ≡ ps)) (sym (put_last c.args.self.now c.args.peer (c.is_below.ensures.0 c.if-is_below.true))) c.push.ensures.ok

pub exchange-requires-clause-fits : goal.exchange-requires-clause-fits
exchange-requires-clause-fits c =
    subst AreApart (sym (ap (λ (ps : List Peer). put_peer ps c.args.peer) (none_gone c.args.self.now c.of-gone.result (λ n. c.of-gone.ensures n ∙ ap (list_any (nat_eq n)) c.new.ensures.items)))) c.requires.fits

pub returns-clause-ok : goal.returns-clause-ok
returns-clause-ok c =
    subst (λ (ps : List Peer). OnOk c.exchange.result (c.exchange.new.self ≡ ps)) (ap (λ (ps : List Peer). put_peer ps c.args.peer) (none_gone c.args.self.now c.of-gone.result (λ n. c.of-gone.ensures n ∙ ap (list_any (nat_eq n)) c.new.ensures.items))) c.exchange.ensures.ok
