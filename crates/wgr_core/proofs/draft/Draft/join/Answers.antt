use Rattle.std.proofs.Common.{◌≡◌, ℕ, ◌+◌, ◌++◌, [], ◌∷◌, List, sym, ap, subst, ◌∙◌}
use Rattle.wgr_peers.specs.declared.peer.Peer.{Peer}
use Rattle.wgr_peers.specs.Peers.{key_holder}
use Rattle.wgr_peers.proofs.TableLemmas.{new_key}
use Rattle.wgr_core.specs.Draft.{AreNoted, DraftValue, IsGrown, drafted}
use Rattle.wgr_core.specs.Network.{NetworkValue, IsNetwork}
use Rattle.wgr_core.proofs.AlteredLemmas.{noted_more}
use Rattle.wgr_core.proofs.draft.Draft.join.Goals as goal

pub push-requires-clause-new_key : goal.push-requires-clause-new_key
push-requires-clause-new_key c =
    ap (λ (d : DraftValue). key_holder d.network.peers c.args.peer.key) c.self.view_is
    ∙ new_key c.args.self.now.network.peers c.args.peer [] c.requires.fits.apart

pub invariant_of-self : goal.invariant_of-self
invariant_of-self c =
    let start = c.self.inside.start.now in
    subst (λ (ps : List Peer). IsGrown start (drafted start ps c.self.inside.routes c.self.inside.next) c.self.inside.routes_put.items) (sym c.in_err-push.ensures.err) c.self.invariant

pub invariant_of-self-2 : goal.invariant_of-self-2
invariant_of-self-2 c =
    let p = c.args.peer in
    let start = c.self.inside.start.now in
    let routes = c.self.inside.routes in
    let n = drafted start c.self.inside.peers routes c.self.inside.next in
    let next = p.number + 1 in
    let same : n ≡ c.args.self.now.network = ap (λ (d : DraftValue). d.network) c.self.view_is in
    let pushed : c.push.new.self ≡ n.peers ++ p ∷ [] = c.in_ok-push.ensures.ok in
    let joined : drafted start c.push.new.self routes next ≡ record n { next = next; peers = n.peers ++ p ∷ [] } = ap (λ (ps : List Peer). drafted start ps routes next) pushed in
    let asked : record n { next = next; peers = n.peers ++ p ∷ [] } ≡ record c.args.self.now.network { next = c.args.self.now.network.next + 1; peers = c.args.self.now.network.peers ++ p ∷ [] } =
    ap (λ (m : NetworkValue). record m { next = next; peers = m.peers ++ p ∷ [] }) same
    ∙ ap (λ (k : ℕ). record c.args.self.now.network { next = k + 1; peers = c.args.self.now.network.peers ++ p ∷ [] }) c.requires.next in
    record {
      rules = subst IsNetwork (sym (joined ∙ asked)) c.requires.fits;
      noted = subst (AreNoted start.peers) (sym pushed) (noted_more start.peers n.peers (p ∷ []) c.self.invariant.noted);
      routed = c.self.invariant.routed;
    }
