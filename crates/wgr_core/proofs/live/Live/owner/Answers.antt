use Rattle.std.proofs.Common.{◌≡◌, ℕ, List, true, false, sym, ap, subst, ◌∙◌}
use Rattle.std.specs.Prelude.{option_map}
use Rattle.wgr_text.specs.Prefix.{PrefixValue}
use Rattle.wgr_peers.specs.declared.peer.Peer.{Peer}
use Rattle.wgr_peers.specs.Peers.{is_live, is_own}
use Rattle.wgr_core.specs.Network.{NetworkValue, IsNetwork}
use Rattle.wgr_core.specs.Owner.{longest_match, own_prefixes}
use Rattle.wgr_core.proofs.AloneLemmas.{members_alone}
use Rattle.wgr_core.proofs.LiveLooks.{match_kept}
use Rattle.wgr_core.proofs.OwnerLemmas.{owner_own, owner_routed}
use Rattle.wgr_core.proofs.live.Live.owner.Goals as goal

pub returns-then-owns : goal.returns-then-owns
returns-then-owns c =
    let m = c.args.self.now in
    let n = c.self.inside.network.now in
    let a = c.args.address.now in
    let is = subst IsNetwork c.self.view_is c.self.invariant.live in
    let own : is_own m.peers a ≡ true = sym c.if-owns.ensures in
    let kept = subst (λ (m : NetworkValue). is_own m.peers a ≡ true → longest_match (own_prefixes m.peers) a ≡ longest_match (own_prefixes n.peers) a) c.self.view_is (match_kept (is_live c.self.inside.moment) n.peers a c.self.invariant.whole.apart (members_alone n c.self.invariant.whole)) own in
    c.own_holder.ensures
    ∙ ap (λ (ps : List Peer). option_map (λ (r : PrefixValue × ℕ). r.1) (longest_match (own_prefixes ps) a)) c.peers.ensures
    ∙ ap (option_map (λ (r : PrefixValue × ℕ). r.1)) (sym kept)
    ∙ sym (owner_own m a is own)

pub returns-in_err-number : goal.returns-in_err-number
returns-in_err-number c =
    let m = c.args.self.now in
    let a = c.args.address.now in
    let is = subst IsNetwork c.self.view_is c.self.invariant.live in
    let none : is_own m.peers a ≡ false = sym c.if-owns.ensures in
    c.from_residual.ensures ∙ ap (option_map (λ (r : PrefixValue × ℕ). r.1)) c.in_err-number.ensures ∙ sym (owner_routed m a is none)

pub returns : goal.returns
returns c =
    let m = c.args.self.now in
    let a = c.args.address.now in
    let is = subst IsNetwork c.self.view_is c.self.invariant.live in
    let none : is_own m.peers a ≡ false = sym c.if-owns.ensures in
    ap (option_map (λ (r : PrefixValue × ℕ). r.1)) c.in_ok-number.ensures ∙ sym (owner_routed m a is none)
