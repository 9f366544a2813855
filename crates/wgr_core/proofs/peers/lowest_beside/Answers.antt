use Rattle.std.proofs.Common.{◌≡◌, ◌||◌, inl, inr, List, sym, ap, ◌∙◌, nat_eq, true}
use Rattle.std.specs.HashSet.{contains}
use Rattle.std.specs.List.{list_any}
use Rattle.wgr_text.specs.Prefix.{AddrValue}
use Rattle.wgr_pool.proofs.Bools.{or_cases, or_left, or_right}
use Rattle.wgr_pool.specs.HeldSpans.{is_routed, standing}
use Rattle.wgr_peers.specs.declared.peer.Peer.{Peer}
use Rattle.wgr_peers.specs.Peers.{is_first, is_own}
use Rattle.wgr_core.proofs.AloneLemmas.{members_alone, own_alone}
use Rattle.wgr_core.proofs.peers.lowest_beside.Goals as goal

pub returns : goal.returns
returns c =
    let n = c.args.network.now in
    let own = λ (b : AddrValue). is_own n.peers b in
    let routed = λ (b : AddrValue). is_routed c.args.pool.now (standing (contains nat_eq c.args.expired.now) n.routes) b in
    let first : (b : AddrValue) → list_any (λ p. is_first p b) c.table.result.now ≡ own b = λ b. ap (list_any (λ (p : Peer). is_first p b)) c.table.ensures.value ∙ sym (own_alone n.peers b (members_alone n c.rules_hold.ensures)) in
    c.lowest_address.ensures (λ b. own b || routed b) (λ b fits. (
      (λ h. elim (or_cases (own b) (routed b) h) [
        | inl mine ↦ inl ((c.addresses-addresses.ensures b fits).1 (first b ∙ mine))
        | inr there ↦ inr (ap (λ rs. is_routed c.args.pool.now (standing (contains nat_eq c.args.expired.now) rs) b) c.routes.ensures ∙ there)
      ]),
      (λ h. elim h [
        | inl mine ↦ or_left (own b) (routed b) (sym (first b) ∙ (c.addresses-addresses.ensures b fits).0 mine)
        | inr there ↦ or_right (own b) (routed b) (sym (ap (λ rs. is_routed c.args.pool.now (standing (contains nat_eq c.args.expired.now) rs) b) c.routes.ensures) ∙ there)
      ]),
    ))
