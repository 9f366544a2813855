use Rattle.std.proofs.Common.{◌≡◌, ◌↔◌, inl, inr, true, ◌||◌, List, sym, ap, ◌∙◌, subst}
use Rattle.wgr_text.specs.Prefix.{AddrValue, IsAddr}
use Rattle.wgr_text.specs.declared.prefix.Span.{Span}
use Rattle.wgr_pool.proofs.Bools.{or_cases, or_left, or_right}
use Rattle.std.specs.List.{list_any}
use Rattle.wgr_pool.specs.PrefixTests.{same_address}
use Rattle.wgr_pool.specs.HeldSpans.{is_routed}
use Rattle.wgr_pool.specs.Spans.{IsHeld}
use Rattle.wgr_peers.specs.declared.peer.Peer.{Peer}
use Rattle.wgr_peers.specs.PeerDraft.{HasRuns}
use Rattle.wgr_peers.specs.PeerIndex.{HasThose}
use Rattle.wgr_peers.specs.Peers.{is_first}
use Rattle.wgr_peers.proofs.CollectLemmas.{first_is}
use Rattle.wgr_peers.proofs.peer_draft.PeerDraft.lowest_free.Goals as goal
use Rattle.wgr_peers.proofs.peer_draft.PeerDraft.lowest_free.Goals.{in-Some, in-None+in_ok-first_addresses-in-None+in_ok-addresses-in-None}

pub returns-clause-lowest : goal.returns-clause-lowest
returns-clause-lowest c =
    let peers = c.self.inside.peers.items in
    let routed = λ (b : AddrValue). is_routed c.args.pool.now c.args.routes.now b in
    let own = λ (b : AddrValue). list_any (λ (p : Peer). is_first p b) c.args.self.now in
    let HasThem : List Span → Type 0 = HasThose is_first peers in
    let held : HasThem c.match-take.addresses = elim c.match-take.branch [
      | in-Some w ↦ subst HasThem (sym w.addresses-is) (subst (HasRuns peers) (sym c.take.ensures.value ∙ w.in-Some.is) c.self.invariant.by_runs)
      | in-None+in_ok-first_addresses-in-None+in_ok-addresses-in-None w ↦
          let made = w.in_ok-addresses-in-None.ensures in
          let same = λ (b : AddrValue). ap (list_any (λ (a : AddrValue). same_address a b)) w.in_ok-first_addresses-in-None.ensures ∙ first_is w.deref.result.now b ∙ ap (list_any (λ (p : Peer). is_first p b)) w.deref.ensures.value in
          subst HasThem (sym w.addresses-is) (λ b fits. ((λ h. sym (same b) ∙ (made b fits).0 h), (λ h. (made b fits).1 (same b ∙ h))))
    ] in
    let same = λ (b : AddrValue). ap (list_any (λ (p : Peer). is_first p b)) c.self.view_is in
    c.lowest_free-lowest.ensures (λ b. own b || routed b) (λ b fits. (
      (λ h. elim (or_cases (own b) (routed b) h) [
        | inl mine ↦ inl ((held b fits).1 (same b ∙ mine))
        | inr there ↦ inr there
      ]),
      (λ h. elim h [
        | inl mine ↦ or_left (own b) (routed b) (sym (same b) ∙ (held b fits).0 mine)
        | inr there ↦ or_right (own b) (routed b) there
      ]),
    ))

pub invariant_of-self-2 : goal.invariant_of-self-2
invariant_of-self-2 c =
    let peers = c.self.inside.peers.items in
    let HasThem : List Span → Type 0 = HasThose is_first peers in
    let held : HasThem c.match-take.addresses = elim c.match-take.branch [
      | in-Some w ↦ subst HasThem (sym w.addresses-is) (subst (HasRuns peers) (sym c.take.ensures.value ∙ w.in-Some.is) c.self.invariant.by_runs)
      | in-None+in_ok-first_addresses-in-None+in_ok-addresses-in-None w ↦
          let made = w.in_ok-addresses-in-None.ensures in
          let same = λ (b : AddrValue). ap (list_any (λ (a : AddrValue). same_address a b)) w.in_ok-first_addresses-in-None.ensures ∙ first_is w.deref.result.now b ∙ ap (list_any (λ (p : Peer). is_first p b)) w.deref.ensures.value in
          subst HasThem (sym w.addresses-is) (λ b fits. ((λ h. sym (same b) ∙ (made b fits).0 h), (λ h. (made b fits).1 (same b ∙ h))))
    ] in
    record { in_order = c.self.invariant.in_order; by_key = c.self.invariant.by_key; by_address = c.self.invariant.by_address; by_runs = held }
