use Rattle.std.proofs.Common.{◌≡◌, append_assoc, arith, ◌++◌, ◌∷◌, [], List, refl, sym, ap, ◌∙◌, subst}
use Rattle.std.specs.List.{AllPairs}
use Rattle.std.proofs.lemmas.List.Quantifiers.{all_pairs_push}
use Rattle.std.proofs.lemmas.Grind.{common_steps}
use Rattle.wgr_peers.specs.declared.peer.Peer.{Peer}
use Rattle.wgr_peers.specs.Peers.{IsNumberedBelow, IsApart}
use Rattle.wgr_pool.proofs.Lists.{AllPairs-before}
use Rattle.wgr_peers.proofs.TableLemmas.{holder_absent}
use Rattle.wgr_peers.proofs.peer_table.PeerTable.of.Goals as goal

pub returns-then-not-takes-clause-exact : goal.returns-then-not-takes-clause-exact
returns-then-not-takes-clause-exact c =
    let draft = c.loop-peer.draft in
    let p = c.in-Some.peer in
    let parts = c.loop-peer.invariant.parts ∙ ap (λ rest. draft ++ rest) c.in-Some.ensures.steps.0 in (
      (λ h. cc),
      (λ both.
          let above = AllPairs-before IsNumberedBelow draft p _ (subst (AllPairs IsNumberedBelow) parts both.0) in
          let apart = AllPairs-before IsApart draft p _ (subst (AllPairs IsApart) parts both.1) in
          sym c.if-not-takes.true ∙ c.takes.ensures.1 (above, apart)),
    )

pub push-requires-clause-new_key : goal.push-requires-clause-new_key
push-requires-clause-new_key c =
    let facts = c.takes.ensures.0 c.if-not-takes.false in
    holder_absent c.loop-peer.draft c.in-Some.peer.key (λ k d l. (facts.1 k d l).0)

pub loop-peer-preserved : goal.loop-peer-preserved
loop-peer-preserved c =
    let draft = c.loop-peer.draft in
    let p = c.in-Some.peer in
    let parts = c.loop-peer.invariant.parts ∙ ap (λ rest. draft ++ rest) c.in-Some.ensures.steps.0 in
    let facts = c.takes.ensures.0 c.if-not-takes.false in
    let pushed = c.in_ok-push.ensures.ok in
    record {
      parts = parts ∙ sym (append_assoc draft (p ∷ []) _) ∙ ap (λ (t : List Peer). t ++ c.next.new.self.rest.items) (sym pushed);
      numbered = subst (AllPairs IsNumberedBelow) (sym pushed) (all_pairs_push IsNumberedBelow draft p c.loop-peer.invariant.numbered facts.0);
      apart = subst (AllPairs IsApart) (sym pushed) (all_pairs_push IsApart draft p c.loop-peer.invariant.apart facts.1);
    }

pub returns-clause-exact : goal.returns-clause-exact
returns-clause-exact c =
    let whole : c.args.peers.items ≡ c.loop-peer.draft = grind (arith, common_steps) in (
      (λ h. (subst (AllPairs IsNumberedBelow) (sym whole) c.loop-peer.invariant.numbered, subst (AllPairs IsApart) (sym whole) c.loop-peer.invariant.apart)),
      (λ both. refl),
    )

pub indexed-requires-clause-numbered : goal.indexed-requires-clause-numbered
indexed-requires-clause-numbered c = subst (AllPairs IsNumberedBelow) (sym c.into_parts-peers.ensures.peers) c.loop-peer.invariant.numbered
