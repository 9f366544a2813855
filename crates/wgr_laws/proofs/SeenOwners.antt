-- After a first adoption the owners of addresses are those of the interface.
use Rattle.std.proofs.Common.{◌≡◌, ℕ, ◌≤◌, ◌⊎◌, inl, inr, true, false, List, [], get_or, Option, Some, None, is_some, refl, sym, ◌∙◌, subst}
use Rattle.std.specs.Prelude.{IfOk, option_map}
use Rattle.std.specs.List.{All, AllPairs, Contains}
use Rattle.std.proofs.lemmas.List.Elements.{All-contains, All-contains_itself}
use Rattle.std.proofs.lemmas.Result.{IfOk-weaker}
use Rattle.wgr_text.specs.declared.key.Key.{Key}
use Rattle.wgr_text.specs.Prefix.{AddrValue, PrefixValue}
use Rattle.wgr_pool.specs.PrefixTests.{full, has}
use Rattle.wgr_peers.specs.declared.peer.Peer.{Peer}
use Rattle.wgr_peers.specs.Peers.{peer_of}
use Rattle.wgr_core.specs.declared.command.Command.TheVariants as command
use Rattle.wgr_core.specs.declared.seen_peer.SeenPeer.{SeenPeer}
use Rattle.wgr_core.specs.Network.{NetworkValue, IsNetwork, live_at}
use Rattle.wgr_core.specs.Owner.{allowed, longest_match, owner_of}
use Rattle.wgr_core.specs.Adoption.{named_address}
use Rattle.wgr_core.specs.Outcome.{AreLinesAsked}
use Rattle.wgr_laws.specs.AdoptionLaws.{adopt_at}
use Rattle.wgr_laws.specs.FirstAdoption.{AreLinesApart, AreShown, IsGiven, IsSentBy, IsShown, OwnersAreKept, UnownedAreKept}
use Rattle.wgr_pool.proofs.PrefixLemmas.{same_address_is}
use Rattle.wgr_peers.proofs.PeerLemmas.{peer_is}
use Rattle.wgr_laws.proofs.AdoptedPeers.{both_if}
use Rattle.wgr_laws.proofs.FaithLemmas.{adoption_is_faithful}
use Rattle.wgr_laws.proofs.MatchLemmas.{match_is_longest}
use Rattle.wgr_core.proofs.OutcomeLemmas.{outcome_keeps}
use Rattle.wgr_core.proofs.OwnerLemmas.{full_has_own}
use Rattle.wgr_laws.proofs.UniqueMatch.{longest_owns}

module _ (m : NetworkValue) (lines : List SeenPeer) (shown : AreShown m lines) (a : AddrValue) (free : IsGiven m lines a → ⊥) where
  -- an allowed prefix that has the address is a line's
  from_line : (s : PrefixValue × ℕ) → Contains (allowed m) s → has s.0 a ≡ true → (line : SeenPeer) × Contains lines line × Contains line.allowed s.0
  from_line s at has_it = by_peer (peer_of m.peers s.1) refl (All-contains (λ (r : PrefixValue × ℕ). is_some (peer_of m.peers r.1) ≡ true) (allowed m) s shown.to_peers at)
    where
      by_origin : (q : Peer) (line : SeenPeer) → Contains lines line → IsShown m line q → Contains line.allowed s.0 ⊎ ((named_address m.pool line.allowed ≡ None) × (s.0 ≡ full q.address)) → (line : SeenPeer) × Contains lines line × Contains line.allowed s.0
      by_origin q line listed is (inl in_line) = (line, listed, in_line)
      by_origin q line listed is (inr given) =
          let same : q.address ≡ a = same_address_is q.address a (sym (full_has_own q.address a) ∙ subst (λ p. has p a ≡ true) given.1 has_it) in
          absurd (free (record { to = q; line = line; listed = listed; shown = is; unnamed = given.0; address = same }))

      by_peer : (o : Option Peer) → peer_of m.peers s.1 ≡ o → is_some o ≡ true → (line : SeenPeer) × Contains lines line × Contains line.allowed s.0
      by_peer None found some = cc
      by_peer (Some q) found some =
          let is = peer_is (λ q. (line : SeenPeer) × Contains lines line × IsShown m line q) m.peers s.1 q shown.lines_of found in
          by_origin q is.0.0 is.0.1 is.0.2 ((is.0.2.leads s.0).0 (subst (λ (i : ℕ). Contains (allowed m) (s.0, i)) (sym is.1) at))

  owner_kept : IsNetwork m → (line : SeenPeer) (p : PrefixValue) → IsSentBy lines a line p → (q : Peer) × IsShown m line q × (owner_of m a ≡ Some q.number)
  owner_kept is line p sent =
      let peer = All-contains (λ line. (q : Peer) × IsShown m line q) lines line shown.peers sent.listed in (
        peer.0,
        peer.1,
        longest_owns m a (p, peer.0.number) is
            (record {
              is_allowed = (peer.1.leads p).1 (inl sent.in_line);
              has_it = sent.has_it;
              longest = λ k d h has_it.
                  let at = from_line (get_or (allowed m) k d) (All-contains_itself (allowed m) k d h) has_it in
                  All-contains (λ r. has r a ≡ true → r.length ≤ p.length) at.0.allowed (get_or (allowed m) k d).0 (All-contains (λ l. All (λ r. has r a ≡ true → r.length ≤ p.length) l.allowed) lines at.0 sent.longest at.1) at.2 has_it;
            }),
      )

  unowned_kept : All (λ line. All (λ p. has p a ≡ false) line.allowed) lines → owner_of m a ≡ None
  unowned_kept none = by_match (longest_match (allowed m) a) refl
    where
      by_match : (best : Option (PrefixValue × ℕ)) → longest_match (allowed m) a ≡ best → option_map (λ (r : PrefixValue × ℕ). r.1) best ≡ None
      by_match None found = refl
      by_match (Some s) found =
          let is = match_is_longest m a s found in
          let at = from_line s is.is_allowed is.has_it in
          let bad : true ≡ false = sym is.has_it ∙ All-contains (λ p. has p a ≡ false) at.0.allowed s.0 (All-contains (λ line. All (λ p. has p a ≡ false) line.allowed) lines at.0 none at.1) at.2 in cc

pub adoption_keeps_owners : (n : NetworkValue) (now : ℕ) (server : Option Key) (lines : List SeenPeer) → IsNetwork n → (live_at n now).peers ≡ [] → AreLinesAsked lines → AllPairs AreLinesApart lines
    → IfOk (adopt_at n now server lines) (λ done. OwnersAreKept done.1 lines)
adoption_keeps_owners n now server lines is none asked apart =
    both_if (λ done. IsNetwork done.1) (λ done. AreShown done.1 lines) (λ done. OwnersAreKept done.1 lines) (adopt_at n now server lines)
    (λ done keeps shown a line p free sent. owner_kept done.1 lines shown a free keeps line p sent)
    (outcome_keeps n now (command.Adopt server lines) is asked) (adoption_is_faithful n now server lines is none asked apart)

pub adoption_keeps_unowned : (n : NetworkValue) (now : ℕ) (server : Option Key) (lines : List SeenPeer) → IsNetwork n → (live_at n now).peers ≡ [] → AreLinesAsked lines → AllPairs AreLinesApart lines
    → IfOk (adopt_at n now server lines) (λ done. UnownedAreKept done.1 lines)
adoption_keeps_unowned n now server lines is none asked apart =
    IfOk-weaker (adopt_at n now server lines) (λ done. AreShown done.1 lines) (λ done. UnownedAreKept done.1 lines)
    (λ done shown a free unseen. unowned_kept done.1 lines shown a free unseen) (adoption_is_faithful n now server lines is none asked apart)
