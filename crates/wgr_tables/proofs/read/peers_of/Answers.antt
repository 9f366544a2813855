use Rattle.std.proofs.Common.{rules, ◌≡◌, ◌<◌, ◌++◌, List, [], ◌∷◌, None, length, map, get_or, ap, sym, subst, ◌∙◌, arith}
use Rattle.std.specs.List.{AllByRecursion}
use Rattle.std.proofs.lemmas.List.Elements.{All-append, All-cons, All-nil}
use Rattle.std.proofs.Math.ListN.{length-map}
use Rattle.wgr_peers.specs.declared.peer.Peer.{Peer}
use Rattle.wgr_core.specs.Network.{AreAlone}
use Rattle.wgr_model.specs.Rows.{address_row, peer_row}
use Rattle.wgr_sql.specs.Faults.{IsStore}
use Rattle.wgr_sql.proofs.Answers.{map-both}
use Rattle.wgr_columns.specs.Decode.{allowed_in, peer_in}
use Rattle.wgr_columns.specs.Stored.{IsKeptPeer, stored_allowed, stored_peer}
use Rattle.wgr_tables.proofs.PlaceLemmas.{both_at, one_longer}
use Rattle.wgr_tables.proofs.read.peers_of.Goals as goal

pub returns-in_err-peer-clause-only : goal.returns-in_err-peer-clause-only
returns-in_err-peer-clause-only c =
    let id = c.args.network in
    let at = c.loop-at.at in
    let never : IsStore c.in_err-peer.field-0.0 → (peers : List Peer) → AllByRecursion IsKeptPeer peers
    → c.args.rows.now ≡ map stored_peer (map (peer_row id) peers) → c.args.addresses.now ≡ map stored_allowed (map (address_row id) peers) → ⊥ = (λ e peers kept rows addresses.
    let one = rows ∙ map-both (peer_row id) stored_peer peers in
    let other = addresses ∙ map-both (address_row id) stored_allowed peers in
    let long : length c.args.rows.now ≡ length peers = ap length one ∙ length-map peers (λ p. stored_peer (peer_row id p)) in
    let found = both_at IsKeptPeer (λ p. stored_peer (peer_row id p)) (λ p. stored_allowed (address_row id p)) peers kept at c.index-rows-at.result c.index-addresses-at.result (omega (arith, long, c.loop-at-test.true))
    (c.index-rows-at.is ∙ ap (λ l. get_or l at c.index-rows-at.result) one) (c.index-addresses-at.is ∙ ap (λ l. get_or l at c.index-addresses-at.result) other) in
    c.in_err-peer.ensures.only e found.0 found.1 found.2 found.3) in
    search (rules, never)

pub loop-at-preserved : goal.loop-at-preserved
loop-at-preserved c =
    let id = c.args.network in
    let at = c.loop-at.at in
    let grown : c.push.new.self.items ≡ c.loop-at.peers.items ++ c.in_ok-peer.peer ∷ [] = search rules in
    let low = c.loop-at-test.true in
    let short : at < length c.args.addresses.now = omega (arith, low, c.if-rows-addresses.false) in (
      ap (map (peer_row id)) grown ∙ one_longer peer_in (peer_row id) c.args.rows.now c.loop-at.peers.items at c.index-rows-at.result c.in_ok-peer.peer low c.index-rows-at.is c.in_ok-peer.ensures.row c.loop-at.invariant.0,
      ap (map (address_row id)) grown ∙ one_longer allowed_in (address_row id) c.args.addresses.now c.loop-at.peers.items at c.index-addresses-at.result c.in_ok-peer.peer short c.index-addresses-at.is c.in_ok-peer.ensures.address c.loop-at.invariant.1,
      subst AreAlone (sym grown) (All-append (λ p. p.second ≡ None) c.loop-at.peers.items (c.in_ok-peer.peer ∷ []) c.loop-at.invariant.2 (All-cons (λ p. p.second ≡ None) c.in_ok-peer.peer [] c.in_ok-peer.ensures.alone (All-nil (λ p. p.second ≡ None)))),
    )
