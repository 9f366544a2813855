use Rattle.std.proofs.Common.{ℕ, ◌≡◌, ◌<◌, ◌++◌, ◌∷◌, ◌||◌, [], sym, ◌∙◌, ap, subst, cond, Option, Some, None, List}
use Rattle.wgr_text.specs.Prefix.{width}
use Rattle.std.specs.HashSet.{contains}
use Rattle.std.specs.List.{All}
use Rattle.wgr_peers.specs.declared.peer.Peer.{Peer}
use Rattle.wgr_peers.specs.Peers.{is_at, key_holder, same_key}
use Rattle.wgr_peers.specs.PeerDraft.{HasRuns, IsDrafted, same_spot}
use Rattle.wgr_peers.proofs.DraftedLemmas.{drafted_push, drafted_same, more_runs}
use Rattle.wgr_peers.proofs.peer_draft.PeerDraft.push.Goals as goal

pub invariant_of-self-in_err-reserve-3 : goal.invariant_of-self-in_err-reserve-3
invariant_of-self-in_err-reserve-3 c =
    drafted_same c.self.inside.peers.items c.reserve.new.self.items c.self.inside.numbers c.reserve-2.new.self c.self.inside.owned c.reserve-3.new.self c.self.inside.addresses c.self.inside.addresses c.self.invariant
    c.reserve.ensures.items c.reserve-2.ensures.entries.2 c.reserve-3.ensures.keys.2 c.self.invariant.by_runs

pub invariant_of-self-in_err-insert_address : goal.invariant_of-self-in_err-insert_address
invariant_of-self-in_err-insert_address c =
    drafted_same c.self.inside.peers.items c.reserve.new.self.items c.self.inside.numbers c.reserve-2.new.self c.self.inside.owned c.reserve-3.new.self c.self.inside.addresses c.insert_address.new.addresses c.self.invariant
    c.reserve.ensures.items c.reserve-2.ensures.entries.2 c.reserve-3.ensures.keys.2 (subst (HasRuns c.self.inside.peers.items) (sym c.in_err-insert_address.ensures.err) c.self.invariant.by_runs)

pub invariant_of-self-2 : goal.invariant_of-self-2
invariant_of-self-2 c =
    let p = c.args.peer in
    let peers = c.self.inside.peers.items in
    let items : c.push_reserved.new.self.items ≡ peers ++ p ∷ [] = c.push_reserved.ensures.items ∙ ap (λ (ps : List Peer). ps ++ p ∷ []) c.reserve.ensures.items in
    let new_key : key_holder peers p.key ≡ None = ap (λ (ps : List Peer). key_holder ps p.key) c.self.view_is ∙ c.requires.new_key in
    subst (λ (ps : List Peer). IsDrafted ps c.insert.new.self c.insert_spots.new.owned c.insert_address.new.addresses) (sym items)
    (drafted_push peers c.self.inside.numbers c.insert.new.self c.self.inside.owned c.insert_spots.new.owned c.self.inside.addresses c.insert_address.new.addresses p c.self.invariant
    (subst (λ (ps : List Peer). All (λ (q : Peer). q.number < p.number) ps) (sym c.self.view_is) c.requires.above) new_key
    (λ q. c.in-Ok.ensures.updates.0 q ∙ ap (λ (o : Option ℕ). cond (same_key p.key q) (Some p.number) o) (c.reserve-2.ensures.entries.2 q))
    (λ b. c.insert_spots.ensures b ∙ ap (λ x. is_at p b || x) (c.reserve-3.ensures.keys.2 (width b.family, b.number)))
    (more_runs peers p c.self.inside.addresses c.insert_address.new.addresses c.in_ok-insert_address.ensures.ok c.self.invariant.by_runs))
