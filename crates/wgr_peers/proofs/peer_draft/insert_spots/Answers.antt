use Rattle.std.proofs.Common.{◌≡◌, ℕ, cond, true, ◌∷◌, Option, sym, subst}
use Rattle.std.specs.HashSet.{contains}
use Rattle.std.specs.Prelude.{option_to_list}
use Rattle.wgr_text.specs.Prefix.{AddrValue}
use Rattle.wgr_peers.specs.PeerDraft.{same_spot, HasSpots}
use Rattle.wgr_peers.proofs.DraftedLemmas.{spots_both, spots_first}
use Rattle.wgr_peers.proofs.peer_draft.insert_spots.Goals as goal

pub returns-in_default-second : goal.returns-in_default-second
returns-in_default-second c =
    let a = c.args.peer.now.address in
    let first = spots_first a c.args.owned.now c.insert.new.self (subst (λ (k : ℕ × ℕ). (q : ℕ × ℕ) → contains same_spot c.insert.new.self q ≡ cond (same_spot k q) true (contains same_spot c.args.owned.now q)) c.spot.ensures c.in-Ok.ensures.updates.0) in
    subst (λ (o : Option AddrValue). HasSpots (a ∷ option_to_list o) c.args.owned.now c.insert.new.self) (sym c.in_default-second.is) first

pub returns : goal.returns
returns c =
    let a = c.args.peer.now.address in
    let first = spots_first a c.args.owned.now c.insert.new.self (subst (λ (k : ℕ × ℕ). (q : ℕ × ℕ) → contains same_spot c.insert.new.self q ≡ cond (same_spot k q) true (contains same_spot c.args.owned.now q)) c.spot.ensures c.in-Ok.ensures.updates.0) in
    let second = spots_first c.in-Some.second c.insert.new.self c.insert-2.new.self (subst (λ (k : ℕ × ℕ). (q : ℕ × ℕ) → contains same_spot c.insert-2.new.self q ≡ cond (same_spot k q) true (contains same_spot c.insert.new.self q)) c.spot-2.ensures c.in-Ok-insert.ensures.updates.0) in
    subst (λ (o : Option AddrValue). HasSpots (a ∷ option_to_list o) c.args.owned.now c.insert-2.new.self) (sym c.in-Some.is) (spots_both a c.in-Some.second c.args.owned.now c.insert.new.self c.insert-2.new.self first second)
