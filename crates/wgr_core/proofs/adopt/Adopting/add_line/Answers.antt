use Rattle.std.proofs.Common.{rules, ◌≡◌, ℕ, ◌++◌, List, [], ◌∷◌, Some, Ok, Err, is_some, refl, sym, ap, subst, ◌∙◌, None}
use Rattle.wgr_text.specs.Prefix.{PrefixValue}
use Rattle.wgr_peers.specs.declared.peer.Peer.{Peer}
use Rattle.wgr_peers.specs.Peers.{peer_of}
use Rattle.wgr_core.specs.Adoption.{add_line, give_all, other_prefixes, peer_of_line, with_line}
use Rattle.wgr_core.specs.Draft.{AdoptingValue, DraftValue, MeetsGiven, MeetsLine, line_address}
use Rattle.wgr_core.specs.Network.{IsNetwork}
use Rattle.wgr_core.proofs.AdoptingLemmas.{added_at, given_line, given_line_err, met_address, new_stands}
use Rattle.wgr_core.proofs.JoinLemmas.{joined_is_network, with_peer}
use Rattle.wgr_core.proofs.LineAsks.{placed_may_join}
use Rattle.wgr_core.proofs.adopt.Adopting.add_line.Goals as goal

pub join-requires-clause-fits : goal.join-requires-clause-fits
join-requires-clause-fits c =
    let draft = c.line_address.new.self in
    let n = draft.network in
    let line = c.args.line.now in
    let a = c.in_ok-address.address in
    let same : draft ≡ c.self.inside.draft = c.line_address.ensures.same in
    let placed : line_address n line ≡ Ok a = ap (λ (d : DraftValue). line_address d.network line) same ∙ met_address a (line_address c.self.inside.draft.network line) c.in_ok-address.ensures.place in
    let next : c.next-number.result ≡ n.next = c.next-number.ensures.value ∙ sym (ap (λ (d : DraftValue). d.network.next) same) in
    let v : AdoptingValue = record { start = draft.start; so_far = record { network = n; added = c.self.inside.added; known = c.self.inside.known } } in
    let view : v ≡ c.args.self.now = ap (λ (d : DraftValue). record { start = d.start; so_far = record { network = d.network; added = c.self.inside.added; known = c.self.inside.known } }) same ∙ c.self.view_is in
    let peer : ℕ → List ℕ → ℕ → Peer = λ number label until. record { number = number; key = line.key; label = label; address = a; second = None; until = until; keepalive = line.keepalive; status = Some line.status } in
    let same_peer : peer c.next-number.result c.empty.result c.never.result ≡ peer_of_line n line a =
    ap (λ (k : ℕ). peer k c.empty.result c.never.result) next ∙ ap (λ (l : List ℕ). peer n.next l c.never.result) c.empty.ensures ∙ ap (peer n.next []) c.never.ensures in
    let is : IsNetwork n = subst (λ (d : DraftValue). IsNetwork d.network) (sym same) c.next-number.ensures.rules in
    subst (λ (p : Peer). IsNetwork (with_peer n p)) (sym same_peer) (joined_is_network n (peer_of_line n line a) is (placed_may_join n line a is placed))

pub give_all-requires : goal.give_all-requires
give_all-requires c =
    let n = c.line_address.new.self.network in
    let line = c.args.line.now in
    let p : Peer = record { number = c.next-number.result; key = line.key; label = c.empty.result; address = c.in_ok-address.address; second = None; until = c.never.result; keepalive = line.keepalive; status = Some line.status } in
    ap (λ (d : DraftValue). is_some (peer_of d.network.peers c.next-number.result)) c.in_ok-join.ensures.ok ∙ new_stands n.peers p

pub returns-in_err-give_all : goal.returns-in_err-give_all
returns-in_err-give_all c =
    let draft = c.line_address.new.self in
    let n = draft.network in
    let line = c.args.line.now in
    let a = c.in_ok-address.address in
    let same : draft ≡ c.self.inside.draft = c.line_address.ensures.same in
    let placed : line_address n line ≡ Ok a = ap (λ (d : DraftValue). line_address d.network line) same ∙ met_address a (line_address c.self.inside.draft.network line) c.in_ok-address.ensures.place in
    let next : c.next-number.result ≡ n.next = c.next-number.ensures.value ∙ sym (ap (λ (d : DraftValue). d.network.next) same) in
    let v : AdoptingValue = record { start = draft.start; so_far = record { network = n; added = c.self.inside.added; known = c.self.inside.known } } in
    let view : v ≡ c.args.self.now = ap (λ (d : DraftValue). record { start = d.start; so_far = record { network = d.network; added = c.self.inside.added; known = c.self.inside.known } }) same ∙ c.self.view_is in
    let peer : ℕ → List ℕ → ℕ → Peer = λ number label until. record { number = number; key = line.key; label = label; address = a; second = None; until = until; keepalive = line.keepalive; status = Some line.status } in
    let same_peer : peer c.next-number.result c.empty.result c.never.result ≡ peer_of_line n line a =
    ap (λ (k : ℕ). peer k c.empty.result c.never.result) next ∙ ap (λ (l : List ℕ). peer n.next l c.never.result) c.empty.ensures ∙ ap (peer n.next []) c.never.ensures in
    let w = c.in_err-give_all.field-0.0 in
    let joined : DraftValue = record { start = draft.start; network = with_line n line a } in
    let is_joined : c.join.new.self ≡ joined = c.in_ok-join.ensures.ok ∙ ap (λ (p : Peer). record joined { network = with_peer n p }) same_peer in
    let given = subst (λ (d : DraftValue). MeetsGiven d (Err w) (give_all d.network c.next-number.result (other_prefixes a c.as_slice.result.now))) is_joined c.in_err-give_all.ensures in
    let given_next = subst (λ (k : ℕ). MeetsGiven joined (Err w) (give_all joined.network k (other_prefixes a c.as_slice.result.now))) next given in
    let given_all = subst (λ (ps : List PrefixValue). MeetsGiven joined (Err w) (give_all joined.network n.next (other_prefixes a ps))) c.as_slice.ensures given_next in
    let met : MeetsLine c.args.self.now (Err w) (add_line c.args.self.now.so_far line) =
    subst (λ (b : AdoptingValue). MeetsLine b (Err w) (add_line b.so_far line)) view
    (subst (MeetsLine v (Err w)) (sym (added_at v.so_far line a placed)) (given_line_err v joined w (give_all joined.network n.next (other_prefixes a line.allowed)) (λ after. Ok (record { network = after; added = v.so_far.added ++ n.next ∷ []; known = v.so_far.known })) given_all)) in
    search rules

pub returns : goal.returns
returns c =
    let draft = c.line_address.new.self in
    let n = draft.network in
    let line = c.args.line.now in
    let a = c.in_ok-address.address in
    let same : draft ≡ c.self.inside.draft = c.line_address.ensures.same in
    let placed : line_address n line ≡ Ok a = ap (λ (d : DraftValue). line_address d.network line) same ∙ met_address a (line_address c.self.inside.draft.network line) c.in_ok-address.ensures.place in
    let next : c.next-number.result ≡ n.next = c.next-number.ensures.value ∙ sym (ap (λ (d : DraftValue). d.network.next) same) in
    let v : AdoptingValue = record { start = draft.start; so_far = record { network = n; added = c.self.inside.added; known = c.self.inside.known } } in
    let view : v ≡ c.args.self.now = ap (λ (d : DraftValue). record { start = d.start; so_far = record { network = d.network; added = c.self.inside.added; known = c.self.inside.known } }) same ∙ c.self.view_is in
    let peer : ℕ → List ℕ → ℕ → Peer = λ number label until. record { number = number; key = line.key; label = label; address = a; second = None; until = until; keepalive = line.keepalive; status = Some line.status } in
    let same_peer : peer c.next-number.result c.empty.result c.never.result ≡ peer_of_line n line a =
    ap (λ (k : ℕ). peer k c.empty.result c.never.result) next ∙ ap (λ (l : List ℕ). peer n.next l c.never.result) c.empty.ensures ∙ ap (peer n.next []) c.never.ensures in
    let after = c.give_all.new.self in
    let joined : DraftValue = record { start = draft.start; network = with_line n line a } in
    let is_joined : c.join.new.self ≡ joined = c.in_ok-join.ensures.ok ∙ ap (λ (p : Peer). record joined { network = with_peer n p }) same_peer in
    let given = subst (λ (d : DraftValue). MeetsGiven d (Ok after) (give_all d.network c.next-number.result (other_prefixes a c.as_slice.result.now))) is_joined c.in_ok-give_all.ensures in
    let given_next = subst (λ (k : ℕ). MeetsGiven joined (Ok after) (give_all joined.network k (other_prefixes a c.as_slice.result.now))) next given in
    let given_all = subst (λ (ps : List PrefixValue). MeetsGiven joined (Ok after) (give_all joined.network n.next (other_prefixes a ps))) c.as_slice.ensures given_next in
    let x : List ℕ → AdoptingValue = λ added. record { start = after.start; so_far = record { network = after.network; added = added; known = c.self.inside.known } } in
    let added : c.push.new.self ≡ c.self.inside.added ++ n.next ∷ [] = c.in_ok-push.ensures.ok ∙ ap (λ (k : ℕ). c.self.inside.added ++ k ∷ []) next in
    let met = given_line v joined after (give_all joined.network n.next (other_prefixes a line.allowed)) (c.self.inside.added ++ n.next ∷ []) c.self.inside.known refl given_all in
    let outcome = subst (MeetsLine v (Ok (x (c.self.inside.added ++ n.next ∷ [])))) (sym (added_at v.so_far line a placed)) met in
    subst (λ (b : AdoptingValue). MeetsLine b (Ok (x c.push.new.self)) (add_line b.so_far line)) view
    (subst (λ (xs : List ℕ). MeetsLine v (Ok (x xs)) (add_line v.so_far line)) (sym added) outcome)
