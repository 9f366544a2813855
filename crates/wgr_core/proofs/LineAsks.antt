-- What a line of a dump asks: the peer of its key, its address, and what a new peer needs to join.
use Rattle.std.proofs.Common.{◌≡◌, ℕ, ◌<◌, inl, inr, true, false, not, cond, nat_eq, nat_lt, List, [], ◌∷◌, length, get_or, Option, Some, None, is_some, refl, sym, ap, ◌∙◌, subst, arith}
use Rattle.std.specs.Prelude.{Result, Ok, Err}
use Rattle.std.specs.List.{All}
use Rattle.std.proofs.lemmas.Bool.Decides.{nat_tests}
use Rattle.std.proofs.lemmas.List.Elements.{All-head, All-tail, filter_passes}
use Rattle.wgr_text.specs.declared.key.Key.{Key}
use Rattle.wgr_text.specs.Prefix.{AddrValue, PrefixValue, IsAddr, IsPrefix}
use Rattle.wgr_peers.specs.declared.peer.Peer.{Peer}
use Rattle.wgr_peers.specs.declared.peer.Status.{Status}
use Rattle.wgr_peers.specs.Ordered.{EndsAt}
use Rattle.wgr_peers.specs.Peers.{key_holder, peer_of, put_peer, same_key, IsNumberedBelow, AreNumbered}
use Rattle.wgr_peers.specs.Routes.{assign_route}
use Rattle.wgr_core.specs.declared.seen_peer.SeenPeer.{SeenPeer}
use Rattle.wgr_core.specs.Network.{NetworkValue, IsNetwork}
use Rattle.wgr_core.specs.Adoption.{and_then, named_address, peer_of_line, keyed_peer}
use Rattle.wgr_core.specs.Refusals.{join_refusal, place, route_refusal, unless_refused}
use Rattle.wgr_core.specs.Draft.{line_address}
use Rattle.wgr_pool.proofs.Bools.{decide, not_true}
use Rattle.wgr_pool.proofs.Lists.{AllPairs-head, AllPairs-tail}
use Rattle.wgr_pool.proofs.PrefixLemmas.{nat_eq_is}
use Rattle.wgr_peers.proofs.IndexLemmas.{peer_not_there}
use Rattle.wgr_peers.proofs.TableLemmas.{peer_absent, peer_present}
use Rattle.wgr_core.proofs.JoinLemmas.{MayJoin}
use Rattle.wgr_core.proofs.LineLemmas.{line_may_join, may_lead}
use Rattle.wgr_core.proofs.ReplaceLemmas.{amended_is_network}
use Rattle.wgr_core.proofs.RoutedKeeps.{routed_is_network}

-- ---- the peer of a key

equal : (m n : ℕ) → m ≡ n → nat_eq m n ≡ true
equal m n e = grind (arith, nat_tests)

apart : (m n : ℕ) → m < n → nat_eq m n ≡ false
apart m n l = grind (arith, nat_tests)

holder_above : (floor : ℕ) (peers : List Peer) (key : Key) (number : ℕ) → All (λ q. floor < q.number) peers → key_holder peers key ≡ Some number → floor < number
holder_above floor [] key number all h = cc
holder_above floor (p ∷ peers) key number all h = elim (decide (same_key p.key key)) [
  | inl t ↦
      let some : Some p.number ≡ Some number = sym (ap (λ b. cond b (Some p.number) (key_holder peers key)) t) ∙ h in
      let is : p.number ≡ number = cc in
      subst (λ (m : ℕ). floor < m) is (All-head (λ (q : Peer). floor < q.number) p peers all)
  | inr f ↦ holder_above floor peers key number (All-tail (λ (q : Peer). floor < q.number) p peers all) (sym (ap (λ b. cond b (Some p.number) (key_holder peers key)) f) ∙ h)
]

-- the peer of the number that the key leads to is the one that has the key
pub keyed_is : (peers : List Peer) (key : Key) (number : ℕ) → AreNumbered peers → key_holder peers key ≡ Some number → keyed_peer peers key ≡ peer_of peers number
keyed_is [] key number pairs h = cc
keyed_is (p ∷ peers) key number pairs h = elim (decide (same_key p.key key)) [
  | inl t ↦
      let some : Some p.number ≡ Some number = sym (ap (λ b. cond b (Some p.number) (key_holder peers key)) t) ∙ h in
      let is : p.number ≡ number = cc in
      ap (λ b. cond b (Some p) (keyed_peer peers key)) t ∙ sym (ap (λ b. cond b (Some p) (peer_of peers number)) (equal p.number number is))
  | inr f ↦
      let later = sym (ap (λ b. cond b (Some p.number) (key_holder peers key)) f) ∙ h in
      let above = holder_above p.number peers key number (AllPairs-head IsNumberedBelow p peers pairs) later in
      ap (λ b. cond b (Some p) (keyed_peer peers key)) f
      ∙ keyed_is peers key number (AllPairs-tail IsNumberedBelow p peers pairs) later
      ∙ sym (ap (λ b. cond b (Some p) (peer_of peers number)) (apart p.number number above))
]

pub keyed_none : (peers : List Peer) (key : Key) → key_holder peers key ≡ None → keyed_peer peers key ≡ None
keyed_none [] key h = refl
keyed_none (p ∷ peers) key h = elim (decide (same_key p.key key)) [
  | inl t ↦ let bad : Some p.number ≡ None = sym (ap (λ b. cond b (Some p.number) (key_holder peers key)) t) ∙ h in cc
  | inr f ↦ ap (λ b. cond b (Some p) (keyed_peer peers key)) f ∙ keyed_none peers key (sym (ap (λ b. cond b (Some p.number) (key_holder peers key)) f) ∙ h)
]

pub placed_peer : (peers : List Peer) (number at : ℕ) (d : Peer) → AreNumbered peers → EndsAt (λ (p : Peer). nat_lt p.number number) (λ p. nat_eq p.number number) peers (Ok at) → peer_of peers number ≡ Some (get_or peers at d)
placed_peer peers number at d pairs ends = peer_present peers number at d pairs ends.1 (nat_eq_is (get_or peers at d).number number (ends.2 d))

pub unplaced_peer : (peers : List Peer) (number at : ℕ) → AreNumbered peers → EndsAt (λ (p : Peer). nat_lt p.number number) (λ p. nat_eq p.number number) peers (Err at) → peer_of peers number ≡ None
unplaced_peer peers number at pairs ends =
    let all : All (λ p. not (nat_eq p.number number) ≡ true) peers = subst (All (λ (p : Peer). not (nat_eq p.number number) ≡ true)) (peer_not_there peers number at pairs ends) (filter_passes (λ (p : Peer). not (nat_eq p.number number)) peers) in
    peer_absent peers number (λ k d h. not_true (nat_eq (get_or peers k d).number number) (all k d h))

-- ---- a new peer

not_refused : {T E U : Type 0} (r : Option E) (x : T) (next : T → Result U E) (y : U) → and_then (unless_refused r x) next ≡ Ok y → (r ≡ None) × (next x ≡ Ok y)
not_refused None x next y h = (refl, h)
not_refused (Some e) x next y h = cc

-- a line that gets an address may join
pub placed_may_join : (n : NetworkValue) (line : SeenPeer) (a : AddrValue) → IsNetwork n → line_address n line ≡ Ok a → MayJoin n (peer_of_line n line a)
placed_may_join n line a is h =
    let parts = not_refused (join_refusal n 0 line.key 0) n (λ n. place n n.pool (named_address n.pool line.allowed)) a h in
    line_may_join n line a is.pool parts.0 parts.1

-- ---- another status of a peer

pub noted_is_network : (n : NetworkValue) (at : ℕ) (d : Peer) (status : Option Status) → IsNetwork n → at < length n.peers → IsNetwork (record n { peers = put_peer n.peers (record (get_or n.peers at d) { status = status }) })
noted_is_network n at d status is within =
    let p = get_or n.peers at d in
    amended_is_network n p p.until status is (peer_present n.peers p.number at d is.numbered within refl)

-- ---- a prefix that can be a route

pub given_is_network : (n : NetworkValue) (p : PrefixValue) (number : ℕ) → IsNetwork n → IsAddr p.address × IsPrefix p → is_some (peer_of n.peers number) ≡ true → route_refusal n p ≡ None
    → IsNetwork (record n { routes = assign_route n.routes p number })
given_is_network n p number is masked stands allowed =
    let may = may_lead n p number stands allowed in
    routed_is_network n p number is (record { masked = masked; stands = may.stands; no_address = may.no_address; room = may.room })
