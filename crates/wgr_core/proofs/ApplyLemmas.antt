-- The network with a change, by its parts.
use Rattle.std.proofs.Common.{◌≡◌, ℕ, ◌≤◌, ◌-◌, Bool, not, nat_eq, nat_lt, List, [], ◌∷◌, ◌++◌, length, get_or, take, Option, Some, None, sym, ap, subst, ◌∙◌, arith}
use Rattle.std.specs.List.{All, filter, list_any}
use Rattle.std.proofs.lemmas.List.Elements.{All-filter, All-head, All-tail, All-weaker}
use Rattle.std.specs.Option.{option_to_list}
use Rattle.wgr_text.specs.Prefix.{PrefixValue}
use Rattle.wgr_peers.specs.declared.peer.Peer.{Peer}
use Rattle.wgr_core.specs.declared.change.Change.{Change}
use Rattle.wgr_peers.specs.Peers.{key_holder, put_peer}
use Rattle.wgr_peers.specs.PeerIndex.{EndsFrom}
use Rattle.wgr_peers.specs.PeersLeft.{HasItsPlaces, OnlyRenews, peers_after}
use Rattle.wgr_peers.specs.Routes.{Routes}
use Rattle.wgr_core.specs.Network.{NetworkValue, is_among, without_peers}
use Rattle.wgr_core.specs.Change.{put_peers, assign_routes, without_routes, changed, applied, NoneIsNew, NothingGrows, OnlyPuts}
use Rattle.wgr_pool.proofs.Lists.{filter_agree_on}
use Rattle.wgr_peers.proofs.OrderedLemmas.{put_all}
use Rattle.wgr_peers.proofs.TableLemmas.{ends_sooner}
use Rattle.wgr_core.proofs.CommandLemmas.{without_none}

-- what a set of numbers leaves is what the list of them leaves
pub kept_peers : (removed : List ℕ) (has : ℕ → Bool) (peers : List Peer) → ((n : ℕ) → has n ≡ is_among removed n) → filter (λ p. not (has p.number)) peers ≡ filter (λ p. not (is_among removed p.number)) peers
kept_peers removed has peers same = filter_agree_on (λ (p : Peer). not (has p.number)) (λ p. not (is_among removed p.number)) peers (λ k d h. ap not (same (get_or peers k d).number))

pub kept_routes : (removed : List ℕ) (has : ℕ → Bool) (routes : Routes) → ((n : ℕ) → has n ≡ is_among removed n) → filter (λ r. not (has r.1)) routes ≡ filter (λ r. not (is_among removed r.1)) routes
kept_routes removed has routes same = filter_agree_on (λ (r : PrefixValue × ℕ). not (has r.1)) (λ r. not (is_among removed r.1)) routes (λ k d h. ap not (same (get_or routes k d).1))

pub applied_is : (c : Change) (n : NetworkValue) (peers : List Peer) (routes : Routes) → peers ≡ (applied c n).peers → routes ≡ (applied c n).routes → record n { next = c.next; peers = peers; routes = routes } ≡ applied c n
applied_is c n peers routes same_peers same_routes =
    ap (λ (ps : List Peer). record n { next = c.next; peers = ps; routes = routes }) same_peers
    ∙ ap (λ (rs : Routes). record n { next = c.next; peers = (applied c n).peers; routes = rs }) same_routes

-- ---- a change that only puts one peer

pub one_item : {X : Type 0} (xs ys : List X) (x : X) → length xs ≡ 1 → xs ≡ ys ++ x ∷ [] → xs ≡ x ∷ []
one_item {X} xs [] x one e = e
one_item {X} xs (y ∷ ys) x one e = absurd (more ys (sym (ap length e) ∙ one))
  where
    more : (ys : List X) → length (y ∷ (ys ++ x ∷ [])) ≡ 1 → ⊥
    more [] h = omega (arith, h)
    more (z ∷ ys) h = omega (arith, h)

pub puts_one : (c : Change) (n : NetworkValue) (before : List Peer) (p : Peer) → OnlyPuts c → c.peers ≡ before ++ p ∷ [] → record n { peers = put_peer n.peers p; next = c.next } ≡ applied c n
puts_one c n before p only last =
    sym
    (ap (λ (rs : List ℕ). changed c (without_peers n rs)) only.removed
    ∙ ap (changed c) (without_none n)
    ∙ ap (λ (ps : List Peer). record n { next = c.next; peers = put_peers n.peers ps; routes = assign_routes (without_routes n.routes c.routes_gone) c.routes_put }) (one_item c.peers before p only.one last)
    ∙ ap (λ (gone : List PrefixValue). record n { next = c.next; peers = put_peer n.peers p; routes = assign_routes (without_routes n.routes gone) c.routes_put }) only.routes_gone
    ∙ ap (λ (put : Routes). record n { next = c.next; peers = put_peer n.peers p; routes = assign_routes n.routes put }) only.routes_put)

-- ---- a change that removes no peer

pub removes_none : (c d : Change) (n : NetworkValue) → c ≡ d → d.removed ≡ [] → changed d n ≡ applied c n
removes_none c d n is none =
    sym (ap (λ (c : Change). applied c n) is ∙ ap (λ (rs : List ℕ). changed d (without_peers n rs)) none ∙ ap (changed d) (without_none n))

-- ---- a change that only removes a peer

pub removes_one : (c : Change) (n : NetworkValue) (number : ℕ) → c ≡ record { removed = number ∷ []; peers = []; routes_put = []; routes_gone = []; next = c.next } → applied c n ≡ record (without_peers n (number ∷ [])) { next = c.next }
removes_one c n number is = ap (λ (c : Change). applied c n) is

-- ---- a change by which one peer comes at most

-- what a pop leaves of one item at most
rest_none : (peers rest : List Peer) (len : ℕ) → length peers ≤ 1 → len ≡ length peers → rest ≡ take (len - 1) peers → rest ≡ []
rest_none peers rest len one is e =
    let zero : len - 1 ≡ 0 = omega (arith, one, is) in
    e ∙ ap (λ (k : ℕ). take k peers) zero

after_one : (c : Change) (n : NetworkValue) (gone : List ℕ) (o : Option Peer) → ((m : ℕ) → list_any (nat_eq m) gone ≡ is_among c.removed m) → c.peers ≡ option_to_list o → peers_after n.peers gone o ≡ (applied c n).peers
after_one c n gone None same one =
    kept_peers c.removed (λ m. list_any (nat_eq m) gone) n.peers same ∙ sym (ap (put_peers (without_peers n c.removed).peers) one)
after_one c n gone (Some p) same one =
    ap (λ (ps : List Peer). put_peer ps p) (kept_peers c.removed (λ m. list_any (nat_eq m) gone) n.peers same) ∙ sym (ap (put_peers (without_peers n c.removed).peers) one)

-- the set's numbers go, and the peer that a pop of the change's peers gives comes
pub applied_in_place : (c : Change) (n : NetworkValue) (gone : List ℕ) (o : Option Peer) (peers rest : List Peer) (len : ℕ) (routes : Routes)
    → length c.peers ≤ 1 → peers ≡ c.peers → len ≡ length peers → peers ≡ rest ++ option_to_list o → rest ≡ take (len - 1) peers
    → ((m : ℕ) → list_any (nat_eq m) gone ≡ is_among c.removed m) → routes ≡ (applied c n).routes
    → record n { peers = peers_after n.peers gone o; routes = routes; next = c.next } ≡ applied c n
applied_in_place c n gone o peers rest len routes one same size parts left among same_routes =
    let few : length peers ≤ 1 = subst (λ (ps : List Peer). length ps ≤ 1) (sym same) one in
    let none = rest_none peers rest len few size left in
    let only : c.peers ≡ option_to_list o = sym same ∙ parts ∙ ap (λ (ps : List Peer). ps ++ option_to_list o) none in
    applied_is c n (peers_after n.peers gone o) routes (after_one c n gone o among only) same_routes

-- ---- a change by which nothing grows

pub one_at_most : (n : NetworkValue) (removed : List ℕ) (peers : List Peer) → NoneIsNew n removed peers → length peers ≤ 1
one_at_most n removed [] none = omega arith
one_at_most n removed (p ∷ []) none = omega arith
one_at_most n removed (p ∷ q ∷ more) none = absurd none

pub one_known : (n : NetworkValue) (removed : List ℕ) (peers : List Peer) (p : Peer) → NoneIsNew n removed peers → peers ≡ p ∷ [] → (key_holder n.peers p.key ≡ Some p.number) × HasItsPlaces n.peers p
one_known n removed peers p none is = let known = subst (NoneIsNew n removed) is none in (known.0, known.2)

renews : (n : NetworkValue) (removed gone : List ℕ) (o : Option Peer) → ((m : ℕ) → list_any (nat_eq m) gone ≡ is_among removed m) → NoneIsNew n removed (option_to_list o) → OnlyRenews n.peers gone o
renews n removed gone None same none = tt
renews n removed gone (Some p) same none = (none.0, same p.number ∙ none.1, none.2)

-- the peer that a pop gives is in the place of one that stays
pub pop_renews : (c : Change) (n : NetworkValue) (gone : List ℕ) (o : Option Peer) (peers rest : List Peer) (len : ℕ) → NothingGrows c n → peers ≡ c.peers → len ≡ length peers → peers ≡ rest ++ option_to_list o → rest ≡ take (len - 1) peers
    → ((m : ℕ) → list_any (nat_eq m) gone ≡ is_among c.removed m) → OnlyRenews n.peers gone o
pop_renews c n gone o peers rest len grows same size parts left among =
    let few : length peers ≤ 1 = subst (λ (ps : List Peer). length ps ≤ 1) (sym same) (one_at_most n c.removed c.peers grows.peers) in
    let only : c.peers ≡ option_to_list o = sym same ∙ parts ∙ ap (λ (ps : List Peer). ps ++ option_to_list o) (rest_none peers rest len few size left) in
    renews n c.removed gone o among (subst (NoneIsNew n c.removed) only grows.peers)

-- and the network with the change has these routes
pub routes_shrunk : (c : Change) (n : NetworkValue) (gone : List ℕ) (prefixes : List PrefixValue) → prefixes ≡ c.routes_gone → NothingGrows c n → ((m : ℕ) → list_any (nat_eq m) gone ≡ is_among c.removed m)
    → without_routes (filter (λ r. not (is_among gone r.1)) n.routes) prefixes ≡ (applied c n).routes
routes_shrunk c n gone prefixes same grows among =
    ap (without_routes (filter (λ (r : PrefixValue × ℕ). not (is_among gone r.1)) n.routes)) same
    ∙ ap (λ (rs : Routes). without_routes rs c.routes_gone) (kept_routes c.removed (λ m. list_any (nat_eq m) gone) n.routes among)
    ∙ sym (ap (assign_routes (without_routes (without_peers n c.removed).routes c.routes_gone)) grows.routes)

-- ---- when the leases of a changed network end

put_peers_all : (P : Peer → Type 0) (peers more : List Peer) → All P peers → All P more → All P (put_peers peers more)
put_peers_all P peers [] all others = all
put_peers_all P peers (p ∷ more) all others =
    put_peers_all P (put_peer peers p) more (put_all P (λ q. nat_lt q.number p.number) (λ q. nat_eq q.number p.number) peers p all (All-head P p more others)) (All-tail P p more others)

pub ends_applied : (c : Change) (n : NetworkValue) (before own end : ℕ) → end ≤ before → end ≤ own → All (EndsFrom own) c.peers → All (EndsFrom before) n.peers → All (EndsFrom end) (applied c n).peers
ends_applied c n before own end low low' puts all =
    put_peers_all (EndsFrom end) (filter (λ p. not (is_among c.removed p.number)) n.peers) c.peers
    (All-filter (λ p. not (is_among c.removed p.number)) (EndsFrom end) n.peers (All-weaker (EndsFrom before) (EndsFrom end) (λ p h. ends_sooner before end p low h) n.peers all))
    (All-weaker (EndsFrom own) (EndsFrom end) (λ p h. ends_sooner own end p low' h) c.peers puts)
