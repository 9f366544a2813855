-- Rows that a network's peers and routes are stored in, in the order of the queries.
use Rattle.std.proofs.Common.{◌≡◌, ◌<◌, ℕ, Bool, true, false, cond, not, ◌&&◌, List, [], ◌∷◌, Result, Ok, Err, Some, None, IfOk, is_some, map, filter, drop, get_or, length, nat_eq, nat_lt, eqb-true, IsPermutation, refl, sym, ap, ap₂, subst, ◌∙◌, arith}
use Rattle.std.specs.List.{AllByRecursion}
use Rattle.std.specs.List.Sorted.{IsNonDecreasingBy, IsSorted}
use Rattle.std.specs.Ordering.{nat_cmp}
use Rattle.std.proofs.lemmas.Bool.Decides.{nat_tests}
use Rattle.std.proofs.lemmas.List.{get_or-map}
use Rattle.std.proofs.lemmas.List.Elements.{All-head, All-tail, recursion_from_All}
use Rattle.std.proofs.lemmas.List.Sorted.{IsNonDecreasingBy-from_sort, IsPermutation-sym, IsPermutation-trans}
use Rattle.std.proofs.Math.ListN.{length-map}
use Rattle.sqlite_trees.proofs.ListLemmas.{all-permutation}
use Rattle.wgr_text.specs.Prefix.{AddrValue, PrefixValue, IsAddr}
use Rattle.wgr_pool.specs.Pool.{IsPool}
use Rattle.wgr_pool.specs.Allot.{is_assignable}
use Rattle.wgr_pool.proofs.Merging.{covers_fits}
use Rattle.wgr_peers.specs.declared.peer.Peer.{Peer}
use Rattle.wgr_peers.specs.Peers.{peer_of}
use Rattle.wgr_peers.specs.Routes.{Routes}
use Rattle.wgr_core.specs.Network.{NetworkValue, AreAlone, IsNetwork}
use Rattle.wgr_core.specs.Forms.{HasForms}
use Rattle.wgr_core.proofs.Arranged.{peers_arranged}
use Rattle.wgr_core.proofs.FreedLemmas.{given_in_pool}
use Rattle.wgr_model.specs.Rows.{AllowedRow, PeerRow, Tables, address_row, peer_id, peer_row, route_row}
use Rattle.wgr_sql.proofs.Answers.{from_map, map-both}
use Rattle.wgr_columns.specs.Stored.{IsKeptPeer, IsKeptRoute}

numbers_rise : (id : ℕ) (peers : List Peer) → IsSorted nat_cmp (map (λ p. peer_id id p.number) peers) → IsNonDecreasingBy (λ p. p.number) peers
numbers_rise id peers up i j d below low =
    let key = λ (p : Peer). peer_id id p.number in
    let short : i < length peers = omega (arith, below, low) in
    let at_i = get_or-map key peers i d 0 short in
    let at_j = get_or-map key peers j d 0 low in
    let le = IsNonDecreasingBy-from_sort (λ (x : ℕ). x) (map key peers) up i j 0 below (omega (arith, low, length-map peers key)) in
    omega (arith, le, at_i, at_j)

-- the rows of a network's peers, and those of their addresses
abbrev peer_rows_of : ℕ → Tables → List PeerRow
peer_rows_of id t = filter (λ p. nat_eq p.network id) t.peers

abbrev address_rows_of : ℕ → Tables → List AllowedRow
address_rows_of id t = filter (λ a. nat_eq a.network id && not a.is_route) t.allowed

-- what is shown of a network's peers in the order of their ids
pub arranged_peers : {T : Type 0} (id : ℕ) (n : NetworkValue) → IsNetwork n → (show : Peer → T) (key : T → ℕ) → ((p : Peer) → key (show p) ≡ peer_id id p.number)
    → (shown all : List T) → IsPermutation all (map show n.peers) → IsPermutation all shown → IsSorted nat_cmp (map key shown) → shown ≡ map show n.peers
arranged_peers id n rules show key keyed shown all own listed up =
    let found = from_map show n.peers shown (IsPermutation-trans (map show n.peers) all shown (IsPermutation-sym all (map show n.peers) own) listed) in
    let same : map key shown ≡ map (λ p. peer_id id p.number) found.0 = ap (map key) found.2 ∙ map-both show key found.0 ∙ (λ k. map (λ p. keyed p k) found.0) in
    found.2 ∙ ap (map show) (peers_arranged n.peers found.0 rules.numbered found.1 (numbers_rise id found.0 (subst (IsSorted nat_cmp) same up)))

-- the rows of peers, and those of their addresses, are shown in the order of the peers
module _ (id : ℕ) (t : Tables) (n : NetworkValue) (rules : IsNetwork n) where
  pub shown_peers : IsPermutation (peer_rows_of id t) (map (peer_row id) n.peers) → (shown : List PeerRow) → IsPermutation (peer_rows_of id t) shown → IsSorted nat_cmp (map (λ (p : PeerRow). p.id) shown) → shown ≡ map (peer_row id) n.peers
  shown_peers own shown = arranged_peers id n rules (peer_row id) (λ (p : PeerRow). p.id) (λ p. refl) shown (peer_rows_of id t) own

  pub shown_addresses : IsPermutation (address_rows_of id t) (map (address_row id) n.peers) → (shown : List AllowedRow) → IsPermutation (address_rows_of id t) shown → IsSorted nat_cmp (map (λ (a : AllowedRow). a.peer) shown) → shown ≡ map (address_row id) n.peers
  shown_addresses own shown = arranged_peers id n rules (address_row id) (λ (a : AllowedRow). a.peer) (λ p. refl) shown (address_rows_of id t) own

address_fits : (pool : PrefixValue) (a : AddrValue) → IsPool pool → is_assignable pool a ≡ true → IsAddr a
address_fits pool a is given =
    let self : nat_lt pool.length pool.length ≡ false = grind (arith, nat_tests) in
    covers_fits pool (record { address = a; length = pool.length }) is.1 is.0 (ap₂ (λ x y. not x && y) self (given_in_pool pool a given))

pub kept_peers : (n : NetworkValue) → IsNetwork n → HasForms n → AllByRecursion IsKeptPeer n.peers
kept_peers n rules forms = recursion_from_All IsKeptPeer n.peers (λ k d low.
    let member = rules.members k d low in
    record { number = omega (arith, member.numbered.1, rules.next.1); forms = forms.1 k d low; address = address_fits n.pool _ rules.pool member.assignable })

-- ---- what a row shows tells what it is of

number_once : (id m n : ℕ) → peer_id id m ≡ peer_id id n → m ≡ n
number_once id m n is = omega (arith, is)

peer_once : (id : ℕ) (p q : Peer) → p.second ≡ None → q.second ≡ None → peer_row id p ≡ peer_row id q → address_row id p ≡ address_row id q → p ≡ q
peer_once id p q one other row address = λ k. record {
  number = number_once id p.number q.number (ap (λ r. r.id) row) k;
  key = (row k).key;
  label = (row k).label;
  address = (address k).prefix.address;
  second = (one ∙ sym other) k;
  until = (row k).until;
  keepalive = (row k).keepalive;
  status = (row k).status;
}

pub peers_once : (id : ℕ) (ps qs : List Peer) → AreAlone ps → AreAlone qs → map (peer_row id) ps ≡ map (peer_row id) qs → map (address_row id) ps ≡ map (address_row id) qs → ps ≡ qs
peers_once id [] [] one other rows addresses = refl
peers_once id [] (q ∷ qs) one other rows addresses = absurd (let none = ap length rows in omega (arith, none))
peers_once id (p ∷ ps) [] one other rows addresses = absurd (let none = ap length rows in omega (arith, none))
peers_once id (p ∷ ps) (q ∷ qs) one other rows addresses =
    ap₂ (λ x xs. x ∷ xs) (peer_once id p q (first p ps one) (first q qs other) (head_is (peer_row id p) rows) (head_is (address_row id p) addresses))
    (peers_once id ps qs (rest p ps one) (rest q qs other) (ap (drop 1) rows) (ap (drop 1) addresses))
  where
    head_is : {T : Type 0} {xs ys : List T} {x y : T} (d : T) → (x ∷ xs) ≡ (y ∷ ys) → x ≡ y
    head_is d is = ap (λ l. get_or l 0 d) is

    first : (p : Peer) (ps : List Peer) → AreAlone (p ∷ ps) → p.second ≡ None
    first = All-head (λ p. p.second ≡ None)

    rest : (p : Peer) (ps : List Peer) → AreAlone (p ∷ ps) → AreAlone ps
    rest = All-tail (λ p. p.second ≡ None)

pub if_three : {X E : Type 0} (r : Result X E) (P Q R S : X → Type 0) → ((x : X) → P x → Q x → R x → S x) → IfOk r P → IfOk r Q → IfOk r R → IfOk r S
if_three (Ok x) P Q R S f p q s = f x p q s
if_three (Err e) P Q R S f p q s = tt

pub routes_once : (id : ℕ) (rs ss : Routes) → map (route_row id) rs ≡ map (route_row id) ss → rs ≡ ss
routes_once id [] [] rows = refl
routes_once id [] (s ∷ ss) rows = absurd (let none = ap length rows in omega (arith, none))
routes_once id (r ∷ rs) [] rows = absurd (let none = ap length rows in omega (arith, none))
routes_once id (r ∷ rs) (s ∷ ss) rows =
    let row : route_row id r ≡ route_row id s = ap (λ l. get_or l 0 (route_row id r)) rows in
    ap₂ (λ x xs. x ∷ xs) (λ k. ((row k).prefix, number_once id r.1 s.1 (ap (λ a. a.peer) row) k)) (routes_once id rs ss (ap (drop 1) rows))

-- ---- routes

leads_below : (peers : List Peer) (number most : ℕ) → AllByRecursion (λ p. p.number < most) peers → is_some (peer_of peers number) ≡ true → number < most
leads_below [] number most all leads = absurd cc
leads_below (p ∷ peers) number most all leads = go (nat_eq p.number number) refl leads (λ h. leads_below peers number most all.1 h)
  where
    go : (b : Bool) → nat_eq p.number number ≡ b → is_some (cond b (Some p) (peer_of peers number)) ≡ true → (is_some (peer_of peers number) ≡ true → number < most) → number < most
    go true is h rest = let same = eqb-true p.number number is in omega (arith, all.0, same)
    go false is h rest = rest h

pub kept_routes : (n : NetworkValue) → IsNetwork n → AllByRecursion IsKeptRoute n.routes
kept_routes n rules = recursion_from_All IsKeptRoute n.routes (λ k d low.
    let route = rules.routes k d low in
    let below = recursion_from_All (λ (p : Peer). p.number < 4294967296) n.peers (λ j e there. let member = rules.members j e there in omega (arith, member.numbered.1, rules.next.1)) in
    record { peer = leads_below n.peers _ 4294967296 below route.leads; prefix = route.masked })

-- the typed rows that a query shows, in its order, are those of the network's routes in some order
pub arranged_routes : (id : ℕ) (n : NetworkValue) → IsNetwork n → (shown all : List AllowedRow) → IsPermutation all (map (route_row id) n.routes) → IsPermutation all shown → (routes : Routes) × AllByRecursion IsKeptRoute routes × (shown ≡ map (route_row id) routes)
arranged_routes id n rules shown all own listed =
    let found = from_map (route_row id) n.routes shown (IsPermutation-trans (map (route_row id) n.routes) all shown (IsPermutation-sym all (map (route_row id) n.routes) own) listed) in
    (found.0, all-permutation IsKeptRoute n.routes found.0 found.1 (kept_routes n rules), found.2)

pub same_routes : (id : ℕ) (rs ss : Routes) (all : List AllowedRow) → IsPermutation all (map (route_row id) rs) → IsPermutation all (map (route_row id) ss) → IsPermutation rs ss
same_routes id rs ss all p q =
    let found = from_map (route_row id) rs (map (route_row id) ss) (IsPermutation-trans (map (route_row id) rs) all (map (route_row id) ss) (IsPermutation-sym all (map (route_row id) rs) p) q) in
    subst (IsPermutation rs) (sym (routes_once id ss found.0 found.2)) found.1
