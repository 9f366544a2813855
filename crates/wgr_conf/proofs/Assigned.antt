-- What the server's file assigns, and to whom the allowed prefixes lead.
use Rattle.std.proofs.Common.{◌≡◌, ℕ, ◌<◌, ◌⊎◌, inl, inr, Bool, true, false, nat_eq, cond, List, [], ◌∷◌, ◌++◌, length, get_or, map, flat_map, Option, Some, None, is_some, refl, sym, ap, ◌∙◌}
use Rattle.std.specs.Prelude.{option_and_then, option_map}
use Rattle.std.specs.List.{All, AllPairs, filter}
use Rattle.std.proofs.lemmas.List.Elements.{All-append, All-cons, All-head, All-map, All-nil, All-tail}
use Rattle.base64.specs.GeneralPurpose.{IsBytes}
use Rattle.wgr_text.specs.declared.key.Key.{Key}
use Rattle.wgr_text.specs.KeyText.{key_text}
use Rattle.wgr_text.specs.Prefix.{PrefixValue, IsAddr, IsPrefix, block, mask}
use Rattle.wgr_text.specs.PrefixText.{canonical_text}
use Rattle.wgr_text.proofs.Blocks.{block_start}
use Rattle.wgr_text.proofs.RoundTrips.{written_prefix}
use Rattle.wgr_pool.specs.PrefixTests.{full, same_prefix}
use Rattle.wgr_pool.proofs.Bools.{decide}
use Rattle.wgr_pool.proofs.Lists.{AllPairs-head, AllPairs-tail}
use Rattle.wgr_pool.proofs.PrefixLemmas.{nat_eq_is, nat_eq_self, same_prefix_is, same_prefix_self}
use Rattle.wgr_peers.specs.declared.peer.Peer.{Peer}
use Rattle.wgr_peers.specs.Peers.{peer_of}
use Rattle.wgr_peers.specs.Routes.{Routes, route_of, routes_to}
use Rattle.wgr_peers.proofs.PeerLemmas.{peer_is}
use Rattle.wgr_peers.proofs.TableLemmas.{peer_present}
use Rattle.wgr_core.specs.Network.{NetworkValue, IsNetwork}
use Rattle.wgr_core.specs.Owner.{allowed, own_prefixes}
use Rattle.wgr_core.proofs.AllowedLemmas.{Differ, all_differ}
use Rattle.wgr_conf.specs.Laws.{allowed_peer_key}
use Rattle.wgr_conf.specs.Routing.{AreRows, IsRow, Text, key_of, later_or}
use Rattle.wgr_conf.proofs.Reading.{section_rows}

abbrev pub Assigned : Type 0
Assigned = List (PrefixValue × Key)

-- a peer's prefixes, each assigned to its key
abbrev pub assigned_to : Peer → List PrefixValue → Assigned
assigned_to p routes = (full p.address, p.key) ∷ map (λ q. (q, p.key)) routes

-- ---- the rows spell it

abbrev pub IsMasked : PrefixValue → Type 0
IsMasked p = IsAddr p.address × IsPrefix p

abbrev pub IsKey : Key → Type 0
IsKey key = (length key.0 ≡ 32) × IsBytes key.0

rows_append : (rows rows' : List (Text × Text)) (xs ys : Assigned) → AreRows rows xs → AreRows rows' ys → AreRows (rows ++ rows') (xs ++ ys)
rows_append [] rows' [] ys h k = k
rows_append [] rows' (x ∷ xs) ys h k = absurd h
rows_append (r ∷ rows) rows' [] ys h k = absurd h
rows_append (r ∷ rows) rows' (x ∷ xs) ys h k = (h.0, rows_append rows rows' xs ys h.1 k)

masked_self : (p : PrefixValue) → IsPrefix p → p ≡ mask p.address p.length
masked_self p is =
    let number = sym (block_start p.address.number (block p.address.family p.length) is.1) in
    ap (λ (m : ℕ). record { address = record { family = p.address.family; number = m }; length = p.length }) number

row : (p : PrefixValue) (key : Key) → IsMasked p → IsKey key → IsRow (canonical_text p, key_text key.0) p key
row p key masked is = record {
  address = p.address;
  bits = p.length;
  spelled = written_prefix p masked.0 masked.1;
  masked = masked_self p masked.1;
  bytes = is;
  key_spelled = refl;
}

routes_rows : (key : Key) (routes : List PrefixValue) → IsKey key → All IsMasked routes → AreRows (map (λ value. (value, key_text key.0)) (map canonical_text routes)) (map (λ q. (q, key)) routes)
routes_rows key [] is masked = tt
routes_rows key (p ∷ routes) is masked = (row p key (All-head IsMasked p routes masked) is, routes_rows key routes is (All-tail IsMasked p routes masked))

pub sections_rows : (routes : Peer → List PrefixValue) (peers : List Peer) → All (λ p. IsKey p.key) peers → All (λ p. IsMasked (full p.address)) peers → All (λ p. All IsMasked (routes p)) peers
    → AreRows (flat_map (λ p. section_rows p (routes p)) peers) (flat_map (λ p. assigned_to p (routes p)) peers)
sections_rows routes [] keys own all = tt
sections_rows routes (p ∷ peers) keys own all =
    let key = All-head (λ p. IsKey p.key) p peers keys in
    rows_append (section_rows p (routes p)) (flat_map (λ p. section_rows p (routes p)) peers) (assigned_to p (routes p)) (flat_map (λ p. assigned_to p (routes p)) peers)
    (row (full p.address) p.key (All-head (λ p. IsMasked (full p.address)) p peers own) key, routes_rows p.key (routes p) key (All-head (λ p. All IsMasked (routes p)) p peers all))
    (sections_rows routes peers (All-tail (λ p. IsKey p.key) p peers keys) (All-tail (λ p. IsMasked (full p.address)) p peers own) (All-tail (λ p. All IsMasked (routes p)) p peers all))

-- ---- lists

left_of : {X : Type 0} (P : X → Type 0) (xs ys : List X) → All P (xs ++ ys) → All P xs
left_of P [] ys all = All-nil P
left_of P (x ∷ xs) ys all = All-cons P x xs (All-head P x (xs ++ ys) all) (left_of P xs ys (All-tail P x (xs ++ ys) all))

right_of : {X : Type 0} (P : X → Type 0) (xs ys : List X) → All P (xs ++ ys) → All P ys
right_of P [] ys all = all
right_of P (x ∷ xs) ys all = right_of P xs ys (All-tail P x (xs ++ ys) all)

mapped : {X Y : Type 0} (P : Y → Type 0) (f : X → Y) (xs : List X) → All P (map f xs) → All (λ x. P (f x)) xs
mapped P f [] all = All-nil (λ x. P (f x))
mapped P f (x ∷ xs) all = All-cons (λ x. P (f x)) x xs (All-head P (f x) (map f xs) all) (mapped P f xs (All-tail P (f x) (map f xs) all))

-- what holds of each route holds of a peer's
pub to_peer : (P : PrefixValue → Type 0) (routes : Routes) (number : ℕ) → All (λ r. nat_eq r.1 number ≡ true → P r.0) routes → All P (routes_to routes number)
to_peer P [] number all = All-nil P
to_peer P (r ∷ routes) number all =
    let rest = to_peer P routes number (All-tail (λ r. nat_eq r.1 number ≡ true → P r.0) r routes all) in
    by_test (nat_eq r.1 number) refl rest
  where
    by_test : (b : Bool) → nat_eq r.1 number ≡ b → All P (routes_to routes number) → All P (map (λ s. s.0) (cond b (r ∷ filter (λ s. nat_eq s.1 number) routes) (filter (λ s. nat_eq s.1 number) routes)))
    by_test true here rest = All-cons P r.0 (routes_to routes number) (All-head (λ r. nat_eq r.1 number ≡ true → P r.0) r routes all here) rest
    by_test false apart rest = rest

-- and what holds of a peer's holds of each route to it
from_peer : (P : PrefixValue → Type 0) (routes : Routes) (number : ℕ) → All P (routes_to routes number) → All (λ r. nat_eq r.1 number ≡ true → P r.0) routes
from_peer P [] number all = All-nil (λ r. nat_eq r.1 number ≡ true → P r.0)
from_peer P (r ∷ routes) number all = by_test (nat_eq r.1 number) refl (from_peer P routes number) all
  where
    each : PrefixValue × ℕ → Type 0
    each s = nat_eq s.1 number ≡ true → P s.0

    by_test : (b : Bool) → nat_eq r.1 number ≡ b → (All P (routes_to routes number) → All each routes)
        → All P (map (λ s. s.0) (cond b (r ∷ filter (λ s. nat_eq s.1 number) routes) (filter (λ s. nat_eq s.1 number) routes))) → All each (r ∷ routes)
    by_test true here rest all = All-cons each r routes (λ same. All-head P r.0 (routes_to routes number) all) (rest (All-tail P r.0 (routes_to routes number) all))
    by_test false apart rest all = All-cons each r routes (λ same. let bad : true ≡ false = sym same ∙ apart in cc) (rest all)

-- ---- what the last assignment says

-- each assignment of the prefix says `said`
abbrev Says : PrefixValue → Option Key → PrefixValue × Key → Type 0
Says q said a = same_prefix a.0 q ≡ true → Some a.1 ≡ said

abbrev Apart : PrefixValue → PrefixValue × Key → Type 0
Apart q a = same_prefix a.0 q ≡ false

key_said : (q : PrefixValue) (said : Option Key) (assigned : Assigned) → All (Says q said) assigned → (key_of assigned q ≡ said) ⊎ (All (Apart q) assigned × (key_of assigned q ≡ None))
key_said q said [] all = inr (All-nil (Apart q), refl)
key_said q said (a ∷ assigned) all = elim (key_said q said assigned (All-tail (Says q said) a assigned all)) [
  | inr none ↦ elim (decide (same_prefix a.0 q)) [
    | inl here ↦ inl (ap (λ o. later_or o (cond (same_prefix a.0 q) (Some a.1) None)) none.1 ∙ ap (λ b. cond b (Some a.1) None) here ∙ All-head (Says q said) a assigned all here)
    | inr apart ↦ inr (All-cons (Apart q) a assigned apart none.0, ap (λ o. later_or o (cond (same_prefix a.0 q) (Some a.1) None)) none.1 ∙ ap (λ b. cond b (Some a.1) None) apart)
  ]
  | inl found ↦ later said found (All-head (Says q said) a assigned all)
]
  where
    later : (said : Option Key) → key_of assigned q ≡ said → Says q said a → (key_of (a ∷ assigned) q ≡ said) ⊎ (All (Apart q) (a ∷ assigned) × (key_of (a ∷ assigned) q ≡ None))
    later (Some key) found first = inl (ap (λ o. later_or o (cond (same_prefix a.0 q) (Some a.1) None)) found)
    later None found first = elim (decide (same_prefix a.0 q)) [
      | inl here ↦ let bad : Some a.1 ≡ None = first here in cc
      | inr apart ↦ inl (ap (λ o. later_or o (cond (same_prefix a.0 q) (Some a.1) None)) found ∙ ap (λ b. cond b (Some a.1) None) apart)
    ]

-- ---- to whom the allowed prefixes lead

distinct_found : (xs : Routes) → AllPairs Differ xs → All (λ r. route_of xs r.0 ≡ Some r.1) xs
distinct_found [] pairs = All-nil (λ (r : PrefixValue × ℕ). route_of [] r.0 ≡ Some r.1)
distinct_found (x ∷ xs) pairs =
    All-cons (λ (r : PrefixValue × ℕ). route_of (x ∷ xs) r.0 ≡ Some r.1) x xs
    (ap (λ b. cond b (Some x.1) (route_of xs x.0)) (same_prefix_self x.0))
    (λ k d h. ap (λ b. cond b (Some x.1) (route_of xs (get_or xs k d).0)) (AllPairs-head Differ x xs pairs k d h) ∙ distinct_found xs (AllPairs-tail Differ x xs pairs) k d h)

absent : (q : PrefixValue) (xs : Routes) → All (λ r. same_prefix r.0 q ≡ false) xs → route_of xs q ≡ None
absent q [] all = refl
absent q (x ∷ xs) all =
    ap (λ b. cond b (Some x.1) (route_of xs q)) (All-head (λ (r : PrefixValue × ℕ). same_prefix r.0 q ≡ false) x xs all)
    ∙ absent q xs (All-tail (λ (r : PrefixValue × ℕ). same_prefix r.0 q ≡ false) x xs all)

flat_all : {X Y : Type 0} (P : Y → Type 0) (f : X → List Y) (xs : List X) → All (λ x. All P (f x)) xs → All P (flat_map f xs)
flat_all P f [] all = All-nil P
flat_all P f (x ∷ xs) all = All-append P (f x) (flat_map f xs) (All-head (λ x. All P (f x)) x xs all) (flat_all P f xs (All-tail (λ x. All P (f x)) x xs all))

flat_parts : {X Y : Type 0} (P : Y → Type 0) (f : X → List Y) (xs : List X) → All P (flat_map f xs) → All (λ x. All P (f x)) xs
flat_parts P f [] all = All-nil (λ x. All P (f x))
flat_parts P f (x ∷ xs) all = All-cons (λ x. All P (f x)) x xs (left_of P (f x) (flat_map f xs) all) (flat_parts P f xs (right_of P (f x) (flat_map f xs) all))

-- all that the file of a network assigns
abbrev pub all_assigned : NetworkValue → Assigned
all_assigned m = flat_map (λ p. assigned_to p (routes_to m.routes p.number)) m.peers

abbrev Found : NetworkValue → PrefixValue × ℕ → Type 0
Found m r = route_of (allowed m) r.0 ≡ Some r.1

says_at : (m : NetworkValue) (q p : PrefixValue) (i : ℕ) (e : Peer) → Found m (p, i) → peer_of m.peers i ≡ Some e → Says q (allowed_peer_key m q) (p, e.key)
says_at m q p i e found stands same =
    let there : route_of (allowed m) q ≡ Some i = ap (route_of (allowed m)) (sym (same_prefix_is p q same)) ∙ found in
    sym (ap (option_and_then (λ number. option_map (λ (peer : Peer). peer.key) (peer_of m.peers number))) there ∙ ap (option_map (λ (peer : Peer). peer.key)) stands)

peer_says : (m : NetworkValue) (q : PrefixValue) (e : Peer) → Found m (full e.address, e.number) → peer_of m.peers e.number ≡ Some e → All (Found m) m.routes
    → All (Says q (allowed_peer_key m q)) (assigned_to e (routes_to m.routes e.number))
peer_says m q e own stands routes =
    All-cons (Says q (allowed_peer_key m q)) (full e.address, e.key) (map (λ p. (p, e.key)) (routes_to m.routes e.number)) (says_at m q (full e.address) e.number e own stands)
    (All-map (Says q (allowed_peer_key m q)) (λ (p : PrefixValue). (p, e.key)) (routes_to m.routes e.number)
    (to_peer (λ p. Says q (allowed_peer_key m q) (p, e.key)) m.routes e.number
    (λ k d h here. says_at m q (get_or m.routes k d).0 e.number e (routes k d h ∙ ap (λ (i : ℕ). Some i) (nat_eq_is (get_or m.routes k d).1 e.number here)) stands)))

all_say : (m : NetworkValue) → IsNetwork m → (q : PrefixValue) → All (Says q (allowed_peer_key m q)) (all_assigned m)
all_say m is q =
    let found = distinct_found (allowed m) (all_differ m is) in
    let own = mapped (Found m) (λ (e : Peer). (full e.address, e.number)) m.peers (left_of (Found m) (own_prefixes m.peers) m.routes found) in
    let routes = right_of (Found m) (own_prefixes m.peers) m.routes found in
    flat_all (Says q (allowed_peer_key m q)) (λ e. assigned_to e (routes_to m.routes e.number)) m.peers
    (λ k d h. peer_says m q (get_or m.peers k d) (own k d h) (peer_present m.peers (get_or m.peers k d).number k d is.numbered h refl) routes)

-- what is assigned to nobody is no allowed prefix
nobody : (m : NetworkValue) → IsNetwork m → (q : PrefixValue) → All (Apart q) (all_assigned m) → allowed_peer_key m q ≡ None
nobody m is q none =
    ap (option_and_then (λ number. option_map (λ (peer : Peer). peer.key) (peer_of m.peers number)))
    (absent q (allowed m) (All-append apart (own_prefixes m.peers) m.routes (All-map apart (λ (e : Peer). (full e.address, e.number)) m.peers (λ k d h. All-head (Apart q) _ _ (parts k d h))) (λ k d h. route (get_or m.routes k d) k d h refl)))
  where
    apart : PrefixValue × ℕ → Type 0
    apart r = same_prefix r.0 q ≡ false

    OfPeer : Peer → Type 0
    OfPeer e = All (Apart q) (assigned_to e (routes_to m.routes e.number))

    parts : All OfPeer m.peers
    parts = flat_parts (Apart q) (λ e. assigned_to e (routes_to m.routes e.number)) m.peers none

    number_is : (i j : ℕ) → j ≡ i → nat_eq i j ≡ true
    number_is i j same = ap (nat_eq i) same ∙ nat_eq_self i

    leads_to : (i : ℕ) (o : Option Peer) → peer_of m.peers i ≡ o → is_some o ≡ true → (e : Peer) × (peer_of m.peers i ≡ Some e)
    leads_to i None found some = cc
    leads_to i (Some e) found some = (e, found)

    route : (r : PrefixValue × ℕ) (k : ℕ) (d : PrefixValue × ℕ) → k < length m.routes → get_or m.routes k d ≡ r → apart (get_or m.routes k d)
    route r k d h at =
        let number = (get_or m.routes k d).1 in
        let peer = leads_to number (peer_of m.peers number) refl (is.routes k d h).leads in
        let told = peer_is OfPeer m.peers number peer.0 parts peer.1 in
        let rest = All-tail (Apart q) (full peer.0.address, peer.0.key) (map (λ p. (p, peer.0.key)) (routes_to m.routes peer.0.number)) told.0 in
        let routes = mapped (Apart q) (λ (p : PrefixValue). (p, peer.0.key)) (routes_to m.routes peer.0.number) rest in
        from_peer (λ p. same_prefix p q ≡ false) m.routes peer.0.number routes k d h (number_is number peer.0.number told.1)

pub last_assigned : (m : NetworkValue) → IsNetwork m → (q : PrefixValue) → allowed_peer_key m q ≡ key_of (all_assigned m) q
last_assigned m is q = elim (key_said q (allowed_peer_key m q) (all_assigned m) (all_say m is q)) [
  | inl same ↦ sym same
  | inr none ↦ nobody m is q none.0 ∙ sym none.1
]
