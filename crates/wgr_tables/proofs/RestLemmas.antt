-- Steps of a commit, as steps of one network's value.
use Rattle.std.proofs.Common.{◌≡◌, ℕ, List, [], ◌∷◌, ◌++◌, map, nat_eq, Bool, true, false, not, ◌&&◌, ◌||◌, cond, refl, sym, ap, subst, ◌∙◌, arith}
use Rattle.std.specs.List.{filter}
use Rattle.wgr_peers.specs.declared.peer.Peer.{Peer}
use Rattle.wgr_peers.specs.Routes.{Routes}
use Rattle.wgr_text.specs.Prefix.{PrefixValue}
use Rattle.wgr_core.specs.Network.{NetworkValue, is_among, without_peers}
use Rattle.wgr_model.specs.Laws.{Has}
use Rattle.wgr_model.specs.Rows.{PeerRow, AllowedRow, Tables, peer_id, peer_row, address_row, route_row}
use Rattle.wgr_model.proofs.GatherLemmas.{eqb_self}
use Rattle.wgr_tables.proofs.Rests.{Rests}
use Rattle.wgr_tables.proofs.LeftRows.{left_by, one_stays, two_stay, rows_stay, rows_keyed}
use Rattle.wgr_sql.specs.Steps.{Each}
use Rattle.wgr_tables.specs.TableSteps.{PeerLeaves, is_peer, is_of_peer}

-- a test on the ids of rows is one on numbers
pub same_ids : (id m n : ℕ) → nat_eq (peer_id id m) (peer_id id n) ≡ nat_eq m n
same_ids id m n = grind (arith)

pub and_left : (a b : Bool) → a ≡ true → (a && b) ≡ b
and_left true b h = refl
and_left false b h = absurd cc

pub and_false : (a b : Bool) → a ≡ false → (a && b) ≡ false
and_false false b h = refl
and_false true b h = absurd cc

among_one : (k n : ℕ) → is_among (k ∷ []) n ≡ nat_eq n k
among_one k n = or_false (nat_eq n k)
  where
    or_false : (b : Bool) → (b || false) ≡ b
    or_false true = refl
    or_false false = refl

-- ---- rows that go

module _ (id k : ℕ) (t u : Tables) (n : NetworkValue) (rests : Rests id t n u) where
  abbrev gone : PeerRow → Bool
  gone = is_peer id (peer_id id k)

  abbrev led : AllowedRow → Bool
  led = is_of_peer id (peer_id id k)

  abbrev left : NetworkValue
  left = without_peers n (k ∷ [])

  peer_test : (p : Peer) → gone (peer_row id p) ≡ is_among (k ∷ []) p.number
  peer_test p = and_left _ _ (eqb_self id) ∙ same_ids id p.number k ∙ sym (among_one k p.number)

  address_test : (p : Peer) → led (address_row id p) ≡ is_among (k ∷ []) p.number
  address_test p = and_left _ _ (eqb_self id) ∙ same_ids id p.number k ∙ sym (among_one k p.number)

  route_test : (r : PrefixValue × ℕ) → led (route_row id r) ≡ is_among (k ∷ []) r.1
  route_test r = and_left _ _ (eqb_self id) ∙ same_ids id r.1 k ∙ sym (among_one k r.1)

  pub peer_left : Rests id t left (record u { peers = filter (λ p. not (gone p)) u.peers; allowed = filter (λ a. not (led a)) u.allowed })
  peer_left = record {
    meta = rests.meta;
    tenants = rests.tenants;
    tokens = rests.tokens;
    networks = rests.networks;
    seconds = rests.seconds;
    readers = rests.readers;
    peers = rows_stay gone (λ a. Has t.peers a × (nat_eq a.network id ≡ false)) (λ a h. and_false _ _ h.1) (map (peer_row id) n.peers) (map (peer_row id) left.peers) u.peers
        (one_stays gone (peer_row id) n.peers left.peers (left_by gone (peer_row id) n.peers (λ p. is_among (k ∷ []) p.number) peer_test)) rests.peers;
    allowed = rows_stay led (λ a. Has t.allowed a × (nat_eq a.network id ≡ false)) (λ a h. and_false _ _ h.1) (map (address_row id) n.peers ++ map (route_row id) n.routes) (map (address_row id) left.peers ++ map (route_row id) left.routes) u.allowed
        (two_stay led (address_row id) (route_row id) n.peers left.peers n.routes left.routes (left_by led (address_row id) n.peers (λ p. is_among (k ∷ []) p.number) address_test) (left_by led (route_row id) n.routes (λ r. is_among (k ∷ []) r.1) route_test)) rests.allowed;
    keyed = rows_keyed gone led u rests.keyed;
  }

-- the same of a list of peers
without_twice : (n : NetworkValue) (k : ℕ) (ks : List ℕ) → without_peers (without_peers n (k ∷ [])) ks ≡ without_peers n (k ∷ ks)
without_twice n k ks = λ i. record n { peers = peers n.peers i; routes = routes n.routes i }
  where
    both : (m : ℕ) (b : Bool) → (not (is_among (k ∷ []) m) && not b) ≡ not (nat_eq m k || b)
    both m b = go (nat_eq m k) b
      where
        go : (a b : Bool) → (not (a || false) && not b) ≡ not (a || b)
        go true b = refl
        go false b = refl

    twice : {A : Type 0} (f : A → ℕ) (xs : List A) → filter (λ x. not (is_among ks (f x))) (filter (λ x. not (is_among (k ∷ []) (f x))) xs) ≡ filter (λ x. not (is_among (k ∷ ks) (f x))) xs
    twice f [] = refl
    twice f (x ∷ xs) = go (not (is_among (k ∷ []) (f x))) (twice f xs) ∙ ap (λ b. cond b (x ∷ filter (λ y. not (is_among (k ∷ ks) (f y))) xs) (filter (λ y. not (is_among (k ∷ ks) (f y))) xs)) (both (f x) (is_among ks (f x)))
      where
        go : (b : Bool) → filter (λ y. not (is_among ks (f y))) (filter (λ y. not (is_among (k ∷ []) (f y))) xs) ≡ filter (λ y. not (is_among (k ∷ ks) (f y))) xs
            → filter (λ y. not (is_among ks (f y))) (cond b (x ∷ filter (λ y. not (is_among (k ∷ []) (f y))) xs) (filter (λ y. not (is_among (k ∷ []) (f y))) xs))
            ≡ cond (b && not (is_among ks (f x))) (x ∷ filter (λ y. not (is_among (k ∷ ks) (f y))) xs) (filter (λ y. not (is_among (k ∷ ks) (f y))) xs)
        go true later = ap (λ l. cond (not (is_among ks (f x))) (x ∷ l) l) later
        go false later = later

    peers : (xs : List Peer) → filter (λ p. not (is_among ks p.number)) (filter (λ p. not (is_among (k ∷ []) p.number)) xs) ≡ filter (λ p. not (is_among (k ∷ ks) p.number)) xs
    peers = twice (λ p. p.number)

    routes : (xs : Routes) → filter (λ r. not (is_among ks r.1)) (filter (λ r. not (is_among (k ∷ []) r.1)) xs) ≡ filter (λ r. not (is_among (k ∷ ks) r.1)) xs
    routes = twice (λ r. r.1)

all_stay : {A : Type 0} (xs : List A) → xs ≡ filter (λ x. true) xs
all_stay [] = refl
all_stay (x ∷ xs) = ap (λ l. x ∷ l) (all_stay xs)

pub peers_leave : (ks : List ℕ) (id : ℕ) (t u v : Tables) (n : NetworkValue) → Rests id t n u → Each (PeerLeaves id) ks u v → Rests id t (without_peers n ks) v
peers_leave [] id t u v n rests done = subst (λ m. Rests id t m v) (λ i. record n { peers = all_stay n.peers i; routes = all_stay n.routes i }) (subst (Rests id t n) done rests)
peers_leave (k ∷ ks) id t u v n rests (m, step, later) =
    let is : record u { peers = filter (λ p. not (is_peer id (peer_id id k) p)) u.peers; allowed = filter (λ a. not (is_of_peer id (peer_id id k) a)) u.allowed } ≡ m
    = sym (step.2 ∙ ap (λ (s : Tables). record s { allowed = filter (λ a. not (is_of_peer id (peer_id id k) a)) s.allowed }) step.1) in
    subst (λ x. Rests id t x v) (without_twice n k ks) (peers_leave ks id t m v (without_peers n (k ∷ [])) (subst (Rests id t (without_peers n (k ∷ []))) is (peer_left id k t u n rests)) later)
