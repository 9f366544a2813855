-- The rows of peers go, but for the routes to them, as a step of one network's value.
use Rattle.std.proofs.Common.{◌≡◌, ℕ, List, [], ◌∷◌, ◌++◌, map, nat_eq, Bool, true, false, not, ◌&&◌, ◌||◌, cond, refl, sym, ap, subst, ◌∙◌}
use Rattle.std.specs.List.{filter}
use Rattle.wgr_peers.specs.declared.peer.Peer.{Peer}
use Rattle.wgr_core.specs.Network.{NetworkValue, is_among}
use Rattle.wgr_model.specs.Laws.{Has}
use Rattle.wgr_model.specs.Rows.{PeerRow, AllowedRow, Tables, peer_id, peer_row, address_row, route_row}
use Rattle.wgr_model.proofs.GatherLemmas.{eqb_self}
use Rattle.wgr_sql.specs.Steps.{Each}
use Rattle.wgr_tables.specs.TableSteps.{PeerRowsGo, is_peer, is_address_of}
use Rattle.wgr_tables.proofs.Rests.{Rests}
use Rattle.wgr_tables.proofs.RestLemmas.{same_ids, and_left, and_false}
use Rattle.wgr_tables.proofs.LeftRows.{left_by, left_all, one_stays, two_stay, rows_stay, rows_keyed}

abbrev without_number : List Peer → ℕ → List Peer
without_number peers k = filter (λ p. not (nat_eq p.number k)) peers

route_stays : (id k : ℕ) (a : AllowedRow) → a.is_route ≡ true → is_address_of id k a ≡ false
route_stays id k a is = go (nat_eq a.network id) (nat_eq a.peer k) a.is_route is
  where
    go : (x y z : Bool) → z ≡ true → (x && (y && not z)) ≡ false
    go false y z e = refl
    go true false z e = refl
    go true true true e = refl
    go true true false e = absurd cc

module _ (id k : ℕ) (t u : Tables) (n : NetworkValue) (rests : Rests id t n u) where
  abbrev gone : PeerRow → Bool
  gone = is_peer id (peer_id id k)

  abbrev led : AllowedRow → Bool
  led = is_address_of id (peer_id id k)

  abbrev left : NetworkValue
  left = record n { peers = without_number n.peers k }

  peer_test : (p : Peer) → gone (peer_row id p) ≡ nat_eq p.number k
  peer_test p = and_left (nat_eq id id) (nat_eq (peer_id id p.number) (peer_id id k)) (eqb_self id) ∙ same_ids id p.number k

  address_test : (p : Peer) → led (address_row id p) ≡ nat_eq p.number k
  address_test p = and_left (nat_eq id id) (nat_eq (peer_id id p.number) (peer_id id k) && true) (eqb_self id) ∙ and_true (nat_eq (peer_id id p.number) (peer_id id k)) ∙ same_ids id p.number k
    where
      and_true : (b : Bool) → (b && true) ≡ b
      and_true true = refl
      and_true false = refl

  rows_gone : Rests id t left (record u { peers = filter (λ p. not (gone p)) u.peers; allowed = filter (λ a. not (led a)) u.allowed })
  rows_gone = record {
    meta = rests.meta;
    tenants = rests.tenants;
    tokens = rests.tokens;
    networks = rests.networks;
    seconds = rests.seconds;
    readers = rests.readers;
    peers = rows_stay gone (λ a. Has t.peers a × (nat_eq a.network id ≡ false)) (λ a h. and_false _ _ h.1) (map (peer_row id) n.peers) (map (peer_row id) left.peers) u.peers
        (one_stays gone (peer_row id) n.peers left.peers (left_by gone (peer_row id) n.peers (λ p. nat_eq p.number k) peer_test)) rests.peers;
    allowed = rows_stay led (λ a. Has t.allowed a × (nat_eq a.network id ≡ false)) (λ a h. and_false _ _ h.1) (map (address_row id) n.peers ++ map (route_row id) n.routes) (map (address_row id) left.peers ++ map (route_row id) n.routes) u.allowed
        (two_stay led (address_row id) (route_row id) n.peers left.peers n.routes n.routes (left_by led (address_row id) n.peers (λ p. nat_eq p.number k) address_test) (left_all led (route_row id) n.routes (λ r. route_stays id (peer_id id k) (route_row id r) refl))) rests.allowed;
    keyed = rows_keyed gone led u rests.keyed;
  }

abbrev pub numbers_of : List Peer → List ℕ
numbers_of = map (λ p. p.number)

abbrev pub without_numbers : List Peer → List ℕ → List Peer
without_numbers peers ks = filter (λ p. not (is_among ks p.number)) peers

kept_none : {A : Type 0} (xs : List A) → xs ≡ filter (λ x. true) xs
kept_none [] = refl
kept_none (x ∷ xs) = ap (λ l. x ∷ l) (kept_none xs)

without_more : (k : ℕ) (ks : List ℕ) (peers : List Peer) → without_numbers (without_number peers k) ks ≡ without_numbers peers (k ∷ ks)
without_more k ks [] = refl
without_more k ks (p ∷ ps) = go (nat_eq p.number k) (without_more k ks ps)
  where
    go : (b : Bool) → without_numbers (without_number ps k) ks ≡ without_numbers ps (k ∷ ks)
        → filter (λ q. not (is_among ks q.number)) (cond (not b) (p ∷ without_number ps k) (without_number ps k)) ≡ cond (not (b || is_among ks p.number)) (p ∷ without_numbers ps (k ∷ ks)) (without_numbers ps (k ∷ ks))
    go true later = later
    go false later = ap (λ l. cond (not (is_among ks p.number)) (p ∷ l) l) later

-- the rows of all these go
pub all_rows_gone : (ps : List Peer) (id : ℕ) (t u v : Tables) (n : NetworkValue) → Rests id t n u → Each (λ (p : Peer). PeerRowsGo id p.number) ps u v → Rests id t (record n { peers = without_numbers n.peers (numbers_of ps) }) v
all_rows_gone [] id t u v n rests done = subst (λ m. Rests id t m v) (λ i. record n { peers = kept_none n.peers i }) (subst (Rests id t n) done rests)
all_rows_gone (p ∷ ps) id t u v n rests (m, step, later) =
    let is : record u { peers = filter (λ q. not (is_peer id (peer_id id p.number) q)) u.peers; allowed = filter (λ a. not (is_address_of id (peer_id id p.number) a)) u.allowed } ≡ m
    = sym (step.2 ∙ ap (λ (s : Tables). record s { allowed = filter (λ a. not (is_address_of id (peer_id id p.number) a)) s.allowed }) step.1) in
    subst (λ l. Rests id t (record n { peers = l }) v) (without_more p.number (numbers_of ps) n.peers)
    (all_rows_gone ps id t m v (record n { peers = without_number n.peers p.number }) (subst (Rests id t (record n { peers = without_number n.peers p.number })) is (rows_gone id p.number t u n rests)) later)
