-- Peers that are put have the same place whether the rows of their numbers are gone or not.
use Rattle.std.proofs.Common.{◌≡◌, ℕ, ◌⊎◌, ◌↔◌, List, [], ◌∷◌, ◌++◌, map, Bool, true, false, not, ◌||◌, refl, subst, inl, inr, arith}
use Rattle.wgr_pool.proofs.Lists.{AllPairs-filter}
use Rattle.wgr_peers.specs.declared.peer.Peer.{Peer}
use Rattle.wgr_peers.specs.Peers.{put_peer, AreNumbered, IsNumberedBelow}
use Rattle.wgr_core.specs.Network.{NetworkValue, is_among}
use Rattle.wgr_core.specs.Change.{put_peers}
use Rattle.wgr_model.specs.Laws.{Has}
use Rattle.wgr_model.specs.Rows.{AllowedRow, Tables, peer_row, address_row, route_row}
use Rattle.wgr_model.proofs.CollectLemmas.{has_map, from_map, has_left, has_right, from_append}
use Rattle.wgr_model.proofs.GatherLemmas.{in_filter}
use Rattle.wgr_model.proofs.OrderLemmas.{from_filter}
use Rattle.wgr_tables.specs.TableSteps.{PeersPut}
use Rattle.wgr_tables.proofs.Rests.{Rests}
use Rattle.wgr_tables.proofs.LeftRows.{not_true}
use Rattle.wgr_tables.proofs.PeersGone.{numbers_of, without_numbers, all_rows_gone}
use Rattle.wgr_tables.proofs.PeersCome.{peer_from, peer_to, still_numbered, peers_come}

or_false : (a b : Bool) → a ≡ false → b ≡ false → (a || b) ≡ false
or_false false b h k = k
or_false true b h k = absurd cc

neither : (a b : Bool) → (a || b) ≡ false → (a ≡ false) × (b ≡ false)
neither false b h = (refl, h)
neither true b h = absurd cc

-- whether the peer's number is none of these peers'
abbrev IsNone : List Peer → Peer → Type 0
IsNone ps z = is_among (numbers_of ps) z.number ≡ false

one_numbered : (p : Peer) → AreNumbered (p ∷ [])
one_numbered p = still_numbered p [] (λ i j d low high. absurd (omega (arith, high)))

put_first : (p : Peer) (ps xs : List Peer) → AreNumbered xs → (z : Peer) → Has (put_peers (put_peer xs p) ps) z ↔ (Has (put_peers [] ps) z ⊎ (Has (put_peer xs p) z × IsNone ps z))
    → Has (put_peers (p ∷ []) ps) z ↔ (Has (put_peers [] ps) z ⊎ (Has (p ∷ []) z × IsNone ps z)) → Has (put_peers (put_peer xs p) ps) z ↔ (Has (put_peers (p ∷ []) ps) z ⊎ (Has xs z × IsNone (p ∷ ps) z))
put_first p ps xs numbered z all one = (there, back)
  where
    there : Has (put_peers (put_peer xs p) ps) z → Has (put_peers (p ∷ []) ps) z ⊎ (Has xs z × IsNone (p ∷ ps) z)
    there h = elim (all.0 h) [
      | inl later ↦ inl (one.1 (inl later))
      | inr here ↦ elim (peer_from p xs numbered z here.0) [
        | inl mine ↦ inl (one.1 (inr (inl mine, here.1)))
        | inr old ↦ inr (old.0, or_false _ _ old.1 here.1)
      ]
    ]

    back : Has (put_peers (p ∷ []) ps) z ⊎ (Has xs z × IsNone (p ∷ ps) z) → Has (put_peers (put_peer xs p) ps) z
    back (inl h) = elim (one.0 h) [
      | inl later ↦ all.1 (inl later)
      | inr here ↦ elim here.0 [ inl mine ↦ all.1 (inr (peer_to p xs z (inl mine), here.1)) | inr none ↦ elim none [ ] ]
    ]
    back (inr (h, none)) = let apart = neither _ _ none in all.1 (inr (peer_to p xs z (inr (h, apart.0)), apart.1))

put_in : (ps xs : List Peer) → AreNumbered xs → (z : Peer) → Has (put_peers xs ps) z ↔ (Has (put_peers [] ps) z ⊎ (Has xs z × IsNone ps z))
put_in [] xs numbered z = ((λ h. inr (h, refl)), (λ h. elim h [ inl none ↦ elim none [ ] | inr own ↦ own.0 ]))
put_in (p ∷ ps) xs numbered z = put_first p ps xs numbered z (put_in ps (put_peer xs p) (still_numbered p xs numbered) z) (put_in ps (p ∷ []) (one_numbered p) z)

same_puts : (ps xs : List Peer) → AreNumbered xs → (z : Peer) → Has (put_peers (without_numbers xs (numbers_of ps)) ps) z ↔ Has (put_peers xs ps) z
same_puts ps xs numbered z = (there, back)
  where
    few : Has (put_peers (without_numbers xs (numbers_of ps)) ps) z ↔ (Has (put_peers [] ps) z ⊎ (Has (without_numbers xs (numbers_of ps)) z × IsNone ps z))
    few = put_in ps (without_numbers xs (numbers_of ps)) (AllPairs-filter IsNumberedBelow (λ p. not (is_among (numbers_of ps) p.number)) xs numbered) z

    all : Has (put_peers xs ps) z ↔ (Has (put_peers [] ps) z ⊎ (Has xs z × IsNone ps z))
    all = put_in ps xs numbered z

    there : Has (put_peers (without_numbers xs (numbers_of ps)) ps) z → Has (put_peers xs ps) z
    there h = elim (few.0 h) [
      | inl put ↦ all.1 (inl put)
      | inr here ↦ all.1 (inr ((from_filter (λ p. not (is_among (numbers_of ps) p.number)) xs z here.0).0, here.1))
    ]

    back : Has (put_peers xs ps) z → Has (put_peers (without_numbers xs (numbers_of ps)) ps) z
    back h = elim (all.0 h) [
      | inl put ↦ few.1 (inl put)
      | inr here ↦ few.1 (inr (in_filter (λ p. not (is_among (numbers_of ps) p.number)) xs z here.0 (not_true _ here.1), here.1))
    ]

mapped_alike : {A B : Type 0} (f : A → B) (xs ys : List A) → ((z : A) → Has xs z → Has ys z) → (b : B) → Has (map f xs) b → Has (map f ys) b
mapped_alike f xs ys same b h = let x = from_map f xs b h in subst (Has (map f ys)) x.2 (has_map f ys x.0 (same x.0 x.1))

-- rows of the same peers
rests_alike : (id : ℕ) (t u : Tables) (n : NetworkValue) (peers : List Peer) → ((z : Peer) → Has n.peers z ↔ Has peers z) → Rests id t n u → Rests id t (record n { peers = peers }) u
rests_alike id t u n peers same rests = record {
  meta = rests.meta;
  tenants = rests.tenants;
  tokens = rests.tokens;
  networks = rests.networks;
  seconds = rests.seconds;
  readers = rests.readers;
  peers = λ a. (
    (λ h. elim ((rests.peers a).0 h) [ inl own ↦ inl (mapped_alike (peer_row id) n.peers peers (λ z k. (same z).0 k) a own) | inr other ↦ inr other ]),
    (λ h. elim h [ inl own ↦ (rests.peers a).1 (inl (mapped_alike (peer_row id) peers n.peers (λ z k. (same z).1 k) a own)) | inr other ↦ (rests.peers a).1 (inr other) ]),
  );
  allowed = λ a. (
    (λ h. elim ((rests.allowed a).0 h) [ inl own ↦ inl (moved n.peers peers (λ z k. (same z).0 k) a own) | inr other ↦ inr other ]),
    (λ h. elim h [ inl own ↦ (rests.allowed a).1 (inl (moved peers n.peers (λ z k. (same z).1 k) a own)) | inr other ↦ (rests.allowed a).1 (inr other) ]),
  );
  keyed = rests.keyed;
}
  where
    moved : (xs ys : List Peer) → ((z : Peer) → Has xs z → Has ys z) → (a : AllowedRow) → Has (map (address_row id) xs ++ map (route_row id) n.routes) a → Has (map (address_row id) ys ++ map (route_row id) n.routes) a
    moved xs ys to a h = elim (from_append (map (address_row id) xs) (map (route_row id) n.routes) a h) [
      | inl address ↦ has_left (map (address_row id) ys) (map (route_row id) n.routes) a (mapped_alike (address_row id) xs ys to a address)
      | inr route ↦ has_right (map (address_row id) ys) (map (route_row id) n.routes) a route
    ]

pub peers_put : (ps : List Peer) (id : ℕ) (t u v : Tables) (n : NetworkValue) → AreNumbered n.peers → Rests id t n u → PeersPut id ps u v → Rests id t (record n { peers = put_peers n.peers ps }) v
peers_put ps id t u v n numbered rests (m, gone, come) =
    let few : NetworkValue = record n { peers = without_numbers n.peers (numbers_of ps) } in
    let still : AreNumbered few.peers = AllPairs-filter IsNumberedBelow (λ p. not (is_among (numbers_of ps) p.number)) n.peers numbered in
    rests_alike id t v (record n { peers = put_peers few.peers ps }) (put_peers n.peers ps) (same_puts ps n.peers numbered)
    (peers_come ps id t m v few still (all_rows_gone ps id t u m n rests gone) come)
