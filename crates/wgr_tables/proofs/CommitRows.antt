-- What the statements of a change make of the rows of a consistent register.
use Rattle.std.proofs.Common.{◌≡◌, ℕ, ◌⊎◌, ◌↔◌, List, [], ◌∷◌, map, flat_map, nat_eq, false, IsPermutation, refl, sym, ap, subst, ◌∙◌, inl, inr}
use Rattle.wgr_core.specs.Network.{NetworkValue, without_peers}
use Rattle.wgr_core.specs.Change.{applied, put_peers, assign_routes, without_routes}
use Rattle.wgr_core.specs.declared.change.Change.{Change}
use Rattle.wgr_model.specs.Consistent.{IsNetworkEntry}
use Rattle.wgr_model.specs.Laws.{Has}
use Rattle.wgr_model.specs.Register.{NetworkEntry}
use Rattle.wgr_model.specs.RowLaws.{AreConsistent}
use Rattle.wgr_model.specs.Rows.{NetworkRow, PeerRow, AllowedRow, Tables, Replaces, network_entry_of, register_of, peer_rows, allowed_rows, with_next}
use Rattle.wgr_model.proofs.CollectLemmas.{from_flat, has_flat, has_map}
use Rattle.wgr_model.proofs.CommitLemmas.{own_peers, own_allowed}
use Rattle.wgr_model.proofs.HolderLemmas.{one_or_apart}
use Rattle.wgr_model.proofs.SameLemmas.{eqb_sym}
use Rattle.wgr_tables.proofs.Rests.{Rests}
use Rattle.wgr_tables.specs.TableSteps.{NextSets, ChangeMakes}
use Rattle.wgr_tables.proofs.RestLemmas.{peers_leave}
use Rattle.wgr_tables.proofs.RouteRests.{routes_come, routes_go}
use Rattle.wgr_tables.proofs.PeerRests.{peers_put}
use Rattle.std.specs.Prelude.{not, All}
use Rattle.std.proofs.lemmas.List.Elements.{All-filter}
use Rattle.wgr_pool.proofs.Lists.{AllPairs-filter}
use Rattle.wgr_text.specs.Prefix.{PrefixValue}
use Rattle.wgr_peers.specs.declared.peer.Peer.{Peer}
use Rattle.wgr_peers.specs.Peers.{IsNumberedBelow, AreNumbered}
use Rattle.wgr_peers.specs.Routes.{Routes, AreOrdered, ComesBefore, HasAddr, without_route}
use Rattle.wgr_pool.specs.PrefixTests.{same_prefix}
use Rattle.wgr_core.specs.Network.{IsNetwork, is_among}
use Rattle.wgr_model.proofs.SameLemmas.{at_has}

-- the rows of one kind are those of this network, and those of others
module _ {A : Type 0} (rows_in : NetworkEntry → List A) (id_in : A → ℕ) (own : (k : NetworkEntry) (a : A) → Has (rows_in k) a → id_in a ≡ k.id) (networks : List NetworkEntry) (h : NetworkEntry) (held : Has networks h) where
  pub parted : ((a b : NetworkEntry) → Has networks a → Has networks b → (a ≡ b) ⊎ (nat_eq a.id b.id ≡ false)) → (rows : List A) → ((a : A) → Has (flat_map rows_in networks) a ↔ Has rows a)
      → (a : A) → Has rows a ↔ (Has (rows_in h) a ⊎ (Has rows a × (nat_eq (id_in a) h.id ≡ false)))
  parted apart rows are a = (there, back)
    where
      there : Has rows a → Has (rows_in h) a ⊎ (Has rows a × (nat_eq (id_in a) h.id ≡ false))
      there x =
          let f = from_flat rows_in networks a ((are a).1 x) in
          elim (apart f.0 h f.1 held) [
            | inl same ↦ inl (subst (λ k. Has (rows_in k) a) same f.2)
            | inr other ↦ inr (x, ap (λ i. nat_eq i h.id) (own f.0 a f.2) ∙ other)
          ]

      back : Has (rows_in h) a ⊎ (Has rows a × (nat_eq (id_in a) h.id ≡ false)) → Has rows a
      back (inl mine) = (are a).0 (has_flat rows_in networks h a held mine)
      back (inr other) = other.0

-- at the beginning
pub rests_at : (t : Tables) (w : NetworkRow) → AreConsistent t → Has t.networks w → Rests w.id t (network_entry_of t w).network t
rests_at t w good here =
    let held = has_map (network_entry_of t) t.networks w here in
    let apart = λ (a b : NetworkEntry) (x : Has (register_of t).networks a) (y : Has (register_of t).networks b). one_or_apart (λ (k : NetworkEntry). k.id) nat_eq eqb_sym (register_of t).networks a b good.consistent.network_ids x y in
    record {
      meta = refl;
      tenants = refl;
      tokens = refl;
      networks = refl;
      seconds = refl;
      readers = refl;
      peers = parted peer_rows (λ (a : PeerRow). a.network) own_peers (register_of t).networks (network_entry_of t w) held apart t.peers good.rows.peers;
      allowed = parted allowed_rows (λ (a : AllowedRow). a.network) own_allowed (register_of t).networks (network_entry_of t w) held apart t.allowed good.rows.allowed;
      keyed = good.rows.keyed;
    }

-- at the end
pub next_replaces : (id next : ℕ) (t u v : Tables) (n : NetworkValue) → Rests id t n u → NextSets id next u v → Replaces id (record n { next = next }) t v
next_replaces id next t u v n rests sets =
    subst (Replaces id (record n { next = next }) t) (sym sets.2) (record {
      meta = rests.meta;
      tenants = rests.tenants;
      tokens = rests.tokens;
      networks = subst (λ l. IsPermutation (map (with_next id next) l) sets.0) rests.networks sets.1;
      seconds = rests.seconds;
      readers = rests.readers;
      peers = rests.peers;
      allowed = rests.allowed;
      keyed = record { peer_keys = rests.keyed.peer_keys; allowed_keys = rests.keyed.allowed_keys; address_keys = rests.keyed.address_keys };
    })

still_good : (ps : List PrefixValue) (routes : Routes) → AreOrdered routes → All HasAddr routes → AreOrdered (without_routes routes ps) × All HasAddr (without_routes routes ps)
still_good [] routes ordered real = (ordered, real)
still_good (p ∷ ps) routes ordered real =
    let stay = λ (r : PrefixValue × ℕ). not (same_prefix r.0 p) in
    still_good ps (without_route routes p) (AllPairs-filter ComesBefore stay routes ordered) (All-filter stay HasAddr routes real)

pub change_replaces : (c : Change) (t u : Tables) (w : NetworkRow) → AreConsistent t → Has t.networks w → ChangeMakes w.id c t u → Replaces w.id (applied c (network_entry_of t w).network) t u
change_replaces c t u w good here (first, removed, (second, gone, (third, peers, (fourth, routes, next)))) =
    let n = (network_entry_of t w).network in
    let rules : IsNetwork n = (at_has IsNetworkEntry (register_of t).networks (network_entry_of t w) good.consistent.networks (has_map (network_entry_of t) t.networks w here)).rules in
    let left = without_peers n c.removed in
    let fewer : NetworkValue = record left { routes = without_routes left.routes c.routes_gone } in
    let put : NetworkValue = record fewer { peers = put_peers left.peers c.peers } in
    let led : NetworkValue = record put { routes = assign_routes fewer.routes c.routes_put } in
    let stay = λ (r : PrefixValue × ℕ). not (is_among c.removed r.1) in
    let ordered : AreOrdered left.routes = AllPairs-filter ComesBefore stay n.routes rules.ordered in
    let real : All HasAddr left.routes = All-filter stay HasAddr n.routes (λ k d h. (rules.routes k d h).masked.0) in
    let kept = still_good c.routes_gone left.routes ordered real in
    let numbered : AreNumbered left.peers = AllPairs-filter IsNumberedBelow (λ (p : Peer). not (is_among c.removed p.number)) n.peers rules.numbered in
    let one = peers_leave c.removed w.id t t first n (rests_at t w good here) removed in
    let two = routes_go c.routes_gone w.id t first second left one gone in
    let three = peers_put c.peers w.id t second third fewer numbered two peers in
    let four = routes_come c.routes_put w.id t third fourth put kept.0 kept.1 three routes in
    next_replaces w.id c.next t fourth u led four next
