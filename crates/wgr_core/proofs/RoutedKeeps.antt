-- A route led to a peer leaves a network that keeps the rules.
use Rattle.std.proofs.Common.{◌≡◌, ℕ, ◌<◌, ◌≤◌, inl, inr, Bool, true, false, not, ◌&&◌, ◌||◌, cond, nat_lt, [], ◌∷◌, length, Some, None, is_some, refl, sym, ap, ◌∙◌, arith}
use Rattle.std.specs.List.{list_any}
use Rattle.std.proofs.lemmas.Bool.Decides.{nat_tests}
use Rattle.std.proofs.lemmas.List.{length-map}
use Rattle.wgr_text.specs.Prefix.{PrefixValue, IsAddr, IsPrefix}
use Rattle.wgr_pool.specs.PrefixTests.{is_before, same_prefix}
use Rattle.wgr_peers.specs.Peers.{peer_of}
use Rattle.wgr_peers.specs.Routes.{Routes, route_of, assign_route, HasAddr, ComesBefore, AreOrdered}
use Rattle.wgr_core.specs.Network.{NetworkValue, IsNetwork, IsRoute, is_address}
use Rattle.wgr_pool.proofs.Bools.{decide}
use Rattle.wgr_peers.proofs.OrderedLemmas.{put_all, put_pairs}
use Rattle.wgr_peers.proofs.PlaceLemmas.{routes_level, routes_lead, routes_placed}
use Rattle.wgr_peers.proofs.PutLemmas.{swapped, put_is_map, length-put}

some_routed : (routes : Routes) (p : PrefixValue) → is_some (route_of routes p) ≡ true → list_any (λ r. same_prefix r.0 p) routes ≡ true
some_routed [] p h = cc
some_routed (r ∷ routes) p h =
    elim (same_prefix r.0 p) as (λ b. is_some (cond b (Some r.1) (route_of routes p)) ≡ true → (b || list_any (λ (r : PrefixValue × ℕ). same_prefix r.0 p) routes) ≡ true) [
      | true ↦ (λ h. refl)
      | false ↦ (λ h. some_routed routes p h)
    ] h

-- a prefix that has a route already takes no more room
pub length-assign_again : (routes : Routes) (p : PrefixValue) (number : ℕ) → AreOrdered routes → is_some (route_of routes p) ≡ true → length (assign_route routes p number) ≡ length routes
length-assign_again routes p number ordered some =
    ap length (put_is_map ComesBefore (λ r. is_before r.0 p) (λ r. same_prefix r.0 p) routes (p, number) ordered (routes_level p) (routes_lead p) (some_routed routes p some))
    ∙ length-map routes (swapped (λ (r : PrefixValue × ℕ). same_prefix r.0 p) (p, number))

-- what no refusal of a route tells
pub no_route_refusal : {X : Type 0} (address full : Bool) (x y : X) → cond address (Some x) (cond full (Some y) None) ≡ None → (address ≡ false) × (full ≡ false)
no_route_refusal true full x y h = cc
no_route_refusal false true x y h = cc
no_route_refusal false false x y h = (refl, refl)

-- what a prefix needs to be led to the peer of a number
pub record MayRoute (n : NetworkValue) (p : PrefixValue) (number : ℕ) : Type 0 where
  pub masked : IsAddr p.address × IsPrefix p
  pub stands : is_some (peer_of n.peers number) ≡ true
  pub no_address : is_address n p ≡ false
  pub room : not (is_some (route_of n.routes p)) && not (nat_lt (length n.routes) 4096) ≡ false

few_assigned : (n : NetworkValue) (p : PrefixValue) (number : ℕ) → IsNetwork n → MayRoute n p number → length (assign_route n.routes p number) ≤ 4096
few_assigned n p number is may = elim (decide (is_some (route_of n.routes p))) [
  | inl again ↦ let same = length-assign_again n.routes p number is.ordered again in omega (arith, same, is.few_routes)
  | inr new ↦
      let left = has_room (length n.routes) (sym (ap (λ b. not b && not (nat_lt (length n.routes) 4096)) new) ∙ may.room) in
      let more = length-put (λ (r : PrefixValue × ℕ). is_before r.0 p) (λ r. same_prefix r.0 p) n.routes (p, number) in
      omega (arith, left, more)
]
  where
    has_room : (m : ℕ) → not (nat_lt m 4096) ≡ false → m < 4096
    has_room m h = grind (arith, nat_tests)

pub routed_is_network : (n : NetworkValue) (p : PrefixValue) (number : ℕ) → IsNetwork n → MayRoute n p number → IsNetwork (record n { routes = assign_route n.routes p number })
routed_is_network n p number is may =
    let now : NetworkValue = record n { routes = assign_route n.routes p number } in
    record {
      pool = is.pool;
      port = is.port;
      capacity = is.capacity;
      next = is.next;
      room = is.room;
      members = λ k d h. let m = is.members k d h in record { numbered = m.numbered; not_server = m.not_server; assignable = m.assignable; alone = m.alone };
      numbered = is.numbered;
      apart = is.apart;
      few_routes = few_assigned n p number is may;
      routes = put_all (IsRoute now) (λ r. is_before r.0 p) (λ r. same_prefix r.0 p) n.routes (p, number)
          (λ k d h. let r = is.routes k d h in record { masked = r.masked; leads = r.leads; no_address = r.no_address })
          (record { masked = may.masked; leads = may.stands; no_address = may.no_address });
      ordered = put_pairs ComesBefore HasAddr (λ r. is_before r.0 p) (λ r. same_prefix r.0 p) n.routes (p, number) (routes_placed p number may.masked.0)
          (λ k d h. (is.routes k d h).masked.0) is.ordered;
    }
