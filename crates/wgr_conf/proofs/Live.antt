-- What of a network is live.
use Rattle.std.proofs.Common.{◌≡◌, ℕ, inl, inr, Bool, true, false, ◌&&◌, cond, nat_eq, List, [], ◌∷◌, ◌++◌, map, flat_map, Option, Some, None, is_some, get_or, refl, sym, ap, ◌∙◌}
use Rattle.std.specs.List.{All, filter}
use Rattle.std.proofs.lemmas.List.Elements.{All-head, All-tail}
use Rattle.std.proofs.lemmas.List.Folds.{flat_map-map}
use Rattle.wgr_text.specs.Prefix.{PrefixValue}
use Rattle.wgr_peers.specs.declared.peer.Peer.{Peer}
use Rattle.wgr_peers.specs.Peers.{is_live, peer_of, AreNumbered}
use Rattle.wgr_peers.specs.Routes.{Routes, routes_to}
use Rattle.wgr_core.specs.Network.{NetworkValue, IsNetwork, live_at}
use Rattle.wgr_core.specs.Outcome.{peer_view}
use Rattle.wgr_pool.proofs.Bools.{decide}
use Rattle.wgr_pool.proofs.Lists.{filter_agree_on, filter_twice}
use Rattle.wgr_pool.proofs.PrefixLemmas.{nat_eq_is}
use Rattle.wgr_core.proofs.LiveLemmas.{live_by_number}
use Rattle.wgr_core.proofs.LookLemmas.{found_kept}
use Rattle.wgr_conf.specs.Files.{is_beside, live_section, peer_section, routes_beside}

-- ---- one peer

pub kept : (keeps : Peer → Bool) (peers : List Peer) (i : ℕ) (p : Peer) → AreNumbered peers → peer_of peers i ≡ Some p → keeps p ≡ true → peer_of (filter keeps peers) i ≡ Some p
kept keeps peers i p pairs found live = (found_kept keeps peers i p pairs).1 (found, live)

pub left_out : (keeps : Peer → Bool) (peers : List Peer) (i : ℕ) (p : Peer) → AreNumbered peers → peer_of peers i ≡ Some p → keeps p ≡ false → peer_of (filter keeps peers) i ≡ None
left_out keeps peers i p pairs found over = by_found (peer_of (filter keeps peers) i) refl
  where
    same : (p q : Peer) → Some p ≡ Some q → p ≡ q
    same p q e = cc e

    by_found : (o : Option Peer) → peer_of (filter keeps peers) i ≡ o → peer_of (filter keeps peers) i ≡ None
    by_found None e = e
    by_found (Some q) e =
        let both = (found_kept keeps peers i q pairs).0 e in
        let one : p ≡ q = same p q (sym found ∙ both.0) in
        let bad : true ≡ false = sym both.1 ∙ sym (ap keeps one) ∙ over in cc

-- ---- routes

pub beside_live : (n : NetworkValue) (now number : ℕ) → map (λ r. r.0) (filter (λ r. is_some (peer_of (live_at n now).peers r.1) && is_beside n number r) n.routes) ≡ routes_beside (live_at n now) number
beside_live n now number =
    ap (map (λ (r : PrefixValue × ℕ). r.0)) (filter_twice (λ (r : PrefixValue × ℕ). is_some (peer_of (live_at n now).peers r.1)) (is_beside n number) (λ r. is_some (peer_of (live_at n now).peers r.1) && is_beside n number r) (λ r. refl) n.routes)

-- a live peer has all its routes
own_routes : (stands : ℕ → Bool) (routes : Routes) (number : ℕ) → stands number ≡ true → routes_to (filter (λ r. stands r.1) routes) number ≡ routes_to routes number
own_routes stands routes number live =
    ap (map (λ (r : PrefixValue × ℕ). r.0)) (
    sym (filter_twice (λ (r : PrefixValue × ℕ). stands r.1) (λ r. nat_eq r.1 number) (λ r. stands r.1 && nat_eq r.1 number) (λ r. refl) routes)
    ∙ filter_agree_on (λ (r : PrefixValue × ℕ). stands r.1 && nat_eq r.1 number) (λ r. nat_eq r.1 number) routes (λ k d h. alike (get_or routes k d).1)
    )
  where
    none : (b : Bool) → (b && false) ≡ false
    none true = refl
    none false = refl

    alike : (i : ℕ) → (stands i && nat_eq i number) ≡ nat_eq i number
    alike i = elim (decide (nat_eq i number)) [
      | inl here ↦ ap (λ b. b && nat_eq i number) (ap stands (nat_eq_is i number here) ∙ live)
      | inr apart ↦ ap (λ b. stands i && b) apart ∙ none (stands i) ∙ sym apart
    ]

-- ---- the sections of the live peers

flat_map_agree : {X Y : Type 0} (f g : X → List Y) (xs : List X) → All (λ x. f x ≡ g x) xs → flat_map f xs ≡ flat_map g xs
flat_map_agree f g [] all = refl
flat_map_agree f g (x ∷ xs) all =
    ap (λ ys. ys ++ flat_map f xs) (All-head (λ x. f x ≡ g x) x xs all) ∙ ap (λ ys. g x ++ ys) (flat_map_agree f g xs (All-tail (λ x. f x ≡ g x) x xs all))

flat_map_kept : {X Y : Type 0} (keeps : X → Bool) (f : X → List Y) (xs : List X) → flat_map (λ x. cond (keeps x) (f x) []) xs ≡ flat_map f (filter keeps xs)
flat_map_kept keeps f [] = refl
flat_map_kept keeps f (x ∷ xs) =
    let rest = flat_map_kept keeps f xs in
    elim (keeps x) as (λ b. cond b (f x) [] ++ flat_map (λ x. cond (keeps x) (f x) []) xs ≡ flat_map f (cond b (x ∷ filter keeps xs) (filter keeps xs))) [
      | true ↦ ap (λ ys. f x ++ ys) rest
      | false ↦ rest
    ]

pub sections_live : (n : NetworkValue) (now : ℕ) → IsNetwork n
    → flat_map (live_section now) (map (peer_view n.routes) n.peers) ≡ flat_map (λ p. peer_section p (routes_to (live_at n now).routes p.number)) (live_at n now).peers
sections_live n now is =
    let live = (live_at n now).peers in
    let stands : ℕ → Bool = λ i. is_some (peer_of live i) in
    let by_number = live_by_number now n.peers is.numbered in
    let section : Peer → List ℕ = λ p. peer_section p (routes_to (live_at n now).routes p.number) in
    flat_map-map (live_section now) (peer_view n.routes) n.peers
    ∙ flat_map_agree (λ (p : Peer). live_section now (peer_view n.routes p)) (λ p. cond (is_live now p) (section p) []) n.peers (λ k d h. one (get_or n.peers k d) (by_number k d h))
    ∙ flat_map_kept (is_live now) section n.peers
  where
    one : (p : Peer) → is_some (peer_of (live_at n now).peers p.number) ≡ is_live now p
        → live_section now (peer_view n.routes p) ≡ cond (is_live now p) (peer_section p (routes_to (live_at n now).routes p.number)) []
    one p same = elim (decide (is_live now p)) [
      | inl here ↦ ap (λ routes. cond (is_live now p) (peer_section p routes) []) (sym (own_routes (λ i. is_some (peer_of (live_at n now).peers i)) n.routes p.number (same ∙ here)))
      | inr over ↦ ap (λ b. cond b (peer_section p (routes_to n.routes p.number)) []) over ∙ sym (ap (λ b. cond b (peer_section p (routes_to (live_at n now).routes p.number)) []) over)
    ]
