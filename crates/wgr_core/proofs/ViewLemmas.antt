-- The views of peers, as one route after another is put into them.
use Rattle.std.proofs.Common.{◌≡◌, ℕ, zero, suc, ◌<◌, true, false, not, cond, nat_eq, nat_lt, List, [], ◌∷◌, ◌++◌, length, get_or, set, map, Ok, Err, is_some, refl, sym, ap, subst, ◌∙◌, arith}
use Rattle.std.specs.Prelude.{Result}
use Rattle.std.specs.List.{All, AllPairs, filter}
use Rattle.std.proofs.lemmas.List.{get_or-map, get_or_default, length-map}
use Rattle.std.proofs.lemmas.Bool.Decides.{nat_tests}
use Rattle.std.proofs.lemmas.List.Elements.{All-head, All-tail, All-weaker, filter_passes}
use Rattle.wgr_text.specs.Prefix.{PrefixValue}
use Rattle.wgr_peers.specs.declared.peer.Peer.{Peer}
use Rattle.wgr_core.specs.declared.reply.PeerView.{PeerView}
use Rattle.wgr_peers.specs.Ordered.{EndsAt, IsPlace}
use Rattle.wgr_peers.specs.Peers.{peer_of, IsNumberedBelow, AreNumbered}
use Rattle.wgr_peers.specs.Routes.{Routes, routes_to}
use Rattle.wgr_core.specs.Network.{NetworkValue, live_at}
use Rattle.wgr_core.specs.Outcome.{peer_view}
use Rattle.wgr_pool.proofs.Bools.{not_true}
use Rattle.wgr_pool.proofs.Lists.{AllPairs-head, AllPairs-tail}
use Rattle.wgr_peers.proofs.OrderedLemmas.{drop_absent}
use Rattle.wgr_core.proofs.LiveLemmas.{peer_stands}
use Rattle.wgr_core.proofs.LiveLooks.{routes_led}

-- ---- one more route

routes_more : (shown : Routes) (r : PrefixValue × ℕ) (number : ℕ) → nat_eq r.1 number ≡ true → routes_to (shown ++ r ∷ []) number ≡ routes_to shown number ++ r.0 ∷ []
routes_more [] r number h = ap (λ b. map (λ (r : PrefixValue × ℕ). r.0) (cond b (r ∷ []) [])) h
routes_more (s ∷ shown) r number h =
    let rest = routes_more shown r number h in
    let before = filter (λ (r : PrefixValue × ℕ). nat_eq r.1 number) shown in
    let after = filter (λ (r : PrefixValue × ℕ). nat_eq r.1 number) (shown ++ r ∷ []) in
    elim (nat_eq s.1 number) as (λ b. map (λ (r : PrefixValue × ℕ). r.0) (cond b (s ∷ after) after) ≡ map (λ (r : PrefixValue × ℕ). r.0) (cond b (s ∷ before) before) ++ r.0 ∷ []) [
      | true ↦ ap (λ prefixes. s.0 ∷ prefixes) rest
      | false ↦ rest
    ]

routes_other : (shown : Routes) (r : PrefixValue × ℕ) (number : ℕ) → nat_eq r.1 number ≡ false → routes_to (shown ++ r ∷ []) number ≡ routes_to shown number
routes_other [] r number h = ap (λ b. map (λ (r : PrefixValue × ℕ). r.0) (cond b (r ∷ []) [])) h
routes_other (s ∷ shown) r number h =
    let rest = routes_other shown r number h in
    let before = filter (λ (r : PrefixValue × ℕ). nat_eq r.1 number) shown in
    let after = filter (λ (r : PrefixValue × ℕ). nat_eq r.1 number) (shown ++ r ∷ []) in
    elim (nat_eq s.1 number) as (λ b. map (λ (r : PrefixValue × ℕ). r.0) (cond b (s ∷ after) after) ≡ map (λ (r : PrefixValue × ℕ). r.0) (cond b (s ∷ before) before)) [
      | true ↦ ap (λ prefixes. s.0 ∷ prefixes) rest
      | false ↦ rest
    ]

-- ---- the views with it

view_other : (shown : Routes) (r : PrefixValue × ℕ) (p : Peer) → nat_eq r.1 p.number ≡ false → peer_view shown p ≡ peer_view (shown ++ r ∷ []) p
view_other shown r p h = ap (λ (prefixes : List PrefixValue). record { peer = p; routes = prefixes }) (sym (routes_other shown r p.number h))

views_other : (shown : Routes) (r : PrefixValue × ℕ) (peers : List Peer) → All (λ p. nat_eq r.1 p.number ≡ false) peers → map (peer_view shown) peers ≡ map (peer_view (shown ++ r ∷ [])) peers
views_other shown r [] all = refl
views_other shown r (p ∷ peers) all =
    ap (λ v. v ∷ map (peer_view shown) peers) (view_other shown r p (All-head (λ p. nat_eq r.1 p.number ≡ false) p peers all))
    ∙ ap (λ vs. peer_view (shown ++ r ∷ []) p ∷ vs) (views_other shown r peers (All-tail (λ p. nat_eq r.1 p.number ≡ false) p peers all))

abbrev with_prefix : PeerView → PrefixValue → PeerView
with_prefix v prefix = record { peer = v.peer; routes = v.routes ++ prefix ∷ [] }

set_view : (shown : Routes) (r : PrefixValue × ℕ) (peers : List Peer) (at : ℕ) (d : PeerView) (e : Peer) → AreNumbered peers → at < length peers → nat_eq (get_or peers at e).number r.1 ≡ true
    → set (map (peer_view shown) peers) at (with_prefix (get_or (map (peer_view shown) peers) at d) r.0) ≡ map (peer_view (shown ++ r ∷ [])) peers
set_view shown r [] at d e pairs l same = absurd (omega (arith, l))
set_view shown r (p ∷ peers) zero d e pairs l same =
    let above = AllPairs-head IsNumberedBelow p peers pairs in
    ap (λ (prefixes : List PrefixValue). record { peer = p; routes = prefixes } ∷ map (peer_view shown) peers) (sym (routes_more shown r p.number (turned p.number r.1 same)))
    ∙ ap (λ vs. peer_view (shown ++ r ∷ []) p ∷ vs) (views_other shown r peers (All-weaker (IsNumberedBelow p) (λ q. nat_eq r.1 q.number ≡ false) (λ q below. other p.number q.number r.1 below same) peers above))
  where
    turned : (m n : ℕ) → nat_eq m n ≡ true → nat_eq n m ≡ true
    turned m n h = grind (arith, nat_tests)

    other : (m n i : ℕ) → m < n → nat_eq m i ≡ true → nat_eq i n ≡ false
    other m n i l h = grind (arith, nat_tests)
set_view shown r (p ∷ peers) (suc at) d e pairs l same =
    let below = AllPairs-head IsNumberedBelow p peers pairs at e (omega (arith, l)) in
    ap (λ v. v ∷ set (map (peer_view shown) peers) at (with_prefix (get_or (map (peer_view shown) peers) at d) r.0)) (view_other shown r p (lower p.number (get_or peers at e).number r.1 below same))
    ∙ ap (λ vs. peer_view (shown ++ r ∷ []) p ∷ vs) (set_view shown r peers at d e (AllPairs-tail IsNumberedBelow p peers pairs) (omega (arith, l)) same)
  where
    lower : (m n i : ℕ) → m < n → nat_eq n i ≡ true → nat_eq i m ≡ false
    lower m n i l h = grind (arith, nat_tests)

pub shown_there : (shown : Routes) (r : PrefixValue × ℕ) (peers : List Peer) (views : List PeerView) (at : ℕ) (v : PeerView) (prefixes : List PrefixValue)
    → AreNumbered peers → EndsAt (λ p. nat_lt p.number r.1) (λ p. nat_eq p.number r.1) peers (Ok at) → views ≡ map (peer_view shown) peers → v ≡ get_or views at v → prefixes ≡ v.routes ++ r.0 ∷ []
    → set views at (record { peer = v.peer; routes = prefixes }) ≡ map (peer_view (shown ++ r ∷ [])) peers
shown_there shown r [] views at v prefixes pairs ends same there more = absurd (omega (arith, ends.1))
shown_there shown r (p ∷ peers) views at v prefixes pairs ends same there more =
    let here : v ≡ get_or (map (peer_view shown) (p ∷ peers)) at v = there ∙ ap (λ (vs : List PeerView). get_or vs at v) same in
    ap (λ (rs : List PrefixValue). set views at (record { peer = v.peer; routes = rs })) more
    ∙ ap (λ (w : PeerView). set views at (with_prefix w r.0)) here
    ∙ ap (λ (vs : List PeerView). set vs at (with_prefix (get_or (map (peer_view shown) (p ∷ peers)) at v) r.0)) same
    ∙ set_view shown r (p ∷ peers) at v p pairs ends.1 (ends.2 p)

-- where no peer has the number, the route shows nowhere
pub shown_nowhere : (shown : Routes) (r : PrefixValue × ℕ) (peers : List Peer) (at : ℕ) → AreNumbered peers → EndsAt (λ p. nat_lt p.number r.1) (λ p. nat_eq p.number r.1) peers (Err at)
    → map (peer_view shown) peers ≡ map (peer_view (shown ++ r ∷ [])) peers
shown_nowhere shown r peers at pairs ends =
    let same = drop_absent IsNumberedBelow (λ (p : Peer). nat_lt p.number r.1) (λ p. nat_eq p.number r.1) peers at pairs ends (λ p h. level p.number r.1 h) (λ p q l h. leads p.number q.number r.1 l h) in
    let none = subst (All (λ p. not (nat_eq p.number r.1) ≡ true)) same (filter_passes (λ (p : Peer). not (nat_eq p.number r.1)) peers) in
    views_other shown r peers (All-weaker (λ p. not (nat_eq p.number r.1) ≡ true) (λ p. nat_eq r.1 p.number ≡ false) (λ p h. turned p.number r.1 (not_true (nat_eq p.number r.1) h)) peers none)
  where
    level : (m i : ℕ) → nat_eq m i ≡ true → nat_lt m i ≡ false
    level m i h = grind (arith, nat_tests)

    leads : (m n i : ℕ) → m < n → nat_eq n i ≡ true → nat_lt m i ≡ true
    leads m n i l h = grind (arith, nat_tests)

    turned : (m n : ℕ) → nat_eq m n ≡ false → nat_eq n m ≡ false
    turned m n h = grind (arith, nat_tests)

-- ---- the routes of the whole network show what those of the live one do

map_on : {X Y : Type 0} (f g : X → Y) (xs : List X) → All (λ x. f x ≡ g x) xs → map f xs ≡ map g xs
map_on f g [] same = refl
map_on f g (x ∷ xs) same = ap (λ y. y ∷ map f xs) (All-head (λ x. f x ≡ g x) x xs same) ∙ ap (λ ys. g x ∷ ys) (map_on f g xs (All-tail (λ x. f x ≡ g x) x xs same))

pub live_views : (n : NetworkValue) (now : ℕ) → map (peer_view n.routes) (live_at n now).peers ≡ map (peer_view (live_at n now).routes) (live_at n now).peers
live_views n now =
    let live = (live_at n now).peers in
    map_on (peer_view n.routes) (peer_view (live_at n now).routes) live
    (All-weaker (λ p. is_some (peer_of live p.number) ≡ true) (λ p. peer_view n.routes p ≡ peer_view (live_at n now).routes p) (λ p stands.
    ap (λ (rs : Routes). record { peer = p; routes = map (λ (r : PrefixValue × ℕ). r.0) rs }) (sym (routes_led (λ i. is_some (peer_of live i)) n.routes p.number stands))) live (peer_stands live))

-- ---- the views, by their peers

pub views_numbered : (views : List PeerView) → AreNumbered (map (λ v. v.peer) views) → AllPairs (λ v w. IsNumberedBelow v.peer w.peer) views
views_numbered views pairs = λ i j d l h.
    let within : j < length (map (λ (v : PeerView). v.peer) views) = subst (λ (k : ℕ). j < k) (sym (length-map views (λ (v : PeerView). v.peer))) h in
    subst (λ (p : Peer). IsNumberedBelow p (get_or views j d).peer) (get_or-map (λ (v : PeerView). v.peer) views i d d.peer (omega (arith, l, h)))
    (subst (λ (q : Peer). IsNumberedBelow (get_or (map (λ (v : PeerView). v.peer) views) i d.peer) q) (get_or-map (λ (v : PeerView). v.peer) views j d d.peer h) (pairs i j d.peer l within))

pub view_there : (views : List PeerView) (n at : ℕ) (d e : PeerView) → at < length views → (get_or views at e).peer.number ≡ n → nat_eq (get_or views at d).peer.number n ≡ true
view_there views n at d e l h = equal (get_or views at d).peer.number n (ap (λ (v : PeerView). v.peer.number) (get_or_default views at d e l) ∙ h)
  where
    equal : (a b : ℕ) → a ≡ b → nat_eq a b ≡ true
    equal a b e = grind (arith, nat_tests)

pub view_not_there : (views : List PeerView) (n at : ℕ) (d e : PeerView) → at < length views → ((get_or views at e).peer.number ≡ n → ⊥) → nat_eq (get_or views at d).peer.number n ≡ false
view_not_there views n at d e l h = apart (get_or views at d).peer.number n (λ same. h (sym (ap (λ (v : PeerView). v.peer.number) (get_or_default views at d e l)) ∙ same))
  where
    apart : (a b : ℕ) → (a ≡ b → ⊥) → nat_eq a b ≡ false
    apart a b e = grind (arith, nat_tests)

-- where a search among the views ends, one among their peers does
pub ends_in_peers : (shown : Routes) (number : ℕ) (views : List PeerView) (peers : List Peer) (r : Result ℕ ℕ) → views ≡ map (peer_view shown) peers
    → EndsAt (λ v. nat_lt v.peer.number number) (λ v. nat_eq v.peer.number number) views r → EndsAt (λ p. nat_lt p.number number) (λ p. nat_eq p.number number) peers r
ends_in_peers shown number views peers r same ends = by r (subst (λ vs. EndsAt (λ (v : PeerView). nat_lt v.peer.number number) (λ v. nat_eq v.peer.number number) vs r) same ends)
  where
    among : List PeerView
    among = map (peer_view shown) peers

    read : (k : ℕ) (d : Peer) → k < length peers → get_or among k (peer_view shown d) ≡ peer_view shown (get_or peers k d)
    read k d l = get_or-map (peer_view shown) peers k d (peer_view shown d) l

    place : (at : ℕ) → IsPlace (λ (v : PeerView). nat_lt v.peer.number number) among at → IsPlace (λ (p : Peer). nat_lt p.number number) peers at
    place at is =
        let size = length-map peers (peer_view shown) in
        record {
          within = omega (arith, is.within, size);
          before = λ k d h. ap (λ (v : PeerView). nat_lt v.peer.number number) (sym (read k d (omega (arith, h, is.within, size)))) ∙ is.before k (peer_view shown d) h;
          after = λ k d h l. ap (λ (v : PeerView). nat_lt v.peer.number number) (sym (read k d l)) ∙ is.after k (peer_view shown d) h (omega (arith, l, size));
        }

    by : (r : Result ℕ ℕ) → EndsAt (λ (v : PeerView). nat_lt v.peer.number number) (λ v. nat_eq v.peer.number number) among r → EndsAt (λ (p : Peer). nat_lt p.number number) (λ p. nat_eq p.number number) peers r
    by (Ok at) e =
        let size = length-map peers (peer_view shown) in
        let l : at < length peers = omega (arith, e.1, size) in
        (place at e.0, l, λ d. ap (λ (v : PeerView). nat_eq v.peer.number number) (sym (read at d l)) ∙ e.2 (peer_view shown d))
    by (Err at) e =
        let size = length-map peers (peer_view shown) in
        (place at e.0, λ d l. ap (λ (v : PeerView). nat_eq v.peer.number number) (sym (read at d l)) ∙ e.1 (peer_view shown d) (omega (arith, l, size)))

-- the peers of the views are those that are shown
pub peers_shown : (shown : Routes) (views : List PeerView) (peers : List Peer) → views ≡ map (peer_view shown) peers → map (λ v. v.peer) views ≡ peers
peers_shown shown views peers same = ap (map (λ (v : PeerView). v.peer)) same ∙ back peers
  where
    back : (peers : List Peer) → map (λ (v : PeerView). v.peer) (map (peer_view shown) peers) ≡ peers
    back [] = refl
    back (p ∷ peers) = ap (λ ps. p ∷ ps) (back peers)
