-- Lines that were adopted are adopted again with no change.
use Rattle.std.proofs.Common.{◌≡◌, ℕ, suc, ◌+◌, ◌<◌, Bool, true, false, cond, nat_eq, nat_lt, List, [], ◌∷◌, ◌++◌, length, get_or, map, Option, Some, None, is_some, refl, sym, ap, ◌∙◌, subst, arith}
use Rattle.std.specs.Prelude.{Result, Ok, Err, IfOk}
use Rattle.std.specs.List.{All, AllPairs}
use Rattle.std.proofs.lemmas.Bool.Decides.{nat_tests}
use Rattle.std.proofs.lemmas.Cmp.{nat_list_eq_equiv}
use Rattle.std.proofs.lemmas.List.{map-id}
use Rattle.std.proofs.lemmas.List.Elements.{All-head, All-map, All-push, All-tail, filter_passes}
use Rattle.std.proofs.lemmas.List.Quantifiers.{all_pairs_push}
use Rattle.std.proofs.lemmas.Simd.{map-map}
use Rattle.wgr_text.specs.declared.key.Key.{Key}
use Rattle.wgr_text.specs.Prefix.{AddrValue, PrefixValue}
use Rattle.wgr_peers.specs.declared.peer.Peer.{Peer}
use Rattle.wgr_peers.specs.declared.peer.Status.{Status}
use Rattle.wgr_pool.specs.PrefixTests.{is_before, same_prefix}
use Rattle.wgr_peers.specs.Peers.{is_live, peer_of, put_peer, same_key, AreNumbered, IsNumberedBelow}
use Rattle.wgr_peers.specs.Routes.{Routes, assign_route}
use Rattle.wgr_core.specs.declared.refusal.Refusal.{Refusal}
use Rattle.wgr_core.specs.declared.refusal.Refusal.TheVariants.{WrongServer}
use Rattle.wgr_core.specs.declared.reply.Reply.{Reply}
use Rattle.wgr_core.specs.declared.reply.Reply.TheVariants as reply
use Rattle.wgr_core.specs.declared.seen_peer.SeenPeer.{SeenPeer}
use Rattle.wgr_core.specs.Network.{NetworkValue, IsNetwork, live_at}
use Rattle.wgr_core.specs.Adoption.{Adoption, and_then, peer_of_line, keyed_peer, adopt_line_of, adopt_line, in_line, adopt_lines, adoption_order, adoption_of, other_prefixes}
use Rattle.wgr_laws.specs.AdoptionLaws.{adopt_at}
use Rattle.wgr_core.specs.Change.{assign_routes}
use Rattle.wgr_core.specs.Outcome.{adopt, adopted, kept_if, server_refusal, unless}
use Rattle.wgr_pool.proofs.Lists.{AllPairs-head, AllPairs-tail, filter_each}
use Rattle.wgr_pool.proofs.PrefixLemmas.{nat_eq_self}
use Rattle.wgr_peers.proofs.OrderedLemmas.{put_all}
use Rattle.wgr_peers.proofs.PlaceLemmas.{below_test}
use Rattle.wgr_peers.proofs.PutLemmas.{map_pairs}
use Rattle.wgr_peers.proofs.TableLemmas.{same_key_is}
use Rattle.wgr_laws.proofs.AdoptedPeers.{start_at}
use Rattle.wgr_laws.proofs.AdoptionOrder.{length-order}
use Rattle.wgr_laws.proofs.KeyedLemmas.{DifferInKey, is_keyed, is_numbered, keyed_has, some_keyed, some_numbered, list_any-map, any_push, any_last}
use Rattle.wgr_core.proofs.JoinLemmas.{key_free}
use Rattle.wgr_core.proofs.LineLemmas.{unkeyed}
use Rattle.wgr_laws.proofs.LineCases.{joined_line, line_if, lines_keep}
use Rattle.wgr_core.proofs.LiveLemmas.{live_is, live_is_network}
use Rattle.wgr_core.proofs.OutcomeCases.{kept_if_reading, unless_if}

-- ---- statuses

-- the status of the last of the lines that have the key, or the one that was
abbrev pub last_status : List (ℕ × SeenPeer) → Key → Option Status → Option Status
last_status [] key was = was
last_status (l ∷ more) key was = last_status more key (cond (same_key key l.1.key) (Some l.1.status) was)

-- the peer as the lines leave it
abbrev pub shown_by : List (ℕ × SeenPeer) → Peer → Peer
shown_by lines p = record p { status = last_status lines p.key p.status }

abbrev pub shown : SeenPeer → Peer → Peer
shown line p = record p { status = cond (same_key p.key line.key) (Some line.status) p.status }

-- the lines leave the peer as it is
abbrev IsSettled : List (ℕ × SeenPeer) → Peer → Type 0
IsSettled lines p = last_status lines p.key p.status ≡ p.status

last_push : (lines : List (ℕ × SeenPeer)) (l : ℕ × SeenPeer) (key : Key) (was : Option Status) → last_status (lines ++ l ∷ []) key was ≡ cond (same_key key l.1.key) (Some l.1.status) (last_status lines key was)
last_push [] l key was = refl
last_push (k ∷ lines) l key was = last_push lines l key (cond (same_key key k.1.key) (Some k.1.status) was)

settled_next : (lines : List (ℕ × SeenPeer)) (l : ℕ × SeenPeer) (p : Peer) → (same_key p.key l.1.key ≡ true → p.status ≡ Some l.1.status) → (same_key p.key l.1.key ≡ false → IsSettled lines p) → IsSettled (lines ++ l ∷ []) p
settled_next lines l p here apart = last_push lines l p.key p.status ∙ by (same_key p.key l.1.key) refl
  where
    by : (b : Bool) → same_key p.key l.1.key ≡ b → cond b (Some l.1.status) (last_status lines p.key p.status) ≡ p.status
    by true same = sym (here same)
    by false other = apart other

unshown : (line : SeenPeer) (peers : List Peer) → All (λ p. same_key p.key line.key ≡ false) peers → map (shown line) peers ≡ peers
unshown line [] apart = refl
unshown line (p ∷ peers) apart =
    ap (λ b. record p { status = cond b (Some line.status) p.status } ∷ map (shown line) peers) (All-head (λ p. same_key p.key line.key ≡ false) p peers apart)
    ∙ ap (λ ps. p ∷ ps) (unshown line peers (All-tail (λ p. same_key p.key line.key ≡ false) p peers apart))

-- where a peer has the key, each peer with the key gets the status
pub noted_is : (peers : List Peer) (line : SeenPeer) (p : Peer) → AreNumbered peers → AllPairs DifferInKey peers → keyed_peer peers line.key ≡ Some p → put_peer peers (record p { status = Some line.status }) ≡ map (shown line) peers
noted_is [] line p numbered keys found = cc
noted_is (e ∷ peers) line p numbered keys found =
    by (same_key e.key line.key) refl found (λ later. noted_is peers line p (AllPairs-tail IsNumberedBelow e peers numbered) (AllPairs-tail DifferInKey e peers keys) later)
  where
    q : Peer
    q = record p { status = Some line.status }

    behind : same_key e.key line.key ≡ true → All (λ x. same_key x.key line.key ≡ false) peers
    behind same = λ k d h. nat_list_eq_equiv.symm (get_or peers k d).key.0 line.key.0 ∙ sym (ap (λ key. same_key key (get_or peers k d).key) (same_key_is e.key line.key same)) ∙ AllPairs-head DifferInKey e peers keys k d h

    here : same_key e.key line.key ≡ true → e ≡ p → put_peer (e ∷ peers) q ≡ map (shown line) (e ∷ peers)
    here same is =
        subst (λ (x : Peer). put_peer (e ∷ peers) (record x { status = Some line.status }) ≡ map (shown line) (e ∷ peers)) is
        (ap (λ b. cond b (e ∷ put_peer peers (record e { status = Some line.status })) (cond (nat_eq e.number e.number) (record e { status = Some line.status } ∷ peers) (record e { status = Some line.status } ∷ e ∷ peers))) (not_below e.number)
        ∙ ap (λ b. cond b (record e { status = Some line.status } ∷ peers) (record e { status = Some line.status } ∷ e ∷ peers)) (nat_eq_self e.number)
        ∙ ap (λ b. record e { status = cond b (Some line.status) e.status } ∷ peers) (sym same)
        ∙ ap (λ ps. shown line e ∷ ps) (sym (unshown line peers (behind same))))
      where
        not_below : (m : ℕ) → nat_lt m m ≡ false
        not_below m = grind (arith, nat_tests)

    by : (b : Bool) → same_key e.key line.key ≡ b → cond b (Some e) (keyed_peer peers line.key) ≡ Some p → (keyed_peer peers line.key ≡ Some p → put_peer peers q ≡ map (shown line) peers) → put_peer (e ∷ peers) q ≡ map (shown line) (e ∷ peers)
    by true same found rest = here same (let is : e ≡ p = cc in is)
    by false apart found rest =
        let above : e.number < p.number = (keyed_has (IsNumberedBelow e) peers line.key p (AllPairs-head IsNumberedBelow e peers numbered) found).0 in
        ap (λ b. cond b (e ∷ put_peer peers q) (cond (nat_eq e.number p.number) (q ∷ peers) (q ∷ e ∷ peers))) (below_test e.number p.number above)
        ∙ ap (λ ps. e ∷ ps) (rest found)
        ∙ ap (λ b. record e { status = cond b (Some line.status) e.status } ∷ map (shown line) peers) (sym apart)

-- ---- a run of lines

-- what a run has so far: each of its lines' keys is held, and its lines leave each peer as it is
record IsAdopted (first : NetworkValue) (now : ℕ) (done : List (ℕ × SeenPeer)) (s : Adoption) : Type 0 where
  pool : s.network.pool ≡ first.pool
  server : s.network.server ≡ first.server
  numbered : AreNumbered s.network.peers
  below : All (λ p. p.number < s.network.next) s.network.peers
  keys : AllPairs DifferInKey s.network.peers
  settled : All (IsSettled done) s.network.peers
  held : All (λ l. is_keyed s.network.peers l.1.key ≡ true) done
  live : All (λ p. is_live now p ≡ true) s.network.peers
  leads : All (λ r. is_numbered s.network.peers r.1 ≡ true) s.network.routes

settled_shown : (done : List (ℕ × SeenPeer)) (l : ℕ × SeenPeer) (p : Peer) → IsSettled done p → IsSettled (done ++ l ∷ []) (shown l.1 p)
settled_shown done l p is =
    settled_next done l (shown l.1 p) (λ same. ap (λ b. cond b (Some l.1.status) p.status) same)
    (λ apart. subst (λ b. last_status done p.key (cond b (Some l.1.status) p.status) ≡ cond b (Some l.1.status) p.status) (sym apart) is)

adopted_shown : (first : NetworkValue) (now : ℕ) (done : List (ℕ × SeenPeer)) (s : Adoption) (l : ℕ × SeenPeer) → IsAdopted first now done s → is_keyed s.network.peers l.1.key ≡ true
    → IsAdopted first now (done ++ l ∷ []) (record s { network = record s.network { peers = map (shown l.1) s.network.peers }; known = s.known + 1 })
adopted_shown first now done s l is here =
    let peers = s.network.peers in
    record {
      pool = is.pool;
      server = is.server;
      numbered = map_pairs (shown l.1) IsNumberedBelow peers is.numbered;
      below = All-map (λ p. p.number < s.network.next) (shown l.1) peers is.below;
      keys = map_pairs (shown l.1) DifferInKey peers is.keys;
      settled = All-map (IsSettled (done ++ l ∷ [])) (shown l.1) peers (λ k d h. settled_shown done l (get_or peers k d) (is.settled k d h));
      held = All-push (λ (e : ℕ × SeenPeer). is_keyed (map (shown l.1) peers) e.1.key ≡ true) done l
          (λ k d h. list_any-map (λ (p : Peer). same_key p.key (get_or done k d).1.key) (shown l.1) peers ∙ is.held k d h)
          (list_any-map (λ (p : Peer). same_key p.key l.1.key) (shown l.1) peers ∙ here);
      live = All-map (λ p. is_live now p ≡ true) (shown l.1) peers is.live;
      leads = λ k d h. list_any-map (λ (p : Peer). nat_eq p.number (get_or s.network.routes k d).1) (shown l.1) peers ∙ is.leads k d h;
    }

assigned_all : (P : PrefixValue × ℕ → Type 0) (routes more : Routes) → All P routes → All P more → All P (assign_routes routes more)
assigned_all P routes [] all new = all
assigned_all P routes (r ∷ more) all new =
    assigned_all P (assign_route routes r.0 r.1) more (put_all P (λ e. is_before e.0 r.0) (λ e. same_prefix e.0 r.0) routes (r.0, r.1) all (All-head P r more new)) (All-tail P r more new)

adopted_joined : (first : NetworkValue) (now : ℕ) (done : List (ℕ × SeenPeer)) (s : Adoption) (l : ℕ × SeenPeer) (a : AddrValue) → IsAdopted first now done s → keyed_peer s.network.peers l.1.key ≡ None
    → IsAdopted first now (done ++ l ∷ []) (joined_line s l.1 a)
adopted_joined first now done s l a is none =
    let peers = s.network.peers in
    let next = s.network.next in
    let q = peer_of_line s.network l.1 a in
    let others = key_free peers l.1.key (unkeyed peers l.1.key none) in
    let self = nat_list_eq_equiv.refl l.1.key.0 in
    let given = λ (i : ℕ). λ (p : Peer). nat_eq p.number i in
    record {
      pool = is.pool;
      server = is.server;
      numbered = all_pairs_push IsNumberedBelow peers q is.numbered is.below;
      below = All-push (λ p. p.number < next + 1) peers q (λ k d h. let under = is.below k d h in omega (arith, under)) (omega arith);
      keys = all_pairs_push DifferInKey peers q is.keys others;
      settled = All-push (IsSettled (done ++ l ∷ [])) peers q
          (λ k d h. settled_next done l (get_or peers k d) (λ same. let bad : true ≡ false = sym same ∙ others k d h in cc) (λ apart. is.settled k d h))
          (settled_next done l q (λ same. refl) (λ apart. let bad : true ≡ false = sym self ∙ apart in cc));
      held = All-push (λ (e : ℕ × SeenPeer). is_keyed (peers ++ q ∷ []) e.1.key ≡ true) done l
          (λ k d h. any_push (λ (p : Peer). same_key p.key (get_or done k d).1.key) peers q (is.held k d h)) (any_last (λ (p : Peer). same_key p.key l.1.key) peers q self);
      live = All-push (λ p. is_live now p ≡ true) peers q is.live refl;
      leads = assigned_all (λ r. is_numbered (peers ++ q ∷ []) r.1 ≡ true) s.network.routes (map (λ p. (p, next)) (other_prefixes a l.1.allowed))
          (λ k d h. any_push (given (get_or s.network.routes k d).1) peers q (is.leads k d h))
          (All-map (λ (r : PrefixValue × ℕ). is_numbered (peers ++ q ∷ []) r.1 ≡ true) (λ p. (p, next)) (other_prefixes a l.1.allowed) (λ k d h. any_last (given next) peers q (nat_eq_self next)));
    }

adopted_next : (first : NetworkValue) (now : ℕ) (done : List (ℕ × SeenPeer)) (s : Adoption) (l : ℕ × SeenPeer) → IsAdopted first now done s → IfOk (adopt_line s l.1) (IsAdopted first now (done ++ l ∷ []))
adopted_next first now done s l is =
    line_if (IsAdopted first now (done ++ l ∷ [])) s l.1
    (λ p found.
    let here : is_keyed s.network.peers l.1.key ≡ true = sym (some_keyed s.network.peers l.1.key) ∙ ap is_some found in
    subst (λ (ps : List Peer). IsAdopted first now (done ++ l ∷ []) (record s { network = record s.network { peers = ps }; known = s.known + 1 }))
    (sym (noted_is s.network.peers l.1 p is.numbered is.keys found)) (adopted_shown first now done s l is here))
    (λ a none allowed placed. adopted_joined first now done s l a is none)

adopted_start : (n : NetworkValue) (now : ℕ) → IsNetwork n → IsAdopted (live_at n now) now [] (start_at (live_at n now))
adopted_start n now is =
    let live = live_is_network n now is in
    record {
      pool = refl;
      server = refl;
      numbered = live.numbered;
      below = λ k d h. (live.members k d h).numbered.1;
      keys = λ i j d l h. (live.apart i j d l h).0;
      settled = λ k d h. refl;
      held = λ k d h. absurd (omega (arith, h));
      live = filter_passes (is_live now) n.peers;
      leads = λ k d h. sym (some_numbered (live_at n now).peers (get_or (live_at n now).routes k d).1) ∙ (live.routes k d h).leads;
    }

adopted_all : (n : NetworkValue) (now : ℕ) (lines : List SeenPeer) → IsNetwork n → IfOk (adoption_of (live_at n now) lines) (IsAdopted (live_at n now) now (adoption_order n.pool lines))
adopted_all n now lines is =
    lines_keep (λ d l. Unit {0}) (IsAdopted (live_at n now) now) (λ done s l apart kept. adopted_next (live_at n now) now done s l kept)
    [] (start_at (live_at n now)) (adoption_order n.pool lines) (λ i j d l h. tt) (adopted_start n now is)

-- ---- the run once more

-- where each key is held, each peer gets the status of the last line with its key
again : (s : Adoption) (lines : List (ℕ × SeenPeer)) → AreNumbered s.network.peers → AllPairs DifferInKey s.network.peers → All (λ l. is_keyed s.network.peers l.1.key ≡ true) lines
    → adopt_lines s lines ≡ Ok (record s { network = record s.network { peers = map (shown_by lines) s.network.peers }; known = s.known + length lines })
again s [] numbered keys held =
    ap (λ (ps : List Peer). Ok (record s { network = record s.network { peers = ps } })) (sym (map-id s.network.peers))
    ∙ ap (λ (k : ℕ). Ok (record s { network = record s.network { peers = map (λ p. p) s.network.peers }; known = k })) (none_more s.known)
  where
    none_more : (k : ℕ) → k ≡ k + 0
    none_more k = omega arith
again s (l ∷ more) numbered keys held =
    by_peer (keyed_peer s.network.peers l.1.key) refl
    (again (record s { network = record s.network { peers = map (shown l.1) s.network.peers }; known = s.known + 1 }) more
    (map_pairs (shown l.1) IsNumberedBelow s.network.peers numbered) (map_pairs (shown l.1) DifferInKey s.network.peers keys)
    (λ k d h. list_any-map (λ (p : Peer). same_key p.key (get_or more k d).1.key) (shown l.1) s.network.peers ∙ All-tail (λ (e : ℕ × SeenPeer). is_keyed s.network.peers e.1.key ≡ true) l more held k d h))
  where
    after : List Peer → ℕ → Result Adoption (ℕ × Refusal)
    after ps k = Ok (record s { network = record s.network { peers = ps }; known = k })

    count : (k m : ℕ) → k + 1 + m ≡ k + suc m
    count k m = omega arith

    by_peer : (o : Option Peer) → keyed_peer s.network.peers l.1.key ≡ o
        → adopt_lines (record s { network = record s.network { peers = map (shown l.1) s.network.peers }; known = s.known + 1 }) more ≡ Ok (record s { network = record s.network { peers = map (shown_by more) (map (shown l.1) s.network.peers) }; known = s.known + 1 + length more })
        → and_then (in_line l.0 (adopt_line_of s l.1 o)) (λ next. adopt_lines next more) ≡ Ok (record s { network = record s.network { peers = map (shown_by (l ∷ more)) s.network.peers }; known = s.known + length (l ∷ more) })
    by_peer None none rest =
        let bad : true ≡ false = sym (All-head (λ (e : ℕ × SeenPeer). is_keyed s.network.peers e.1.key ≡ true) l more held) ∙ sym (some_keyed s.network.peers l.1.key) ∙ ap is_some none in cc
    by_peer (Some p) found rest =
        ap (λ (ps : List Peer). adopt_lines (record s { network = record s.network { peers = ps }; known = s.known + 1 }) more) (noted_is s.network.peers l.1 p numbered keys found)
        ∙ rest
        ∙ ap (λ (ps : List Peer). Ok (record s { network = record s.network { peers = ps }; known = s.known + 1 + length more })) (map-map (shown_by more) (shown l.1) s.network.peers)
        ∙ ap (λ (k : ℕ). Ok (record s { network = record s.network { peers = map (shown_by (l ∷ more)) s.network.peers }; known = k })) (count s.known (length more))

settled_same : (lines : List (ℕ × SeenPeer)) (peers : List Peer) → All (IsSettled lines) peers → map (shown_by lines) peers ≡ peers
settled_same lines [] settled = refl
settled_same lines (p ∷ peers) settled =
    ap (λ status. record p { status = status } ∷ map (shown_by lines) peers) (All-head (IsSettled lines) p peers settled)
    ∙ ap (λ ps. p ∷ ps) (settled_same lines peers (All-tail (IsSettled lines) p peers settled))

-- a network is its live one where each peer is live and each route leads to a peer
pub live_itself : (n : NetworkValue) (now : ℕ) → All (λ p. is_live now p ≡ true) n.peers → All (λ r. is_some (peer_of n.peers r.1) ≡ true) n.routes → live_at n now ≡ n
live_itself n now live leads =
    sym (live_is n now n.next n.peers n.routes refl (sym (filter_each (is_live now) n.peers live)) (sym (filter_each (λ (r : PrefixValue × ℕ). is_some (peer_of n.peers r.1)) n.routes leads)))

same_refusal : (n m : NetworkValue) (server : Option Key) → n.server ≡ m.server → server_refusal n server ≡ server_refusal m server
same_refusal n m None same = refl
same_refusal n m (Some key) same = ap (λ (k : Key). cond (same_key key k) None (Some WrongServer)) same

-- the second run ends where it began
adopts_again : (n : NetworkValue) (now later : ℕ) (server : Option Key) (lines : List SeenPeer) (s : Adoption) → IsAdopted (live_at n now) now (adoption_order n.pool lines) s → server_refusal (live_at n now) server ≡ None
    → All (λ p. is_live later p ≡ true) s.network.peers → adopt_at s.network later server lines ≡ Ok (reply.Adopted [] (length lines), s.network)
adopts_again n now later server lines s is allowed live =
    let m = s.network in
    let order = adoption_order n.pool lines in
    let start = start_at m in
    let run : adoption_of m lines ≡ Ok (record { network = m; added = []; known = length lines }) =
    ap (λ pool. adopt_lines start (adoption_order pool lines)) is.pool
    ∙ again start order is.numbered is.keys is.held
    ∙ ap (λ (ps : List Peer). Ok (record { network = record m { peers = ps }; added = []; known = 0 + length order })) (settled_same order m.peers is.settled)
    ∙ ap (λ (k : ℕ). Ok (record { network = m; added = []; known = k })) (none_before (length order) ∙ length-order n.pool lines) in
    ap (λ (x : NetworkValue). kept_if false m (adopt x server lines)) (live_itself m later live (λ k d h. some_numbered m.peers (get_or m.routes k d).1 ∙ is.leads k d h))
    ∙ ap (λ o. kept_if false m (unless o (adopted (adoption_of m lines)))) (same_refusal m (live_at n now) server is.server ∙ allowed)
    ∙ ap (λ r. kept_if false m (adopted r)) run
  where
    none_before : (k : ℕ) → 0 + k ≡ k
    none_before k = omega arith

-- what holds where lines are adopted
where_adopted : (Q : Reply × NetworkValue → Type 0) (n : NetworkValue) (now : ℕ) (server : Option Key) (lines : List SeenPeer) → IsNetwork n
    → ((s : Adoption) → IsAdopted (live_at n now) now (adoption_order n.pool lines) s → server_refusal (live_at n now) server ≡ None → Q (reply.Adopted s.added s.known, s.network))
    → IfOk (adopt_at n now server lines) Q
where_adopted Q n now server lines is holds =
    kept_if_reading Q n false (adopt (live_at n now) server lines) (λ reads. cc) (λ changes.
    unless_if Q (server_refusal (live_at n now) server) _ (λ allowed. by_result (adoption_of (live_at n now) lines) (adopted_all n now lines is) allowed))
  where
    by_result : (r : Result Adoption (ℕ × Refusal)) → IfOk r (IsAdopted (live_at n now) now (adoption_order n.pool lines)) → server_refusal (live_at n now) server ≡ None → IfOk (adopted r) Q
    by_result (Err e) kept allowed = tt
    by_result (Ok s) kept allowed = holds s kept allowed

pub adoption_repeats : (n : NetworkValue) (now : ℕ) (server : Option Key) (lines : List SeenPeer) → IsNetwork n
    → IfOk (adopt_at n now server lines) (λ done. adopt_at done.1 now server lines ≡ Ok (reply.Adopted [] (length lines), done.1))
adoption_repeats n now server lines is =
    where_adopted (λ done. adopt_at done.1 now server lines ≡ Ok (reply.Adopted [] (length lines), done.1)) n now server lines is
    (λ s kept allowed. adopts_again n now now server lines s kept allowed kept.live)

pub adoption_repeats_later : (n : NetworkValue) (now later : ℕ) (server : Option Key) (lines : List SeenPeer) → IsNetwork n
    → IfOk (adopt_at n now server lines) (λ done. All (λ p. is_live later p ≡ true) done.1.peers
    → adopt_at done.1 later server lines ≡ Ok (reply.Adopted [] (length lines), done.1))
adoption_repeats_later n now later server lines is =
    where_adopted (λ done. All (λ p. is_live later p ≡ true) done.1.peers → adopt_at done.1 later server lines ≡ Ok (reply.Adopted [] (length lines), done.1)) n now server lines is
    (λ s kept allowed live. adopts_again n now later server lines s kept allowed live)
