-- From the live network to the whole one.
use Rattle.std.proofs.Common.{◌≡◌, ℕ, ◌<◌, Bool, true, false, not, ◌&&◌, ◌||◌, cond, nat_eq, nat_lt, List, [], ◌∷◌, ◌++◌, get_or, map, Option, Some, None, is_some, refl, sym, ap, ◌∙◌, subst, arith}
use Rattle.std.specs.Prelude.{Result, Ok, Err, IfOk, IfSome}
use Rattle.std.specs.List.{All, filter}
use Rattle.std.proofs.lemmas.Bool.Decides.{nat_tests}
use Rattle.std.proofs.lemmas.List.Elements.{All-weaker}
use Rattle.std.proofs.lemmas.List.Folds.{list_any-append}
use Rattle.wgr_text.specs.Prefix.{PrefixValue}
use Rattle.wgr_peers.specs.declared.peer.Peer.{Peer}
use Rattle.wgr_core.specs.declared.command.Command.{Command}
use Rattle.wgr_core.specs.declared.change.Change.{Change}
use Rattle.wgr_core.specs.declared.reply.Reply.{Reply}
use Rattle.wgr_core.specs.declared.fault.ActFault.{ActFault}
use Rattle.wgr_core.specs.declared.fault.ActFault.TheVariants.{Refused, NoMemory}
use Rattle.wgr_peers.specs.Limits.{is_expired}
use Rattle.wgr_peers.specs.Peers.{expired, is_live, peer_of, put_peer}
use Rattle.wgr_peers.specs.Routes.{routes_to}
use Rattle.wgr_core.specs.Network.{NetworkValue, IsNetwork, IsRoute, is_among, live_at, without_peers}
use Rattle.wgr_core.specs.Outcome.{Outcome, live_outcome, is_reading, kept_if, leaving, outcome_of}
use Rattle.wgr_core.specs.Change.{changed, applied_if, with_leaving, without_leaving, Fits, GivesChange, Meets, MeetsLive}
use Rattle.wgr_pool.proofs.Lists.{filter_all, filter_none, filter_twice}
use Rattle.wgr_peers.proofs.OrderedLemmas.{put_above}
use Rattle.wgr_core.proofs.LiveLemmas.{without_expired}
use Rattle.wgr_core.proofs.OutcomeLemmas.{Keeps}
use Rattle.wgr_peers.proofs.TableLemmas.{peer_absent}

-- ---- a new peer

pub put_peer_above : (peers : List Peer) (p : Peer) → All (λ q. q.number < p.number) peers → put_peer peers p ≡ peers ++ p ∷ []
put_peer_above peers p all = put_above (λ q. nat_lt q.number p.number) (λ q. nat_eq q.number p.number) peers p (All-weaker (λ q. q.number < p.number) (λ q. nat_lt q.number p.number ≡ true) (λ q below. test q.number p.number below) peers all)
  where
    test : (m n : ℕ) → m < n → nat_lt m n ≡ true
    test m n l = grind (arith, nat_tests)

-- no route leads to a number that is not given yet
pub none_to_next : (n : NetworkValue) → IsNetwork n → routes_to n.routes n.next ≡ []
none_to_next n is = ap (map (λ (r : PrefixValue × ℕ). r.0)) (filter_none (λ (r : PrefixValue × ℕ). nat_eq r.1 n.next) n.routes (λ k d h. apart (get_or n.routes k d) (is.routes k d h)))
  where
    absent : (p : Peer) → IsNetwork n → p.number < n.next → nat_eq p.number n.next ≡ false
    absent p is l = grind (arith, nat_tests)

    apart : (r : PrefixValue × ℕ) → IsRoute n r → nat_eq r.1 n.next ≡ false
    apart r route = by_test (nat_eq r.1 n.next) refl
      where
        by_test : (b : Bool) → nat_eq r.1 n.next ≡ b → b ≡ false
        by_test false h = refl
        by_test true h =
            let is_next : r.1 ≡ n.next = grind (arith, nat_tests) in
            let none = peer_absent n.peers n.next (λ k d l. absent (get_or n.peers k d) is (is.members k d l).numbered.1) in
            let bad : false ≡ true = sym (ap is_some none) ∙ subst (λ i. is_some (peer_of n.peers i) ≡ true) is_next route.leads in cc

-- ---- the change of the whole network

-- one more number among those that go
among_more : (removed : List ℕ) (number m : ℕ) → not (is_among (removed ++ number ∷ []) m) ≡ (not (is_among removed m) && not (is_among (number ∷ []) m))
among_more removed number m =
    ap not (list_any-append (nat_eq m) removed (number ∷ [])) ∙ neither (is_among removed m) (is_among (number ∷ []) m)
  where
    neither : (a b : Bool) → not (a || b) ≡ (not a && not b)
    neither true b = refl
    neither false b = refl

without_more : (n : NetworkValue) (removed : List ℕ) (number : ℕ) → without_peers n (removed ++ number ∷ []) ≡ without_peers (without_peers n removed) (number ∷ [])
without_more n removed number =
    let more = among_more removed number in
    let peers = filter_twice (λ (p : Peer). not (is_among removed p.number)) (λ p. not (is_among (number ∷ []) p.number)) (λ p. not (is_among (removed ++ number ∷ []) p.number)) (λ p. more p.number) n.peers in
    let routes = filter_twice (λ (r : PrefixValue × ℕ). not (is_among removed r.1)) (λ r. not (is_among (number ∷ []) r.1)) (λ r. not (is_among (removed ++ number ∷ []) r.1)) (λ r. more r.1) n.routes in
    ap (λ (ps : List Peer). record n { peers = ps; routes = filter (λ (r : PrefixValue × ℕ). not (is_among (removed ++ number ∷ []) r.1)) n.routes }) peers
    ∙ ap (λ (rs : List (PrefixValue × ℕ)). record n { peers = (without_peers (without_peers n removed) (number ∷ [])).peers; routes = rs }) routes

without_all : (n : NetworkValue) (removed : List ℕ) (leaves : Option ℕ) → without_peers n (with_leaving removed leaves) ≡ without_leaving (without_peers n removed) leaves
without_all n removed None = refl
without_all n removed (Some number) = without_more n removed number

changes : (n live : NetworkValue) (reading : Bool) (leaves : Option ℕ) (removed : List ℕ) (given : Option Change) (after : NetworkValue)
    → without_peers n removed ≡ live → GivesChange reading leaves live removed given after → applied_if given n ≡ cond reading n after
changes n live true leaves removed None after same gives = refl
changes n live true leaves removed (Some c) after same gives = absurd gives
changes n live false leaves removed None after same gives = absurd gives
changes n live false leaves removed (Some c) after same gives =
    ap (λ rs. changed c (without_peers n rs)) gives.0
    ∙ ap (changed c) (without_all n removed leaves)
    ∙ ap (λ l. changed c (without_leaving l leaves)) same
    ∙ gives.1

meets : (n live : NetworkValue) (reading : Bool) (leaves : Option ℕ) (removed : List ℕ) (r : Result (Reply × Option Change) ActFault) (o : Outcome)
    → without_peers n removed ≡ live → MeetsLive reading leaves live removed r o → Meets n r (kept_if reading n o)
meets n live reading leaves removed (Err NoMemory) o same is = tt
meets n live reading leaves removed (Err (Refused why)) (Err is') same is = is
meets n live reading leaves removed (Err (Refused why)) (Ok done) same is = is
meets n live reading leaves removed (Ok given) (Err is') same is = is
meets n live reading leaves removed (Ok given) (Ok done) same is = (is.0, changes n live reading leaves removed given.1 done.1 same is.1)

pub meets_from_live : (n live : NetworkValue) (now : ℕ) (asked : Command) (removed : List ℕ) (r : Result (Reply × Option Change) ActFault)
    → IsNetwork n → live ≡ live_at n now → removed ≡ expired now n.peers → MeetsLive (is_reading asked) (leaving asked) live removed r (live_outcome live now asked) → Meets n r (outcome_of n now asked)
meets_from_live n live now asked removed r is same gone given =
    let left = ap (without_peers n) gone ∙ without_expired n now is in
    meets n (live_at n now) (is_reading asked) (leaving asked) removed r (live_outcome (live_at n now) now asked) left (subst (λ l. MeetsLive (is_reading asked) (leaving asked) l removed r (live_outcome l now asked)) same given)

-- without nobody, the network is as it was
pub without_none : (n : NetworkValue) → without_peers n [] ≡ n
without_none n = ap (λ ps. record n { peers = ps; routes = filter (λ (r : PrefixValue × ℕ). true) n.routes }) (filter_all n.peers) ∙ ap (λ rs. record n { routes = rs }) (filter_all n.routes)

-- where nobody is over, the network is its own live network
pub live_itself : (n : NetworkValue) (now : ℕ) (removed : List ℕ) → IsNetwork n → removed ≡ expired now n.peers → removed ≡ [] → n ≡ live_at n now
live_itself n now removed is gone none =
    sym (without_none n) ∙ ap (without_peers n) (sym none ∙ gone) ∙ without_expired n now is

-- at the moment 0 no lease is over
pub none_over : (peers : List Peer) → expired 0 peers ≡ []
none_over [] = refl
none_over (p ∷ peers) =
    ap (λ b. map (λ (q : Peer). q.number) (cond (not b) (p ∷ filter (λ q. not (is_live 0 q)) peers) (filter (λ q. not (is_live 0 q)) peers))) (runs p.until) ∙ none_over peers
  where
    runs : (until : ℕ) → not (is_expired 0 until) ≡ true
    runs until = grind (arith, nat_tests)

pub whole_at_first : (n : NetworkValue) → IsNetwork n → live_at n 0 ≡ n
whole_at_first n is = sym (live_itself n 0 [] is (sym (none_over n.peers)) refl)

pub meets_fits : (n : NetworkValue) (r : Result (Reply × Option Change) ActFault) (o : Outcome) → Meets n r o → Keeps o → IfOk r (λ given. IfSome given.1 (λ c. Fits c n))
meets_fits n (Err why) o is keeps = tt
meets_fits n (Ok given) (Err why) is keeps = absurd is
meets_fits n (Ok given) (Ok done) is keeps = fits given.1 is.1
  where
    fits : (c : Option Change) → applied_if c n ≡ done.1 → IfSome c (λ c. Fits c n)
    fits None same = tt
    fits (Some c) same = subst IsNetwork (sym same) keeps

-- a reading gives no change, and any other accepted command gives one
pub change_given : (reading : Bool) (leaves : Option ℕ) (n : NetworkValue) (removed : List ℕ) (r : Result (Reply × Option Change) ActFault) (o : Outcome)
    → MeetsLive reading leaves n removed r o → IfOk r (λ given. is_some given.1 ≡ not reading)
change_given reading leaves n removed (Err why) o met = tt
change_given reading leaves n removed (Ok given) (Err is) met = absurd met
change_given reading leaves n removed (Ok given) (Ok done) met = is_given reading given.1 met.1
  where
    is_given : (reading : Bool) (given : Option Change) → GivesChange reading leaves n removed given done.1 → is_some given ≡ not reading
    is_given true None gives = refl
    is_given true (Some c) gives = absurd gives
    is_given false None gives = absurd gives
    is_given false (Some c) gives = refl
