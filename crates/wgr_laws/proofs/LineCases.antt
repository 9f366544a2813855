-- An accepted adoption by its lines: what each line does where it is accepted.
use Rattle.std.proofs.Common.{◌≡◌, ℕ, List, [], ◌∷◌, ◌++◌, map, Option, Some, None, refl, sym, subst}
use Rattle.std.specs.Prelude.{Result, Ok, Err, IfOk}
use Rattle.std.specs.List.{All, AllPairs}
use Rattle.std.proofs.lemmas.List.{append-nil, append_assoc}
use Rattle.wgr_text.specs.Prefix.{AddrValue, PrefixValue}
use Rattle.wgr_peers.specs.declared.peer.Peer.{Peer}
use Rattle.wgr_peers.specs.Routes.{assign_route}
use Rattle.wgr_core.specs.declared.refusal.Refusal.{Refusal}
use Rattle.wgr_core.specs.declared.seen_peer.SeenPeer.{SeenPeer}
use Rattle.wgr_core.specs.Network.{NetworkValue}
use Rattle.wgr_core.specs.Adoption.{Adoption, and_then, named_address, with_line, give_all, other_prefixes, keyed_peer, note_status, adopt_line_of, adopt_line, in_line, adopt_lines}
use Rattle.wgr_core.specs.Refusals.{join_refusal, place, route_refusal, unless_refused}
use Rattle.wgr_core.specs.Change.{assign_routes}
use Rattle.wgr_pool.proofs.Lists.{AllPairs-before}

-- the network whose prefixes lead to the number
abbrev pub given_all : NetworkValue → ℕ → List PrefixValue → NetworkValue
given_all n number prefixes = record n { routes = assign_routes n.routes (map (λ p. (p, number)) prefixes) }

-- the adoption with one more peer
abbrev pub joined_line : Adoption → SeenPeer → AddrValue → Adoption
joined_line s line a = record {
  network = given_all (with_line s.network line a) s.network.next (other_prefixes a line.allowed);
  added = s.added ++ s.network.next ∷ [];
  known = s.known;
}

given_if : (P : NetworkValue → Type 0) (n : NetworkValue) (number : ℕ) (prefixes : List PrefixValue) → P (given_all n number prefixes) → IfOk (give_all n number prefixes) P
given_if P n number [] holds = holds
given_if P n number (p ∷ more) holds = by_refusal (route_refusal n p) (given_if P (record n { routes = assign_route n.routes p number }) number more holds)
  where
    by_refusal : (r : Option Refusal) → IfOk (give_all (record n { routes = assign_route n.routes p number }) number more) P
        → IfOk (and_then (unless_refused r (record n { routes = assign_route n.routes p number })) (λ next. give_all next number more)) P
    by_refusal (Some e) rest = tt
    by_refusal None rest = rest

module _ (P : Adoption → Type 0) (s : Adoption) (line : SeenPeer) where
  -- a line is noted where a peer has its key, and joins where none has
  pub line_if : ((p : Peer) → keyed_peer s.network.peers line.key ≡ Some p → P (note_status s line p))
      → ((a : AddrValue) → keyed_peer s.network.peers line.key ≡ None → join_refusal s.network 0 line.key 0 ≡ None → place s.network s.network.pool (named_address s.network.pool line.allowed) ≡ Ok a → P (joined_line s line a))
      → IfOk (adopt_line s line) P
  line_if notes joins = by_peer (keyed_peer s.network.peers line.key) refl
    where
      given : (r : Result NetworkValue Refusal) → IfOk r (λ after. P (record { network = after; added = s.added ++ s.network.next ∷ []; known = s.known }))
          → IfOk (and_then r (λ after. Ok (record { network = after; added = s.added ++ s.network.next ∷ []; known = s.known }))) P
      given (Err e) holds = tt
      given (Ok after) holds = holds

      by_place : (r : Result AddrValue Refusal) → place s.network s.network.pool (named_address s.network.pool line.allowed) ≡ r → keyed_peer s.network.peers line.key ≡ None → join_refusal s.network 0 line.key 0 ≡ None
          → IfOk (and_then r (λ a. and_then (give_all (with_line s.network line a) s.network.next (other_prefixes a line.allowed)) (λ after. Ok (record { network = after; added = s.added ++ s.network.next ∷ []; known = s.known })))) P
      by_place (Err e) placed none allowed = tt
      by_place (Ok a) placed none allowed =
          given (give_all (with_line s.network line a) s.network.next (other_prefixes a line.allowed))
          (given_if (λ after. P (record { network = after; added = s.added ++ s.network.next ∷ []; known = s.known })) (with_line s.network line a) s.network.next (other_prefixes a line.allowed) (joins a none allowed placed))

      by_refusal : (r : Option Refusal) → join_refusal s.network 0 line.key 0 ≡ r → keyed_peer s.network.peers line.key ≡ None
          → IfOk (and_then (unless_refused r s.network) (λ n. and_then (place n n.pool (named_address n.pool line.allowed)) (λ a. and_then (give_all (with_line n line a) n.next (other_prefixes a line.allowed)) (λ after. Ok (record { network = after; added = s.added ++ n.next ∷ []; known = s.known }))))) P
      by_refusal (Some e) allowed none = tt
      by_refusal None allowed none = by_place (place s.network s.network.pool (named_address s.network.pool line.allowed)) refl none allowed

      by_peer : (o : Option Peer) → keyed_peer s.network.peers line.key ≡ o → IfOk (adopt_line_of s line o) P
      by_peer (Some p) found = notes p found
      by_peer None none = by_refusal (join_refusal s.network 0 line.key 0) refl none

-- what each line keeps, as one more of those that are done, all lines keep
pub lines_keep : (R : ℕ × SeenPeer → ℕ × SeenPeer → Type 0) (P : List (ℕ × SeenPeer) → Adoption → Type 0)
    → ((done : List (ℕ × SeenPeer)) (s : Adoption) (l : ℕ × SeenPeer) → All (λ d. R d l) done → P done s → IfOk (adopt_line s l.1) (P (done ++ l ∷ [])))
    → (done : List (ℕ × SeenPeer)) (s : Adoption) (lines : List (ℕ × SeenPeer)) → AllPairs R (done ++ lines) → P done s → IfOk (adopt_lines s lines) (P (done ++ lines))
lines_keep R P step done s [] pairs holds = subst (λ ls. P ls s) (sym (append-nil done)) holds
lines_keep R P step done s (l ∷ more) pairs holds =
    by_line (adopt_line s l.1) (step done s l (AllPairs-before R done l more pairs) holds)
    (λ next kept. subst (λ ls. IfOk (adopt_lines next more) (P ls)) (append_assoc done (l ∷ []) more) (lines_keep R P step (done ++ l ∷ []) next more (subst (AllPairs R) (sym (append_assoc done (l ∷ []) more)) pairs) kept))
  where
    by_line : (r : Result Adoption Refusal) → IfOk r (P (done ++ l ∷ [])) → ((next : Adoption) → P (done ++ l ∷ []) next → IfOk (adopt_lines next more) (P (done ++ l ∷ more)))
        → IfOk (and_then (in_line l.0 r) (λ next. adopt_lines next more)) (P (done ++ l ∷ more))
    by_line (Err e) kept rest = tt
    by_line (Ok next) kept rest = rest next kept
