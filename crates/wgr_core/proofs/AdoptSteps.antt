-- Adoption by its steps: what each step keeps, an accepted adoption keeps.
use Rattle.std.proofs.Common.{◌≡◌, ℕ, ◌+◌, true, not, List, [], ◌∷◌, ◌++◌, Option, Some, None, is_some, refl, arith}
use Rattle.std.specs.Prelude.{Result, Ok, Err, IfOk}
use Rattle.std.specs.List.{All, filter}
use Rattle.std.proofs.lemmas.List.Elements.{All-append, All-cons, All-contains, All-filter, All-head, All-tail, Contains-push}
use Rattle.wgr_text.specs.declared.key.Key.{Key}
use Rattle.wgr_text.specs.Prefix.{AddrValue, PrefixValue}
use Rattle.wgr_peers.specs.declared.peer.Peer.{Peer}
use Rattle.wgr_pool.specs.PrefixTests.{full, same_prefix}
use Rattle.wgr_peers.specs.Peers.{peer_of}
use Rattle.wgr_peers.specs.Routes.{assign_route}
use Rattle.wgr_core.specs.declared.refusal.Refusal.{Refusal}
use Rattle.wgr_core.specs.declared.reply.Reply.{Reply}
use Rattle.wgr_core.specs.declared.reply.Reply.TheVariants as reply
use Rattle.wgr_core.specs.declared.seen_peer.SeenPeer.{SeenPeer}
use Rattle.wgr_core.specs.Network.{NetworkValue, IsNetwork}
use Rattle.wgr_core.specs.Adoption.{Adoption, and_then, names_address, named_address, peer_of_line, with_line, give_all, other_prefixes, keyed_peer, add_line, note_status, adopt_line_of, adopt_line, in_line, adopt_lines, numbered_from, adoption_order, adoption_of}
use Rattle.wgr_core.specs.Refusals.{join_refusal, place, route_refusal, unless_refused}
use Rattle.wgr_core.specs.Outcome.{server_refusal, adopted, adopt}
use Rattle.wgr_core.proofs.JoinLemmas.{MayJoin, joined_is_network}
use Rattle.wgr_core.proofs.LineLemmas.{IsKeyed, MayLead, keyed_is, line_may_join, may_lead}
use Rattle.wgr_core.proofs.LiveLemmas.{peer_stands}
use Rattle.wgr_core.proofs.OutcomeCases.{unless_if}
use Rattle.wgr_core.proofs.ReplaceLemmas.{amended_is_network}

-- ---- results by their cases

-- what holds of a value holds of what follows of it
pub then_if : {T U E : Type 0} (Q : T → Type 0) (P : U → Type 0) (r : Result T E) (next : T → Result U E) → IfOk r Q → ((x : T) → r ≡ Ok x → Q x → IfOk (next x) P) → IfOk (and_then r next) P
then_if Q P (Err e) next first holds = tt
then_if Q P (Ok x) next first holds = holds x refl first

pub any_ok : {T E : Type 0} (r : Result T E) → IfOk r (λ x. Unit {0})
any_ok (Err e) = tt
any_ok (Ok x) = tt

pub allowed_if : {T U E : Type 0} (P : U → Type 0) (refusal : Option E) (x : T) (next : T → Result U E) → (refusal ≡ None → IfOk (next x) P) → IfOk (and_then (unless_refused refusal x) next) P
allowed_if P (Some e) x next holds = tt
allowed_if P None x next holds = holds refl

-- ---- the lines in their order

pub numbered_all : (P : SeenPeer → Type 0) (number : ℕ) (lines : List SeenPeer) → All P lines → All (λ l. P l.1) (numbered_from number lines)
numbered_all P number [] all = λ k d h. absurd (omega (arith, h))
numbered_all P number (line ∷ more) all =
    All-cons (λ (l : ℕ × SeenPeer). P l.1) (number, line) (numbered_from (number + 1) more) (All-head P line more all) (numbered_all P (number + 1) more (All-tail P line more all))

pub ordered_all : (P : ℕ × SeenPeer → Type 0) (pool : PrefixValue) (lines : List SeenPeer) → All P (numbered_from 2 lines) → All P (adoption_order pool lines)
ordered_all P pool lines all =
    All-append P (filter (λ l. names_address pool l.1) (numbered_from 2 lines)) (filter (λ l. not (names_address pool l.1)) (numbered_from 2 lines))
    (All-filter (λ (l : ℕ × SeenPeer). names_address pool l.1) P (numbered_from 2 lines) all) (All-filter (λ (l : ℕ × SeenPeer). not (names_address pool l.1)) P (numbered_from 2 lines) all)

-- ---- steps

-- the peers of the network keep the rules, whatever the routes are
abbrev pub IsPeopled : NetworkValue → Type 0
IsPeopled n = IsNetwork (record n { routes = [] })

pub peopled : (n : NetworkValue) → IsNetwork n → IsPeopled n
peopled n is = record {
  pool = is.pool;
  port = is.port;
  capacity = is.capacity;
  next = is.next;
  room = is.room;
  members = λ k d h. let m = is.members k d h in record { numbered = m.numbered; not_server = m.not_server; assignable = m.assignable; alone = m.alone };
  numbered = is.numbered;
  apart = is.apart;
  few_routes = omega arith;
  routes = λ k d h. absurd (omega (arith, h));
  ordered = λ i j d l h. absurd (omega (arith, h));
}

abbrev pub joined_by : Adoption → SeenPeer → AddrValue → Adoption
joined_by s line a = record { network = with_line s.network line a; added = s.added ++ s.network.next ∷ []; known = s.known }

abbrev pub led : Adoption → PrefixValue → ℕ → Adoption
led s p number = record s { network = record s.network { routes = assign_route s.network.routes p number } }

-- what a route keeps
abbrev pub KeptByRoutes : (PrefixValue → Type 0) → (Adoption → Type 0) → Type 0
KeptByRoutes Given P = (s : Adoption) (p : PrefixValue) (number : ℕ) → P s → Given p → MayLead s.network p number → P (led s p number)

-- the new peer stands at its number
pub joined_stands : (peers : List Peer) (p : Peer) → is_some (peer_of (peers ++ p ∷ []) p.number) ≡ true
joined_stands peers p = All-contains (λ (e : Peer). is_some (peer_of (peers ++ p ∷ []) e.number) ≡ true) (peers ++ p ∷ []) p (peer_stands (peers ++ p ∷ [])) (Contains-push peers p)

-- one line: what holds once the peer has joined or has its status, and is kept by each route
module _ (Given : PrefixValue → Type 0) (P : Adoption → Type 0) (leads : KeptByRoutes Given P) where
  abbrev pub Kept : Adoption → Type 0
  Kept s = IsPeopled s.network × P s

  pub give_keeps : (s : Adoption) (number : ℕ) (prefixes : List PrefixValue) → Kept s → All Given prefixes → is_some (peer_of s.network.peers number) ≡ true → IfOk (give_all s.network number prefixes) (λ after. Kept (record s { network = after }))
  give_keeps s number [] kept given stands = kept
  give_keeps s number (p ∷ more) kept given stands =
      allowed_if (λ after. Kept (record s { network = after })) (route_refusal s.network p) (record s.network { routes = assign_route s.network.routes p number }) (λ next. give_all next number more) (λ allowed.
      give_keeps (led s p number) number more (kept.0, leads s p number kept.1 (All-head Given p more given) (may_lead s.network p number stands allowed)) (All-tail Given p more given) stands)

  pub add_line_gives : (s : Adoption) (line : SeenPeer) → IsPeopled s.network → All Given line.allowed → keyed_peer s.network.peers line.key ≡ None
      → ((a : AddrValue) → MayJoin s.network (peer_of_line s.network line a) → P (joined_by s line a)) → IfOk (add_line s line) Kept
  add_line_gives s line people given none joins =
      allowed_if Kept (join_refusal s.network 0 line.key 0) s.network _ (λ allowed.
      then_if (λ a. Unit {0}) Kept (place s.network s.network.pool (named_address s.network.pool line.allowed)) _ (any_ok _) (λ a placed first.
      let may = line_may_join s.network line a people.pool allowed placed in
      let people' = joined_is_network (record s.network { routes = [] }) (peer_of_line s.network line a) people (record {
        next = may.next;
        number_left = may.number_left;
        key_unheld = may.key_unheld;
        not_server = may.not_server;
        room = may.room;
        address = record { assignable = may.address.assignable; unowned = may.address.unowned; no_route = λ k d h. absurd (omega (arith, h)) };
        alone = may.alone;
      }) in
      then_if (λ after. Kept (record (joined_by s line a) { network = after })) Kept (give_all (with_line s.network line a) s.network.next (other_prefixes a line.allowed)) _
      (give_keeps (joined_by s line a) s.network.next (other_prefixes a line.allowed) (people', joins a may) (All-filter (λ p. not (same_prefix p (full a))) Given line.allowed given) (joined_stands s.network.peers (peer_of_line s.network line a)))
      (λ after given holds. holds)))

  pub adopt_line_gives : (s : Adoption) (line : SeenPeer) → IsPeopled s.network → All Given line.allowed
      → ((a : AddrValue) → MayJoin s.network (peer_of_line s.network line a) → P (joined_by s line a)) → ((p : Peer) → IsKeyed s.network.peers line.key p → P (note_status s line p)) → IfOk (adopt_line s line) Kept
  adopt_line_gives s line people given joins notes = by_peer (keyed_peer s.network.peers line.key) refl
    where
      by_peer : (o : Option Peer) → keyed_peer s.network.peers line.key ≡ o → IfOk (adopt_line_of s line o) Kept
      by_peer None none = add_line_gives s line people given none joins
      by_peer (Some p) found =
          let keyed = keyed_is s.network.peers line.key p people.numbered found in
          (amended_is_network (record s.network { routes = [] }) p p.until (Some line.status) people keyed.stands, notes p keyed)

-- each step keeps what holds of an adoption so far: `Line` tells of the lines, and `Given` of their prefixes
pub record AreSteps (Line : SeenPeer → Type 0) (Given : PrefixValue → Type 0) (P : Adoption → Type 0) : Type 0 where
  pub prefixes : (line : SeenPeer) → Line line → All Given line.allowed
  pub joins : (s : Adoption) (line : SeenPeer) (a : AddrValue) → IsPeopled s.network → P s → Line line → MayJoin s.network (peer_of_line s.network line a) → P (joined_by s line a)
  pub notes : (s : Adoption) (line : SeenPeer) (p : Peer) → IsPeopled s.network → P s → Line line → IsKeyed s.network.peers line.key p → P (note_status s line p)
  pub leads : KeptByRoutes Given P

pub numbered_if : (P : Adoption → Type 0) (number : ℕ) (r : Result Adoption Refusal) → IfOk r P → IfOk (in_line number r) P
numbered_if P number (Err e) holds = tt
numbered_if P number (Ok s) holds = holds

module _ (Line : SeenPeer → Type 0) (Given : PrefixValue → Type 0) (P : Adoption → Type 0) (steps : AreSteps Line Given P) where
  pub adopt_lines_keep : (s : Adoption) (lines : List (ℕ × SeenPeer)) → IsPeopled s.network → P s → All (λ l. Line l.1) lines → IfOk (adopt_lines s lines) P
  adopt_lines_keep s [] people holds are = holds
  adopt_lines_keep s (l ∷ more) people holds are =
      let is = All-head (λ (l : ℕ × SeenPeer). Line l.1) l more are in
      let Then : Adoption → Type 0 = λ t. IsPeopled t.network × P t in
      then_if Then P (in_line l.0 (adopt_line s l.1)) (λ next. adopt_lines next more)
      (numbered_if Then l.0 (adopt_line s l.1) (adopt_line_gives Given P steps.leads s l.1 people (steps.prefixes l.1 is) (λ a may. steps.joins s l.1 a people holds is may) (λ p keyed. steps.notes s l.1 p people holds is keyed)))
      (λ next so kept. adopt_lines_keep next more kept.0 kept.1 (All-tail (λ (l : ℕ × SeenPeer). Line l.1) l more are))

  pub adoption_keeps : (n : NetworkValue) (lines : List SeenPeer) → IsPeopled n → P (record { network = n; added = []; known = 0 }) → All Line lines → IfOk (adoption_of n lines) P
  adoption_keeps n lines people start are =
      adopt_lines_keep (record { network = n; added = []; known = 0 }) (adoption_order n.pool lines) people start (ordered_all (λ l. Line l.1) n.pool lines (numbered_all Line 2 lines are))

-- ---- the command

pub adopt_if : (Q : Reply × NetworkValue → Type 0) (n : NetworkValue) (server : Option Key) (lines : List SeenPeer) → IfOk (adoption_of n lines) (λ s. Q (reply.Adopted s.added s.known, s.network)) → IfOk (adopt n server lines) Q
adopt_if Q n server lines holds = unless_if Q (server_refusal n server) _ (λ allowed. by_result (adoption_of n lines) holds)
  where
    by_result : (r : Result Adoption (ℕ × Refusal)) → IfOk r (λ s. Q (reply.Adopted s.added s.known, s.network)) → IfOk (adopted r) Q
    by_result (Err e) holds = tt
    by_result (Ok s) holds = holds
