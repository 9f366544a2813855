-- The peers and the routes that an adoption leaves.
use Rattle.std.proofs.Common.{◌≡◌, ◌⊎◌, ℕ, ◌≤◌, inl, inr, true, false, cond, nat_eq, nat_lt, List, [], ◌∷◌, ◌++◌, Option, Some, None, is_some, refl, sym, ap, ◌∙◌, arith}
use Rattle.std.specs.Prelude.{Result, Ok, Err, IfOk}
use Rattle.std.specs.List.{All, Contains, list_any}
use Rattle.std.proofs.lemmas.List.Elements.{All-cons, All-contains_itself, All-nil, All-push, All-weaker}
use Rattle.std.proofs.lemmas.Cmp.{nat_list_eq_equiv}
use Rattle.std.proofs.lemmas.Result.{IfOk-weaker}
use Rattle.wgr_text.specs.declared.key.Key.{Key}
use Rattle.wgr_text.specs.Prefix.{AddrValue, PrefixValue}
use Rattle.wgr_peers.specs.declared.peer.Peer.{Peer}
use Rattle.wgr_peers.specs.declared.peer.Status.{Status}
use Rattle.wgr_pool.specs.PrefixTests.{same_prefix}
use Rattle.wgr_peers.specs.Peers.{key_holder, peer_of, put_peer, same_key}
use Rattle.wgr_peers.specs.Routes.{route_of}
use Rattle.wgr_core.specs.declared.command.Command.TheVariants as command
use Rattle.wgr_core.specs.declared.reply.Reply.{Reply}
use Rattle.wgr_core.specs.declared.reply.Reply.TheVariants as reply
use Rattle.wgr_core.specs.declared.seen_peer.SeenPeer.{SeenPeer}
use Rattle.wgr_core.specs.Network.{NetworkValue, IsNetwork, IsMember, live_at}
use Rattle.wgr_core.specs.Adoption.{Adoption, note_status, peer_of_line, adopt_line, in_line, adopt_lines, adoption_order, adoption_of}
use Rattle.wgr_core.specs.Outcome.{adopt}
use Rattle.wgr_laws.specs.Laws.{is_on_route}
use Rattle.wgr_laws.specs.AdoptionLaws.{adopt_at}
use Rattle.wgr_pool.proofs.Bools.{decide}
use Rattle.wgr_pool.proofs.Lists.{list_any-none}
use Rattle.wgr_pool.proofs.PrefixLemmas.{nat_eq_is, nat_eq_self}
use Rattle.wgr_peers.proofs.OrderedLemmas.{put_all}
use Rattle.wgr_peers.proofs.PeerLemmas.{peer_is}
use Rattle.wgr_laws.proofs.AdoptionOrder.{all_lines}
use Rattle.wgr_core.proofs.JoinLemmas.{none_from}
use Rattle.wgr_core.proofs.LineLemmas.{IsKeyed}
use Rattle.wgr_core.proofs.LiveLemmas.{live_is_network}
use Rattle.wgr_laws.proofs.ChangeLemmas.{assigned_others, put_others, put_stands_there}
use Rattle.wgr_laws.proofs.NextSteps.{appended_found, one_peer}
use Rattle.wgr_core.proofs.OutcomeCases.{kept_if_reading}
use Rattle.wgr_core.proofs.AdoptSteps.{AreSteps, IsPeopled, adopt_if, adopt_line_gives, adopt_lines_keep, adoption_keeps, joined_by, numbered_if, peopled, then_if}
use Rattle.wgr_laws.proofs.AdoptNext.{AnyLine, AnyPrefix, next_is_new}

abbrev pub start_at : NetworkValue → Adoption
start_at n = record { network = n; added = []; known = 0 }

-- what holds of the adoption of the live network's lines
pub adopted_if : (Q : Reply × NetworkValue → Type 0) (n : NetworkValue) (now : ℕ) (server : Option Key) (lines : List SeenPeer)
    → IfOk (adoption_of (live_at n now) lines) (λ s. Q (reply.Adopted s.added s.known, s.network)) → IfOk (adopt_at n now server lines) Q
adopted_if Q n now server lines holds = kept_if_reading Q n false (adopt (live_at n now) server lines) (λ reads. cc) (λ changes. adopt_if Q (live_at n now) server lines holds)

-- what the steps keep
pub steps_keep : (Line : SeenPeer → Type 0) (Given : PrefixValue → Type 0) (Q : NetworkValue → Type 0) → AreSteps Line Given (λ s. Q s.network)
    → (n : NetworkValue) (now : ℕ) (server : Option Key) (lines : List SeenPeer) → IsNetwork n → Q (live_at n now) → All Line lines → IfOk (adopt_at n now server lines) (λ done. Q done.1)
steps_keep Line Given Q steps n now server lines is start are =
    adopted_if (λ done. Q done.1) n now server lines (adoption_keeps Line Given (λ s. Q s.network) steps (live_at n now) lines (peopled (live_at n now) (live_is_network n now is)) start are)

-- ---- peers that stood

-- who stands after the peer `e` has another status: it is `e`, or stays as it was
noted_cases : (peers : List Peer) (e p : Peer) (i : ℕ) (status : Option Status) → peer_of peers e.number ≡ Some e → peer_of peers i ≡ Some p
    → ((e ≡ p) × (peer_of (put_peer peers (record e { status = status })) i ≡ Some (record p { status = status }))) ⊎ (peer_of (put_peer peers (record e { status = status })) i ≡ Some p)
noted_cases peers e p i status stands found = elim (decide (nat_eq e.number i)) [
  | inl here ↦
      let at : e.number ≡ i = nat_eq_is e.number i here in
      let same : e ≡ p = one_peer e p (sym stands ∙ ap (peer_of peers) at ∙ found) in
      let q : Peer = record e { status = status } in
      inl (same, sym (ap (peer_of (put_peer peers q)) at) ∙ put_stands_there peers q ∙ ap (λ (p : Peer). Some (record p { status = status })) same)
  | inr apart ↦ inr (put_others peers (record e { status = status }) i apart ∙ found)
]

abbrev HasStatus : ℕ → Peer → NetworkValue → Type 0
HasStatus i p n = (status : Option Status) × (peer_of n.peers i ≡ Some (record p { status = status }))

status_steps : (i : ℕ) (p : Peer) → AreSteps AnyLine AnyPrefix (λ s. HasStatus i p s.network)
status_steps i p = record {
  prefixes = λ line any k d h. tt;
  joins = λ s line a people has any may. (has.0, appended_found s.network.peers (peer_of_line s.network line a) (record p { status = has.0 }) i has.1);
  notes = λ s line e people has any keyed. elim (noted_cases s.network.peers e (record p { status = has.0 }) i (Some line.status) keyed.stands has.1) [
    | inl here ↦ (Some line.status, here.1)
    | inr still ↦ (has.0, still)
  ];
  leads = λ s q number has any may. has;
}

pub standing_peers_stay : (n : NetworkValue) (now number : ℕ) (server : Option Key) (lines : List SeenPeer) (p : Peer) → IsNetwork n → peer_of (live_at n now).peers number ≡ Some p
    → IfOk (adopt_at n now server lines) (λ done. (status : Option Status) × (peer_of done.1.peers number ≡ Some (record p { status = status })))
standing_peers_stay n now number server lines p is found = steps_keep AnyLine AnyPrefix (HasStatus number p) (status_steps number p) n now server lines is (p.status, found) (λ k d h. tt)

unseen_steps : (i : ℕ) (p : Peer) → AreSteps (λ line. same_key p.key line.key ≡ false) AnyPrefix (λ s. peer_of s.network.peers i ≡ Some p)
unseen_steps i p = record {
  prefixes = λ line unseen k d h. tt;
  joins = λ s line a people found unseen may. appended_found s.network.peers (peer_of_line s.network line a) p i found;
  notes = λ s line e people found unseen keyed. elim (noted_cases s.network.peers e p i (Some line.status) keyed.stands found) [
    | inl here ↦ let bad : true ≡ false = sym keyed.has_key ∙ ap (λ (e : Peer). same_key e.key line.key) here.0 ∙ unseen in cc
    | inr still ↦ still
  ];
  leads = λ s q number found any may. found;
}

pub unseen_peers_stay : (n : NetworkValue) (now number : ℕ) (server : Option Key) (lines : List SeenPeer) (p : Peer) → IsNetwork n → peer_of (live_at n now).peers number ≡ Some p
    → All (λ line. same_key p.key line.key ≡ false) lines → IfOk (adopt_at n now server lines) (λ done. peer_of done.1.peers number ≡ Some p)
unseen_peers_stay n now number server lines p is found unseen =
    steps_keep (λ line. same_key p.key line.key ≡ false) AnyPrefix (λ m. peer_of m.peers number ≡ Some p) (unseen_steps number p) n now server lines is found unseen

-- ---- new peers

-- the peer's key is that of one of the lines
abbrev HasLine : List SeenPeer → Peer → Type 0
HasLine lines p = (line : SeenPeer) × Contains lines line × (p.key ≡ line.key)

abbrev NewHaveLines : ℕ → List SeenPeer → NetworkValue → Type 0
NewHaveLines from lines n = All (λ p. from ≤ p.number → HasLine lines p) n.peers

line_steps : (from : ℕ) (lines : List SeenPeer) → AreSteps (Contains lines) AnyPrefix (λ s. NewHaveLines from lines s.network)
line_steps from lines = record {
  prefixes = λ line one k d h. tt;
  joins = λ s line a people all one may. All-push (λ p. from ≤ p.number → HasLine lines p) s.network.peers (peer_of_line s.network line a) all (λ new. (line, one, refl));
  notes = λ s line e people all one keyed.
      put_all (λ p. from ≤ p.number → HasLine lines p) (λ q. nat_lt q.number e.number) (λ q. nat_eq q.number e.number) s.network.peers (record e { status = Some line.status }) all
      (λ new. (peer_is (λ p. from ≤ p.number → HasLine lines p) s.network.peers e.number e all keyed.stands).0 new);
  leads = λ s q number all any may. all;
}

pub new_peers_are_lines : (n : NetworkValue) (now : ℕ) (server : Option Key) (lines : List SeenPeer) → IsNetwork n
    → IfOk (adopt_at n now server lines) (λ done. All (λ p. n.next ≤ p.number → (line : SeenPeer) × Contains lines line × (p.key ≡ line.key)) done.1.peers)
new_peers_are_lines n now server lines is =
    let live = live_is_network n now is in
    steps_keep (Contains lines) AnyPrefix (NewHaveLines n.next lines) (line_steps n.next lines) n now server lines is
    (All-weaker (IsMember (live_at n now)) (λ p. n.next ≤ p.number → HasLine lines p) (λ p member new. absurd (omega (arith, member.numbered.1, new))) (live_at n now).peers live.members)
    (All-contains_itself lines)

-- ---- routes

route_steps : (n : NetworkValue) (q : PrefixValue) → AreSteps (λ line. list_any (λ p. same_prefix p q) line.allowed ≡ false) (λ p. same_prefix p q ≡ false) (λ s. route_of s.network.routes q ≡ route_of n.routes q)
route_steps n q = record {
  prefixes = λ line none. list_any-none (λ p. same_prefix p q) line.allowed none;
  joins = λ s line a people same none may. same;
  notes = λ s line e people same none keyed. same;
  leads = λ s p number same apart may. assigned_others s.network.routes p q number apart ∙ same;
}

pub unnamed_routes_stay : (n : NetworkValue) (now : ℕ) (server : Option Key) (lines : List SeenPeer) (q : PrefixValue) → IsNetwork n → is_on_route (command.Adopt server lines) q ≡ false
    → IfOk (adopt_at n now server lines) (λ done. route_of done.1.routes q ≡ route_of (live_at n now).routes q)
unnamed_routes_stay n now server lines q is off =
    steps_keep (λ line. list_any (λ p. same_prefix p q) line.allowed ≡ false) (λ p. same_prefix p q ≡ false) (λ m. route_of m.routes q ≡ route_of (live_at n now).routes q)
    (route_steps (live_at n now) q) n now server lines is refl (list_any-none (λ (line : SeenPeer). list_any (λ p. same_prefix p q) line.allowed) lines off)

-- ---- each line

pub both_if : {T E : Type 0} (P Q R : T → Type 0) (r : Result T E) → ((x : T) → P x → Q x → R x) → IfOk r P → IfOk r Q → IfOk r R
both_if P Q R (Err e) joins first second = tt
both_if P Q R (Ok x) joins first second = joins x first second

-- what a line's own step gives and every step keeps holds of each line
module _ (R : SeenPeer → Adoption → Type 0) (steps : (line : SeenPeer) → AreSteps AnyLine AnyPrefix (R line))
    (joined : (s : Adoption) (line : SeenPeer) (a : AddrValue) → IsPeopled s.network → R line (joined_by s line a))
    (noted : (s : Adoption) (line : SeenPeer) (p : Peer) → IsKeyed s.network.peers line.key p → R line (note_status s line p)) where
  each_line : (s : Adoption) (lines : List (ℕ × SeenPeer)) → IsPeopled s.network → IfOk (adopt_lines s lines) (λ t. All (λ l. R l.1 t) lines)
  each_line s [] people = All-nil (λ (l : ℕ × SeenPeer). R l.1 s)
  each_line s (l ∷ more) people =
      let Then : Adoption → Type 0 = λ t. IsPeopled t.network × R l.1 t in
      then_if Then (λ t. All (λ (l : ℕ × SeenPeer). R l.1 t) (l ∷ more)) (in_line l.0 (adopt_line s l.1)) (λ next. adopt_lines next more)
      (numbered_if Then l.0 (adopt_line s l.1) (adopt_line_gives AnyPrefix (R l.1) (steps l.1).leads s l.1 people (λ k d h. tt) (λ a may. joined s l.1 a people) (noted s l.1)))
      (λ next so kept.
      both_if (R l.1) (λ t. All (λ (l : ℕ × SeenPeer). R l.1 t) more) (λ t. All (λ (l : ℕ × SeenPeer). R l.1 t) (l ∷ more)) (adopt_lines next more) (λ t here rest. All-cons (λ (l : ℕ × SeenPeer). R l.1 t) l more here rest)
      (adopt_lines_keep AnyLine AnyPrefix (R l.1) (steps l.1) next more kept.0 kept.1 (λ k d h. tt))
      (each_line next more kept.0))

-- ---- the keys of the lines

-- a peer has the key
abbrev HasKey : Key → NetworkValue → Type 0
HasKey key n = (i : ℕ) × (p : Peer) × (peer_of n.peers i ≡ Some p) × (same_key p.key key ≡ true)

key_steps : (key : Key) → AreSteps AnyLine AnyPrefix (λ s. HasKey key s.network)
key_steps key = record {
  prefixes = λ line any k d h. tt;
  joins = λ s line a people has any may. (has.0, has.1, appended_found s.network.peers (peer_of_line s.network line a) has.1 has.0 has.2, has.3);
  notes = λ s line e people has any keyed. elim (noted_cases s.network.peers e has.1 has.0 (Some line.status) keyed.stands has.2) [
    | inl here ↦ (has.0, record has.1 { status = Some line.status }, here.1, has.3)
    | inr still ↦ (has.0, has.1, still, has.3)
  ];
  leads = λ s q number has any may. has;
}

joined_found : (peers : List Peer) (p : Peer) → peer_of peers p.number ≡ None → peer_of (peers ++ p ∷ []) p.number ≡ Some p
joined_found [] p none = ap (λ b. cond b (Some p) None) (nat_eq_self p.number)
joined_found (q ∷ peers) p none = elim (decide (nat_eq q.number p.number)) [
  | inl here ↦ let bad : Some q ≡ None = sym (ap (λ b. cond b (Some q) (peer_of peers p.number)) here) ∙ none in cc
  | inr apart ↦
      ap (λ b. cond b (Some q) (peer_of (peers ++ p ∷ []) p.number)) apart
      ∙ joined_found peers p (sym (ap (λ b. cond b (Some q) (peer_of peers p.number)) apart) ∙ none)
]

line_joined : (s : Adoption) (line : SeenPeer) (a : AddrValue) → IsPeopled s.network → HasKey line.key (joined_by s line a).network
line_joined s line a people =
    let new = peer_of_line s.network line a in
    let none = none_from (peer_of s.network.peers s.network.next) (next_is_new (record s.network { routes = [] }) s.network.next people (omega arith)) in
    (s.network.next, new, joined_found s.network.peers new none, nat_list_eq_equiv.refl line.key.0)

line_noted : (s : Adoption) (line : SeenPeer) (p : Peer) → IsKeyed s.network.peers line.key p → HasKey line.key (note_status s line p).network
line_noted s line p keyed = (p.number, record p { status = Some line.status }, put_stands_there s.network.peers (record p { status = Some line.status }), keyed.has_key)

-- whose key it is is found
holder_found : (peers : List Peer) (i : ℕ) (p : Peer) (key : Key) → peer_of peers i ≡ Some p → same_key p.key key ≡ true → is_some (key_holder peers key) ≡ true
holder_found [] i p key found same = cc
holder_found (q ∷ peers) i p key found same = elim (decide (same_key q.key key)) [
  | inl here ↦ ap (λ b. is_some (cond b (Some q.number) (key_holder peers key))) here
  | inr other ↦ ap (λ b. is_some (cond b (Some q.number) (key_holder peers key))) other ∙ elim (decide (nat_eq q.number i)) [
    | inl at ↦
        let some : Some q ≡ Some p = sym (ap (λ b. cond b (Some q) (peer_of peers i)) at) ∙ found in
        let bad : true ≡ false = sym same ∙ sym (ap (λ (e : Peer). same_key e.key key) (one_peer q p some)) ∙ other in cc
    | inr apart ↦ holder_found peers i p key (sym (ap (λ b. cond b (Some q) (peer_of peers i)) apart) ∙ found) same
  ]
]

pub lines_are_peers : (n : NetworkValue) (now : ℕ) (server : Option Key) (lines : List SeenPeer) → IsNetwork n
    → IfOk (adopt_at n now server lines) (λ done. All (λ line. is_some (key_holder done.1.peers line.key) ≡ true) lines)
lines_are_peers n now server lines is =
    let m = live_at n now in
    adopted_if (λ done. All (λ line. is_some (key_holder done.1.peers line.key) ≡ true) lines) n now server lines
    (IfOk-weaker (adoption_of m lines) (λ s. All (λ (l : ℕ × SeenPeer). HasKey l.1.key s.network) (adoption_order m.pool lines)) (λ s. All (λ line. is_some (key_holder s.network.peers line.key) ≡ true) lines)
    (λ s all. All-weaker (λ line. HasKey line.key s.network) (λ line. is_some (key_holder s.network.peers line.key) ≡ true) (λ line has. holder_found s.network.peers has.0 has.1 line.key has.2 has.3) lines (all_lines (λ line. HasKey line.key s.network) m.pool lines all))
    (each_line (λ line s. HasKey line.key s.network) (λ line. key_steps line.key) line_joined line_noted (start_at m) (adoption_order m.pool lines) (peopled m (live_is_network n now is))))
