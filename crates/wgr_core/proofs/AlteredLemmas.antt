-- The peers of a draft that aren't as they were at its start.
use Rattle.std.proofs.Common.{◌≡◌, ℕ, zero, suc, ◌<◌, ◌≤◌, Bool, true, false, cond, ◌&&◌, nat_eq, nat_lt, List, [], ◌∷◌, ◌++◌, length, get_or, set, Option, Some, None, refl, sym, ap, subst, ◌∙◌, arith}
use Rattle.std.specs.List.{All}
use Rattle.std.proofs.lemmas.List.{get_or_default}
use Rattle.std.proofs.lemmas.Bool.Decides.{nat_tests}
use Rattle.std.proofs.lemmas.List.Elements.{All-cons, All-head, All-tail}
use Rattle.wgr_pool.proofs.Bools.{and_true}
use Rattle.wgr_pool.proofs.Lists.{AllPairs-cons, AllPairs-head, AllPairs-tail}
use Rattle.wgr_pool.proofs.PrefixLemmas.{nat_eq_is}
use Rattle.wgr_peers.specs.declared.peer.Peer.{Peer}
use Rattle.wgr_peers.specs.declared.peer.Status.{Status}
use Rattle.wgr_peers.specs.PeerIndex.{IsAlikeAt}
use Rattle.wgr_peers.specs.Peers.{AreNumbered, IsNumberedBelow, put_peer}
use Rattle.wgr_peers.proofs.TableLemmas.{alike_place}
use Rattle.wgr_core.specs.Change.{put_peers}
use Rattle.wgr_core.specs.Draft.{AreNoted, altered, same_status, was_there}

-- ---- statuses

pub same_status_is : (a b : Option Status) → same_status a b ≡ true → a ≡ b
same_status_is None None same = refl
same_status_is None (Some b) same = absurd (cc)
same_status_is (Some a) None same = absurd (cc)
same_status_is (Some a) (Some b) same =
    let split = and_true (nat_eq a.handshake b.handshake) (nat_eq a.received b.received && nat_eq a.sent b.sent) same in
    let rest = and_true (nat_eq a.received b.received) (nat_eq a.sent b.sent) split.1 in
    let handshake = nat_eq_is a.handshake b.handshake split.0 in
    let received = nat_eq_is a.received b.received rest.0 in
    let sent = nat_eq_is a.sent b.sent rest.1 in
    ap (λ (n : ℕ). Some (record a { handshake = n })) handshake
    ∙ ap (λ (n : ℕ). Some (record a { handshake = b.handshake; received = n })) received
    ∙ ap (λ (n : ℕ). Some (record a { handshake = b.handshake; received = b.received; sent = n })) sent

-- ---- the peer at a place

pub was_within : (start : List Peer) (at : ℕ) (p d : Peer) → at < length start → was_there start at p ≡ same_status (get_or start at d).status p.status
was_within [] at p d within = absurd (omega (arith, within))
was_within (q ∷ start) zero p d within = refl
was_within (q ∷ start) (suc at) p d within = was_within start at p d (omega (arith, within))

beyond_none : (start : List Peer) (at : ℕ) (p : Peer) → length start ≤ at → was_there start at p ≡ false
beyond_none [] at p beyond = refl
beyond_none (q ∷ start) zero p beyond = absurd (omega (arith, beyond))
beyond_none (q ∷ start) (suc at) p beyond = beyond_none start at p (omega (arith, beyond))

pub was_beyond : (start : List Peer) (at : ℕ) (p : Peer) → length start ≤ at → nat_lt at (length start) ≡ was_there start at p
was_beyond start at p beyond =
    let past : nat_lt at (length start) ≡ false = grind (arith, nat_tests, beyond) in
    past ∙ sym (beyond_none start at p beyond)

-- ---- one more peer at the end

altered_none : (start : List Peer) → altered start [] ≡ []
altered_none [] = refl
altered_none (q ∷ start) = refl

altered_all : (peers : List Peer) → altered [] peers ≡ peers
altered_all [] = refl
altered_all (p ∷ peers) = refl

pushed_either : (b : Bool) (r : Peer) (ps : List Peer) (p : Peer) → cond b (ps ++ p ∷ []) (r ∷ ps ++ p ∷ []) ≡ cond b ps (r ∷ ps) ++ p ∷ []
pushed_either true r ps p = refl
pushed_either false r ps p = refl

pub altered_new : (start peers : List Peer) (p : Peer) → was_there start (length peers) p ≡ false → altered start (peers ++ p ∷ []) ≡ altered start peers ++ p ∷ []
altered_new [] peers p new = altered_all (peers ++ p ∷ []) ∙ ap (λ (ps : List Peer). ps ++ p ∷ []) (sym (altered_all peers))
altered_new (q ∷ start) [] p new =
    ap (λ (b : Bool). cond b (altered start []) (p ∷ altered start [])) new ∙ ap (λ (ps : List Peer). p ∷ ps) (altered_none start)
altered_new (q ∷ start) (r ∷ peers) p new =
    ap (λ (ps : List Peer). cond (same_status q.status r.status) ps (r ∷ ps)) (altered_new start peers p new)
    ∙ pushed_either (same_status q.status r.status) r (altered start peers) p

pub altered_same : (start peers : List Peer) (p : Peer) → was_there start (length peers) p ≡ true → altered start (peers ++ p ∷ []) ≡ altered start peers
altered_same [] peers p same = absurd (cc)
altered_same (q ∷ start) [] p same =
    ap (λ (b : Bool). cond b (altered start []) (p ∷ altered start [])) same ∙ altered_none start
altered_same (q ∷ start) (r ∷ peers) p same = ap (λ (ps : List Peer). cond (same_status q.status r.status) ps (r ∷ ps)) (altered_same start peers p same)

-- ---- they lead from the start to the peers

all_either : (P : Peer → Type 0) (b : Bool) (p : Peer) (ps : List Peer) → P p → All P ps → All P (cond b ps (p ∷ ps))
all_either P true p ps first rest = rest
all_either P false p ps first rest = All-cons P p ps first rest

all_altered : (P : Peer → Type 0) (start peers : List Peer) → All P peers → All P (altered start peers)
all_altered P start [] all = subst (All P) (sym (altered_none start)) all
all_altered P [] (p ∷ peers) all = all
all_altered P (q ∷ start) (p ∷ peers) all =
    let rest = all_altered P start peers (All-tail P p peers all) in
    all_either P (same_status q.status p.status) p (altered start peers) (All-head P p peers all) rest

rise_either : (b : Bool) (p : Peer) (ps : List Peer) → All (IsNumberedBelow p) ps → AreNumbered ps → AreNumbered (cond b ps (p ∷ ps))
rise_either true p ps above rise = rise
rise_either false p ps above rise = AllPairs-cons IsNumberedBelow p ps above rise

pub altered_rise : (start peers : List Peer) → AreNumbered peers → AreNumbered (altered start peers)
altered_rise start [] rise = subst AreNumbered (sym (altered_none start)) rise
altered_rise [] (p ∷ peers) rise = rise
altered_rise (q ∷ start) (p ∷ peers) rise =
    let above = all_altered (IsNumberedBelow p) start peers (AllPairs-head IsNumberedBelow p peers rise) in
    rise_either (same_status q.status p.status) p (altered start peers) above (altered_rise start peers (AllPairs-tail IsNumberedBelow p peers rise))

is_less : (m n : ℕ) → m < n → nat_lt m n ≡ true
is_less m n l = grind (arith, nat_tests)

is_same_number : (m n : ℕ) → m ≡ n → (nat_lt m n ≡ false) × (nat_eq m n ≡ true)
is_same_number m n e = (grind (arith, nat_tests), grind (arith, nat_tests))

behind : (y : Peer) (ys : List Peer) (p : Peer) → y.number < p.number → put_peer (y ∷ ys) p ≡ y ∷ put_peer ys p
behind y ys p l = ap (λ b. cond b (y ∷ put_peer ys p) (cond (nat_eq y.number p.number) (p ∷ ys) (p ∷ y ∷ ys))) (is_less y.number p.number l)

in_place : (y : Peer) (ys : List Peer) (p : Peer) → y.number ≡ p.number → put_peer (y ∷ ys) p ≡ p ∷ ys
in_place y ys p e =
    let at = is_same_number y.number p.number e in
    ap (λ b. cond b (y ∷ put_peer ys p) (cond (nat_eq y.number p.number) (p ∷ ys) (p ∷ y ∷ ys))) at.0
    ∙ ap (λ b. cond b (p ∷ ys) (p ∷ y ∷ ys)) at.1

-- those of higher numbers leave the first one where it is
put_behind : (y : Peer) (ys puts : List Peer) → All (IsNumberedBelow y) puts → put_peers (y ∷ ys) puts ≡ y ∷ put_peers ys puts
put_behind y ys [] above = refl
put_behind y ys (p ∷ more) above =
    ap (λ (ps : List Peer). put_peers ps more) (behind y ys p (All-head (IsNumberedBelow y) p more above))
    ∙ put_behind y (put_peer ys p) more (All-tail (IsNumberedBelow y) p more above)

put_all : (peers : List Peer) → AreNumbered peers → put_peers [] peers ≡ peers
put_all [] rise = refl
put_all (p ∷ peers) rise = put_behind p [] peers (AllPairs-head IsNumberedBelow p peers rise) ∙ ap (λ (ps : List Peer). p ∷ ps) (put_all peers (AllPairs-tail IsNumberedBelow p peers rise))

put_case : (b : Bool) (start : List Peer) (q p : Peer) (ps : List Peer) → p ≡ record q { status = p.status } → All (IsNumberedBelow p) ps → (b ≡ true → q.status ≡ p.status)
    → put_peers (q ∷ start) (cond b ps (p ∷ ps)) ≡ p ∷ put_peers start ps
put_case true start q p ps noted above is =
    let same : p ≡ q = noted ∙ ap (λ (s : Option Status). record q { status = s }) (sym (is refl)) in
    ap (λ (r : Peer). put_peers (r ∷ start) ps) (sym same) ∙ put_behind p start ps above
put_case false start q p ps noted above is =
    ap (λ (rs : List Peer). put_peers rs ps) (in_place q start p (sym (ap (λ (r : Peer). r.number) noted))) ∙ put_behind p start ps above

put_either : (start : List Peer) (q p : Peer) (ps : List Peer) → p ≡ record q { status = p.status } → All (IsNumberedBelow p) ps
    → put_peers (q ∷ start) (cond (same_status q.status p.status) ps (p ∷ ps)) ≡ p ∷ put_peers start ps
put_either start q p ps noted above = put_case (same_status q.status p.status) start q p ps noted above (same_status_is q.status p.status)

pub put_altered : (start peers : List Peer) → AreNoted start peers → AreNumbered peers → put_peers start (altered start peers) ≡ peers
put_altered [] peers noted rise = ap (put_peers []) (altered_all peers) ∙ put_all peers rise
put_altered (q ∷ start) [] noted rise = absurd noted
put_altered (q ∷ start) (p ∷ peers) noted rise =
    let above = all_altered (IsNumberedBelow p) start peers (AllPairs-head IsNumberedBelow p peers rise) in
    let rest = put_altered start peers noted.1 (AllPairs-tail IsNumberedBelow p peers rise) in
    put_either start q p (altered start peers) noted.0 above ∙ ap (λ (ps : List Peer). p ∷ ps) rest

-- ---- what is noted, and who comes

pub noted_self : (peers : List Peer) → AreNoted peers peers
noted_self [] = tt
noted_self (p ∷ peers) = (refl, noted_self peers)

pub noted_more : (start peers more : List Peer) → AreNoted start peers → AreNoted start (peers ++ more)
noted_more [] peers more noted = tt
noted_more (q ∷ start) [] more noted = absurd noted
noted_more (q ∷ start) (p ∷ peers) more noted = (noted.0, noted_more start peers more noted.1)

pub noted_at : (start peers : List Peer) (at : ℕ) (d : Peer) (status : Option Status) → at < length peers → AreNoted start peers → AreNoted start (set peers at (record (get_or peers at d) { status = status }))
noted_at [] peers at d status within noted = tt
noted_at (q ∷ start) [] at d status within noted = absurd noted
noted_at (q ∷ start) (p ∷ peers) zero d status within noted = (ap (λ (r : Peer). record r { status = status }) noted.0, noted.1)
noted_at (q ∷ start) (p ∷ peers) (suc at) d status within noted = (noted.0, noted_at start peers at d status (omega (arith, within)) noted.1)

-- the peer at the place, with another status
pub noted_put : (start peers : List Peer) (at : ℕ) (d : Peer) (status : Option Status) → AreNumbered peers → at < length peers → AreNoted start peers → AreNoted start (put_peer peers (record (get_or peers at d) { status = status }))
noted_put start peers at d status rise within noted =
    let alike : IsAlikeAt peers (record (get_or peers at d) { status = status }) at = record {
      within = within;
      number = λ e. ap (λ (q : Peer). q.number) (get_or_default peers at e d within);
      key = λ e. ap (λ (q : Peer). q.key) (get_or_default peers at e d within);
      address = λ e. ap (λ (q : Peer). q.address) (get_or_default peers at e d within);
      second = λ e. ap (λ (q : Peer). q.second) (get_or_default peers at e d within);
    } in
    subst (AreNoted start) (sym (alike_place peers (record (get_or peers at d) { status = status }) at rise alike)) (noted_at start peers at d status within noted)
