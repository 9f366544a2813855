-- What an adoption counts, and why one is refused.
use Rattle.std.proofs.Common.{◌≡◌, ◌⊎◌, ℕ, ◌+◌, ◌<◌, ◌≤◌, inl, inr, Bool, true, false, cond, List, [], ◌∷◌, ◌++◌, length, get_or, Option, Some, None, is_some, refl, ap, ◌∙◌, arith}
use Rattle.std.specs.Prelude.{Result, Ok, Err, IfOk, IfErr}
use Rattle.std.specs.List.{All}
use Rattle.std.proofs.lemmas.Bool.{cases_lt}
use Rattle.std.proofs.lemmas.List.{get_or_append_left, get_or_at, length-append}
use Rattle.std.proofs.lemmas.List.Elements.{All-cons, All-head, All-nil, All-push, All-tail, All-weaker}
use Rattle.std.proofs.lemmas.Result.{IfOk-weaker}
use Rattle.wgr_text.specs.declared.key.Key.{Key}
use Rattle.wgr_peers.specs.declared.peer.Peer.{Peer}
use Rattle.wgr_peers.specs.Peers.{peer_of, put_peer, same_key, AreNumbered}
use Rattle.wgr_core.specs.declared.refusal.CommandRefusal.{CommandRefusal}
use Rattle.wgr_core.specs.declared.refusal.Refusal.{Refusal}
use Rattle.wgr_core.specs.declared.refusal.Refusal.TheVariants as refusal
use Rattle.wgr_core.specs.declared.reply.Reply.TheVariants as reply
use Rattle.wgr_core.specs.declared.seen_peer.SeenPeer.{SeenPeer}
use Rattle.wgr_core.specs.Network.{NetworkValue, IsNetwork, live_at}
use Rattle.wgr_core.specs.Adoption.{Adoption, and_then, peer_of_line, adopt_line, in_line, adopt_lines, numbered_from, adoption_order, adoption_of}
use Rattle.wgr_core.specs.Outcome.{Outcome, unless, adopted, adopt, kept_if}
use Rattle.wgr_core.specs.Refusals.{of_command, of_line}
use Rattle.wgr_laws.specs.AdoptionLaws.{IsCounted, IsOtherServer, adopt_at}
use Rattle.wgr_laws.proofs.AdoptionOrder.{length-order}
use Rattle.wgr_core.proofs.JoinLemmas.{leads_on}
use Rattle.wgr_core.proofs.LiveLemmas.{live_is_network}
use Rattle.wgr_core.proofs.ReplaceLemmas.{put_stands, renewed_stands}
use Rattle.wgr_core.proofs.AdoptSteps.{AreSteps, IsPeopled, adopt_line_gives, adoption_keeps, joined_stands, numbered_if, ordered_all, peopled, then_if}
use Rattle.wgr_laws.proofs.AdoptNext.{AnyLine, AnyPrefix}
use Rattle.wgr_laws.proofs.AdoptedPeers.{adopted_if, both_if, start_at}

-- ---- the numbers of the new peers

record AddsNext (n : NetworkValue) (s : Adoption) : Type 0 where
  in_order : (k d : ℕ) → k < length s.added → get_or s.added k d ≡ n.next + k
  next : s.network.next ≡ n.next + length s.added
  stand : All (λ i. is_some (peer_of s.network.peers i) ≡ true) s.added

added_order : (xs : List ℕ) (from x : ℕ) → x ≡ from + length xs → ((k d : ℕ) → k < length xs → get_or xs k d ≡ from + k) → (k d : ℕ) → k < length (xs ++ x ∷ []) → get_or (xs ++ x ∷ []) k d ≡ from + k
added_order xs from x next order k d within = elim (cases_lt k (length xs)) [
  | inl before ↦ get_or_append_left xs (x ∷ []) d k before ∙ order k d before
  | inr after ↦
      let long = length-append xs (x ∷ []) in
      let last : length xs ≡ k = omega (arith, after, within, long) in
      get_or_at xs x [] d k last ∙ next ∙ ap (λ m. from + m) last
]

still_stands : (peers : List Peer) (e q : Peer) (i : ℕ) → AreNumbered peers → peer_of peers q.number ≡ Some e → is_some (peer_of peers i) ≡ true → is_some (peer_of (put_peer peers q) i) ≡ true
still_stands peers e q i numbered stands some = ap (λ (ps : List Peer). is_some (peer_of ps i)) (put_stands peers q numbered (ap is_some stands)) ∙ renewed_stands q peers i ∙ some

count_steps : (n : NetworkValue) → AreSteps AnyLine AnyPrefix (AddsNext n)
count_steps n = record {
  prefixes = λ line any k d h. tt;
  joins = λ s line a people so any may.
      let long = length-append s.added (s.network.next ∷ []) in
      let new = peer_of_line s.network line a in
      record {
        in_order = added_order s.added n.next s.network.next so.next so.in_order;
        next = omega (arith, so.next, long);
        stand = All-push (λ i. is_some (peer_of (s.network.peers ++ new ∷ []) i) ≡ true) s.added s.network.next
            (All-weaker (λ i. is_some (peer_of s.network.peers i) ≡ true) (λ i. is_some (peer_of (s.network.peers ++ new ∷ []) i) ≡ true) (λ i some. leads_on s.network.peers new i some) s.added so.stand)
            (joined_stands s.network.peers new);
      };
  notes = λ s line e people so any keyed.
      let q : Peer = record e { status = Some line.status } in
      record {
        in_order = so.in_order;
        next = so.next;
        stand = All-weaker (λ i. is_some (peer_of s.network.peers i) ≡ true) (λ i. is_some (peer_of (put_peer s.network.peers q) i) ≡ true) (λ i some. still_stands s.network.peers e q i people.numbered keyed.stands some) s.added so.stand;
      };
  leads = λ s q number so any may. record { in_order = so.in_order; next = so.next; stand = so.stand };
}

-- ---- how many lines there are

abbrev told_lines : Adoption → ℕ
told_lines s = length s.added + s.known

lines_told : (s : Adoption) (lines : List (ℕ × SeenPeer)) → IsPeopled s.network → IfOk (adopt_lines s lines) (λ t. told_lines t ≡ told_lines s + length lines)
lines_told s [] people = omega arith
lines_told s (l ∷ more) people =
    let Told : Adoption → Type 0 = λ t. told_lines t ≡ told_lines s + 1 in
    let Then : Adoption → Type 0 = λ t. IsPeopled t.network × Told t in
    then_if Then (λ t. told_lines t ≡ told_lines s + length (l ∷ more)) (in_line l.0 (adopt_line s l.1)) (λ next. adopt_lines next more)
    (numbered_if Then l.0 (adopt_line s l.1) (adopt_line_gives AnyPrefix Told (λ t p number told any may. told) s l.1 people (λ k d h. tt)
    (λ a may. let long = length-append s.added (s.network.next ∷ []) in omega (arith, long))
    (λ p keyed. omega arith)))
    (λ next so kept. IfOk-weaker (adopt_lines next more) (λ t. told_lines t ≡ told_lines next + length more) (λ t. told_lines t ≡ told_lines s + length (l ∷ more)) (λ t told. let one = kept.1 in omega (arith, told, one)) (lines_told next more kept.0))

pub adoptions_are_counted : (n : NetworkValue) (now : ℕ) (server : Option Key) (lines : List SeenPeer) → IsNetwork n → IfOk (adopt_at n now server lines) (IsCounted n lines)
adoptions_are_counted n now server lines is =
    let m = live_at n now in
    let people = peopled m (live_is_network n now is) in
    let long = length-order m.pool lines in
    adopted_if (IsCounted n lines) n now server lines
    (both_if (AddsNext m) (λ s. told_lines s ≡ 0 + length (adoption_order m.pool lines)) (λ s. IsCounted n lines (reply.Adopted s.added s.known, s.network)) (adoption_of m lines)
    (λ s so told. record { added = s.added; known = s.known; reported = refl; in_order = so.in_order; stand = so.stand; next = so.next; lines = omega (arith, told, long) })
    (adoption_keeps AnyLine AnyPrefix (AddsNext m) (count_steps m) m lines people (record { in_order = λ k d h. absurd (omega (arith, h)); next = omega arith; stand = λ k d h. absurd (omega (arith, h)) }) (λ k d h. tt))
    (lines_told (start_at m) (adoption_order m.pool lines) people))

-- ---- refusals

refused_in : (Q : ℕ → Type 0) (s : Adoption) (lines : List (ℕ × SeenPeer)) → All (λ l. Q l.0) lines → IfErr (adopt_lines s lines) (λ e. Q e.0)
refused_in Q s [] all = tt
refused_in Q s (l ∷ more) all = by_line (adopt_line s l.1) (λ next. refused_in Q next more (All-tail (λ (l : ℕ × SeenPeer). Q l.0) l more all))
  where
    by_line : (r : Result Adoption Refusal) → ((next : Adoption) → IfErr (adopt_lines next more) (λ e. Q e.0)) → IfErr (and_then (in_line l.0 r) (λ next. adopt_lines next more)) (λ e. Q e.0)
    by_line (Err e) later = All-head (λ (l : ℕ × SeenPeer). Q l.0) l more all
    by_line (Ok next) later = later next

numbers_from : (number : ℕ) (lines : List SeenPeer) → All (λ l. (number ≤ l.0) × (l.0 < number + length lines)) (numbered_from number lines)
numbers_from number [] = All-nil (λ (l : ℕ × SeenPeer). (number ≤ l.0) × (l.0 < number + 0))
numbers_from number (line ∷ more) =
    All-cons (λ (l : ℕ × SeenPeer). (number ≤ l.0) × (l.0 < number + length (line ∷ more))) (number, line) (numbered_from (number + 1) more) (omega arith, omega arith)
    (All-weaker (λ (l : ℕ × SeenPeer). (number + 1 ≤ l.0) × (l.0 < number + 1 + length more)) (λ (l : ℕ × SeenPeer). (number ≤ l.0) × (l.0 < number + length (line ∷ more))) (λ l within. let low = within.0 in let high = within.1 in (omega (arith, low), omega (arith, high)))
    (numbered_from (number + 1) more) (numbers_from (number + 1) more))

abbrev IsToldLine : List SeenPeer → CommandRefusal → Type 0
IsToldLine lines why = (number : ℕ) × (what : Refusal) × (why ≡ of_line number what) × (2 ≤ number) × (number ≤ length lines + 1)

abbrev IsTold : NetworkValue → Option Key → List SeenPeer → CommandRefusal → Type 0
IsTold n server lines why = ((why ≡ of_command refusal.WrongServer) × IsOtherServer n server) ⊎ IsToldLine lines why

pub adopt_refusals : (n : NetworkValue) (now : ℕ) (server : Option Key) (lines : List SeenPeer) → IfErr (adopt_at n now server lines) (IsTold n server lines)
adopt_refusals n now server lines = kept_err (adopt (live_at n now) server lines) (by_server server)
  where
    kept_err : (o : Outcome) → IfErr o (IsTold n server lines) → IfErr (kept_if false n o) (IsTold n server lines)
    kept_err (Err why) told = told
    kept_err (Ok done) told = tt

    in_lines : (server : Option Key) (r : Result Adoption (ℕ × Refusal)) → IfErr r (λ e. (2 ≤ e.0) × (e.0 < 2 + length lines)) → IfErr (adopted r) (IsTold n server lines)
    in_lines server (Err e) within = let low = within.0 in let high = within.1 in inr (e.0, e.1, refl, low, omega (arith, high))
    in_lines server (Ok s) within = tt

    lines_alone : (server : Option Key) → IfErr (adopted (adoption_of (live_at n now) lines)) (IsTold n server lines)
    lines_alone server =
        in_lines server (adoption_of (live_at n now) lines)
        (refused_in (λ number. (2 ≤ number) × (number < 2 + length lines)) (start_at (live_at n now)) (adoption_order n.pool lines) (ordered_all (λ l. (2 ≤ l.0) × (l.0 < 2 + length lines)) n.pool lines (numbers_from 2 lines)))

    by_key : (key : Key) (b : Bool) → same_key key n.server ≡ b → IfErr (unless (cond b None (Some refusal.WrongServer)) (adopted (adoption_of (live_at n now) lines))) (IsTold n (Some key) lines)
    by_key key true same = lines_alone (Some key)
    by_key key false other = inl (refl, (key, refl, other))

    by_server : (server : Option Key) → IfErr (adopt (live_at n now) server lines) (IsTold n server lines)
    by_server None = lines_alone None
    by_server (Some key) = by_key key (same_key key n.server) refl

pub other_servers_are_refused : (n : NetworkValue) (now : ℕ) (server : Option Key) (lines : List SeenPeer) → IsOtherServer n server → adopt_at n now server lines ≡ Err (of_command refusal.WrongServer)
other_servers_are_refused n now server lines other =
    ap (λ (server : Option Key). adopt_at n now server lines) other.1
    ∙ ap (λ b. kept_if false n (unless (cond b None (Some refusal.WrongServer)) (adopted (adoption_of (live_at n now) lines)))) other.2
