-- Steps of an adoption, one after the other.
use Rattle.std.proofs.Common.{◌≡◌, ℕ, ◌+◌, ◌<◌, Bool, true, false, not, cond, nat_eq, List, [], ◌∷◌, ◌++◌, length, get_or, drop, Option, Some, None, is_some, refl, sym, ap, subst, ◌∙◌, arith}
use Rattle.std.specs.Prelude.{Result, Ok, Err}
use Rattle.wgr_text.specs.declared.key.Key.{Key}
use Rattle.wgr_text.specs.Prefix.{AddrValue, PrefixValue}
use Rattle.wgr_pool.specs.PrefixTests.{full, same_prefix}
use Rattle.wgr_peers.specs.declared.peer.Peer.{Peer}
use Rattle.wgr_peers.specs.Peers.{peer_of}
use Rattle.wgr_peers.specs.Routes.{assign_route}
use Rattle.wgr_core.specs.declared.change.Change.{Change}
use Rattle.wgr_core.specs.declared.reply.Reply.{Reply}
use Rattle.wgr_core.specs.declared.reply.Reply.TheVariants as reply
use Rattle.wgr_core.specs.declared.fault.ActFault.{ActFault}
use Rattle.wgr_core.specs.declared.fault.ActFault.TheVariants as fault
use Rattle.wgr_core.specs.declared.fault.AdoptFault.{AdoptFault}
use Rattle.wgr_core.specs.declared.fault.AdoptFault.TheVariants as adopt_fault
use Rattle.wgr_core.specs.declared.refusal.Refusal.{Refusal}
use Rattle.wgr_core.specs.declared.seen_peer.SeenPeer.{SeenPeer}
use Rattle.wgr_core.specs.Network.{NetworkValue}
use Rattle.wgr_core.specs.Adoption.{Adoption, and_then, named_address, names_address, other_prefixes, with_line, give_all, add_line, adopt_line, adopt_lines, in_line, adoption_of}
use Rattle.wgr_core.specs.Refusals.{join_refusal, of_line, place, route_refusal, unless_refused}
use Rattle.wgr_core.specs.Change.{GivesChange, MeetsLive}
use Rattle.wgr_core.specs.Draft.{DraftValue, AdoptingValue, line_address, is_asked_for, numbered_lines, MeetsAddress, MeetsGiven, MeetsLine, MeetsLines, begun, fault_in_line}
use Rattle.wgr_pool.proofs.Lists.{drop_next}
use Rattle.wgr_pool.proofs.PrefixLemmas.{nat_eq_self}
use Rattle.wgr_core.specs.Outcome.{adopt, adopted, server_refusal, unless}

-- ---- the prefixes of a line

pub others_kept : (a : AddrValue) (p : PrefixValue) (more : List PrefixValue) → same_prefix p (full a) ≡ false → other_prefixes a (p ∷ more) ≡ p ∷ other_prefixes a more
others_kept a p more h = ap (λ b. cond (not b) (p ∷ other_prefixes a more) (other_prefixes a more)) h

pub given_on : (d after : DraftValue) (r : Option Refusal) (m : NetworkValue) (next : NetworkValue → Result NetworkValue Refusal) → MeetsGiven d (Ok after) (unless_refused r m)
    → (after ≡ record d { network = m }) × (and_then (unless_refused r m) next ≡ next m)
given_on d after None m next h = (h, refl)
given_on d after (Some e) m next h = absurd h

pub given_err : (d e : DraftValue) (w : AdoptFault) (r : Option Refusal) (m : NetworkValue) (next : NetworkValue → Result NetworkValue Refusal) → MeetsGiven d (Err w) (unless_refused r m)
    → MeetsGiven e (Err w) (and_then (unless_refused r m) next)
given_err d e adopt_fault.NoMemory r m next h = tt
given_err d e (adopt_fault.Refused why) None m next h = absurd h
given_err d e (adopt_fault.Refused why) (Some is) m next h = h

others_dropped : (a : AddrValue) (p : PrefixValue) (more : List PrefixValue) → same_prefix p (full a) ≡ true → other_prefixes a (p ∷ more) ≡ other_prefixes a more
others_dropped a p more h = ap (λ b. cond (not b) (p ∷ other_prefixes a more) (other_prefixes a more)) h

-- the peer's own address is passed over
pub give_goes_past : (n : NetworkValue) (number : ℕ) (a : AddrValue) (xs : List PrefixValue) (i : ℕ) (p : PrefixValue) → i < length xs → p ≡ get_or xs i p → same_prefix p (full a) ≡ true
    → give_all n number (other_prefixes a (drop (i + 1) xs)) ≡ give_all n number (other_prefixes a (drop i xs))
give_goes_past n number a xs i p within at own = sym (ap (λ ps. give_all n number (other_prefixes a ps)) (drop_next xs i p within at) ∙ ap (give_all n number) (others_dropped a p (drop (i + 1) xs) own))

-- the prefix that comes, and those after it
give_left : (n : NetworkValue) (number : ℕ) (a : AddrValue) (xs : List PrefixValue) (i : ℕ) (p : PrefixValue) → i < length xs → p ≡ get_or xs i p → same_prefix p (full a) ≡ false
    → give_all n number (other_prefixes a (drop i xs)) ≡ and_then (unless_refused (route_refusal n p) (record n { routes = assign_route n.routes p number })) (λ next. give_all next number (other_prefixes a (drop (i + 1) xs)))
give_left n number a xs i p within at other =
    ap (λ ps. give_all n number (other_prefixes a ps)) (drop_next xs i p within at) ∙ ap (give_all n number) (others_kept a p (drop (i + 1) xs) other)

pub give_stops : (self d : DraftValue) (w : AdoptFault) (number : ℕ) (a : AddrValue) (xs : List PrefixValue) (i : ℕ) (p : PrefixValue) (whole : Result NetworkValue Refusal)
    → i < length xs → p ≡ get_or xs i p → same_prefix p (full a) ≡ false → give_all d.network number (other_prefixes a (drop i xs)) ≡ whole
    → MeetsGiven d (Err w) (unless_refused (route_refusal d.network p) (record d.network { routes = assign_route d.network.routes p number })) → MeetsGiven self (Err w) whole
give_stops self d w number a xs i p whole within at other left h =
    let next = λ (n : NetworkValue). give_all n number (other_prefixes a (drop (i + 1) xs)) in
    subst (MeetsGiven self (Err w)) (sym (give_left d.network number a xs i p within at other) ∙ left) (given_err d self w (route_refusal d.network p) (record d.network { routes = assign_route d.network.routes p number }) next h)

pub record GoesOn (self after : DraftValue) (number : ℕ) (a : AddrValue) (rest : List PrefixValue) (whole : Result NetworkValue Refusal) : Type 0 where
  pub left : give_all after.network number (other_prefixes a rest) ≡ whole
  pub kept : after ≡ record self { network = after.network }
  pub stands : is_some (peer_of after.network.peers number) ≡ true

pub give_goes_on : (self d after : DraftValue) (number : ℕ) (a : AddrValue) (xs : List PrefixValue) (i : ℕ) (p : PrefixValue) (whole : Result NetworkValue Refusal)
    → i < length xs → p ≡ get_or xs i p → same_prefix p (full a) ≡ false → GoesOn self d number a (drop i xs) whole
    → MeetsGiven d (Ok after) (unless_refused (route_refusal d.network p) (record d.network { routes = assign_route d.network.routes p number })) → GoesOn self after number a (drop (i + 1) xs) whole
give_goes_on self d after number a xs i p whole within at other so h =
    let m : NetworkValue = record d.network { routes = assign_route d.network.routes p number } in
    let next = λ (n : NetworkValue). give_all n number (other_prefixes a (drop (i + 1) xs)) in
    let on = given_on d after (route_refusal d.network p) m next h in
    let same : after.network ≡ m = ap (λ (d : DraftValue). d.network) on.0 in
    record {
      left = ap next same ∙ sym on.1 ∙ sym (give_left d.network number a xs i p within at other) ∙ so.left;
      kept = on.0 ∙ ap (λ (d : DraftValue). record d { network = m }) so.kept ∙ ap (λ (n : NetworkValue). record self { network = n }) (sym same);
      stands = ap (λ (n : NetworkValue). is_some (peer_of n.peers number)) same ∙ so.stands;
    }

-- ---- a new peer

pub met_address : (a : AddrValue) (r : Result AddrValue Refusal) → MeetsAddress (Ok a) r → r ≡ Ok a
met_address a (Ok b) h = sym (ap Ok h)
met_address a (Err e) h = absurd h

pub new_stands : (peers : List Peer) (p : Peer) → is_some (peer_of (peers ++ p ∷ []) p.number) ≡ true
new_stands [] p = ap (λ b. is_some (cond b (Some p) (peer_of [] p.number))) (nat_eq_self p.number)
new_stands (q ∷ peers) p = elim (nat_eq q.number p.number) as (λ b. is_some (cond b (Some q) (peer_of (peers ++ p ∷ []) p.number)) ≡ true) [ true ↦ refl | false ↦ new_stands peers p ]

on_place : {T A U E : Type 0} (r : Option E) (x : T) (place : T → Result A E) (next : T → A → Result U E) (a : A) → and_then (unless_refused r x) place ≡ Ok a → and_then (unless_refused r x) (λ n. and_then (place n) (next n)) ≡ next x a
on_place None x place next a h = ap (λ o. and_then o (next x)) h
on_place (Some e) x place next a h = cc

abbrev after_line : Adoption → SeenPeer → NetworkValue → AddrValue → Result Adoption Refusal
after_line s line n a =
    and_then (give_all (with_line n line a) n.next (other_prefixes a line.allowed)) (λ after.
    Ok (record { network = after; added = s.added ++ n.next ∷ []; known = s.known }))

pub added_at : (s : Adoption) (line : SeenPeer) (a : AddrValue) → line_address s.network line ≡ Ok a
    → add_line s line ≡ and_then (give_all (with_line s.network line a) s.network.next (other_prefixes a line.allowed)) (λ after. Ok (record { network = after; added = s.added ++ s.network.next ∷ []; known = s.known }))
added_at s line a h = on_place (join_refusal s.network 0 line.key 0) s.network (λ n. place n n.pool (named_address n.pool line.allowed)) (after_line s line) a h

pub given_line : (a : AdoptingValue) (d after : DraftValue) (o : Result NetworkValue Refusal) (added : List ℕ) (known : ℕ) → d.start ≡ a.start → MeetsGiven d (Ok after) o
    → MeetsLine a (Ok (record { start = after.start; so_far = record { network = after.network; added = added; known = known } })) (and_then o (λ n. Ok (record { network = n; added = added; known = known })))
given_line a d after (Err e) added known start h = absurd h
given_line a d after (Ok n) added known start h =
    let value : DraftValue → AdoptingValue = λ d. record { start = d.start; so_far = record { network = d.network; added = added; known = known } } in
    let so_far : Adoption = record { network = n; added = added; known = known } in
    ap value h ∙ ap (λ (m : NetworkValue). record { start = m; so_far = so_far }) start

pub given_line_err : (a : AdoptingValue) (d : DraftValue) (w : AdoptFault) (o : Result NetworkValue Refusal) (next : NetworkValue → Result Adoption Refusal) → MeetsGiven d (Err w) o → MeetsLine a (Err w) (and_then o next)
given_line_err a d adopt_fault.NoMemory o next h = tt
given_line_err a d (adopt_fault.Refused why) (Err e) next h = h
given_line_err a d (adopt_fault.Refused why) (Ok n) next h = absurd h

-- ---- several lines

pub lines_skipped : (pool : PrefixValue) (naming : Bool) (m : ℕ) (line : SeenPeer) (more : List SeenPeer) → is_asked_for naming (names_address pool line) ≡ false → numbered_lines pool naming m (line ∷ more) ≡ numbered_lines pool naming (m + 1) more
lines_skipped pool naming m line more h = ap (λ b. cond b ((m, line) ∷ numbered_lines pool naming (m + 1) more) (numbered_lines pool naming (m + 1) more)) h

pub lines_taken : (pool : PrefixValue) (naming : Bool) (m : ℕ) (line : SeenPeer) (more : List SeenPeer) → is_asked_for naming (names_address pool line) ≡ true → numbered_lines pool naming m (line ∷ more) ≡ (m, line) ∷ numbered_lines pool naming (m + 1) more
lines_taken pool naming m line more h = ap (λ b. cond b ((m, line) ∷ numbered_lines pool naming (m + 1) more) (numbered_lines pool naming (m + 1) more)) h

pub line_on : (a after : AdoptingValue) (number : ℕ) (o : Result Adoption Refusal) (more : List (ℕ × SeenPeer)) → MeetsLine a (Ok after) o
    → (after ≡ record a { so_far = after.so_far }) × (and_then (in_line number o) (λ next. adopt_lines next more) ≡ adopt_lines after.so_far more)
line_on a after number (Err e) more h = absurd h
line_on a after number (Ok s) more h =
    let same : s ≡ after.so_far = sym (ap (λ (a : AdoptingValue). a.so_far) h) in (
      h ∙ ap (λ (s : Adoption). record a { so_far = s }) same,
      ap (λ (s : Adoption). adopt_lines s more) same,
    )

pub line_err : (a b : AdoptingValue) (number : ℕ) (w : AdoptFault) (o : Result Adoption Refusal) (more : List (ℕ × SeenPeer)) → MeetsLine a (Err w) o
    → MeetsLines b (Err (fault_in_line number w)) (and_then (in_line number o) (λ next. adopt_lines next more))
line_err a b number adopt_fault.NoMemory o more h = tt
line_err a b number (adopt_fault.Refused why) (Err e) more h = ap (of_line number) h
line_err a b number (adopt_fault.Refused why) (Ok s) more h = absurd h

pub record LinesGoOn (self after : AdoptingValue) (pool : PrefixValue) (naming : Bool) (number : ℕ) (rest : List SeenPeer) (whole : Result Adoption (ℕ × Refusal)) : Type 0 where
  pub left : adopt_lines after.so_far (numbered_lines pool naming number rest) ≡ whole
  pub kept : after ≡ record self { so_far = after.so_far }

pub lines_go_on : (self a after : AdoptingValue) (pool : PrefixValue) (naming : Bool) (xs : List SeenPeer) (i : ℕ) (line : SeenPeer) (whole : Result Adoption (ℕ × Refusal))
    → i < length xs → line ≡ get_or xs i line → is_asked_for naming (names_address pool line) ≡ true → LinesGoOn self a pool naming (i + 2) (drop i xs) whole → MeetsLine a (Ok after) (adopt_line a.so_far line)
    → LinesGoOn self after pool naming (i + 1 + 2) (drop (i + 1) xs) whole
lines_go_on self a after pool naming xs i line whole within at asked so h =
    let rest = drop (i + 1) xs in
    let more = numbered_lines pool naming (i + 2 + 1) rest in
    let on = line_on a after (i + 2) (adopt_line a.so_far line) more h in
    let count : i + 1 + 2 ≡ i + 2 + 1 = omega arith in
    record {
      left =
          ap (λ (m : ℕ). adopt_lines after.so_far (numbered_lines pool naming m rest)) count
          ∙ sym on.1
          ∙ sym (ap (λ (ls : List SeenPeer). adopt_lines a.so_far (numbered_lines pool naming (i + 2) ls)) (drop_next xs i line within at) ∙ ap (adopt_lines a.so_far) (lines_taken pool naming (i + 2) line rest asked))
          ∙ so.left;
      kept = on.0 ∙ ap (λ (b : AdoptingValue). record b { so_far = after.so_far }) so.kept;
    }

-- a line that is not asked for leaves all as it is
pub lines_go_past : (s : Adoption) (pool : PrefixValue) (naming : Bool) (xs : List SeenPeer) (i : ℕ) (line : SeenPeer) → i < length xs → line ≡ get_or xs i line → is_asked_for naming (names_address pool line) ≡ false
    → adopt_lines s (numbered_lines pool naming (i + 1 + 2) (drop (i + 1) xs)) ≡ adopt_lines s (numbered_lines pool naming (i + 2) (drop i xs))
lines_go_past s pool naming xs i line within at skipped =
    let rest = drop (i + 1) xs in
    let count : i + 1 + 2 ≡ i + 2 + 1 = omega arith in
    ap (λ (m : ℕ). adopt_lines s (numbered_lines pool naming m rest)) count
    ∙ sym (ap (λ (ls : List SeenPeer). adopt_lines s (numbered_lines pool naming (i + 2) ls)) (drop_next xs i line within at) ∙ ap (adopt_lines s) (lines_skipped pool naming (i + 2) line rest skipped))

-- a line that is refused ends them all
pub lines_stop : (self a : AdoptingValue) (w : AdoptFault) (pool : PrefixValue) (naming : Bool) (xs : List SeenPeer) (i : ℕ) (line : SeenPeer) (whole : Result Adoption (ℕ × Refusal))
    → i < length xs → line ≡ get_or xs i line → is_asked_for naming (names_address pool line) ≡ true → adopt_lines a.so_far (numbered_lines pool naming (i + 2) (drop i xs)) ≡ whole → MeetsLine a (Err w) (adopt_line a.so_far line)
    → MeetsLines self (Err (fault_in_line (i + 2) w)) whole
lines_stop self a w pool naming xs i line whole within at asked left h =
    let rest = drop (i + 1) xs in
    let taken = ap (λ (ls : List SeenPeer). adopt_lines a.so_far (numbered_lines pool naming (i + 2) ls)) (drop_next xs i line within at) ∙ ap (adopt_lines a.so_far) (lines_taken pool naming (i + 2) line rest asked) in
    subst (MeetsLines self (Err (fault_in_line (i + 2) w))) (sym taken ∙ left) (line_err a self (i + 2) w (adopt_line a.so_far line) (numbered_lines pool naming (i + 2 + 1) rest) h)

append_step : (xs ys : List (ℕ × SeenPeer)) (r : Result Adoption (ℕ × Refusal)) → ((t : Adoption) → adopt_lines t (xs ++ ys) ≡ and_then (adopt_lines t xs) (λ t. adopt_lines t ys))
    → and_then r (λ next. adopt_lines next (xs ++ ys)) ≡ and_then (and_then r (λ next. adopt_lines next xs)) (λ t. adopt_lines t ys)
append_step xs ys (Err e) later = refl
append_step xs ys (Ok t) later = later t

lines_append : (s : Adoption) (xs ys : List (ℕ × SeenPeer)) → adopt_lines s (xs ++ ys) ≡ and_then (adopt_lines s xs) (λ t. adopt_lines t ys)
lines_append s [] ys = refl
lines_append s (l ∷ xs) ys = append_step xs ys (in_line l.0 (adopt_line s l.1)) (λ t. lines_append t xs ys)

meets_alike : (a : AdoptingValue) (s : Adoption) (r : Result AdoptingValue ActFault) (o : Result Adoption (ℕ × Refusal)) → MeetsLines (record a { so_far = s }) r o → MeetsLines a r o
meets_alike a s (Err fault.NoMemory) o h = tt
meets_alike a s (Err (fault.Refused why)) (Err e) h = h
meets_alike a s (Err (fault.Refused why)) (Ok t) h = h
meets_alike a s (Ok after) (Err e) h = h
meets_alike a s (Ok after) (Ok t) h = h

-- the lines of a first and of a second pass
pub both_passes : (a b : AdoptingValue) (r : Result AdoptingValue ActFault) (xs ys : List (ℕ × SeenPeer)) → MeetsLines a (Ok b) (adopt_lines a.so_far xs) → MeetsLines b r (adopt_lines b.so_far ys) → MeetsLines a r (adopt_lines a.so_far (xs ++ ys))
both_passes a b r xs ys first second = subst (MeetsLines a r) (sym (lines_append a.so_far xs ys)) (step (adopt_lines a.so_far xs) first)
  where
    step : (o : Result Adoption (ℕ × Refusal)) → MeetsLines a (Ok b) o → MeetsLines a r (and_then o (λ t. adopt_lines t ys))
    step (Err e) h = absurd h
    step (Ok s) h = meets_alike a s r (adopt_lines s ys) (subst (λ (b : AdoptingValue). MeetsLines b r (adopt_lines b.so_far ys)) h second)

pub first_pass_err : (a : AdoptingValue) (w : ActFault) (xs ys : List (ℕ × SeenPeer)) → MeetsLines a (Err w) (adopt_lines a.so_far xs) → MeetsLines a (Err w) (adopt_lines a.so_far (xs ++ ys))
first_pass_err a w xs ys first = subst (MeetsLines a (Err w)) (sym (lines_append a.so_far xs ys)) (step w (adopt_lines a.so_far xs) first)
  where
    step : (w : ActFault) (o : Result Adoption (ℕ × Refusal)) → MeetsLines a (Err w) o → MeetsLines a (Err w) (and_then o (λ t. adopt_lines t ys))
    step fault.NoMemory o h = tt
    step (fault.Refused why) (Err e) h = h
    step (fault.Refused why) (Ok s) h = absurd h

-- ---- the command

pub adopt_err : (n : NetworkValue) (removed : List ℕ) (server : Option Key) (lines : List SeenPeer) (w : ActFault) → server_refusal n server ≡ None → MeetsLines (begun n) (Err w) (adoption_of n lines)
    → MeetsLive false None n removed (Err w) (adopt n server lines)
adopt_err n removed server lines w allowed h =
    subst (λ r. MeetsLive false None n removed (Err w) (unless r (adopted (adoption_of n lines)))) (sym allowed) (step w (adoption_of n lines) h)
  where
    step : (w : ActFault) (o : Result Adoption (ℕ × Refusal)) → MeetsLines (begun n) (Err w) o → MeetsLive false None n removed (Err w) (adopted o)
    step fault.NoMemory o h = tt
    step (fault.Refused why) (Err e) h = h
    step (fault.Refused why) (Ok s) h = absurd h

pub adopt_ok : (n : NetworkValue) (removed : List ℕ) (server : Option Key) (lines : List SeenPeer) (done : AdoptingValue) (answer : Reply × Option Change) → server_refusal n server ≡ None
    → MeetsLines (begun n) (Ok done) (adoption_of n lines) → answer.0 ≡ reply.Adopted done.so_far.added done.so_far.known → GivesChange false None done.start removed answer.1 done.so_far.network
    → MeetsLive false None n removed (Ok answer) (adopt n server lines)
adopt_ok n removed server lines done answer allowed h said gives =
    subst (λ r. MeetsLive false None n removed (Ok answer) (unless r (adopted (adoption_of n lines)))) (sym allowed) (step (adoption_of n lines) h)
  where
    step : (o : Result Adoption (ℕ × Refusal)) → MeetsLines (begun n) (Ok done) o → MeetsLive false None n removed (Ok answer) (adopted o)
    step (Err e) h = absurd h
    step (Ok s) h = (
      said ∙ ap (λ (a : AdoptingValue). reply.Adopted a.so_far.added a.so_far.known) h,
      subst (λ (a : AdoptingValue). GivesChange false None a.start removed answer.1 a.so_far.network) h gives,
    )
