-- A peer in the place of the one of its number, which goes before it comes.
use Rattle.std.proofs.Common.{◌≡◌, ℕ, zero, suc, ◌<◌, ◌≤◌, ◌⊎◌, ◌↔◌, inl, inr, Bool, true, false, not, ◌&&◌, ◌||◌, cond, nat_eq, nat_lt, List, [], ◌∷◌, ◌++◌, length, get_or, Option, Some, Err, refl, sym, ap, ◌∙◌, subst, arith}
use Rattle.std.specs.List.{All, AllPairs, list_any, insert}
use Rattle.std.specs.HashMap.{HashMap, get}
use Rattle.std.specs.declared.hash.FoldHasher.{FoldHasher}
use Rattle.std.specs.declared.hash.BuildHasherDefault.{BuildHasherDefault}
use Rattle.std.proofs.lemmas.Bool.{cases_order}
use Rattle.std.proofs.lemmas.Bool.Decides.{nat_tests}
use Rattle.std.proofs.lemmas.Cmp.{nat_eq_equiv}
use Rattle.std.proofs.lemmas.List.Edits.{get_or-insert_at}
use Rattle.std.proofs.lemmas.List.Elements.{All-cons, All-head, All-tail, All-weaker}
use Rattle.wgr_text.specs.declared.key.Key.{Key}
use Rattle.wgr_text.specs.declared.prefix.Span.{Span}
use Rattle.wgr_peers.specs.declared.peer.Peer.{Peer}
use Rattle.wgr_peers.specs.Ordered.{EndsAt}
use Rattle.wgr_peers.specs.Peers.{is_first, is_second, key_holder, put_peer, same_key, without_peer, IsNumberedBelow, AreNumbered, IsApart, AreApart}
use Rattle.wgr_peers.specs.PeerIndex.{EndsFrom, HasAlso, HasThose, IsIndexed}
use Rattle.wgr_peers.specs.PeersLeft.{peers_left}
use Rattle.wgr_pool.proofs.Lists.{AllPairs-filter, AllPairs-head, AllPairs-tail, filter_each, filter_twice}
use Rattle.wgr_pool.proofs.PrefixLemmas.{nat_eq_is}
use Rattle.wgr_peers.proofs.OrderedLemmas.{put_above, put_absent, put_pairs}
use Rattle.wgr_peers.proofs.HeldLemmas.{any_insert, held_also}
use Rattle.wgr_peers.proofs.PeerLemmas.{apart_turn}
use Rattle.wgr_peers.proofs.PlaceLemmas.{peers_placed}
use Rattle.wgr_peers.proofs.IndexLemmas.{key_apart}

abbrev Numbers : Type 0
Numbers = HashMap Key ℕ (BuildHasherDefault FoldHasher)

-- ---- the list

is_less : (m n : ℕ) → m < n → nat_lt m n ≡ true
is_less m n l = grind (arith, nat_tests)

not_less : (m n : ℕ) → n ≤ m → nat_lt m n ≡ false
not_less m n l = grind (arith, nat_tests)

not_same : (m n : ℕ) → ((m ≡ n) → ⊥) → nat_eq m n ≡ false
not_same m n l = grind (arith, nat_tests)

is_same : (m n : ℕ) → m ≡ n → nat_eq m n ≡ true
is_same m n e = grind (arith, nat_tests)

put_first : (peers : List Peer) (p : Peer) → All (λ q. p.number < q.number) peers → put_peer peers p ≡ p ∷ peers
put_first [] p all = refl
put_first (q ∷ peers) p all =
    let above = All-head (λ q. p.number < q.number) q peers all in
    ap (λ b. cond b (q ∷ put_peer peers p) (cond (nat_eq q.number p.number) (p ∷ peers) (p ∷ q ∷ peers))) (not_less q.number p.number (omega (arith, above)))
    ∙ ap (λ b. cond b (p ∷ peers) (p ∷ q ∷ peers)) (not_same q.number p.number (λ e. omega (arith, above, e)))

-- a peer above all others comes last
pub put_last : (peers : List Peer) (p : Peer) → All (λ q. q.number < p.number) peers → put_peer peers p ≡ peers ++ p ∷ []
put_last peers p below =
    put_above (λ q. nat_lt q.number p.number) (λ q. nat_eq q.number p.number) peers p (All-weaker (λ q. q.number < p.number) (λ q. nat_lt q.number p.number ≡ true) (λ q l. is_less q.number p.number l) peers below)

none_at : (n : ℕ) (peers : List Peer) → All (λ q. n < q.number) peers → without_peer peers n ≡ peers
none_at n peers all = filter_each (λ (q : Peer). not (nat_eq q.number n)) peers (λ k d h. ap not (not_same (get_or peers k d).number n (λ e. let above = all k d h in omega (arith, above, e))))

-- who comes at a number needs nobody there
put_again : (peers : List Peer) (p : Peer) → AreNumbered peers → put_peer peers p ≡ put_peer (without_peer peers p.number) p
put_again [] p numbered = refl
put_again (q ∷ peers) p numbered =
    let n = p.number in
    let m = q.number in
    let later = AllPairs-head IsNumberedBelow q peers numbered in
    let rest = put_again peers p (AllPairs-tail IsNumberedBelow q peers numbered) in
    let put = λ (b c : Bool) (ps : List Peer). cond b (q ∷ put_peer ps p) (cond c (p ∷ ps) (p ∷ q ∷ ps)) in
    let kept = λ (c : Bool). put_peer (cond (not c) (q ∷ without_peer peers n) (without_peer peers n)) p in
    elim (cases_order m n) [
      | inl same ↦
          let above : All (λ (r : Peer). n < r.number) peers = λ k d h. let l = later k d h in omega (arith, l, same) in
          ap (λ b. put b (nat_eq m n) peers) (not_less m n (omega (arith, same)))
          ∙ ap (λ c. put false c peers) (is_same m n same)
          ∙ sym (put_first peers p above)
          ∙ ap (λ (ps : List Peer). put_peer ps p) (sym (none_at n peers above))
          ∙ sym (ap kept (is_same m n same))
      | inr apart ↦ elim apart [
        | inl less ↦
            let other = not_same m n (λ e. omega (arith, less, e)) in
            ap (λ b. put b (nat_eq m n) peers) (is_less m n less)
            ∙ ap (λ (ps : List Peer). q ∷ ps) rest
            ∙ sym (ap (λ b. put b (nat_eq m n) (without_peer peers n)) (is_less m n less))
            ∙ sym (ap kept other)
        | inr more ↦
            let above : All (λ (r : Peer). n < r.number) peers = λ k d h. let l = later k d h in omega (arith, l, more) in
            let other = not_same m n (λ e. omega (arith, more, e)) in
            put_first (q ∷ peers) p (All-cons (λ (r : Peer). n < r.number) q peers more above)
            ∙ sym (put_first (q ∷ peers) p (All-cons (λ (r : Peer). n < r.number) q peers more above))
            ∙ ap (λ (ps : List Peer). put_peer (q ∷ ps) p) (sym (none_at n peers above))
            ∙ sym (ap kept other)
      ]
    ]

left_one_more : (peers : List Peer) (gone gone' : List ℕ) (m : ℕ) → ((n : ℕ) → list_any (nat_eq n) gone' ≡ cond (nat_eq m n) true (list_any (nat_eq n) gone))
    → peers_left peers gone' ≡ without_peer (peers_left peers gone) m
left_one_more peers gone gone' m more =
    filter_twice (λ (p : Peer). not (list_any (nat_eq p.number) gone)) (λ p. not (nat_eq p.number m)) (λ p. not (list_any (nat_eq p.number) gone')) (λ p.
    ap not (more p.number) ∙ neither (list_any (nat_eq p.number) gone) (nat_eq m p.number) ∙ ap (λ b. not (list_any (nat_eq p.number) gone) && not b) (nat_eq_equiv.symm m p.number)) peers
  where
    neither : (a b : Bool) → not (cond b true a) ≡ (not a && not b)
    neither true true = refl
    neither true false = refl
    neither false true = refl
    neither false false = refl

-- the peer put among those that are left without its number, among those that are left
pub exchanged : (peers seen rest : List Peer) (gone gone' : List ℕ) (p : Peer) (at : ℕ) → AreNumbered peers → peers ≡ seen → rest ≡ peers_left peers gone'
    → ((n : ℕ) → list_any (nat_eq n) gone' ≡ cond (nat_eq p.number n) true (list_any (nat_eq n) gone))
    → EndsAt (λ (q : Peer). nat_lt q.number p.number) (λ q. nat_eq q.number p.number) rest (Err at)
    → insert rest at p ≡ put_peer (peers_left seen gone) p
exchanged peers seen rest gone gone' p at numbered same left more ends =
    sym (put_absent (λ (q : Peer). nat_lt q.number p.number) (λ q. nat_eq q.number p.number) rest p at ends)
    ∙ ap (λ (ps : List Peer). put_peer ps p) (left ∙ left_one_more peers gone gone' p.number more)
    ∙ sym (put_again (peers_left peers gone) p (AllPairs-filter IsNumberedBelow (λ q. not (list_any (nat_eq q.number) gone)) peers numbered))
    ∙ ap (λ (ps : List Peer). put_peer (peers_left ps gone) p) same

-- a number that goes is nobody's afterwards
pub none_left : (peers : List Peer) (gone : List ℕ) (m : ℕ) → list_any (nat_eq m) gone ≡ true → All (λ q. nat_eq q.number m ≡ false) (peers_left peers gone)
none_left [] gone m goes = λ k d h. absurd (omega (arith, h))
none_left (q ∷ peers) gone m goes =
    by (list_any (nat_eq q.number) gone) (nat_eq q.number m) refl refl (none_left peers gone m goes)
  where
    by : (b c : Bool) → list_any (nat_eq q.number) gone ≡ b → nat_eq q.number m ≡ c → All (λ q. nat_eq q.number m ≡ false) (peers_left peers gone) → All (λ q. nat_eq q.number m ≡ false) (cond (not b) (q ∷ peers_left peers gone) (peers_left peers gone))
    by true c s t rest = rest
    by false true s t rest = let bad : false ≡ true = sym s ∙ ap (λ (n : ℕ). list_any (nat_eq n) gone) (nat_eq_is q.number m t) ∙ goes in cc
    by false false s t rest = All-cons (λ q. nat_eq q.number m ≡ false) q (peers_left peers gone) t rest

-- where none goes, all are left
pub none_gone : (peers : List Peer) (gone : List ℕ) → ((n : ℕ) → list_any (nat_eq n) gone ≡ false) → peers_left peers gone ≡ peers
none_gone peers gone none = filter_each (λ (p : Peer). not (list_any (nat_eq p.number) gone)) peers (λ k d h. ap not (none (get_or peers k d).number))

-- ---- the indexes

apart_others : (peers : List Peer) (p : Peer) (at : ℕ) → at ≤ length peers → AreApart (insert peers at p) → All (λ q. IsApart q p) peers
apart_others [] p at l pairs = λ k d h. absurd (omega (arith, h))
apart_others (q ∷ peers) p zero l pairs = λ k d h. apart_turn p (get_or (q ∷ peers) k d) (AllPairs-head IsApart p (q ∷ peers) pairs k d h)
apart_others (q ∷ peers) p (suc at) l pairs =
    let within : at ≤ length peers = omega (arith, l) in
    All-cons (λ q. IsApart q p) q peers
    (subst (IsApart q) (get_or-insert_at peers at p p within) (AllPairs-head IsApart q (insert peers at p) pairs at p (inside peers at within)))
    (apart_others peers p at within (AllPairs-tail IsApart q (insert peers at p) pairs))
  where
    inside : (ps : List Peer) (at : ℕ) → at ≤ length ps → at < length (insert ps at p)
    inside [] zero l = omega arith
    inside [] (suc at) l = absurd (omega (arith, l))
    inside (r ∷ ps) zero l = omega arith
    inside (r ∷ ps) (suc at) l = let rest = inside ps at (omega (arith, l)) in omega (arith, rest)

holder_insert : (peers : List Peer) (p : Peer) (at : ℕ) (key : Key) → at ≤ length peers → All (λ q. IsApart q p) peers
    → key_holder (insert peers at p) key ≡ cond (same_key p.key key) (Some p.number) (key_holder peers key)
holder_insert [] p zero key l apart = refl
holder_insert [] p (suc at) key l apart = absurd (omega (arith, l))
holder_insert (q ∷ peers) p zero key l apart = refl
holder_insert (q ∷ peers) p (suc at) key l apart =
    ap (λ (o : Option ℕ). cond (same_key q.key key) (Some q.number) o) (holder_insert peers p at key (omega (arith, l)) (All-tail (λ q. IsApart q p) q peers apart))
    ∙ swap (same_key q.key key) (same_key p.key key) (key_holder peers key) (key_apart q p key (All-head (λ q. IsApart q p) q peers apart))
  where
    swap : (x y : Bool) (o : Option ℕ) → (x ≡ true → y ≡ false) → cond x (Some q.number) (cond y (Some p.number) o) ≡ cond y (Some p.number) (cond x (Some q.number) o)
    swap true y o h = sym (ap (λ b. cond b (Some p.number) (Some q.number)) (h refl))
    swap false y o h = refl

pub indexed_insert : (peers : List Peer) (numbers numbers' : Numbers) (runs runs' seconds seconds' : List Span) (soonest : ℕ) (p : Peer) (at : ℕ)
    → AreNumbered peers → EndsAt (λ (q : Peer). nat_lt q.number p.number) (λ q. nat_eq q.number p.number) peers (Err at) → AreApart (insert peers at p)
    → ((key : Key) → get same_key numbers key ≡ key_holder peers key) → ((key : Key) → get same_key numbers' key ≡ cond (same_key p.key key) (Some p.number) (get same_key numbers key))
    → HasThose is_first peers runs → HasAlso (is_first p) runs runs' → HasThose is_second peers seconds → HasAlso (is_second p) seconds seconds'
    → All (EndsFrom soonest) (insert peers at p)
    → IsIndexed (insert peers at p) numbers' runs' seconds' soonest
indexed_insert peers numbers numbers' runs runs' seconds seconds' soonest p at numbered ends apart by_key keys held also held_second also_second all_end =
    let placed = put_absent (λ (q : Peer). nat_lt q.number p.number) (λ q. nat_eq q.number p.number) peers p at ends in
    let others = apart_others peers p at ends.0.within apart in
    record {
      in_order = subst (AllPairs IsNumberedBelow) placed (put_pairs IsNumberedBelow (λ q. Unit {0}) (λ q. nat_lt q.number p.number) (λ q. nat_eq q.number p.number) peers p (peers_placed p) (λ k d h. tt) numbered);
      by_key = λ key. keys key ∙ ap (λ (o : Option ℕ). cond (same_key p.key key) (Some p.number) o) (by_key key) ∙ sym (holder_insert peers p at key ends.0.within others);
      by_address = held_also is_first peers (insert peers at p) p runs runs' (λ b. any_insert (λ q. is_first q b) peers p at ends.0.within) held also;
      by_second = held_also is_second peers (insert peers at p) p seconds seconds' (λ b. any_insert (λ q. is_second q b) peers p at ends.0.within) held_second also_second;
      ends = all_end;
    }
