-- The indexes after one more peer.
use Rattle.std.proofs.Common.{◌≡◌, ℕ, zero, suc, nat_eq, nat_lt, set, not, ◌<◌, ◌≤◌, ◌⊎◌, ◌↔◌, inl, inr, Bool, true, false, ◌||◌, cond, List, [], ◌∷◌, ◌++◌, length, get_or, map, Option, Some, None, refl, sym, ap, ◌∙◌, subst, arith}
use Rattle.std.specs.List.{All, AllPairs, filter, list_any}
use Rattle.std.specs.Cmp.Lexicographic.{same_text}
use Rattle.std.specs.HashMap.{HashMap, get}
use Rattle.std.specs.declared.hash.FoldHasher.{FoldHasher}
use Rattle.std.specs.declared.hash.BuildHasherDefault.{BuildHasherDefault}
use Rattle.std.proofs.lemmas.List.Elements.{All-head, All-tail, All-push, All-weaker}
use Rattle.std.proofs.lemmas.List.Quantifiers.{all_pairs_push}
use Rattle.std.proofs.lemmas.Cmp.{ranked}
use Rattle.std.proofs.lemmas.Bool.Decides.{nat_tests}
use Rattle.std.proofs.lemmas.Bool.{cases_lt}
use Rattle.std.specs.List.Sorted.{IsSearchInRange, IsBinarySearchResult, IsNonDecreasingBy}
use Rattle.std.specs.Ordering.{nat_cmp, ordering_index}
use Rattle.std.specs.Prelude.{Result, Ok, Err, IfOk, IfErr}
use Rattle.wgr_text.specs.declared.key.Key.{Key}
use Rattle.wgr_text.specs.declared.prefix.Span.{Span}
use Rattle.wgr_text.specs.Prefix.{AddrValue}
use Rattle.wgr_peers.specs.declared.peer.Peer.{Peer}
use Rattle.wgr_pool.specs.PrefixTests.{same_address}
use Rattle.std.specs.Prelude.{option_to_list}
use Rattle.wgr_peers.specs.Peers.{is_at, is_first, is_own, is_second, is_live, expired, expired_addresses, key_holder, peer_of, same_key, put_peer, IsNumberedBelow, AreNumbered, IsApart}
use Rattle.wgr_peers.specs.PeerIndex.{EndsFrom, HasAlso, HasSame, IsAlikeAt, IsIndexed}
use Rattle.wgr_peers.specs.Ordered.{EndsAt}
use Rattle.wgr_pool.proofs.Lists.{filter_none, AllPairs-before, AllPairs-head, AllPairs-tail}
use Rattle.wgr_pool.proofs.Bools.{decide}
use Rattle.wgr_peers.proofs.OrderedLemmas.{put_found}
use Rattle.wgr_peers.proofs.HeldLemmas.{any_push, held_push, held_same}

abbrev Numbers : Type 0
Numbers = HashMap Key ℕ (BuildHasherDefault FoldHasher)

pub same_key_is : (a b : Key) → same_key a b ≡ true → a ≡ b
same_key_is a b h = let bytes = same_text a.0 b.0 (sym h) in ap (λ (xs : List ℕ). record { 0 = xs }) bytes

pub holder_push_other : (peers : List Peer) (p : Peer) (key : Key) → same_key p.key key ≡ false → key_holder (peers ++ p ∷ []) key ≡ key_holder peers key
holder_push_other [] p key apart = ap (λ b. cond b (Some p.number) None) apart
holder_push_other (q ∷ peers) p key apart = ap (λ (o : Option ℕ). cond (same_key q.key key) (Some q.number) o) (holder_push_other peers p key apart)

pub holder_push_same : (peers : List Peer) (p : Peer) (key : Key) → same_key p.key key ≡ true → key_holder peers key ≡ None → key_holder (peers ++ p ∷ []) key ≡ Some p.number
holder_push_same [] p key same none = ap (λ b. cond b (Some p.number) None) same
holder_push_same (q ∷ peers) p key same none =
    elim (decide (same_key q.key key)) [
      | inl t ↦ let bad : Some q.number ≡ None = sym (ap (λ b. cond b (Some q.number) (key_holder peers key)) t) ∙ none in cc
      | inr f ↦
          let rest : key_holder peers key ≡ None = sym (ap (λ b. cond b (Some q.number) (key_holder peers key)) f) ∙ none in
          ap (λ b. cond b (Some q.number) (key_holder (peers ++ p ∷ []) key)) f ∙ holder_push_same peers p key same rest
    ]

pub own_push : (peers : List Peer) (p : Peer) (b : AddrValue) → is_own (peers ++ p ∷ []) b ≡ (is_own peers b || is_at p b)
own_push peers p b = any_push (λ q. is_at q b) peers p

pub ends_sooner : (high low : ℕ) (p : Peer) → low ≤ high → EndsFrom high p → EndsFrom low p
ends_sooner high low p l (inl never) = inl never
ends_sooner high low p l (inr later) = inr (omega (arith, l, later))

pub indexed_push : (peers : List Peer) (numbers numbers' : Numbers) (runs runs' seconds seconds' : List Span) (soonest soonest' : ℕ) (p : Peer)
    → IsIndexed peers numbers runs seconds soonest → All (λ q. q.number < p.number) peers → key_holder peers p.key ≡ None
    → ((q : Key) → get same_key numbers' q ≡ cond (same_key p.key q) (Some p.number) (get same_key numbers q))
    → HasAlso (is_first p) runs runs' → HasAlso (is_second p) seconds seconds'
    → soonest' ≤ soonest → EndsFrom soonest' p
    → IsIndexed (peers ++ p ∷ []) numbers' runs' seconds' soonest'
indexed_push peers numbers numbers' runs runs' seconds seconds' soonest soonest' p is above none by_key also also_second sooner ends = record {
  in_order = all_pairs_push IsNumberedBelow peers p is.in_order above;
  by_key = λ key. elim (decide (same_key p.key key)) [
    | inl same ↦
        let unheld : key_holder peers key ≡ None = subst (λ k. key_holder peers k ≡ None) (same_key_is p.key key same) none in
        by_key key ∙ ap (λ b. cond b (Some p.number) (get same_key numbers key)) same ∙ sym (holder_push_same peers p key same unheld)
    | inr apart ↦
        by_key key ∙ ap (λ b. cond b (Some p.number) (get same_key numbers key)) apart ∙ is.by_key key ∙ sym (holder_push_other peers p key apart)
  ];
  by_address = held_push is_first peers p runs runs' is.by_address also;
  by_second = held_push is_second peers p seconds seconds' is.by_second also_second;
  ends = All-push (EndsFrom soonest') peers p (All-weaker (EndsFrom soonest) (EndsFrom soonest') (λ q h. ends_sooner soonest soonest' q sooner h) peers is.ends) ends;
}

-- the same entries found anywhere
pub indexed_same : (peers peers' : List Peer) (numbers numbers' : Numbers) (runs runs' seconds seconds' : List Span) (soonest : ℕ)
    → IsIndexed peers numbers runs seconds soonest → peers' ≡ peers → ((q : Key) → get same_key numbers' q ≡ get same_key numbers q)
    → HasSame runs runs' → HasSame seconds seconds'
    → IsIndexed peers' numbers' runs' seconds' soonest
indexed_same peers peers' numbers numbers' runs runs' seconds seconds' soonest is same_peers same_keys same_runs same_seconds =
    subst (λ ps. IsIndexed ps numbers' runs' seconds' soonest) (sym same_peers) (record {
      in_order = is.in_order;
      by_key = λ key. same_keys key ∙ is.by_key key;
      by_address = held_same is_first peers runs runs' is.by_address same_runs;
      by_second = held_same is_second peers seconds seconds' is.by_second same_seconds;
      ends = is.ends;
    })

-- ---- a look-up by number

numbers_rise : (peers : List Peer) (n : ℕ) → AreNumbered peers → IsNonDecreasingBy (λ p. ordering_index (nat_cmp p.number n)) peers
numbers_rise peers n pairs = λ i j d le within.
    let up : (get_or peers i d).number ≤ (get_or peers j d).number = grind (arith, pairs i j d, λ (same : i ≡ j). ap (λ (k : ℕ). (get_or peers k d).number) same) in
    ranks_rise (get_or peers i d).number (get_or peers j d).number n up
  where
    ranks_rise : (a b n : ℕ) → a ≤ b → ordering_index (nat_cmp a n) ≤ ordering_index (nat_cmp b n)
    ranks_rise a b n le = grind (arith, nat_tests)

pub peer_absent : (peers : List Peer) (n : ℕ) → All (λ p. nat_eq p.number n ≡ false) peers → peer_of peers n ≡ None
peer_absent [] n all = refl
peer_absent (p ∷ peers) n all =
    ap (λ b. cond b (Some p) (peer_of peers n)) (All-head (λ p. nat_eq p.number n ≡ false) p peers all) ∙ peer_absent peers n (All-tail (λ p. nat_eq p.number n ≡ false) p peers all)

pub peer_present : (peers : List Peer) (n k : ℕ) (d : Peer) → AreNumbered peers → k < length peers → (get_or peers k d).number ≡ n → peer_of peers n ≡ Some (get_or peers k d)
peer_present [] n k d pairs h is = absurd (omega (arith, h))
peer_present (p ∷ peers) n zero d pairs h is = ap (λ b. cond b (Some p) (peer_of peers n)) (same p.number n is)
  where
    same : (a b : ℕ) → a ≡ b → nat_eq a b ≡ true
    same a b e = grind (arith, nat_tests)
peer_present (p ∷ peers) n (suc k) d pairs h is =
    let below = AllPairs-head IsNumberedBelow p peers pairs k d (omega (arith, h)) in
    ap (λ b. cond b (Some p) (peer_of peers n)) (apart p.number (get_or peers k d).number n below is)
    ∙ peer_present peers n k d (AllPairs-tail IsNumberedBelow p peers pairs) (omega (arith, h)) is
  where
    apart : (a b n : ℕ) → a < b → b ≡ n → nat_eq a n ≡ false
    apart a b n l e = grind (arith, nat_tests)

-- where a binary search by number ends
pub record SearchEnds (peers : List Peer) (n : ℕ) (r : Result ℕ ℕ) : Type 0 where
  pub found : IfOk r (λ at. (d : Peer) → peer_of peers n ≡ Some (get_or peers at d))
  pub absent : IfErr r (λ at. peer_of peers n ≡ None)

pub searched : (peers : List Peer) (n : ℕ) (r : Result ℕ ℕ) → AreNumbered peers → IsSearchInRange r (length peers) → IsBinarySearchResult (λ p. nat_cmp p.number n) peers r → SearchEnds peers n r
searched peers n (Ok at) pairs within equal = record { found = λ d. peer_present peers n at d pairs within (ranked _ n _ (sym (equal d))); absent = tt }
searched peers n (Err at) pairs within parted =
    let parts = parted (numbers_rise peers n pairs) in
    record {
      found = tt;
      absent = peer_absent peers n (λ k d h. elim (cases_lt k at) [
        | inl before ↦ let low = ranked _ n _ (sym (parts.0 k d (omega arith) before)) in lower (get_or peers k d).number n low
        | inr after ↦ let high = ranked _ n _ (sym (parts.1 k d after h)) in higher (get_or peers k d).number n high
      ]);
    }
  where
    lower : (a n : ℕ) → a < n → nat_eq a n ≡ false
    lower a n l = grind (arith, nat_tests)

    higher : (a n : ℕ) → n < a → nat_eq a n ≡ false
    higher a n l = grind (arith, nat_tests)

-- ---- tables of peers that are apart

pub holder_absent : (peers : List Peer) (key : Key) → All (λ q. same_key q.key key ≡ false) peers → key_holder peers key ≡ None
holder_absent [] key all = refl
holder_absent (q ∷ peers) key all =
    ap (λ b. cond b (Some q.number) (key_holder peers key)) (All-head (λ q. same_key q.key key ≡ false) q peers all) ∙ holder_absent peers key (All-tail (λ q. same_key q.key key ≡ false) q peers all)

-- a peer that stands apart from those before it has a key that none of them has
pub new_key : (peers : List Peer) (p : Peer) (more : List Peer) → AllPairs IsApart (peers ++ p ∷ more) → key_holder peers p.key ≡ None
new_key peers p more pairs =
    holder_absent peers p.key (All-weaker (λ q. IsApart q p) (λ q. same_key q.key p.key ≡ false) (λ q is. is.0) peers (AllPairs-before IsApart peers p more pairs))

-- ---- leases

live_before : (soonest now : ℕ) (p : Peer) → now < soonest → EndsFrom soonest p → not (is_live now p) ≡ false
live_before soonest now p early (inl never) = grind (arith, nat_tests)
live_before soonest now p early (inr later) = grind (arith, nat_tests)

none_over : (soonest now : ℕ) (peers : List Peer) → now < soonest → All (EndsFrom soonest) peers → filter (λ p. not (is_live now p)) peers ≡ []
none_over soonest now peers early ends =
    filter_none (λ p. not (is_live now p)) peers (All-weaker (EndsFrom soonest) (λ p. not (is_live now p) ≡ false) (λ p. live_before soonest now p early) peers ends)

pub none_expired : (soonest now : ℕ) (peers : List Peer) → now < soonest → All (EndsFrom soonest) peers → (expired now peers ≡ []) × (expired_addresses now peers ≡ [])
none_expired soonest now peers early ends =
    (ap (map (λ (p : Peer). p.number)) (none_over soonest now peers early ends), ap (map (λ (p : Peer). p.address)) (none_over soonest now peers early ends))

-- ---- a peer in the place of one of its number, key and addresses

pub keyed_ends : (peers : List Peer) (p : Peer) (at : ℕ) → AreNumbered peers → (at < length peers) → ((d : Peer) → (get_or peers at d).number ≡ p.number) → EndsAt (λ (q : Peer). nat_lt q.number p.number) (λ q. nat_eq q.number p.number) peers (Ok at)
keyed_ends peers p at pairs within number = (
  record {
    within = omega (arith, within);
    before = λ k d h. let l = pairs k at d h within in let e = number d in below (get_or peers k d).number p.number (omega (arith, l, e));
    after = λ k d h w. not_below (get_or peers k d).number p.number (elim (cases_lt at k) [
      | inl l ↦ let m = pairs at k d l w in let e = number d in omega (arith, m, e)
      | inr g ↦ let same : at ≡ k = omega (arith, g, h) in let e = number d in subst (λ (i : ℕ). p.number ≤ (get_or peers i d).number) same (omega (arith, e))
    ]);
  },
  within,
  λ d. equal (get_or peers at d).number p.number (number d),
)
  where
    below : (m n : ℕ) → m < n → nat_lt m n ≡ true
    below m n l = grind (arith, nat_tests)

    not_below : (m n : ℕ) → n ≤ m → nat_lt m n ≡ false
    not_below m n l = grind (arith, nat_tests)

    equal : (m n : ℕ) → m ≡ n → nat_eq m n ≡ true
    equal m n e = grind (arith, nat_tests)

pub alike_place : (peers : List Peer) (p : Peer) (at : ℕ) → AreNumbered peers → IsAlikeAt peers p at → put_peer peers p ≡ set peers at p
alike_place peers p at pairs alike =
    put_found (λ q. nat_lt q.number p.number) (λ q. nat_eq q.number p.number) peers p at (keyed_ends peers p at pairs alike.within alike.number)

alike_tail : (q : Peer) (peers : List Peer) (p : Peer) (at : ℕ) → IsAlikeAt (q ∷ peers) p (suc at) → IsAlikeAt peers p at
alike_tail q peers p at alike = record {
  within = omega (arith, alike.within);
  number = alike.number;
  key = alike.key;
  address = alike.address;
  second = alike.second;
}

pub alike_holder : (peers : List Peer) (p : Peer) (at : ℕ) (key : Key) → IsAlikeAt peers p at → key_holder (set peers at p) key ≡ key_holder peers key
alike_holder [] p at key alike = refl
alike_holder (q ∷ peers) p zero key alike =
    ap (λ k. cond (same_key k key) (Some p.number) (key_holder peers key)) (sym (alike.key q))
    ∙ ap (λ (n : ℕ). cond (same_key q.key key) (Some n) (key_holder peers key)) (sym (alike.number q))
alike_holder (q ∷ peers) p (suc at) key alike =
    ap (λ (o : Option ℕ). cond (same_key q.key key) (Some q.number) o) (alike_holder peers p at key (alike_tail q peers p at alike))

-- a test of the addresses passes as before
pub alike_any : (test : Peer → AddrValue → Bool) (peers : List Peer) (p : Peer) (at : ℕ) (b : AddrValue)
    → ((q : Peer) → q.address ≡ p.address → q.second ≡ p.second → test p b ≡ test q b)
    → IsAlikeAt peers p at → list_any (λ q. test q b) (set peers at p) ≡ list_any (λ q. test q b) peers
alike_any test [] p at b same alike = refl
alike_any test (q ∷ peers) p zero b same alike = ap (λ x. x || list_any (λ r. test r b) peers) (same q (alike.address q) (alike.second q))
alike_any test (q ∷ peers) p (suc at) b same alike = ap (λ x. test q b || x) (alike_any test peers p at b same (alike_tail q peers p at alike))

pub alike_own : (peers : List Peer) (p : Peer) (at : ℕ) (b : AddrValue) → IsAlikeAt peers p at → is_own (set peers at p) b ≡ is_own peers b
alike_own peers p at b alike =
    alike_any is_at peers p at b (λ q address second. ap (λ a. same_address a b || is_second p b) (sym address) ∙ ap (λ s. same_address q.address b || list_any (λ c. same_address c b) (option_to_list s)) (sym second)) alike

pub alike_first : (peers : List Peer) (p : Peer) (at : ℕ) (b : AddrValue) → IsAlikeAt peers p at → list_any (λ q. is_first q b) (set peers at p) ≡ list_any (λ q. is_first q b) peers
alike_first peers p at b alike = alike_any is_first peers p at b (λ q address second. ap (λ a. same_address a b) (sym address)) alike
