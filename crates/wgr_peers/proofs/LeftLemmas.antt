-- Who holds a key or an address among the peers that are left.
use Rattle.std.proofs.Common.{◌≡◌, ℕ, ◌<◌, ◌↔◌, inl, inr, Bool, true, false, not, ◌&&◌, ◌||◌, cond, nat_eq, get_or, List, [], ◌∷◌, ◌++◌, Option, Some, None, is_some, refl, sym, ap, ◌∙◌, subst, arith}
use Rattle.std.specs.List.{All, AllPairs, filter, list_any}
use Rattle.std.proofs.lemmas.List.Elements.{All-head, All-tail}
use Rattle.std.proofs.lemmas.List.Folds.{list_any-append}
use Rattle.wgr_text.specs.declared.key.Key.{Key}
use Rattle.wgr_text.specs.declared.prefix.Span.{Span}
use Rattle.wgr_text.specs.Prefix.{AddrValue}
use Rattle.wgr_peers.specs.declared.peer.Peer.{Peer}
use Rattle.wgr_peers.specs.Peers.{key_holder, peer_of, same_key, IsNumberedBelow, AreNumbered, AreApart}
use Rattle.std.specs.Prelude.{IfSome}
use Rattle.wgr_peers.specs.PeerIndex.{HasAllBut, HasThose}
use Rattle.wgr_peers.specs.PeersLeft.{peers_left, HasItsPlaces}
use Rattle.wgr_pool.proofs.Lists.{AllPairs-head, AllPairs-tail}
use Rattle.wgr_pool.proofs.Bools.{decide}
use Rattle.wgr_pool.proofs.PrefixLemmas.{nat_eq_is, nat_eq_self}
use Rattle.wgr_peers.proofs.HeldLemmas.{held_alike, held_but}
use Rattle.wgr_peers.proofs.PeerLemmas.{peer_is, AtMostOne}
use Rattle.wgr_peers.proofs.IndexLemmas.{key_apart}

-- ---- the first peer that passes a test, by number

abbrev first : (Peer → Bool) → List Peer → Option ℕ
first q [] = None
first q (p ∷ peers) = cond (q p) (Some p.number) (first q peers)

-- that number, if it stays
abbrev staying : (ℕ → Bool) → Option ℕ → Option ℕ
staying stays None = None
staying stays (Some n) = cond (stays n) (Some n) None

first_none : (q : Peer → Bool) (peers : List Peer) → All (λ p. q p ≡ false) peers → first q peers ≡ None
first_none q [] all = refl
first_none q (p ∷ peers) all =
    ap (λ b. cond b (Some p.number) (first q peers)) (All-head (λ p. q p ≡ false) p peers all) ∙ first_none q peers (All-tail (λ p. q p ≡ false) p peers all)

first_left : (q : Peer → Bool) (stays : ℕ → Bool) (peers : List Peer) → AtMostOne q peers → first q (filter (λ p. stays p.number) peers) ≡ staying stays (first q peers)
first_left q stays [] one = refl
first_left q stays (p ∷ peers) one =
    by (q p) (stays p.number) refl refl (first_left q stays peers (AllPairs-tail (λ x y. q x ≡ true → q y ≡ false) p peers one))
  where
    left : List Peer
    left = filter (λ (p : Peer). stays p.number) peers

    by : (b c : Bool) → q p ≡ b → stays p.number ≡ c → first q left ≡ staying stays (first q peers) → first q (cond c (p ∷ left) left) ≡ staying stays (cond b (Some p.number) (first q peers))
    by true true s t rest = ap (λ b. cond b (Some p.number) (first q left)) s ∙ sym (ap (λ c. cond c (Some p.number) None) t)
    by true false s t rest =
        let none : first q peers ≡ None = first_none q peers (λ k d l. AllPairs-head (λ x y. q x ≡ true → q y ≡ false) p peers one k d l s) in
        rest ∙ ap (staying stays) none ∙ sym (ap (λ c. cond c (Some p.number) None) t)
    by false true s t rest = ap (λ b. cond b (Some p.number) (first q left)) s ∙ rest
    by false false s t rest = rest

first_above : (q : Peer → Bool) (m : ℕ) (peers : List Peer) (i : ℕ) → All (λ p. m < p.number) peers → first q peers ≡ Some i → m < i
first_above q m [] i all h = cc
first_above q m (p ∷ peers) i all h = by (q p) (first_above q m peers i (All-tail (λ p. m < p.number) p peers all)) h
  where
    by : (b : Bool) → (first q peers ≡ Some i → m < i) → cond b (Some p.number) (first q peers) ≡ Some i → m < i
    by true later h = let e : p.number ≡ i = cc in let l = All-head (λ p. m < p.number) p peers all in omega (arith, l, e)
    by false later h = later h

-- the peer of a number that passes is the first one, and no other peer is where it doesn't
first_at : (q : Peer → Bool) (peers : List Peer) (m : ℕ) (p : Peer) → AtMostOne q peers → peer_of peers m ≡ Some p → q p ≡ true → first q peers ≡ Some m
first_at q [] m p one found passes = cc
first_at q (x ∷ peers) m p one found passes = elim (decide (nat_eq x.number m)) [
  | inl here ↦
      let some : Some x ≡ Some p = sym (ap (λ b. cond b (Some x) (peer_of peers m)) here) ∙ found in
      let is : x ≡ p = cc in
      ap (λ b. cond b (Some x.number) (first q peers)) (ap q is ∙ passes) ∙ ap Some (nat_eq_is x.number m here)
  | inr apart ↦
      let later = sym (ap (λ b. cond b (Some x) (peer_of peers m)) apart) ∙ found in
      elim (decide (q x)) [
        | inl too ↦
            let bad : true ≡ false = sym passes ∙ (peer_is (λ (y : Peer). q x ≡ true → q y ≡ false) peers m p (AllPairs-head (λ x y. q x ≡ true → q y ≡ false) x peers one) later).0 too in cc
        | inr other ↦
            ap (λ b. cond b (Some x.number) (first q peers)) other ∙ first_at q peers m p (AllPairs-tail (λ x y. q x ≡ true → q y ≡ false) x peers one) later passes
      ]
]

first_not : (q : Peer → Bool) (peers : List Peer) (m : ℕ) (p : Peer) → AreNumbered peers → peer_of peers m ≡ Some p → q p ≡ false → first q peers ≡ Some m → ⊥
first_not q [] m p numbered found fails h = cc
first_not q (x ∷ peers) m p numbered found fails h = elim (decide (nat_eq x.number m)) [
  | inl here ↦
      let some : Some x ≡ Some p = sym (ap (λ b. cond b (Some x) (peer_of peers m)) here) ∙ found in
      let is : x ≡ p = cc in
      let later = sym (ap (λ b. cond b (Some x.number) (first q peers)) (ap q is ∙ fails)) ∙ h in
      let above = first_above q x.number peers m (AllPairs-head IsNumberedBelow x peers numbered) later in
      let same = nat_eq_is x.number m here in
      omega (arith, above, same)
  | inr apart ↦
      let later = sym (ap (λ b. cond b (Some x) (peer_of peers m)) apart) ∙ found in
      elim (decide (q x)) [
        | inl here ↦
            let some : Some x.number ≡ Some m = sym (ap (λ b. cond b (Some x.number) (first q peers)) here) ∙ h in
            let same : x.number ≡ m = cc in
            let bad : true ≡ false = sym (nat_eq_self m) ∙ sym (ap (λ (n : ℕ). nat_eq n m) same) ∙ apart in cc
        | inr other ↦
            first_not q peers m p (AllPairs-tail IsNumberedBelow x peers numbered) later fails (sym (ap (λ b. cond b (Some x.number) (first q peers)) other) ∙ h)
      ]
]

first_there : (q : Peer → Bool) (peers : List Peer) (m : ℕ) → peer_of peers m ≡ None → first q peers ≡ Some m → ⊥
first_there q [] m none h = cc
first_there q (x ∷ peers) m none h = elim (decide (nat_eq x.number m)) [
  | inl here ↦ let bad : Some x ≡ None = sym (ap (λ b. cond b (Some x) (peer_of peers m)) here) ∙ none in cc
  | inr apart ↦
      let later = sym (ap (λ b. cond b (Some x) (peer_of peers m)) apart) ∙ none in
      elim (decide (q x)) [
        | inl here ↦
            let some : Some x.number ≡ Some m = sym (ap (λ b. cond b (Some x.number) (first q peers)) here) ∙ h in
            let same : x.number ≡ m = cc in
            let bad : true ≡ false = sym (nat_eq_self m) ∙ sym (ap (λ (n : ℕ). nat_eq n m) same) ∙ apart in cc
        | inr other ↦ first_there q peers m later (sym (ap (λ b. cond b (Some x.number) (first q peers)) other) ∙ h)
      ]
]

-- ---- one number more that goes

-- whether a number stays where these go
abbrev stays : List ℕ → ℕ → Bool
stays gone n = not (list_any (nat_eq n) gone)

stays_more : (gone : List ℕ) (m n : ℕ) → stays (gone ++ m ∷ []) n ≡ (stays gone n && not (nat_eq n m))
stays_more gone m n = ap not (list_any-append (nat_eq n) gone (m ∷ [])) ∙ neither (list_any (nat_eq n) gone) (nat_eq n m)
  where
    neither : (a b : Bool) → not (a || (b || false)) ≡ (not a && not b)
    neither true b = refl
    neither false true = refl
    neither false false = refl

goes_now : (gone : List ℕ) (m : ℕ) → stays (gone ++ m ∷ []) m ≡ false
goes_now gone m = stays_more gone m m ∙ ap (λ b. stays gone m && not b) (nat_eq_self m) ∙ last (stays gone m)
  where
    last : (c : Bool) → (c && false) ≡ false
    last true = refl
    last false = refl

stays_other : (gone : List ℕ) (m n : ℕ) → (n ≡ m → ⊥) → stays (gone ++ m ∷ []) n ≡ stays gone n
stays_other gone m n other = stays_more gone m n ∙ ap (λ b. stays gone n && not b) (apart (nat_eq n m) refl) ∙ last (stays gone n)
  where
    apart : (b : Bool) → nat_eq n m ≡ b → nat_eq n m ≡ false
    apart true e = absurd (other (nat_eq_is n m e))
    apart false e = e

    last : (c : Bool) → (c && true) ≡ c
    last true = refl
    last false = refl

other_stays : (gone : List ℕ) (m : ℕ) (o : Option ℕ) → (o ≡ Some m → ⊥) → staying (stays (gone ++ m ∷ [])) o ≡ staying (stays gone) o
other_stays gone m None other = refl
other_stays gone m (Some n) other = ap (λ b. cond b (Some n) None) (stays_other gone m n (λ e. other (ap Some e)))

without_found : (q : Peer → Bool) (peers : List Peer) (gone : List ℕ) (m : ℕ) (p : Peer) → AreNumbered peers → AtMostOne q peers → peer_of peers m ≡ Some p
    → first q (peers_left peers (gone ++ m ∷ [])) ≡ cond (q p) None (first q (peers_left peers gone))
without_found q peers gone m p numbered one found =
    first_left q (stays (gone ++ m ∷ [])) peers one
    ∙ by (q p) refl
    ∙ ap (λ (o : Option ℕ). cond (q p) None o) (sym (first_left q (stays gone) peers one))
  where
    by : (b : Bool) → q p ≡ b → staying (stays (gone ++ m ∷ [])) (first q peers) ≡ cond (q p) None (staying (stays gone) (first q peers))
    by true s =
        ap (staying (stays (gone ++ m ∷ []))) (first_at q peers m p one found s)
        ∙ ap (λ b. cond b (Some m) None) (goes_now gone m)
        ∙ sym (ap (λ b. cond b None (staying (stays gone) (first q peers))) s)
    by false s =
        other_stays gone m (first q peers) (first_not q peers m p numbered found s)
        ∙ sym (ap (λ b. cond b None (staying (stays gone) (first q peers))) s)

without_absent : (q : Peer → Bool) (peers : List Peer) (gone : List ℕ) (m : ℕ) → AtMostOne q peers → peer_of peers m ≡ None
    → first q (peers_left peers (gone ++ m ∷ [])) ≡ first q (peers_left peers gone)
without_absent q peers gone m one none =
    first_left q (stays (gone ++ m ∷ [])) peers one
    ∙ other_stays gone m (first q peers) (first_there q peers m none)
    ∙ sym (first_left q (stays gone) peers one)

-- ---- keys

abbrev has_key : Key → Peer → Bool
has_key key p = same_key p.key key

key_first : (peers : List Peer) (key : Key) → key_holder peers key ≡ first (has_key key) peers
key_first [] key = refl
key_first (p ∷ peers) key = ap (λ (o : Option ℕ). cond (same_key p.key key) (Some p.number) o) (key_first peers key)

one_key : (peers : List Peer) (key : Key) → AreApart peers → AtMostOne (has_key key) peers
one_key peers key apart = λ i j d l h s. key_apart (get_or peers i d) (get_or peers j d) key (apart i j d l h) s

pub holder_without : (peers : List Peer) (gone : List ℕ) (m : ℕ) (p : Peer) (key : Key) → AreNumbered peers → AreApart peers → peer_of peers m ≡ Some p
    → key_holder (peers_left peers (gone ++ m ∷ [])) key ≡ cond (same_key p.key key) None (key_holder (peers_left peers gone) key)
holder_without peers gone m p key numbered apart found =
    key_first (peers_left peers (gone ++ m ∷ [])) key
    ∙ without_found (has_key key) peers gone m p numbered (one_key peers key apart) found
    ∙ ap (λ (o : Option ℕ). cond (same_key p.key key) None o) (sym (key_first (peers_left peers gone) key))

-- a key stays where its peer does
pub holder_left : (peers : List Peer) (gone : List ℕ) (n : ℕ) (key : Key) → AreApart peers → key_holder peers key ≡ Some n → list_any (nat_eq n) gone ≡ false
    → key_holder (peers_left peers gone) key ≡ Some n
holder_left peers gone n key apart holds stays_in =
    key_first (peers_left peers gone) key
    ∙ first_left (has_key key) (stays gone) peers (one_key peers key apart)
    ∙ ap (staying (stays gone)) (sym (key_first peers key) ∙ holds)
    ∙ ap (λ b. cond (not b) (Some n) None) stays_in

-- a peer that stands holds its key
pub holds_own : (peers : List Peer) (n : ℕ) (p : Peer) (key : Key) → AreApart peers → peer_of peers n ≡ Some p → same_key p.key key ≡ true → key_holder peers key ≡ Some n
holds_own peers n p key apart found mine = key_first peers key ∙ first_at (has_key key) peers n p (one_key peers key apart) found mine

-- who holds a key stands at its number and has the key
pub keyed_by : (peers : List Peer) (n : ℕ) (key : Key) → AreNumbered peers → key_holder peers key ≡ Some n → (p : Peer) × (peer_of peers n ≡ Some p) × (same_key p.key key ≡ true)
keyed_by [] n key numbered h = cc
keyed_by (x ∷ peers) n key numbered h = elim (decide (same_key x.key key)) [
  | inl mine ↦
      let some : Some x.number ≡ Some n = sym (ap (λ b. cond b (Some x.number) (key_holder peers key)) mine) ∙ h in
      let is : x.number ≡ n = cc in
      (x, ap (λ b. cond b (Some x) (peer_of peers n)) (sym (ap (nat_eq x.number) is) ∙ nat_eq_self x.number), mine)
  | inr other ↦
      let rest = keyed_by peers n key (AllPairs-tail IsNumberedBelow x peers numbered) (sym (ap (λ b. cond b (Some x.number) (key_holder peers key)) other) ∙ h) in
      let above = peer_is (λ (q : Peer). x.number < q.number) peers n rest.0 (AllPairs-head IsNumberedBelow x peers numbered) rest.1 in
      (rest.0, ap (λ b. cond b (Some x) (peer_of peers n)) (apart x.number n (omega (arith, above.0, above.1))) ∙ rest.1, rest.2)
]
  where
    apart : (a b : ℕ) → a < b → nat_eq a b ≡ false
    apart a b l = elim (decide (nat_eq a b)) [
      | inl same ↦ let e = nat_eq_is a b same in absurd (omega (arith, l, e))
      | inr other ↦ other
    ]

pub holder_absent_too : (peers : List Peer) (gone : List ℕ) (m : ℕ) (key : Key) → AreApart peers → peer_of peers m ≡ None
    → key_holder (peers_left peers (gone ++ m ∷ [])) key ≡ key_holder (peers_left peers gone) key
holder_absent_too peers gone m key apart none =
    key_first (peers_left peers (gone ++ m ∷ [])) key
    ∙ without_absent (has_key key) peers gone m (one_key peers key apart) none
    ∙ sym (key_first (peers_left peers gone) key)

-- ---- tests

any_first : (q : Peer → Bool) (peers : List Peer) → list_any q peers ≡ is_some (first q peers)
any_first q [] = refl
any_first q (p ∷ peers) = by (q p) (any_first q peers)
  where
    by : (c : Bool) → list_any q peers ≡ is_some (first q peers) → (c || list_any q peers) ≡ is_some (cond c (Some p.number) (first q peers))
    by true rest = refl
    by false rest = rest

any_without_more : (q : Peer → Bool) (peers : List Peer) (gone : List ℕ) (m : ℕ) (p : Peer) → AreNumbered peers → AtMostOne q peers → peer_of peers m ≡ Some p
    → list_any q (peers_left peers (gone ++ m ∷ [])) ≡ cond (q p) false (list_any q (peers_left peers gone))
any_without_more q peers gone m p numbered one found =
    any_first q (peers_left peers (gone ++ m ∷ []))
    ∙ ap is_some (without_found q peers gone m p numbered one found)
    ∙ by (q p)
    ∙ ap (λ c. cond (q p) false c) (sym (any_first q (peers_left peers gone)))
  where
    by : (c : Bool) → is_some (cond c None (first q (peers_left peers gone))) ≡ cond c false (is_some (first q (peers_left peers gone)))
    by true = refl
    by false = refl

any_absent_too : (q : Peer → Bool) (peers : List Peer) (gone : List ℕ) (m : ℕ) → AtMostOne q peers → peer_of peers m ≡ None
    → list_any q (peers_left peers (gone ++ m ∷ [])) ≡ list_any q (peers_left peers gone)
any_absent_too q peers gone m one none =
    any_first q (peers_left peers (gone ++ m ∷ []))
    ∙ ap is_some (without_absent q peers gone m one none)
    ∙ sym (any_first q (peers_left peers gone))

-- the runs without the addresses of one peer more
pub held_without : (test : Peer → AddrValue → Bool) (peers : List Peer) (gone : List ℕ) (m : ℕ) (p : Peer) (runs runs' : List Span) → AreNumbered peers → ((b : AddrValue) → AtMostOne (λ q. test q b) peers) → peer_of peers m ≡ Some p
    → HasThose test (peers_left peers gone) runs → HasAllBut (test p) runs runs' → HasThose test (peers_left peers (gone ++ m ∷ [])) runs'
held_without test peers gone m p runs runs' numbered one found =
    held_but test (peers_left peers gone) (peers_left peers (gone ++ m ∷ [])) p runs runs' (λ b. any_without_more (λ q. test q b) peers gone m p numbered (one b) found)

-- the same runs where nobody has the number
pub held_absent_too : (test : Peer → AddrValue → Bool) (peers : List Peer) (gone : List ℕ) (m : ℕ) (runs : List Span) → ((b : AddrValue) → AtMostOne (λ q. test q b) peers) → peer_of peers m ≡ None
    → HasThose test (peers_left peers gone) runs → HasThose test (peers_left peers (gone ++ m ∷ [])) runs
held_absent_too test peers gone m runs one none =
    held_alike test (peers_left peers gone) (peers_left peers (gone ++ m ∷ [])) runs (λ b. any_absent_too (λ q. test q b) peers gone m (one b) none)

-- ---- peers

-- the peer of a number that stays
pub peer_left : (peers : List Peer) (gone : List ℕ) (n : ℕ) → list_any (nat_eq n) gone ≡ false → peer_of (peers_left peers gone) n ≡ peer_of peers n
peer_left [] gone n stays_in = refl
peer_left (p ∷ peers) gone n stays_in = by (nat_eq p.number n) (list_any (nat_eq p.number) gone) refl refl (peer_left peers gone n stays_in)
  where
    by : (b c : Bool) → nat_eq p.number n ≡ b → list_any (nat_eq p.number) gone ≡ c → peer_of (peers_left peers gone) n ≡ peer_of peers n
        → peer_of (cond (not c) (p ∷ peers_left peers gone) (peers_left peers gone)) n ≡ cond b (Some p) (peer_of peers n)
    by true true s t rest = let bad : true ≡ false = sym t ∙ ap (λ (m : ℕ). list_any (nat_eq m) gone) (nat_eq_is p.number n s) ∙ stays_in in cc
    by true false s t rest = ap (λ b. cond b (Some p) (peer_of (peers_left peers gone) n)) s
    by false true s t rest = rest
    by false false s t rest = ap (λ b. cond b (Some p) (peer_of (peers_left peers gone) n)) s ∙ rest

-- a peer that stays has its places where the others have gone
pub places_left : (peers : List Peer) (gone : List ℕ) (p : Peer) → list_any (nat_eq p.number) gone ≡ false → HasItsPlaces peers p → HasItsPlaces (peers_left peers gone) p
places_left peers gone p stays_in has = λ second. subst (λ o. IfSome o (λ q. is_some q.second ≡ true)) (sym (peer_left peers gone p.number stays_in)) (has second)
