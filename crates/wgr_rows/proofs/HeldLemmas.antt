-- The spans of the holding rows are what the live network holds.
use Rattle.std.proofs.Common.{◌≡◌, ℕ, ◌-◌, ◌<◌, ◌≤◌, ◌↔◌, Bool, true, false, not, ◌&&◌, ◌||◌, ◌⊎◌, nat_eq, nat_le, nat_lt, None, Some, List, [], ◌∷◌, map, filter, inl, inr, refl, sym, ap, ap₂, subst, subst₂, ◌∙◌, arith, true≢false, eqb-true, IsPermutation}
use Rattle.std.specs.Prelude.{if◌then◌else◌, MatchOption, Option}
use Rattle.std.specs.List.{list_any}
use Rattle.std.proofs.lemmas.Bool.{cases_lt}
use Rattle.std.proofs.lemmas.Bool.Decides.{nat_tests}
use Rattle.std.proofs.lemmas.List.Elements.{recursion_from_All}
use Rattle.std.proofs.lemmas.List.Sorted.{IsPermutation-sym}
use Rattle.wgr_text.specs.declared.addr.Family.{Family}
use Rattle.wgr_text.specs.declared.prefix.Span.{Span}
use Rattle.wgr_text.specs.Prefix.{AddrValue, PrefixValue, IsAddr, IsPrefix, block, first_rank, rank, width}
use Rattle.std.proofs.lemmas.Nat.{pow_pos}
use Rattle.wgr_text.proofs.Spans.{is_in_iff}
use Rattle.wgr_pool.specs.Allot.{is_assignable}
use Rattle.wgr_pool.specs.HeldSpans.{span_of}
use Rattle.wgr_pool.specs.PrefixTests.{covers, full, has, same_address}
use Rattle.wgr_pool.specs.Spans.{IsFull, IsHeld, IsLowestFree, IsWithin}
use Rattle.wgr_pool.proofs.Bridge.{assignable_iff}
use Rattle.wgr_pool.proofs.Bools.{and_true, not_true, or_cases, or_left, or_right}
use Rattle.wgr_pool.proofs.Merging.{covers_fits, found_is, has_span}
use Rattle.wgr_pool.proofs.PrefixLemmas.{covers_full, covers_tells, has_in, is_in, same_address_is}
use Rattle.wgr_peers.specs.declared.peer.Peer.{Peer}
use Rattle.wgr_peers.specs.Peers.{expired, is_at, is_first, is_own, is_second}
use Rattle.wgr_core.specs.Network.{IsNetwork, IsRoute, NetworkValue, is_among, is_held, live_at, lowest_free, without_peers}
use Rattle.wgr_core.proofs.AllowedLemmas.{full_is_prefix}
use Rattle.wgr_core.proofs.LiveLemmas.{without_expired}
use Rattle.wgr_core.proofs.MoveLemmas.{first_agrees}
use Rattle.wgr_core.proofs.OwnerLemmas.{full_has_own}
use Rattle.wgr_model.specs.Laws.{Has}
use Rattle.wgr_model.specs.RowLaws.{AreConsistent}
use Rattle.wgr_model.specs.Rows.{AllowedRow, NetworkRow, Tables, address_row, family_number, network_entry_of, number_in, peer_id, route_row}
use Rattle.wgr_model.proofs.GatherLemmas.{eqb_self, in_filter, number_back}
use Rattle.wgr_model.proofs.HolderLemmas.{member}
use Rattle.wgr_model.proofs.RuleLemmas.{address_there, rules}
use Rattle.wgr_model.proofs.OrderLemmas.{from_filter}
use Rattle.wgr_model.proofs.SameLemmas.{at_has, has_permutation}
use Rattle.wgr_columns.specs.Stored.{IsKeptRoute}
use Rattle.wgr_tables.proofs.ArrangeLemmas.{kept_routes}
use Rattle.wgr_outline.specs.Outline.{EndsBelow, IsFloor}
use Rattle.wgr_outline.proofs.FloorLemmas.{given_above}
use Rattle.wgr_rows.specs.HeldRows.{behind, below, brief, coming, holds_in, is_hold, last_number, staying}
use Rattle.sqlite.specs.Effect.{Database}
use Rattle.wgr_columns.specs.Decode.{tables_of}
use Rattle.wgr_rows.proofs.Coming.{le_of, one_family}
use Rattle.wgr_rows.proofs.NetworkRows.{route_there, row_from}
use Rattle.wgr_rows.proofs.OwnRows.{le_is}
use Rattle.wgr_core.proofs.AloneLemmas.{at_alone}

any_has : {A : Type 0} (f : A → Bool) (xs : List A) → list_any f xs ≡ true → (x : A) × Has xs x × (f x ≡ true)
any_has f [] h = absurd (true≢false (sym h))
any_has f (x ∷ xs) h = elim (or_cases (f x) (list_any f xs) h) [ inl e ↦ (x, inl refl, e) | inr e ↦ let it = any_has f xs e in (it.0, inr it.1, it.2) ]

has_any : {A : Type 0} (f : A → Bool) (xs : List A) (a : A) → Has xs a → f a ≡ true → list_any f xs ≡ true
has_any f [] a h e = elim h [ ]
has_any f (x ∷ xs) a (inl is) e = or_left (f x) (list_any f xs) (ap f is ∙ e)
has_any f (x ∷ xs) a (inr h) e = or_right (f x) (list_any f xs) (has_any f xs a h e)

-- ---- a range of numbers, and a pool

not_shorter : (m n : ℕ) → nat_le m n ≡ not (nat_lt n m)
not_shorter m n = grind (arith, nat_tests)

module _ (network : ℕ) (pool : PrefixValue) (start : ℕ) (is : IsPrefix pool) where
  hold_covers : pool.address.number ≤ start → (a : AllowedRow) → is_hold network pool start a ≡ true → (a.network ≡ network) × (covers pool a.prefix ≡ true)
  hold_covers from a h =
      let one = and_true (nat_eq a.network network) _ h in
      let two = and_true (nat_eq (family_number a.prefix.address.family) (family_number pool.address.family)) _ one.1 in
      let three = and_true (nat_le start a.prefix.address.number) _ two.1 in
      let four = and_true (nat_le a.prefix.address.number (last_number pool)) (nat_le pool.length a.prefix.length) three.1 in
      let family = one_family a.prefix.address.family pool.address.family (eqb-true _ _ two.0) in
      let low = le_of _ _ three.0 in
      let high = le_of _ _ four.0 in
      let some = block_some pool in
      let inside = has_in pool a.prefix.address ((is_in_iff pool is a.prefix.address).1 (family, omega (arith, from, low), omega (arith, high, some))) in
      (eqb-true a.network network one.0, ap₂ (λ x y. x && y) (sym (not_shorter pool.length a.prefix.length) ∙ four.1) inside)
    where
      block_some : (p : PrefixValue) → 0 < block p.address.family p.length
      block_some p = pow_pos (width p.address.family - p.length)

  covers_hold : (a : AllowedRow) → a.network ≡ network → covers pool a.prefix ≡ true → start ≤ a.prefix.address.number → is_hold network pool start a ≡ true
  covers_hold a same c from =
      let both = and_true (not (nat_lt a.prefix.length pool.length)) (has pool a.prefix.address) c in
      let inside = (is_in_iff pool is a.prefix.address).0 (is_in pool a.prefix.address both.1) in
      let high = inside.2 in
      ap₂ (λ x y. x && y) (ap (λ m. nat_eq m network) same ∙ eqb_self network)
      (ap₂ (λ x y. x && y) (ap (λ f. nat_eq (family_number f) (family_number pool.address.family)) inside.0 ∙ eqb_self (family_number pool.address.family))
      (ap₂ (λ x y. x && y) (le_is start a.prefix.address.number from)
      (ap₂ (λ x y. x && y) (le_is a.prefix.address.number (last_number pool) (omega (arith, high))) (not_shorter pool.length a.prefix.length ∙ both.0))))

-- ---- spans that stay

module _ (ex : ℕ → Bool) (network : ℕ) where
  held_some : (rows : List AllowedRow) (b : AddrValue) → IsHeld (staying ex (map (brief true network) rows)) b → (a : AllowedRow) × Has rows a × (ex (number_in network a.peer) ≡ false) × IsWithin (span_of a.prefix) b
  held_some [] b h = elim h [ ]
  held_some (a ∷ rows) b h = go (ex (number_in network a.peer)) refl h (held_some rows b)
    where
      rest : List Span
      rest = staying ex (map (brief true network) rows)

      go : (e : Bool) → ex (number_in network a.peer) ≡ e → IsHeld (if e then rest else span_of a.prefix ∷ rest) b → (IsHeld rest b → (x : AllowedRow) × Has rows x × (ex (number_in network x.peer) ≡ false) × IsWithin (span_of x.prefix) b)
          → (x : AllowedRow) × Has (a ∷ rows) x × (ex (number_in network x.peer) ≡ false) × IsWithin (span_of x.prefix) b
      go true is h later = let it = later h in (it.0, inr it.1, it.2, it.3)
      go false is (inl within) later = (a, inl refl, is, within)
      go false is (inr h) later = let it = later h in (it.0, inr it.1, it.2, it.3)

  some_held : (rows : List AllowedRow) (a : AllowedRow) (b : AddrValue) → Has rows a → ex (number_in network a.peer) ≡ false → IsWithin (span_of a.prefix) b → IsHeld (staying ex (map (brief true network) rows)) b
  some_held [] a b h lasts within = elim h [ ]
  some_held (x ∷ rows) a b (inl is) lasts within =
      let here : ex (number_in network x.peer) ≡ false = ap (λ (y : AllowedRow). ex (number_in network y.peer)) is ∙ lasts in
      subst (λ e. IsHeld (if e then staying ex (map (brief true network) rows) else span_of x.prefix ∷ staying ex (map (brief true network) rows)) b) (sym here) (inl (subst (λ (y : AllowedRow). IsWithin (span_of y.prefix) b) (sym is) within))
  some_held (x ∷ rows) a b (inr h) lasts within = go (ex (number_in network x.peer)) (some_held rows a b h lasts within)
    where
      go : (e : Bool) → IsHeld (staying ex (map (brief true network) rows)) b → IsHeld (if e then staying ex (map (brief true network) rows) else span_of x.prefix ∷ staying ex (map (brief true network) rows)) b
      go true later = later
      go false later = inr later

-- ---- the addresses below the start

abbrev pub is_below : PrefixValue → AddrValue → AddrValue → Bool
is_below pool start b = nat_le (rank pool.address) (rank b) && nat_lt (rank b) (rank start)

below_is : (pool : PrefixValue) (start b : AddrValue) → rank pool.address ≤ rank b → rank b < rank start → is_below pool start b ≡ true
below_is pool start b from low = ap₂ (λ x y. x && y) (le_is (rank pool.address) (rank b) from) (lt_is (rank b) (rank start) low)
  where
    lt_is : (m k : ℕ) → m < k → nat_lt m k ≡ true
    lt_is m k h = grind (arith, nat_tests)

is_below_is : (pool : PrefixValue) (start b : AddrValue) → is_below pool start b ≡ true → (rank pool.address ≤ rank b) × (rank b < rank start)
is_below_is pool start b h = let both = and_true (nat_le (rank pool.address) (rank b)) (nat_lt (rank b) (rank start)) h in (le_of _ _ both.0, lt_of (rank b) (rank start) both.1)
  where
    lt_of : (m k : ℕ) → nat_lt m k ≡ true → m < k
    lt_of m k h = grind (arith, nat_tests)

held_below : (pool : PrefixValue) (start b : AddrValue) (spans : List Span) → start.family ≡ pool.address.family → pool.address.number ≤ start.number → IsHeld (behind (below pool start) spans) b ↔ ((is_below pool start b ≡ true) ⊎ IsHeld spans b)
held_below pool start b spans family from = go (nat_lt pool.address.number start.number) refl
  where
    run : Span
    run = record { lo = pool.address; hi = record start { number = start.number - 1 } }

    go : (some : Bool) → nat_lt pool.address.number start.number ≡ some → IsHeld (behind (if some then Some run else None) spans) b ↔ ((is_below pool start b ≡ true) ⊎ IsHeld spans b)
    go true e =
        let low : pool.address.number < start.number = grind (arith, nat_tests, e) in (
          elim [ inl within ↦ inl (below_is pool start b within.0 (omega (arith, within.1, low))) | inr rest ↦ inr rest ],
          elim [ inl h ↦ let it = is_below_is pool start b h in inl (it.0, omega (arith, it.1, low)) | inr rest ↦ inr rest ],
        )
    go false e =
        let high : start.number ≤ pool.address.number = grind (arith, nat_tests, e) in
        let first = ap first_rank family in (
          (λ h. inr h),
          elim [ inl h ↦ let it = is_below_is pool start b h in absurd (omega (arith, it.0, it.1, high, first)) | inr rest ↦ rest ],
        )

-- ---- the rows of a network

module _ (t : Tables) (is : AreConsistent t) (w : NetworkRow) (hw : Has t.networks w) where
  abbrev n : NetworkValue
  n = (network_entry_of t w).network

  own_rules : IsNetwork n
  own_rules = rules t is w hw

  masked : (r : PrefixValue × ℕ) → Has n.routes r → IsAddr r.0.address × IsPrefix r.0
  masked r hr = (at_has (IsRoute n) n.routes r (recursion_from_All (IsRoute n) n.routes own_rules.routes) hr).masked

  pool_has : (v : Peer) → Has n.peers v → has w.pool v.address ≡ true
  pool_has v hv = has_in w.pool v.address ((assignable_iff w.pool v.address own_rules.pool).0 (member n v own_rules hv).assignable).in_pool

  pool_covers : (v : Peer) → Has n.peers v → covers w.pool (full v.address) ≡ true
  pool_covers v hv =
      let h = pool_has v hv in
      let family = (is_in w.pool v.address h).0 in
      let long = own_rules.pool.1.0 in
      covers_full w.pool v.address (subst (λ (f : Family). w.pool.length ≤ width f) (sym family) long) h

  own_fits : (v : Peer) → Has n.peers v → IsAddr v.address
  own_fits v hv = covers_fits w.pool (full v.address) own_rules.pool.1 own_rules.pool.0 (pool_covers v hv)

  -- the prefix of a row of the network, and the number of the peer to which it leads
  pub masked_row : (a : AllowedRow) → Has t.allowed a → a.network ≡ w.id → IsAddr a.prefix.address × IsPrefix a.prefix
  masked_row a h e = elim (row_from t is w hw a h e) [
    | inl x ↦ subst (λ (b : AllowedRow). IsAddr b.prefix.address × IsPrefix b.prefix) x.2 (own_fits x.0 x.1, full_is_prefix x.0.address)
    | inr x ↦ subst (λ (b : AllowedRow). IsAddr b.prefix.address × IsPrefix b.prefix) x.2 (masked x.0 x.1)
  ]

  pub leads_to : (a : AllowedRow) → Has t.allowed a → a.network ≡ w.id → (number : ℕ) × (number < 4294967296) × (a.peer ≡ peer_id w.id number)
  leads_to a h e = elim (row_from t is w hw a h e) [
    | inl x ↦ let m = member n x.0 own_rules x.1 in (x.0.number, omega (arith, m.numbered.1, own_rules.next.1), ap (λ (b : AllowedRow). b.peer) (sym x.2))
    | inr x ↦ (x.0.1, (at_has IsKeptRoute n.routes x.0 (kept_routes n own_rules) x.1).peer, ap (λ (b : AllowedRow). b.peer) (sym x.2))
  ]

  module _ (now : ℕ) (ex : ℕ → Bool) (tells : (i : ℕ) → ex i ≡ is_among (expired now n.peers) i) (start : AddrValue) (family : start.family ≡ w.pool.address.family) (from : w.pool.address.number ≤ start.number) (floor : IsFloor (live_at n now) start.number)
      (rows : List AllowedRow) (same : IsPermutation (filter (is_hold w.id w.pool start.number) t.allowed) rows) (b : AddrValue) (fits : IsAddr b) where
    abbrev removed : List ℕ
    removed = expired now n.peers

    abbrev in_route : PrefixValue × ℕ → Bool
    in_route r = covers w.pool r.0 && has r.0 b

    abbrev left : NetworkValue
    left = without_peers n removed

    abbrev spans : List Span
    spans = staying ex (map (brief true w.id) rows)

    stays : (i : ℕ) → ex i ≡ false → not (is_among removed i) ≡ true
    stays i e = ap not (sym (tells i) ∙ e)

    lasts : (i : ℕ) → not (is_among removed i) ≡ true → ex i ≡ false
    lasts i e = tells i ∙ not_true (is_among removed i) e

    to_held : IsHeld spans b → is_held left left.pool b ≡ true
    to_held h =
        let q = is_hold w.id w.pool start.number in
        let a = held_some ex w.id rows b h in
        let it = from_filter q t.allowed a.0 (has_permutation rows (filter q t.allowed) a.0 (IsPermutation-sym _ _ same) a.1) in
        let hold = hold_covers w.id w.pool start.number own_rules.pool.1 from a.0 it.1 in
        elim (row_from t is w hw a.0 it.0 hold.0) [
          | inl x ↦
              let v = x.0 in
              let number : number_in w.id a.0.peer ≡ v.number = ap (λ (y : AllowedRow). number_in w.id y.peer) (sym x.2) ∙ number_back w.id v.number in
              let within = subst (λ (y : AllowedRow). IsWithin (span_of y.prefix) b) (sym x.2) a.3 in
              let own : same_address v.address b ≡ true = sym (full_has_own v.address b) ∙ (has_span (full v.address) b (full_is_prefix v.address) (own_fits v x.1) fits).1 within in
              let keeps = stays v.number (ap ex (sym number) ∙ a.2) in
              or_left (is_own left.peers b) (list_any in_route left.routes) (has_any (λ p. is_at p b) left.peers v (in_filter (λ p. not (is_among removed p.number)) n.peers v x.1 keeps) (or_left (is_first v b) (is_second v b) own))
          | inr x ↦
              let r = x.0 in
              let number : number_in w.id a.0.peer ≡ r.1 = ap (λ (y : AllowedRow). number_in w.id y.peer) (sym x.2) ∙ number_back w.id r.1 in
              let within = subst (λ (y : AllowedRow). IsWithin (span_of y.prefix) b) (sym x.2) a.3 in
              let good = masked r x.1 in
              let inside : has r.0 b ≡ true = (has_span r.0 b good.1 good.0 fits).1 within in
              let covered : covers w.pool r.0 ≡ true = ap (λ (y : AllowedRow). covers w.pool y.prefix) x.2 ∙ hold.1 in
              let keeps = stays r.1 (ap ex (sym number) ∙ a.2) in
              or_right (is_own left.peers b) (list_any in_route left.routes) (has_any in_route left.routes r (in_filter (λ q. not (is_among removed q.1)) n.routes r x.1 keeps) (ap₂ (λ x y. x && y) covered inside))
        ]

    put : (a : AllowedRow) → Has t.allowed a → a.network ≡ w.id → covers w.pool a.prefix ≡ true → start.number ≤ a.prefix.address.number → ex (number_in w.id a.peer) ≡ false → IsWithin (span_of a.prefix) b → IsHeld spans b
    put a ha own covered above last within =
        let q = is_hold w.id w.pool start.number in
        some_held ex w.id rows a b (has_permutation (filter q t.allowed) rows a same (in_filter q t.allowed a ha (covers_hold w.id w.pool start.number own_rules.pool.1 a own covered above))) last within

    -- an address of the pool below the start
    beneath : has w.pool b ≡ true → b.number < start.number → is_below w.pool start b ≡ true
    beneath inside low =
        let place = (is_in_iff w.pool own_rules.pool.1 b).0 (is_in w.pool b inside) in
        let one = ap first_rank place.0 in
        let two = ap first_rank family in
        below_is w.pool start b (omega (arith, place.1, one)) (omega (arith, low, one, two))

    floor_left : IsFloor left start.number
    floor_left = subst (λ (m : NetworkValue). IsFloor m start.number) (sym (without_expired n now own_rules)) floor

    -- what is held has a row from the start on, or lies below it
    of_held : is_held left left.pool b ≡ true → (is_below w.pool start b ≡ true) ⊎ IsHeld spans b
    of_held h = elim (or_cases (is_own left.peers b) (list_any in_route left.routes) h) [
      | inl own ↦
          let x = any_has (λ p. is_at p b) left.peers own in
          let it = from_filter (λ p. not (is_among removed p.number)) n.peers x.0 x.1 in
          let first : same_address x.0.address b ≡ true = sym (at_alone x.0 b (member n x.0 own_rules it.0).alone) ∙ x.2 in
          let at : x.0.address ≡ b = same_address_is x.0.address b first in
          elim (cases_lt b.number start.number) [
            | inl low ↦ inl (beneath (ap (has w.pool) (sym at) ∙ pool_has x.0 it.0) low)
            | inr high ↦
                let last = ap ex (number_back w.id x.0.number) ∙ lasts x.0.number it.1 in
                let within = (has_span (full x.0.address) b (full_is_prefix x.0.address) (own_fits x.0 it.0) fits).0 (full_has_own x.0.address b ∙ first) in
                inr (put (address_row w.id x.0) (address_there t is w x.0 hw it.0) refl (pool_covers x.0 it.0) (subst (λ (a : AddrValue). start.number ≤ a.number) (sym at) high) last within)
          ]
      | inr routed ↦
          let x = any_has in_route left.routes routed in
          let it = from_filter (λ q. not (is_among removed q.1)) n.routes x.0 x.1 in
          let both = and_true (covers w.pool x.0.0) (has x.0.0 b) x.2 in
          let good = masked x.0 it.0 in
          elim (cases_lt x.0.0.address.number start.number) [
            | inl low ↦
                let ends = at_has (EndsBelow w.pool start.number) left.routes x.0 (recursion_from_All (EndsBelow w.pool start.number) left.routes floor_left.routes) x.1 both.0 low in
                let place = (is_in_iff x.0.0 good.1 b).0 (is_in x.0.0 b both.1) in
                inl (beneath (has_in w.pool b ((covers_tells w.pool x.0.0 own_rules.pool.1 good.1 good.0).1 both.0 b fits (is_in x.0.0 b both.1))) (omega (arith, place.2, ends)))
            | inr high ↦
                let last = ap ex (number_back w.id x.0.1) ∙ lasts x.0.1 it.1 in
                inr (put (route_row w.id x.0) (route_there t is w hw x.0 it.0) refl both.0 high last ((has_span x.0.0 b good.1 good.0 fits).0 both.1))
          ]
    ]

    -- the spans have just the addresses below the start and those that the live network holds
    pub holds_are_held : (is_below w.pool start b || is_held (live_at n now) n.pool b ≡ true) ↔ IsHeld (behind (below w.pool start) spans) b
    holds_are_held = subst (λ (m : NetworkValue). (is_below w.pool start b || is_held m m.pool b ≡ true) ↔ IsHeld (behind (below w.pool start) spans) b) (without_expired n now own_rules) (
      (λ h. elim (or_cases (is_below w.pool start b) (is_held left left.pool b) h) [ inl low ↦ below_held.1 (inl low) | inr held ↦ below_held.1 (of_held held) ]),
      (λ h. elim (below_held.0 h) [ inl low ↦ or_left (is_below w.pool start b) (is_held left left.pool b) low | inr rest ↦ or_right (is_below w.pool start b) (is_held left left.pool b) (to_held rest) ]),
    )
      where
        below_held : IsHeld (behind (below w.pool start) spans) b ↔ ((is_below w.pool start b ≡ true) ⊎ IsHeld spans b)
        below_held = held_below w.pool start b spans family from

-- rows that don't show their peers have the same spans, where no peer is expired
staying_as : (shows_peers : Bool) (ex : ℕ → Bool) → (shows_peers ≡ false → (i : ℕ) → ex i ≡ false) → (network : ℕ) (rows : List AllowedRow) → staying ex (map (brief shows_peers network) rows) ≡ staying ex (map (brief true network) rows)
staying_as true ex none network rows = refl
staying_as false ex none network [] = refl
staying_as false ex none network (a ∷ rows) =
    let rest = staying ex (map (brief true network) rows) in
    ap (λ l. span_of a.prefix ∷ l) (staying_as false ex none network rows) ∙ ap (λ b. if b then rest else span_of a.prefix ∷ rest) (sym (none refl (number_in network a.peer)))

-- what is lowest of the free addresses by the rows is so of the live network
lowest_is : (shows_peers : Bool) (t : Tables) (is : AreConsistent t) (w : NetworkRow) (hw : Has t.networks w) (now : ℕ) (ex : ℕ → Bool) → (shows_peers ≡ false → (i : ℕ) → ex i ≡ false) → ((i : ℕ) → ex i ≡ is_among (expired now (network_entry_of t w).network.peers) i)
    → (start : AddrValue) → start.family ≡ w.pool.address.family → w.pool.address.number ≤ start.number → IsFloor (live_at (network_entry_of t w).network now) start.number
    → IsPermutation (filter (is_hold w.id w.pool start.number) t.allowed) (holds_in t w.id w.pool start.number) → (o : Option AddrValue)
    → MatchOption o (IsFull w.pool (coming shows_peers ex t w.id w.pool start)) (IsLowestFree w.pool (coming shows_peers ex t w.id w.pool start)) → o ≡ lowest_free (live_at (network_entry_of t w).network now) w.pool
lowest_is shows_peers t is w hw now ex none tells start family from floor same o found =
    let m = live_at (network_entry_of t w).network now in
    let rows = holds_in t w.id w.pool start.number in
    let all = behind (below w.pool start) (staying ex (map (brief true w.id) rows)) in
    let taken : AddrValue → Bool = λ b. is_below w.pool start b || is_held m m.pool b in
    let found' = subst (λ l. MatchOption o (IsFull w.pool (behind (below w.pool start) l)) (IsLowestFree w.pool (behind (below w.pool start) l))) (staying_as shows_peers ex none w.id rows) found in
    found_is w.pool taken all o (rules t is w hw).pool (λ b fits. holds_are_held t is w hw now ex tells start family from floor rows same b fits) found'
    ∙ first_agrees w.pool.address.family (λ b. is_assignable w.pool b && not (taken b)) (λ b. is_assignable w.pool b && not (is_held m m.pool b)) w.pool.address.number (block w.pool.address.family w.pool.length) (λ b. alike b (is_assignable w.pool b) refl (is_below w.pool start b) refl)
  where
    -- what may be given below the start is held
    alike : (b : AddrValue) (given : Bool) → is_assignable w.pool b ≡ given → (low : Bool) → is_below w.pool start b ≡ low → (given && not (low || is_held (live_at (network_entry_of t w).network now) w.pool b)) ≡ (given && not (is_held (live_at (network_entry_of t w).network now) w.pool b))
    alike b false g low l = refl
    alike b true g false l = refl
    alike b true g true l =
        let it = is_below_is w.pool start b l in
        let place = given_above w.pool b g in
        let one = ap first_rank (place.0 ∙ sym family) in
        sym (ap not (floor.held b g (omega (arith, it.1, one))))

pub lowest_at : (shows_peers : Bool) (ex : ℕ → Bool) → (shows_peers ≡ false → (i : ℕ) → ex i ≡ false) → (shown db : Database) → shown ≡ db → (network : ℕ) (p pool : PrefixValue) → p ≡ pool → (w : NetworkRow) → w.id ≡ network → w.pool ≡ pool → (is : AreConsistent (tables_of db)) → Has (tables_of db).networks w → (now : ℕ)
    → ((i : ℕ) → ex i ≡ is_among (expired now (network_entry_of (tables_of db) w).network.peers) i)
    → (start : AddrValue) → start.family ≡ p.address.family → p.address.number ≤ start.number → IsFloor (live_at (network_entry_of (tables_of db) w).network now) start.number
    → IsPermutation (filter (is_hold network p start.number) (tables_of shown).allowed) (holds_in (tables_of shown) network p start.number) → (o : Option AddrValue)
    → MatchOption o (IsFull pool (coming shows_peers ex (tables_of db) network pool start)) (IsLowestFree pool (coming shows_peers ex (tables_of db) network pool start)) → o ≡ lowest_free (live_at (network_entry_of (tables_of db) w).network now) w.pool
lowest_at shows_peers ex none shown db shows network p pool same w id is_pool is here now tells start family from floor moved o found =
    let n = start.number in
    let moved' = subst (λ (d : Database). IsPermutation (filter (is_hold network p n) (tables_of d).allowed) (holds_in (tables_of d) network p n)) shows moved in
    let t = tables_of db in
    let own : p ≡ w.pool = same ∙ sym is_pool in
    let moved'' : IsPermutation (filter (is_hold w.id w.pool n) t.allowed) (holds_in t w.id w.pool n) = subst₂ (λ i q. IsPermutation (filter (is_hold i q n) t.allowed) (holds_in t i q n)) (sym id) own moved' in
    let found' = subst₂ (λ i q. MatchOption o (IsFull q (coming shows_peers ex t i q start)) (IsLowestFree q (coming shows_peers ex t i q start))) (sym id) (sym is_pool) found in
    lowest_is shows_peers t is w here now ex none tells start (family ∙ ap (λ (q : PrefixValue). q.address.family) own) (subst (λ (q : PrefixValue). q.address.number ≤ n) own from) floor moved'' o found'
