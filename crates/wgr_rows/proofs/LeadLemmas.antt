-- To which live peer a prefix leads, by its row and the row of its peer.
use Rattle.std.proofs.Common.{◌≡◌, ◌<◌, ◌≤◌, ◌⊎◌, ℕ, pos, Bool, true, false, not, ◌&&◌, ◌||◌, cond, nat_eq, List, [], ◌∷◌, ◌++◌, map, filter, length, Some, None, is_some, inl, inr, refl, sym, ap, ap₂, subst, ◌∙◌, arith, true≢false, eqb-true}
use Rattle.std.proofs.lemmas.List.Elements.{recursion_from_All}
use Rattle.std.proofs.lemmas.List.Sorted.{IsPermutation-sym}
use Rattle.sqlite.specs.declared.types.Value.TheVariants.{Int}
use Rattle.sqlite.specs.Order.{Row}
use Rattle.wgr_text.specs.Prefix.{AddrValue, PrefixValue, width}
use Rattle.wgr_pool.specs.Allot.{is_assignable}
use Rattle.wgr_pool.specs.PrefixTests.{full, same_address, same_prefix}
use Rattle.wgr_pool.proofs.Bools.{and_true, decide}
use Rattle.wgr_pool.proofs.PrefixLemmas.{nat_eq_self, same_address_is, same_prefix_is}
use Rattle.wgr_peers.specs.declared.peer.Peer.{Peer}
use Rattle.wgr_peers.specs.Limits.{IsLeaseEnd, is_expired}
use Rattle.wgr_peers.specs.Peers.{is_first, is_live}
use Rattle.wgr_peers.specs.Routes.{Routes, route_of}
use Rattle.wgr_core.specs.Forms.{IsPeerFormed}
use Rattle.wgr_core.specs.Network.{AreAlone, IsNetwork, NetworkValue, live_at}
use Rattle.wgr_core.specs.Refusals.{is_address_taken}
use Rattle.wgr_core.specs.Owner.{allowed, own_prefixes}
use Rattle.wgr_model.specs.Laws.{Has}
use Rattle.wgr_model.specs.RowLaws.{AreConsistent}
use Rattle.wgr_model.specs.Rows.{AllowedRow, NetworkRow, PeerRow, Tables, allowed_key, network_entry_of, ids_per_network, number_in, peer_id, peer_row, same_allowed, same_pair}
use Rattle.wgr_model.proofs.GatherLemmas.{eqb_self, in_filter}
use Rattle.wgr_model.proofs.OrderLemmas.{from_filter}
use Rattle.wgr_model.proofs.RuleLemmas.{network_entry, peer_there, rules}
use Rattle.wgr_model.proofs.SameLemmas.{at_has, has_permutation}
use Rattle.wgr_columns.specs.Decode.{AreNatural, allowed_in, number_at, peer_in}
use Rattle.wgr_tables.proofs.FewRows.{few_rows}
use Rattle.wgr_rows.specs.Holder.{HasEnd, HasLead, IsLasting, IsLed, ShowPeer, ShowPrefix, is_allowed, prefix_holder}
use Rattle.wgr_rows.proofs.NetworkRows.{entry_live, entry_peer, entry_row, id_tells, live_entry, low, one_peer, row_entry}
use Rattle.wgr_rows.proofs.OwnRows.{few_peers, pair_self, peer_key}
use Rattle.std.specs.List.{list_any}
use Rattle.wgr_core.proofs.AloneLemmas.{own_alone}

-- ---- to which number a prefix leads

pub no_lead : (es : Routes) (p : PrefixValue) → ((e : PrefixValue × ℕ) → Has es e → same_prefix e.0 p ≡ false) → route_of es p ≡ None
no_lead [] p none = refl
no_lead (e ∷ es) p none = ap (λ b. cond b (Some e.1) (route_of es p)) (none e (inl refl)) ∙ no_lead es p (λ f h. none f (inr h))

one_lead : (es : Routes) (p : PrefixValue) (e : PrefixValue × ℕ) (number : ℕ) → Has es e → same_prefix e.0 p ≡ true → ((f : PrefixValue × ℕ) → Has es f → same_prefix f.0 p ≡ true → f.1 ≡ number) → route_of es p ≡ Some number
one_lead [] p e number h is only = elim h [ ]
one_lead (f ∷ es) p e number h is only = go (same_prefix f.0 p) refl h (λ k. one_lead es p e number k is (λ x hx. only x (inr hx)))
  where
    go : (b : Bool) → same_prefix f.0 p ≡ b → (f ≡ e) ⊎ Has es e → (Has es e → route_of es p ≡ Some number) → cond b (Some f.1) (route_of es p) ≡ Some number
    go true s k later = ap Some (only f (inl refl) s)
    go false s (inl same) later = absurd (true≢false (sym is ∙ ap (λ (x : PrefixValue × ℕ). same_prefix x.0 p) (sym same) ∙ s))
    go false s (inr k) later = later k

-- where a prefix leads nowhere, none of the entries is it
pub not_led : (es : Routes) (p : PrefixValue) (e : PrefixValue × ℕ) → route_of es p ≡ None → Has es e → same_prefix e.0 p ≡ false
not_led [] p e none h = elim h [ ]
not_led (f ∷ es) p e none h = go (same_prefix f.0 p) refl none h (not_led es p e)
  where
    go : (b : Bool) → same_prefix f.0 p ≡ b → cond b (Some f.1) (route_of es p) ≡ None → (f ≡ e) ⊎ Has es e → (route_of es p ≡ None → Has es e → same_prefix e.0 p ≡ false) → same_prefix e.0 p ≡ false
    go true s led k later = absurd cc
    go false s led (inl same) later = ap (λ (x : PrefixValue × ℕ). same_prefix x.0 p) (sym same) ∙ s
    go false s led (inr k) later = later led k

-- ---- addresses at full length

full_same : (e a : AddrValue) → same_prefix (full e) (full a) ≡ same_address e a
full_same e a = go (same_address e a) refl
  where
    go : (b : Bool) → same_address e a ≡ b → (b && nat_eq (width e.family) (width a.family)) ≡ b
    go true h = ap (λ (x : AddrValue). nat_eq (width x.family) (width a.family)) (same_address_is e a h) ∙ nat_eq_self (width a.family)
    go false h = refl

full_among : (peers : List Peer) (routes : Routes) (a : AddrValue) → is_some (route_of (own_prefixes peers ++ routes) (full a)) ≡ (list_any (λ p. is_first p a) peers || is_some (route_of routes (full a)))
full_among [] routes a = refl
full_among (p ∷ peers) routes a = go (same_prefix (full p.address) (full a)) (same_address p.address a) (full_same p.address a) (full_among peers routes a)
  where
    go : (x y : Bool) → x ≡ y → is_some (route_of (own_prefixes peers ++ routes) (full a)) ≡ (list_any (λ p. is_first p a) peers || is_some (route_of routes (full a)))
        → is_some (cond x (Some p.number) (route_of (own_prefixes peers ++ routes) (full a))) ≡ ((y || list_any (λ (q : Peer). is_first q a) peers) || is_some (route_of routes (full a)))
    go true true same later = refl
    go false false same later = later
    go true false same later = absurd (true≢false same)
    go false true same later = absurd (true≢false (sym same))

-- an address is a peer's own or at full length a route exactly where that prefix leads to somebody
pub full_held : (n : NetworkValue) (a : AddrValue) → AreAlone n.peers → is_some (prefix_holder n (full a)) ≡ is_address_taken n a
full_held n a alone = full_among n.peers n.routes a ∙ ap (λ b. b || is_some (route_of n.routes (full a))) (sym (own_alone n.peers a alone))

-- ---- by the rows

prefix_keys : (network : ℕ) (p : PrefixValue) (a b : AllowedRow) → is_allowed network p a ≡ true → is_allowed network p b ≡ true → same_allowed (allowed_key a) (allowed_key b) ≡ true
prefix_keys network p a b x y =
    let one = and_true (nat_eq a.network network) (same_prefix a.prefix p) x in
    let two = and_true (nat_eq b.network network) (same_prefix b.prefix p) y in
    let networks : a.network ≡ b.network = eqb-true a.network network one.0 ∙ sym (eqb-true b.network network two.0) in
    let prefixes : a.prefix ≡ b.prefix = same_prefix_is a.prefix p one.1 ∙ sym (same_prefix_is b.prefix p two.1) in
    let key = allowed_key b in
    ap₂ (λ i q. same_allowed (allowed_key (record a { network = i; prefix = q })) (allowed_key b)) networks prefixes
    ∙ ap₂ (λ u v. u && v) (ap₂ (λ u v. u && v) (ap₂ (λ u v. u && v) (eqb_self key.0) (eqb_self key.1)) (eqb_self key.2)) (eqb_self key.3)

module _ (t : Tables) (is : AreConsistent t) (w : NetworkRow) (hw : Has t.networks w) (p : PrefixValue) (rows : List Row) (shown : ShowPrefix w.id p t rows) where
  abbrev n : NetworkValue
  n = (network_entry_of t w).network

  abbrev q : AllowedRow → Bool
  q = is_allowed w.id p

  -- the row of an entry of the prefix is shown
  row_shown : (e : PrefixValue × ℕ) → Has (allowed n) e → same_prefix e.0 p ≡ true → (a : AllowedRow) × Has (map allowed_in rows) a × (a.peer ≡ peer_id w.id e.1)
  row_shown e h same =
      let it = entry_row t is w hw e h in
      let passes : q it.0 ≡ true = ap₂ (λ x y. x && y) (ap (λ i. nat_eq i w.id) it.2.0 ∙ eqb_self w.id) (ap (λ r. same_prefix r p) it.2.1 ∙ same) in
      (it.0, has_permutation (filter q t.allowed) (map allowed_in rows) it.0 shown (in_filter q t.allowed it.0 it.1 passes), it.2.2)

  -- where no row is shown, the prefix leads nowhere
  pub nobody : (now : ℕ) → rows ≡ [] → prefix_holder (live_at n now) p ≡ None
  nobody now none = no_lead (allowed (live_at n now)) p (λ e h. elim (decide (same_prefix e.0 p)) [
    | inl same ↦ let it = row_shown e (live_entry n (rules t is w hw) now e h).0 same in elim (subst (λ l. Has (map allowed_in l) it.0) none it.1) [ ]
    | inr other ↦ other
  ])

  module _ (r : Row) (one : rows ≡ r ∷ []) where
    -- the entry of the one row
    entry : (e : PrefixValue × ℕ) × Has (allowed n) e × (same_prefix e.0 p ≡ true) × (number_at r 6 ≡ peer_id w.id e.1)
    entry =
        let a = allowed_in r in
        let it = from_filter q t.allowed a (has_permutation (map allowed_in rows) (filter q t.allowed) a (IsPermutation-sym _ _ shown) (subst (λ l. Has (map allowed_in l) a) (sym one) (inl refl))) in
        let both = and_true (nat_eq a.network w.id) (same_prefix a.prefix p) it.1 in
        let e = row_entry t is w hw a it.0 (eqb-true a.network w.id both.0) in
        (e.0, e.1, ap (λ x. same_prefix x p) (sym e.2.1) ∙ both.1, e.2.2)

    -- its peer
    entry_leads : (v : Peer) × Has n.peers v × (number_at r 6 ≡ peer_id w.id v.number)
    entry_leads = let v = entry_peer n (rules t is w hw) entry.0 entry.1 in (v.0, v.1, entry.3 ∙ ap (peer_id w.id) (sym v.2))

    -- all entries of the prefix lead to its number
    only_one : (e : PrefixValue × ℕ) → Has (allowed n) e → same_prefix e.0 p ≡ true → peer_id w.id e.1 ≡ number_at r 6
    only_one e h same =
        let it = row_shown e h same in
        elim (subst (λ l. Has (map allowed_in l) it.0) one it.1) [
          | inl is_here ↦ sym (ap (λ (x : AllowedRow). x.peer) is_here ∙ it.2)
          | inr none ↦ elim none [ ]
        ]

  -- the row's number is read
  pub has_lead : AreNatural (6 ∷ []) rows → HasLead rows w.id
  has_lead numbers = go rows refl
    where
      short : length rows ≤ 1
      short = few_rows allowed_in q t.allowed rows shown same_allowed allowed_key is.rows.keyed.allowed_keys (prefix_keys w.id p)

      go : (l : List Row) → rows ≡ l → HasLead l w.id
      go [] same = tt
      go (r ∷ []) same =
          let v = entry_leads r same in
          let small = low t is w hw w hw v.0 v.1 in
          (v.0.number, omega (arith, small), subst (λ l. AreNatural (6 ∷ []) l) same numbers r (inl refl) 6 (inl refl) ∙ ap (λ i. Int (pos i)) v.2)
      go (r ∷ s ∷ more) same = absurd (let l = subst (λ l. length l ≤ 1) same short in omega (arith, l))

  -- ---- the peer's row

  module _ (number : ℕ) (led : IsLed rows w.id (Some number)) (others : List Row) (told : ShowPeer (peer_id w.id number) t others) where
    abbrev id : ℕ
    id = peer_id w.id number

    abbrev at_id : PeerRow → Bool
    at_id x = nat_eq x.id id

    leader : (v : Peer) × Has n.peers v × (v.number ≡ number)
    leader = let v = entry_leads led.0 led.1 in (v.0, v.1, let a = v.2 in omega (arith, a, led.2))

    hers_shown : Has (map peer_in others) (peer_row w.id leader.0)
    hers_shown = has_permutation (filter at_id t.peers) (map peer_in others) (peer_row w.id leader.0) told
        (in_filter at_id t.peers (peer_row w.id leader.0) (peer_there t is w leader.0 hw leader.1) (ap (λ i. nat_eq (peer_id w.id i) id) leader.2 ∙ eqb_self id))

    until_is : (r : Row) → others ≡ r ∷ [] → number_at r 5 ≡ leader.0.until
    until_is r single = elim (subst (λ l. Has (map peer_in l) (peer_row w.id leader.0)) single hers_shown) [
      | inl same ↦ ap (λ (x : PeerRow). x.until) same
      | inr none ↦ elim none [ ]
    ]

    small : number < ids_per_network
    small = subst (λ i. i < ids_per_network) leader.2 (low t is w hw w hw leader.0 leader.1)

    key_is : (x : PeerRow) → Has (filter at_id t.peers) x → peer_key x ≡ (w.id, number_in w.id id)
    key_is x h =
        let it = from_filter at_id t.peers x h in
        let same : x.id ≡ id = eqb-true x.id id it.1 in
        let network : x.network ≡ w.id = id_tells t is w hw x it.0 number small same in
        λ k. (network k, number_in (network k) (same k))

    few_others : length others ≤ 1
    few_others = few_peers t is at_id others told (λ a b ha hb. ap₂ same_pair (key_is a ha) (key_is b hb) ∙ pair_self (w.id, number_in w.id id))

    pub has_end : AreNatural (5 ∷ []) others → HasEnd others
    has_end numbers = go others refl
      where
        go : (l : List Row) → others ≡ l → HasEnd l
        go [] same = elim (subst (λ l. Has (map peer_in l) (peer_row w.id leader.0)) same hers_shown) [ ]
        go (r ∷ []) same =
            let formed = at_has IsPeerFormed n.peers leader.0 (recursion_from_All IsPeerFormed n.peers (network_entry t is w hw).forms.1) leader.1 in
            (subst (λ l. AreNatural (5 ∷ []) l) same numbers r (inl refl) 5 (inl refl), subst IsLeaseEnd (sym (until_is r same)) formed.until)
        go (r ∷ s ∷ more) same = absurd (let l = subst (λ l. length l ≤ 1) same few_others in omega (arith, l))

    -- the prefix leads to the peer of the row, if it is live
    pub somebody : (now : ℕ) (lasts : Bool) → IsLasting others now lasts → prefix_holder (live_at n now) p ≡ cond lasts (Some number) None
    somebody now lasts (r, single, is_lasting) = go lasts (is_lasting ∙ ap (λ u. not (is_expired now u)) (until_is r single))
      where
        kept : IsNetwork n
        kept = rules t is w hw

        e : (e : PrefixValue × ℕ) × Has (allowed n) e × (same_prefix e.0 p ≡ true) × (number_at led.0 6 ≡ peer_id w.id e.1)
        e = entry led.0 led.1

        to_her : (f : PrefixValue × ℕ) → Has (allowed n) f → same_prefix f.0 p ≡ true → f.1 ≡ number
        to_her f h same = let a = only_one led.0 led.1 f h same in omega (arith, a, led.2)

        go : (b : Bool) → b ≡ is_live now leader.0 → prefix_holder (live_at n now) p ≡ cond b (Some number) None
        go true lives = one_lead (allowed (live_at n now)) p e.0 number
            (entry_live n kept now e.0 e.1 leader.0 leader.1 (sym lives) (leader.2 ∙ sym (to_her e.0 e.1 e.2))) e.2
            (λ f h same. to_her f (live_entry n kept now f h).0 same)
        go false over = no_lead (allowed (live_at n now)) p (λ f h. elim (decide (same_prefix f.0 p)) [
          | inl same ↦
              let it = live_entry n kept now f h in
              let v = it.1 in
              let she : v.0 ≡ leader.0 = one_peer n kept v.0 leader.0 v.1 leader.1 (v.3 ∙ to_her f it.0 same ∙ sym leader.2) in
              absurd (true≢false (sym v.2 ∙ ap (is_live now) she ∙ sym over))
          | inr other ↦ other
        ])

-- ---- the same, where the network is told by its id

module _ (t : Tables) (is : AreConsistent t) (w : NetworkRow) (hw : Has t.networks w) (network : ℕ) (id_is : w.id ≡ network) (p : PrefixValue) (rows : List Row) (listed : ShowPrefix network p t rows) where
  shown : ShowPrefix w.id p t rows
  shown = subst (λ i. ShowPrefix i p t rows) (sym id_is) listed

  pub lead_there : AreNatural (6 ∷ []) rows → HasLead rows network
  lead_there numbers = subst (HasLead rows) id_is (has_lead t is w hw p rows shown numbers)

  pub led_nowhere : (now : ℕ) → IsLed rows network None → prefix_holder (live_at (network_entry_of t w).network now) p ≡ None
  led_nowhere now none = nobody t is w hw p rows shown now none

  module _ (number : ℕ) (led : IsLed rows network (Some number)) (others : List Row) (told : ShowPeer (peer_id network number) t others) where
    led_here : IsLed rows w.id (Some number)
    led_here = subst (λ i. IsLed rows i (Some number)) (sym id_is) led

    told_here : ShowPeer (peer_id w.id number) t others
    told_here = subst (λ i. ShowPeer (peer_id i number) t others) (sym id_is) told

    pub end_there : AreNatural (5 ∷ []) others → HasEnd others
    end_there = has_end t is w hw p rows shown number led_here others told_here

    pub led_to : (now : ℕ) (lasts : Bool) → IsLasting others now lasts → prefix_holder (live_at (network_entry_of t w).network now) p ≡ cond lasts (Some number) None
    led_to = somebody t is w hw p rows shown number led_here others told_here
