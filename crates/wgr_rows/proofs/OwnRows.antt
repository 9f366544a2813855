-- The peers of a network and their rows, where the rows are consistent.
use Rattle.std.proofs.Common.{◌≡◌, ◌<◌, ◌≤◌, ℕ, pos, Bool, true, ◌&&◌, List, [], ◌∷◌, length, map, filter, nat_eq, nat_le, is_some, eqb-true, IsPermutation, refl, sym, ap, subst, ◌∙◌, arith, true≢false, inl, inr}
use Rattle.std.specs.List.{IsDistinct}
use Rattle.std.proofs.lemmas.Bool.{and_parts}
use Rattle.std.proofs.lemmas.Bool.Decides.{nat_tests}
use Rattle.std.proofs.lemmas.List.Elements.{recursion_from_All}
use Rattle.std.proofs.lemmas.List.Sorted.{IsPermutation-sym, length_permutation}
use Rattle.std.proofs.lemmas.Map.Keys.{IsDistinct-head}
use Rattle.std.proofs.Math.ListN.{length-map}
use Rattle.sqlite.specs.declared.types.Value.TheVariants.{Int}
use Rattle.sqlite.specs.Order.{Row}
use Rattle.sqlite_rules.specs.Lists as rules
use Rattle.wgr_peers.specs.declared.peer.Peer.{Peer}
use Rattle.wgr_peers.specs.Limits.{IsLeaseEnd, max_number}
use Rattle.wgr_peers.specs.Peers.{peer_of}
use Rattle.wgr_core.specs.Forms.{IsPeerFormed}
use Rattle.wgr_core.specs.Network.{NetworkValue}
use Rattle.wgr_core.proofs.KeptLemmas.{kept_is_network}
use Rattle.wgr_model.specs.Laws.{Has}
use Rattle.wgr_model.specs.RowLaws.{AreConsistent}
use Rattle.wgr_model.specs.Rows.{HaveSame, NetworkRow, PeerRow, Tables, network_entry_of, number_in, peer_id, peer_row, same_pair}
use Rattle.wgr_model.proofs.CollectLemmas.{from_map, has_map}
use Rattle.wgr_model.proofs.ExistLemmas.{peers_apart}
use Rattle.wgr_model.proofs.GatherLemmas.{eqb_self, in_filter, map_map}
use Rattle.wgr_model.proofs.HolderLemmas.{member}
use Rattle.wgr_model.proofs.KeptLemmas.{distinct_filter}
use Rattle.wgr_model.proofs.MemberLemmas.{permuted}
use Rattle.wgr_model.proofs.OrderLemmas.{from_filter}
use Rattle.wgr_model.proofs.RuleLemmas.{from_peer, network_entry, one_network, peer_there}
use Rattle.wgr_model.proofs.SameLemmas.{at_has, has_permutation}
use Rattle.wgr_sql.proofs.RowLemmas.{map_filter}
use Rattle.wgr_columns.specs.Decode.{peer_in}
use Rattle.wgr_columns.specs.Fields.{IsLeaseEndAt, IsPeerIdAt}
use Rattle.wgr_columns.specs.Stored.{AreRising}
use Rattle.wgr_tables.proofs.ArrangeLemmas.{arranged_peers}
use Rattle.wgr_tables.proofs.RouteRests.{pair_sym}
use Rattle.wgr_rows.specs.Keyed.{HaveNumbers}
use Rattle.wgr_rows.specs.Owned.{ShowOwned, is_owned}

pub pair_self : (x : ℕ × ℕ) → same_pair x x ≡ true
pair_self x = λ k. eqb_self x.0 k && eqb_self x.1 k

-- of rows that agree in their keys there is one at most
few_of : {A B : Type 0} (e : B → B → Bool) (f : A → B) (xs : List A) → IsDistinct e (map f xs) → ((a b : A) → Has xs a → Has xs b → e (f a) (f b) ≡ true) → length xs ≤ 1
few_of e f [] apart same = omega arith
few_of e f (x ∷ []) apart same = omega arith
few_of e f (x ∷ y ∷ more) apart same = absurd (true≢false (sym (same x y (inl refl) (inr (inl refl))) ∙ (IsDistinct-head e (f x) (map f (y ∷ more)) apart).0))

-- what tells two rows of peers apart
abbrev pub peer_key : PeerRow → ℕ × ℕ
peer_key p = (p.network, number_in p.network p.id)

pub le_is : (a b : ℕ) → a ≤ b → nat_le a b ≡ true
le_is a b le = grind (arith, nat_tests)

-- rows that are in a table are among what is read of them
pub among : {A B : Type 0} (f : A → B) (xs : List A) (a : A) → rules.Has xs a → Has (map f xs) (f a)
among f [] a h = absurd h
among f (x ∷ xs) a (inl e) = inl (ap f (sym e))
among f (x ∷ xs) a (inr h) = inr (among f xs a h)

module _ (t : Tables) (is : AreConsistent t) where
  pub ids : IsDistinct nat_eq (map (λ w. w.id) t.networks)
  ids = subst (IsDistinct nat_eq) (map_map (network_entry_of t) (λ h. h.id) t.networks) is.consistent.network_ids

  -- a query shows one row at most where the rows that pass agree in their keys
  pub few_peers : (q : PeerRow → Bool) (rows : List Row) → IsPermutation (filter q t.peers) (map peer_in rows) → ((a b : PeerRow) → Has (filter q t.peers) a → Has (filter q t.peers) b → same_pair (peer_key a) (peer_key b) ≡ true) → length rows ≤ 1
  few_peers q rows shown same =
      let short = few_of same_pair peer_key (filter q t.peers) (distinct_filter same_pair peer_key q t.peers is.rows.keyed.peer_keys) same in
      let long : length (map peer_in rows) ≡ length (filter q t.peers) = length_permutation _ _ shown in
      omega (arith, short, long, length-map rows peer_in)

  module _ (w : NetworkRow) (here : Has t.networks w) where
    abbrev n : NetworkValue
    n = (network_entry_of t w).network

    -- a row of the network is that of one of its peers
    pub peer_from : (p : PeerRow) → Has t.peers p → p.network ≡ w.id → (v : Peer) × Has n.peers v × (peer_row w.id v ≡ p)
    peer_from p h e =
        let f = from_peer t is p h in
        let one = one_network t is f.0 w f.2 here (ap (λ (z : PeerRow). z.network) f.4 ∙ e) in
        (f.1, subst (λ z. Has (network_entry_of t z).network.peers f.1) one f.3, subst (λ z. peer_row z.id f.1 ≡ p) one f.4)

    -- ---- rows that a query shows of those that pass

    module _ (q : PeerRow → Bool) (own : (p : PeerRow) → q p ≡ true → p.network ≡ w.id) (rows : List Row) (listed : IsPermutation (filter q t.peers) (map peer_in rows)) where
      pub passed : (r : Row) → rules.Has rows r → Has t.peers (peer_in r) × (q (peer_in r) ≡ true)
      passed r h = from_filter q t.peers (peer_in r) (has_permutation (map peer_in rows) (filter q t.peers) (peer_in r) (IsPermutation-sym _ _ listed) (among peer_in rows r h))

      pub fields_there : HaveNumbers rows → (r : Row) → rules.Has rows r → IsPeerIdAt r 0 w.id × IsLeaseEndAt r 5
      fields_there numbers r h =
          let p = passed r h in
          let v = peer_from (peer_in r) p.0 (own (peer_in r) p.1) in
          let k = numbers r h in
          let given = member n v.0 (network_entry t is w here).rules v.1 in
          let low : v.0.number < 4294967296 = omega (arith, given.numbered.1, (network_entry t is w here).rules.next.1) in
          let form = at_has IsPeerFormed n.peers v.0 (recursion_from_All IsPeerFormed n.peers (network_entry t is w here).forms.1) v.1 in (
            (v.0.number, low, k.0 ∙ ap (λ (z : PeerRow). Int (pos z.id)) (sym v.2)),
            (k.1, subst IsLeaseEnd (ap (λ (z : PeerRow). z.until) v.2) form.until),
          )

    -- ---- rows whose ids the network's peers may have

    module _ (test : ℕ → Bool) where
      abbrev ending : List Peer
      ending = filter (λ v. test v.until) n.peers

      owned : (v : Peer) → Has n.peers v → test v.until ≡ true → is_owned w.id test (peer_row w.id v) ≡ true
      owned v h passes =
          let given = (member n v (network_entry t is w here).rules h).numbered in
          let low = le_is (peer_id w.id 1) (peer_id w.id v.number) (omega (arith, given.0)) in
          let high = le_is (peer_id w.id v.number) (peer_id w.id max_number) (omega (arith, given.1, (network_entry t is w here).rules.next.1)) in
          λ k. eqb_self w.id k && (low k && (high k && passes k))

      same : HaveSame (filter (is_owned w.id test) t.peers) (filter (λ (p : PeerRow). test p.until) (map (peer_row w.id) n.peers))
      same a = (
        (λ k.
            let f = from_filter (is_owned w.id test) t.peers a k in
            let one = and_parts (nat_eq a.network w.id) _ f.1 in
            let two = and_parts (nat_le (peer_id w.id 1) a.id) _ one.1 in
            let three = and_parts (nat_le a.id (peer_id w.id max_number)) (test a.until) two.1 in
            let v = peer_from a f.0 (eqb-true a.network w.id one.0) in
            in_filter (λ (p : PeerRow). test p.until) (map (peer_row w.id) n.peers) a (subst (Has (map (peer_row w.id) n.peers)) v.2 (has_map (peer_row w.id) n.peers v.0 v.1)) three.1),
        (λ k.
            let f = from_filter (λ (p : PeerRow). test p.until) (map (peer_row w.id) n.peers) a k in
            let v = from_map (peer_row w.id) n.peers a f.0 in
            in_filter (is_owned w.id test) t.peers a (subst (Has t.peers) v.2 (peer_there t is w v.0 here v.1)) (subst (λ p. is_owned w.id test p ≡ true) v.2 (owned v.0 v.1 (ap (λ (p : PeerRow). test p.until) v.2 ∙ f.1)))),
      )

      -- they are those of its peers whose ends pass the test
      pub own_rows : IsPermutation (filter (is_owned w.id test) t.peers) (map (peer_row w.id) ending)
      own_rows =
          subst (IsPermutation (filter (is_owned w.id test) t.peers)) (sym (map_filter (peer_row w.id) (λ v. test v.until) (λ (p : PeerRow). test p.until) n.peers (λ v h. refl)))
          (permuted peer_key same_pair pair_self pair_sym (filter (is_owned w.id test) t.peers) (filter (λ (p : PeerRow). test p.until) (map (peer_row w.id) n.peers)) (distinct_filter same_pair peer_key (is_owned w.id test) t.peers is.rows.keyed.peer_keys)
          (distinct_filter same_pair peer_key (λ (p : PeerRow). test p.until) (map (peer_row w.id) n.peers) (peers_apart (network_entry_of t w) (network_entry t is w here).rules)) same)

      -- and in the order of their ids
      pub own_arranged : (rows : List Row) → ShowOwned w.id test t rows → AreRising (λ p. p.id) peer_in rows → map peer_in rows ≡ map (peer_row w.id) ending
      own_arranged rows listed up =
          arranged_peers w.id _ (kept_is_network n (λ v. test v.until) (λ r. is_some (peer_of ending r.1)) (network_entry t is w here).rules (λ r stands leads. leads)) (peer_row w.id) (λ (p : PeerRow). p.id) (λ p. refl) (map peer_in rows) (filter (is_owned w.id test) t.peers) own_rows listed up
