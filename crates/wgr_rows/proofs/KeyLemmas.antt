-- The row of a key tells the live peer that has it.
use Rattle.std.proofs.Common.{◌≡◌, ◌≤◌, ℕ, pos, Bool, true, false, not, cond, ◌&&◌, nat_eq, codes, List, [], ◌∷◌, length, map, filter, Option, Some, None, IsPermutation, inl, inr, refl, sym, ap, ap₂, subst, ◌∙◌, arith, true≢false, eqb-true}
use Rattle.std.specs.Cmp.Lexicographic.{nat_list_eq_equiv}
use Rattle.std.proofs.lemmas.Bool.{and_parts}
use Rattle.std.proofs.lemmas.List.Elements.{All-weaker, recursion_from_All}
use Rattle.sqlite.specs.declared.types.Value.TheVariants.{Int, Blob}
use Rattle.sqlite.specs.Order.{Row}
use Rattle.sqlite.specs.Collation.TheVariants.{Binary}
use Rattle.sqlite.specs.Command.TheVariants.{Select}
use Rattle.sqlite.specs.Ops.{binary, is_true}
use Rattle.sqlite_sql.specs.declared.ops.BinaryOp.TheVariants.{Compare}
use Rattle.sqlite_sql.specs.declared.ops.CompareOp.TheVariants.{Eq}
use Rattle.sqlite.specs.Effect.{IsDatabase}
use Rattle.sqlite.specs.Listing.{understood}
use Rattle.sqlite.specs.State.{State, Shown}
use Rattle.sqlite.specs.Term.{Term}
use Rattle.sqlite_rules.specs.Lists as rules
use Rattle.sqlite_tied.specs.Compute.{everything}
use Rattle.wgr_text.specs.declared.key.Key.{Key}
use Rattle.wgr_pool.proofs.Bools.{decide}
use Rattle.wgr_pool.proofs.Lists.{AllPairs-head, AllPairs-tail}
use Rattle.wgr_peers.specs.declared.peer.Peer.{Peer}
use Rattle.wgr_peers.specs.Limits.{is_expired}
use Rattle.wgr_peers.specs.Peers.{IsApart, AreApart, is_live, key_holder, same_key}
use Rattle.wgr_peers.proofs.IndexLemmas.{key_apart}
use Rattle.wgr_peers.proofs.TableLemmas.{holder_absent, same_key_is}
use Rattle.wgr_core.specs.Network.{NetworkValue, live_at}
use Rattle.wgr_core.proofs.LiveLooks.{holder_out}
use Rattle.wgr_model.specs.Laws.{Has}
use Rattle.wgr_model.specs.Register.{Bytes, is_same}
use Rattle.wgr_model.specs.RowLaws.{AreConsistent}
use Rattle.wgr_model.specs.Rows.{NetworkRow, PeerRow, Tables, network_entry_of, peer_id, peer_row, same_pair}
use Rattle.wgr_model.proofs.GatherLemmas.{eqb_self, in_filter}
use Rattle.wgr_model.proofs.LookLemmas.{is_same_refl}
use Rattle.wgr_model.proofs.OrderLemmas.{from_filter}
use Rattle.wgr_model.proofs.RuleLemmas.{peer_there, rows_keep_rules, rules as kept}
use Rattle.wgr_model.proofs.SameLemmas.{at_has, has_permutation}
use Rattle.wgr_sql.specs.Causes.{IsAnswered}
use Rattle.wgr_sql.specs.Effects.{plain_query}
use Rattle.wgr_sql.proofs.RowLemmas.{equal_nats}
use Rattle.wgr_sql.proofs.Values.{and_true, blob_at}
use Rattle.wgr_columns.specs.Layout.{Others, schema_with, peer_table_at}
use Rattle.wgr_columns.specs.Decode.{IsNumberAt, IsRegister, bytes_at, number_at, peer_in, tables_of}
use Rattle.wgr_columns.specs.Fields.{IsLeaseEndAt, IsPeerIdAt}
use Rattle.wgr_columns.proofs.Statements.{Asks, equal_to, never_refused}
use Rattle.wgr_tables.proofs.ListedLemmas.{listed}
use Rattle.wgr_tables.proofs.Meanings.{peer_places}
use Rattle.wgr_tables.proofs.SameBytes.{same_blobs, same_is}
use Rattle.wgr_tables.proofs.StoredLemmas.{each_shown}
use Rattle.wgr_rows.specs.Keyed.{HaveNumbers, IsLiveIn, IsPeerIn, ShowKey, has_key}
use Rattle.wgr_rows.proofs.OwnRows.{few_peers, fields_there, pair_self, passed, peer_from, peer_key}

-- ---- the statement

abbrev pub key_text : List ℕ
key_text = codes "SELECT id, NULL, network, key, label, until, keepalive, handshake, received, sent FROM peer WHERE network = ?1 AND key = ?2"

abbrev of_key : List Term
of_key = equal_to 2 0 ∷ equal_to 3 1 ∷ []

pub key_asks : (others : Others) → Asks others key_text (Select (record { lets = []; body = plain_query 8 of_key peer_places [] }) (codes "id" ∷ codes "NULL" ∷ codes "network" ∷ codes "key" ∷ codes "label" ∷ codes "until" ∷ codes "keepalive" ∷ codes "handshake" ∷ codes "received" ∷ codes "sent" ∷ []))
unfolding understood everything
key_asks others = record { means = record { command_is = refl; plain = (refl, refl) }; unlisted = refl }

pub key_answered : (others : Others) (network : ℕ) (key : Bytes) → IsAnswered (schema_with others) key_text (Int (pos network) ∷ Blob key ∷ [])
unfolding understood everything
key_answered others network key = record { given = (refl, refl, omega arith, refl); unlisted = refl; plain = λ limit trees e refused. never_refused _ refl limit (trees 8) refused }

module _ (old new : State) (register : IsRegister old.now) (rows : List Row) (network : ℕ) (key : Bytes) (shown : Shown key_text (Int (pos network) ∷ Blob key ∷ []) old new rows) where
  sound : IsDatabase (record { schema = schema_with register.others; trees = old.now.trees })
  sound = subst (λ s. IsDatabase (record { schema = s; trees = old.now.trees })) register.schema_is register.sound

  pub key_listed : ShowKey network key (tables_of old.now) rows
  key_listed =
      listed old new register key_text (Int (pos network) ∷ Blob key ∷ []) 8 of_key peer_places [] _ (key_asks register.others) rows shown peer_in (has_key network key) (λ r. refl)
      (λ r here. ap₂ (λ x y. x && y)
      (ap (λ v. is_true (binary (Compare Eq Binary) v (Int (pos network)))) (register.written.peers.numbers_are r here 2 (inr (inl refl))) ∙ equal_nats (number_at r 2) network)
      (and_true _ ∙ ap (λ v. is_true (binary (Compare Eq Binary) v (Blob key))) (blob_at (schema_with register.others) old.now.trees sound (peer_table_at 8) (inr (inr (inr (inr (inl refl))))) r here 2 _ refl refl refl refl refl)
      ∙ same_blobs (bytes_at r 3) key))

  pub key_numbers : HaveNumbers rows
  key_numbers =
      each_shown old new register key_text (Int (pos network) ∷ Blob key ∷ []) 8 of_key peer_places [] _ (key_asks register.others) rows shown (λ x. IsNumberAt x 0 × IsNumberAt x 5)
      (λ x there. (register.written.peers.numbers_are x there 0 (inl refl), register.written.peers.numbers_are x there 5 (inr (inr (inl refl)))))

-- ---- the holder of a key

-- of peers that have no key in common, the one that has it holds it among the live ones, if it is live
live_holder : (now : ℕ) (peers : List Peer) (key : Key) (v : Peer) → AreApart peers → Has peers v → same_key v.key key ≡ true → key_holder (filter (is_live now) peers) key ≡ cond (is_live now v) (Some v.number) None
live_holder now [] key v apart here mine = elim here [ ]
live_holder now (p ∷ peers) key v apart (inl is) mine = subst (λ (q : Peer). key_holder (cond (is_live now p) (p ∷ left) left) key ≡ cond (is_live now q) (Some q.number) None) is by_life
  where
    left : List Peer
    left = filter (is_live now) peers

    hers : same_key p.key key ≡ true
    hers = ap (λ (q : Peer). same_key q.key key) is ∙ mine

    none : key_holder left key ≡ None
    none = holder_out (is_live now) peers key (holder_absent peers key (All-weaker (IsApart p) (λ q. same_key q.key key ≡ false) (λ q a. key_apart p q key a hers) peers (AllPairs-head IsApart p peers apart)))

    by_life : key_holder (cond (is_live now p) (p ∷ left) left) key ≡ cond (is_live now p) (Some p.number) None
    by_life = elim (is_live now p) as (λ b. key_holder (cond b (p ∷ left) left) key ≡ cond b (Some p.number) None) [ true ↦ ap (λ b. cond b (Some p.number) (key_holder left key)) hers | false ↦ none ]
live_holder now (p ∷ peers) key v apart (inr here) mine = on_from (live_holder now peers key v (AllPairs-tail IsApart p peers apart) here mine)
  where
    left : List Peer
    left = filter (is_live now) peers

    another : same_key p.key key ≡ false
    another = elim (decide (same_key p.key key)) [
      | inl too ↦
          let a = at_has (IsApart p) peers v (recursion_from_All (IsApart p) peers (AllPairs-head IsApart p peers apart)) here in
          absurd (true≢false (sym mine ∙ key_apart p v key a too))
      | inr other ↦ other
    ]

    on_from : key_holder left key ≡ cond (is_live now v) (Some v.number) None → key_holder (cond (is_live now p) (p ∷ left) left) key ≡ cond (is_live now v) (Some v.number) None
    on_from later = elim (is_live now p) as (λ b. key_holder (cond b (p ∷ left) left) key ≡ cond (is_live now v) (Some v.number) None) [ true ↦ ap (λ b. cond b (Some p.number) (key_holder left key)) another ∙ later | false ↦ later ]

-- where no peer has it, none holds it
no_holder : (now : ℕ) (peers : List Peer) (key : Key) → ((v : Peer) → Has peers v → same_key v.key key ≡ false) → key_holder (filter (is_live now) peers) key ≡ None
no_holder now [] key none = refl
no_holder now (p ∷ peers) key none =
    elim (is_live now p) as (λ b. key_holder (cond b (p ∷ filter (is_live now) peers) (filter (is_live now) peers)) key ≡ None) [
      | true ↦ ap (λ b. cond b (Some p.number) (key_holder (filter (is_live now) peers) key)) (none p (inl refl)) ∙ no_holder now peers key (λ v here. none v (inr here))
      | false ↦ no_holder now peers key (λ v here. none v (inr here))
    ]

-- ---- the row

module _ (t : Tables) (is : AreConsistent t) (w : NetworkRow) (hw : Has t.networks w) (key : Key) (rows : List Row) (shown : ShowKey w.id key.0 t rows) where
  abbrev n : NetworkValue
  n = (network_entry_of t w).network

  abbrev q : PeerRow → Bool
  q = has_key w.id key.0

  of_network : (p : PeerRow) → q p ≡ true → p.network ≡ w.id
  of_network p passes = eqb-true p.network w.id (and_parts (nat_eq p.network w.id) (is_same p.key.0 key.0) passes).0

  key_is : (p : PeerRow) → q p ≡ true → p.key ≡ key
  key_is p passes = ap (λ bytes. record { 0 = bytes }) (same_is p.key.0 key.0 (and_parts (nat_eq p.network w.id) (is_same p.key.0 key.0) passes).1)

  -- no two peers have the key
  one_row : length rows ≤ 1
  one_row =
      let once : (a b : PeerRow) → Has (filter q t.peers) a → Has (filter q t.peers) b → a ≡ b = (λ a b h k.
      let x = from_filter q t.peers a h in
      let y = from_filter q t.peers b k in
      (rows_keep_rules t is).keys a b x.0 y.0 (of_network a x.1 ∙ sym (of_network b y.1)) (key_is a x.1 ∙ sym (key_is b y.1))) in
      few_peers t is q rows shown (λ a b h k. ap (λ z. same_pair (peer_key a) (peer_key z)) (sym (once a b h k)) ∙ pair_self (peer_key a))

  pub peer_in_rows : HaveNumbers rows → IsPeerIn rows w.id
  peer_in_rows numbers = go rows one_row (fields_there t is w hw q of_network rows shown numbers)
    where
      go : (l : List Row) → length l ≤ 1 → ((r : Row) → rules.Has l r → IsPeerIdAt r 0 w.id × IsLeaseEndAt r 5) → IsPeerIn l w.id
      go [] short each = tt
      go (r ∷ []) short each = each r (inl refl)
      go (r ∷ s ∷ more) short each = absurd (omega (arith, short))

  module _ (now : ℕ) where
    abbrev live : List Peer
    live = (live_at n now).peers

    nobody : rows ≡ [] → key_holder live key ≡ None
    nobody none = no_holder now n.peers key apart
      where
        apart : (v : Peer) → Has n.peers v → same_key v.key key ≡ false
        apart v hv = elim (decide (same_key v.key key)) [
          | inl mine ↦
              let same : is_same v.key.0 key.0 ≡ true = ap (λ (k : Key). is_same k.0 key.0) (same_key_is v.key key mine) ∙ is_same_refl key.0 in
              let passes : q (peer_row w.id v) ≡ true = ap₂ (λ x y. x && y) (eqb_self w.id) same in
              elim (has_permutation (filter q t.peers) [] (peer_row w.id v) (subst (λ l. IsPermutation (filter q t.peers) (map peer_in l)) none shown) (in_filter q t.peers (peer_row w.id v) (peer_there t is w v hw hv) passes)) [ ]
          | inr other ↦ other
        ]

    somebody : (r : Row) → rows ≡ r ∷ [] → (number : ℕ) × (peer_id w.id number ≡ number_at r 0) × (key_holder live key ≡ cond (not (is_expired now (number_at r 5))) (Some number) None)
    somebody r one =
        let p = peer_in r in
        let it = passed t is w hw q of_network rows shown r (subst (λ l. rules.Has l r) (sym one) (inl refl)) in
        let v = peer_from t is w hw p it.0 (of_network p it.1) in
        let keys : v.0.key ≡ key = ap (λ (z : PeerRow). z.key) v.2 ∙ key_is p it.1 in
        let mine : same_key v.0.key key ≡ true = ap (λ k. same_key k key) keys ∙ nat_list_eq_equiv.refl key.0 in
        let until : v.0.until ≡ number_at r 5 = ap (λ (z : PeerRow). z.until) v.2 in
        (v.0.number, ap (λ (z : PeerRow). z.id) v.2, live_holder now n.peers key v.0 (kept t is w hw).apart v.1 mine ∙ ap (λ u. cond (not (is_expired now u)) (Some v.0.number) None) until)

    -- what the one row tells
    pub key_found : (found : Option ℕ) → IsLiveIn rows w.id now found → found ≡ key_holder live key
    key_found None (inl none) = sym (nobody none)
    key_found None (inr (r, one, over)) = let s = somebody r one in sym (s.2 ∙ ap (λ b. cond (not b) (Some s.0) None) over)
    key_found (Some number) (r, one, lasts, id) =
        let s = somebody r one in
        let same : s.0 ≡ number = let a = s.1 in omega (arith, a, id) in
        sym (s.2 ∙ ap (λ b. cond (not b) (Some s.0) None) lasts ∙ ap (λ n. Some n) same)
