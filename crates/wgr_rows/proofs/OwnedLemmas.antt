-- What the queries by the range of a network's ids show, and what the rows tell of its peers.
use Rattle.std.proofs.Common.{◌≡◌, ℕ, pos, cond, codes, Bool, true, false, not, ◌&&◌, nat_eq, nat_le, nat_lt, List, [], ◌∷◌, drop, get_or, length, map, filter, inl, inr, refl, sym, ap, ap₂, ◌∙◌, arith, eqb-true}
use Rattle.std.specs.List.{All, list_all}
use Rattle.std.proofs.Math.ListN.{length-map}
use Rattle.std.proofs.lemmas.Bool.{and_parts}
use Rattle.std.proofs.lemmas.Bool.Decides.{nat_tests}
use Rattle.std.proofs.lemmas.List.Sorted.{length_permutation}
use Rattle.sqlite.specs.declared.types.Value.TheVariants.{Int}
use Rattle.sqlite.specs.Order.{Row}
use Rattle.sqlite_value.specs.Order.{column}
use Rattle.sqlite.specs.Collation.TheVariants.{Binary}
use Rattle.sqlite.specs.Command.TheVariants.{Select}
use Rattle.sqlite.specs.Ops.{binary, is_true}
use Rattle.sqlite_sql.specs.declared.ops.BinaryOp.TheVariants.{Compare}
use Rattle.sqlite_sql.specs.declared.ops.CompareOp.TheVariants.{Eq, Ge, Le}
use Rattle.sqlite.specs.Listing.{understood}
use Rattle.sqlite.specs.State.{State, Shown}
use Rattle.sqlite.specs.Term.{Term, col, eval_all, holds, lit, op2}
use Rattle.sqlite.proofs.Callers.{reads_as}
use Rattle.sqlite_rules.specs.Lists as rules
use Rattle.sqlite_tied.specs.Compute.{everything}
use Rattle.wgr_pool.proofs.Lists.{filter_agree_on, filter_all}
use Rattle.wgr_peers.specs.declared.peer.Peer.{Peer}
use Rattle.wgr_peers.specs.Limits.{IsLeaseEnd, is_expired, kept_count, max_number}
use Rattle.wgr_peers.specs.Peers.{expired, is_live}
use Rattle.wgr_core.specs.Network.{NetworkValue}
use Rattle.wgr_model.specs.Laws.{Has}
use Rattle.wgr_model.specs.RowLaws.{AreConsistent}
use Rattle.wgr_model.specs.Rows.{NetworkRow, PeerRow, Tables, network_entry_of, peer_id, peer_row}
use Rattle.wgr_model.proofs.RuleLemmas.{network_entry}
use Rattle.wgr_sql.specs.Causes.{IsAnswered}
use Rattle.wgr_sql.specs.Effects.{passing, plain_query}
use Rattle.wgr_sql.proofs.Answers.{answers, map-both}
use Rattle.wgr_sql.proofs.RowLemmas.{equal_nats, map_filter}
use Rattle.wgr_sql.proofs.Values.{and_true}
use Rattle.wgr_columns.specs.Layout.{Others, schema_with}
use Rattle.wgr_columns.specs.Decode.{IsNumberAt, IsRegister, number_at, peer_in, tables_of}
use Rattle.wgr_columns.specs.Fields.{IsPeerIdAt}
use Rattle.wgr_columns.specs.Stored.{AreRising}
use Rattle.wgr_columns.proofs.Statements.{Asks, equal_to, never_refused, rising}
use Rattle.wgr_tables.proofs.ListedLemmas.{listed}
use Rattle.wgr_tables.proofs.Meanings.{compared_to, peer_places}
use Rattle.wgr_tables.proofs.StoredLemmas.{each_shown, rising_rows}
use Rattle.wgr_rows.specs.Keyed.{HaveNumbers}
use Rattle.wgr_rows.specs.Owned.{ShowOwned, any_end, is_over, is_owned, owned_count}
use Rattle.wgr_rows.proofs.HoldLemmas.{place_there}
use Rattle.wgr_rows.proofs.OwnRows.{fields_there, own_arranged, own_rows}
use Rattle.wgr_rows.proofs.Spelled.{at_least, at_most}

-- ---- the statements

abbrev pub over_text : List ℕ
over_text = codes "SELECT id, NULL, network, key, label, until, keepalive, handshake, received, sent FROM peer WHERE network = ?1 AND id >= ?2 AND id <= ?3 AND until >= 1 AND until <= ?4 ORDER BY id"

abbrev of_over : List Term
of_over = equal_to 2 0 ∷ compared_to Ge 0 1 ∷ compared_to Le 0 2 ∷ op2 (Compare Ge Binary) (col 1 5) (lit (Int (pos 1))) ∷ compared_to Le 5 3 ∷ []

abbrev pub over_params : ℕ → ℕ → Row
over_params network now = Int (pos network) ∷ Int (pos (peer_id network 1)) ∷ Int (pos (peer_id network max_number)) ∷ Int (pos (kept_count now)) ∷ []

abbrev pub ids_text : List ℕ
ids_text = codes "SELECT id FROM peer WHERE network = ?1 AND id >= ?2 AND id <= ?3"

abbrev of_ids : List Term
of_ids = equal_to 2 0 ∷ compared_to Ge 0 1 ∷ compared_to Le 0 2 ∷ []

abbrev id_place : List Term
id_place = col 1 0 ∷ []

abbrev pub ids_params : ℕ → Row
ids_params network = Int (pos network) ∷ Int (pos (peer_id network 1)) ∷ Int (pos (peer_id network max_number)) ∷ []

module _ (others : Others) where
  pub over_asks : Asks others over_text (Select (record { lets = []; body = plain_query 8 of_over peer_places (rising 0 ∷ []) }) (codes "id" ∷ codes "NULL" ∷ codes "network" ∷ codes "key" ∷ codes "label" ∷ codes "until" ∷ codes "keepalive" ∷ codes "handshake" ∷ codes "received" ∷ codes "sent" ∷ []))
  unfolding understood everything
  over_asks = record { means = record { command_is = refl; plain = (refl, refl) }; unlisted = refl }

  pub ids_asks : Asks others ids_text (Select (record { lets = []; body = plain_query 8 of_ids id_place [] }) (codes "id" ∷ []))
  unfolding understood everything
  ids_asks = record { means = record { command_is = refl; plain = (refl, refl) }; unlisted = refl }

  pub over_answered : (network now : ℕ) → IsAnswered (schema_with others) over_text (over_params network now)
  unfolding understood everything
  over_answered network now = record { given = (refl, refl, omega arith, refl); unlisted = refl; plain = λ limit trees e refused. never_refused _ refl limit (trees 8) refused }

  pub ids_answered : (network : ℕ) → IsAnswered (schema_with others) ids_text (ids_params network)
  unfolding understood everything
  ids_answered network = record { given = (refl, refl, omega arith, refl); unlisted = refl; plain = λ limit trees e refused. never_refused _ refl limit (trees 8) refused }

-- ---- what is shown

-- a query shows as many rows as pass
module _ (old new : State) (register : IsRegister old.now) (text : List ℕ) (params : Row) (tree : ℕ) (terms places : List Term) (names : List (List ℕ))
    (asks : Asks register.others text (Select (record { lets = []; body = plain_query tree terms places [] }) names)) (rows : List Row) (shown : Shown text params old new rows) where
  counted : {T : Type 0} (in_ : Row → T) (q : T → Bool) → ((r : Row) → rules.Has (old.now.trees tree) r → list_all (holds (params ∷ r ∷ [])) terms ≡ q (in_ r)) → length rows ≡ length (filter q (map in_ (old.now.trees tree)))
  counted in_ q passes =
      let table = old.now.trees tree in
      let read = reads_as text params old new (schema_with register.others) register.schema_is _ asks.means.command_is asks.means.plain asks.unlisted rows shown in
      let l = answers tree terms places [] old.now.trees params rows read.answer in
      ap length l.shown ∙ length-map l.chosen (λ r. eval_all places (params ∷ r ∷ [])) ∙ length_permutation (passing terms params table) l.chosen l.same
      ∙ sym (length-map (passing terms params table) in_) ∙ ap length (map_filter in_ (λ r. list_all (holds (params ∷ r ∷ [])) terms) q table passes)

module _ (old new : State) (register : IsRegister old.now) (rows : List Row) (network : ℕ) where
  of_network : (r : Row) → rules.Has (old.now.trees 8) r → is_true (binary (Compare Eq Binary) (column r 2) (Int (pos network))) ≡ nat_eq (number_at r 2) network
  of_network r here = ap (λ v. is_true (binary (Compare Eq Binary) v (Int (pos network)))) (register.written.peers.numbers_are r here 2 (inr (inl refl))) ∙ equal_nats (number_at r 2) network

  from_first : (r : Row) → rules.Has (old.now.trees 8) r → is_true (binary (Compare Ge Binary) (column r 0) (Int (pos (peer_id network 1)))) ≡ nat_le (peer_id network 1) (number_at r 0)
  from_first r here = ap (λ v. is_true (binary (Compare Ge Binary) v (Int (pos (peer_id network 1))))) (register.written.peers.numbers_are r here 0 (inl refl)) ∙ at_least (number_at r 0) (peer_id network 1)

  to_last : (r : Row) → rules.Has (old.now.trees 8) r → is_true (binary (Compare Le Binary) (column r 0) (Int (pos (peer_id network max_number)))) ≡ nat_le (number_at r 0) (peer_id network max_number)
  to_last r here = ap (λ v. is_true (binary (Compare Le Binary) v (Int (pos (peer_id network max_number))))) (register.written.peers.numbers_are r here 0 (inl refl)) ∙ at_most (number_at r 0) (peer_id network max_number)

  pub ids_counted : Shown ids_text (ids_params network) old new rows → length rows ≡ owned_count network any_end (tables_of old.now)
  ids_counted shown =
      counted old new register ids_text (ids_params network) 8 of_ids id_place _ (ids_asks register.others) rows shown peer_in (is_owned network any_end)
      (λ r here. let one = of_network r here in let two = from_first r here in let three = to_last r here in λ k. one k && (two k && (three k && true)))

  module _ (now : ℕ) (shown : Shown over_text (over_params network now) old new rows) where
    ended : (r : Row) → rules.Has (old.now.trees 8) r → is_true (binary (Compare Ge Binary) (column r 5) (Int (pos 1))) ≡ nat_le 1 (number_at r 5)
    ended r here = ap (λ v. is_true (binary (Compare Ge Binary) v (Int (pos 1)))) (register.written.peers.numbers_are r here 5 (inr (inr (inl refl)))) ∙ at_least (number_at r 5) 1

    by_now : (r : Row) → rules.Has (old.now.trees 8) r → is_true (binary (Compare Le Binary) (column r 5) (Int (pos (kept_count now)))) ≡ nat_le (number_at r 5) (kept_count now)
    by_now r here = ap (λ v. is_true (binary (Compare Le Binary) v (Int (pos (kept_count now))))) (register.written.peers.numbers_are r here 5 (inr (inr (inl refl)))) ∙ at_most (number_at r 5) (kept_count now)

    pub over_listed : ShowOwned network (is_over now) (tables_of old.now) rows
    over_listed =
        listed old new register over_text (over_params network now) 8 of_over peer_places (rising 0 ∷ []) _ (over_asks register.others) rows shown peer_in (is_owned network (is_over now)) (λ r. refl)
        (λ r here.
        let one = of_network r here in
        let two = from_first r here in
        let three = to_last r here in
        let four = ended r here in
        let five = and_true _ ∙ by_now r here in
        λ k. one k && (two k && (three k && (four k && five k))))

    pub over_rise : AreRising (λ p. p.id) peer_in rows
    over_rise = rising_rows old new register over_text (over_params network now) 8 of_over peer_places (rising 0 ∷ []) _ (over_asks register.others) rows shown peer_in (λ r. refl) (λ p. p.id) 0 refl (λ r here. register.written.peers.numbers_are r here 0 (inl refl))

    pub over_numbers : HaveNumbers rows
    over_numbers =
        each_shown old new register over_text (over_params network now) 8 of_over peer_places (rising 0 ∷ []) _ (over_asks register.others) rows shown (λ x. IsNumberAt x 0 × IsNumberAt x 5)
        (λ x there. (register.written.peers.numbers_are x there 0 (inl refl), register.written.peers.numbers_are x there 5 (inr (inr (inl refl)))))

-- ---- what the rows tell

-- a moment beyond what a column keeps is beyond the end of each lease
over_is : (now until : ℕ) → IsLeaseEnd until → is_over now until ≡ not (not (is_expired now until))
over_is now until low = go (nat_lt 9223372036854775807 now) refl
  where
    go : (b : Bool) → nat_lt 9223372036854775807 now ≡ b → (nat_le 1 until && nat_le until (cond b 9223372036854775807 now)) ≡ not (not (is_expired now until))
    go true e = grind (arith, nat_tests, e, low)
    go false e = grind (arith, nat_tests, e, low)

same_numbers : (id : ℕ) (xs ys : List ℕ) → map (peer_id id) xs ≡ map (peer_id id) ys → xs ≡ ys
same_numbers id [] [] is = refl
same_numbers id [] (y ∷ ys) is = absurd (let none = ap length is in omega (arith, none))
same_numbers id (x ∷ xs) [] is = absurd (let none = ap length is in omega (arith, none))
same_numbers id (x ∷ xs) (y ∷ ys) is =
    let first : peer_id id x ≡ peer_id id y = ap (λ l. get_or l 0 0) is in
    let same : x ≡ y = omega (arith, first) in
    ap₂ (λ z zs. z ∷ zs) same (same_numbers id xs ys (ap (drop 1) is))

module _ (t : Tables) (is : AreConsistent t) (w : NetworkRow) (here : Has t.networks w) where
  abbrev n : NetworkValue
  n = (network_entry_of t w).network

  pub count_is : owned_count w.id any_end t ≡ length n.peers
  count_is = sym (length_permutation _ _ (own_rows t is w here any_end)) ∙ length-map (filter (λ (v : Peer). true) n.peers) (peer_row w.id) ∙ ap length (filter_all n.peers)

  pub numbers_are : (now : ℕ) (rows : List Row) (numbers : List ℕ) → ShowOwned w.id (is_over now) t rows → AreRising (λ p. p.id) peer_in rows → map (peer_id w.id) numbers ≡ map (λ r. number_at r 0) rows → numbers ≡ expired now n.peers
  numbers_are now rows numbers listed up read =
      let gone = filter (λ (v : Peer). is_over now v.until) n.peers in
      let shown : map (λ r. number_at r 0) rows ≡ map (peer_id w.id) (map (λ (v : Peer). v.number) gone) =
      sym (map-both peer_in (λ (p : PeerRow). p.id) rows) ∙ ap (map (λ (p : PeerRow). p.id)) (own_arranged t is w here (is_over now) rows listed up) ∙ map-both (peer_row w.id) (λ (p : PeerRow). p.id) gone
      ∙ sym (map-both (λ (v : Peer). v.number) (peer_id w.id) gone) in
      same_numbers w.id numbers (map (λ (v : Peer). v.number) gone) (read ∙ shown)
      ∙ ap (map (λ (v : Peer). v.number)) (filter_agree_on (λ (v : Peer). is_over now v.until) (λ v. not (is_live now v)) n.peers (λ k d low. over_is now (get_or n.peers k d).until ((network_entry t is w here).forms.1 k d low).until))

  pub ids_there : (now : ℕ) (rows : List Row) → ShowOwned w.id (is_over now) t rows → HaveNumbers rows → All (λ r. IsPeerIdAt r 0 w.id) rows
  ids_there now rows listed numbers k d low =
      (fields_there t is w here (is_owned w.id (is_over now)) (λ p passes. eqb-true p.network w.id (and_parts (nat_eq p.network w.id) _ passes).0) rows listed numbers (get_or rows k d) (place_there rows k d low)).0
