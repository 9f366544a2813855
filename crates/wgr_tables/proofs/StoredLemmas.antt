-- The rows that queries show of a register are stored as what they are read as.
use Rattle.std.proofs.Common.{◌≡◌, ◌+◌, ◌<◌, ℕ, suc, zero, pos, List, [], ◌∷◌, map, length, get_or, is_lt, cond, bytes_eq, Some, None, refl, sym, ap, ap₂, subst, ◌∙◌, inl, inr, arith}
use Rattle.std.specs.List.Sorted.{IsSorted}
use Rattle.std.specs.Ordering.{int_cmp, nat_cmp}
use Rattle.std.proofs.lemmas.List.{get_or-map}
use Rattle.std.proofs.lemmas.List.Sorted.{IsPermutation-sym}
use Rattle.std.proofs.Math.ListN.{length-map}
use Rattle.sqlite.specs.declared.types.Value.TheVariants.{Null, Int, Text, Blob}
use Rattle.sqlite.specs.Order.{Row}
use Rattle.sqlite_value.specs.Order.{bytes, column, value_cmp}
use Rattle.sqlite_value.specs.declared.keys.Key.{Key}
use Rattle.sqlite_value.proofs.OrderLemmas.{then-Equal, value_cmp-Int}
use Rattle.sqlite_sql.specs.Ops.{is_null}
use Rattle.sqlite.specs.Command.TheVariants.{Select}
use Rattle.sqlite.specs.Query.{sort_cmp}
use Rattle.sqlite.specs.Term.{Term, eval_all, holds}
use Rattle.sqlite.specs.Effect.{IsDatabase}
use Rattle.sqlite.specs.State.{State, Shown}
use Rattle.sqlite.proofs.Callers.{reads_as}
use Rattle.sqlite_rules.specs.Lists.{Has}
use Rattle.sqlite_rules.proofs.ListLemmas.{has_filtered}
use Rattle.std.specs.List.{list_all}
use Rattle.wgr_model.specs.Rows.{family_number}
use Rattle.wgr_sql.specs.Effects.{Lists, plain_query}
use Rattle.wgr_sql.proofs.Answers.{answers, map-both}
use Rattle.wgr_sql.proofs.KeyedLemmas.{has_moved}
use Rattle.wgr_sql.proofs.RowLemmas.{map_alike}
use Rattle.wgr_sql.proofs.TableLemmas.{unmapped}
use Rattle.wgr_sql.proofs.TextLemmas.{text_at}
use Rattle.wgr_sql.proofs.Values.{blob_at}
use Rattle.wgr_columns.specs.Layout.{schema_with, network_table_at, peer_table_at}
use Rattle.wgr_columns.specs.Decode.{IsKindAt, IsRegister, IsStatusRow, allowed_in, bytes_at, family_of, network_in, number_at, peer_in, route_kind, status_at}
use Rattle.wgr_columns.specs.Stored.{AreRising, AreStored, kind_of, status_values, stored_allowed, stored_network, stored_peer}
use Rattle.wgr_tables.proofs.Meanings.{peers_text, peers_asks, peer_places, of_network, addresses_text, addresses_asks, allowed_places, of_addresses, routes_text, routes_asks, of_routes, network_text, network_asks, by_id}
use Rattle.wgr_columns.proofs.Statements.{Asks, network_places, rising}

has_place : {X : Type 0} (xs : List X) (k : ℕ) (d : X) → k < length xs → Has xs (get_or xs k d)
has_place [] k d low = absurd (omega (arith, low))
has_place (x ∷ xs) zero d low = inl refl
has_place (x ∷ xs) (suc k) d low = inr (has_place xs k d (omega (arith, low)))

as_naturals : (m n : ℕ) → int_cmp (pos m) (pos n) ≡ nat_cmp m n
as_naturals m n = grind (arith)

-- a query that shows all places of the rows that pass
module _ (old new : State) (register : IsRegister old.now) (text : List ℕ) (params : Row) (tree : ℕ) (terms places : List Term) (order : List (Term × Key)) (names : List (List ℕ))
    (asks : Asks register.others text (Select (record { lets = []; body = plain_query tree terms places order }) names)) (rows : List Row) (shown : Shown text params old new rows) where
  listing : Lists terms places order params (old.now.trees tree) rows
  listing = answers tree terms places order old.now.trees params rows (reads_as text params old new (schema_with register.others) register.schema_is _ asks.means.command_is asks.means.plain asks.unlisted rows shown).answer

  from_table : (r : Row) → Has listing.chosen r → Has (old.now.trees tree) r
  from_table r here = (has_filtered (λ x. list_all (holds (params ∷ x ∷ [])) terms) (old.now.trees tree) r (has_moved listing.chosen _ r (IsPermutation-sym _ _ listing.same) here)).0

  -- what is true of all places of each row of the table
  pub each_shown : (P : Row → Type 0) → ((r : Row) → Has (old.now.trees tree) r → P (eval_all places (params ∷ r ∷ []))) → (r : Row) → Has rows r → P r
  each_shown P each r here =
      let it = unmapped (λ x. eval_all places (params ∷ x ∷ [])) listing.chosen r (subst (λ l. Has l r) listing.shown here) in
      subst P (sym it.2) (each it.0 (from_table it.0 it.1))

  module _ {T : Type 0} (read : Row → T) (same : (r : Row) → read (eval_all places (params ∷ r ∷ [])) ≡ read r) where
    all_read : map read rows ≡ map read listing.chosen
    all_read = ap (map read) listing.shown ∙ map-both (λ r. eval_all places (params ∷ r ∷ [])) read listing.chosen ∙ (λ k. map (λ r. same r k) listing.chosen)

    pub stored_rows : (stored : T → Row) → ((r : Row) → Has (old.now.trees tree) r → eval_all places (params ∷ r ∷ []) ≡ stored (read r)) → AreStored stored read rows
    stored_rows stored each = listing.shown ∙ map_alike (λ r. eval_all places (params ∷ r ∷ [])) (λ r. stored (read r)) listing.chosen (λ r here. each r (from_table r here))
        ∙ sym (map-both read stored listing.chosen) ∙ ap (map stored) (sym all_read)

    pub rising_rows : (key : T → ℕ) (at : ℕ) → order ≡ rising at ∷ [] → ((r : Row) → Has (old.now.trees tree) r → column r at ≡ Int (pos (key (read r)))) → AreRising key read rows
    rising_rows key at is number = subst (IsSorted nat_cmp) (sym (ap (map key) all_read ∙ map-both read key listing.chosen)) up
      where
        keys : Row → ℕ
        keys r = key (read r)

        ordered : IsSorted (λ a b. sort_cmp (rising at ∷ []) (params ∷ a ∷ []) (params ∷ b ∷ [])) listing.chosen
        ordered = subst (λ o. IsSorted (λ a b. sort_cmp o (params ∷ a ∷ []) (params ∷ b ∷ [])) listing.chosen) is listing.sorted

        up : IsSorted nat_cmp (map keys listing.chosen)
        up k d low high =
            let xs = listing.chosen in
            let long : k + 1 < length xs = omega (arith, high, length-map xs keys) in
            let short : k < length xs = omega (arith, long) in
            let x = get_or xs k [] in
            let y = get_or xs (k + 1) [] in
            let compared : value_cmp (column y at) (column x at) ≡ nat_cmp (keys y) (keys x) = ap₂ value_cmp (number y (from_table y (has_place xs (k + 1) [] long))) (number x (from_table x (has_place xs k [] short))) ∙ value_cmp-Int (pos (keys y)) (pos (keys x)) ∙ as_naturals (keys y) (keys x) in
            ap₂ (λ a b. is_lt (nat_cmp a b)) (get_or-map keys xs (k + 1) [] d long) (get_or-map keys xs k [] d short)
            ∙ ap is_lt (sym compared) ∙ sym (ap is_lt (then-Equal (value_cmp (column y at) (column x at)))) ∙ ordered k [] low long

-- ---- what stands in the rows of a register

status_shown : (r : Row) → IsStatusRow r → column r 7 ∷ column r 8 ∷ column r 9 ∷ [] ≡ status_values (status_at r)
status_shown r (inl (handshake, received, sent)) =
    (λ k. handshake k ∷ received k ∷ sent k ∷ []) ∙ sym (ap (λ v. status_values (cond (is_null v) None (Some (record { handshake = number_at r 7; received = number_at r 8; sent = number_at r 9 })))) handshake)
status_shown r (inr (handshake, received, sent)) =
    (λ k. handshake k ∷ received k ∷ sent k ∷ []) ∙ sym (ap (λ v. status_values (cond (is_null v) None (Some (record { handshake = number_at r 7; received = number_at r 8; sent = number_at r 9 })))) handshake)

kind_shown : (r : Row) → IsKindAt r 7 → column r 7 ≡ Text (kind_of (bytes_eq (bytes_at r 7) route_kind))
kind_shown r (inl is) = is ∙ sym (ap (λ v. Text (kind_of (bytes_eq (bytes v) route_kind))) is)
kind_shown r (inr is) = is ∙ sym (ap (λ v. Text (kind_of (bytes_eq (bytes v) route_kind))) is)

module _ (old new : State) (register : IsRegister old.now) (n : ℕ) (rows : List Row) where
  abbrev params : Row
  params = Int (pos n) ∷ []

  sound : IsDatabase (record { schema = schema_with register.others; trees = old.now.trees })
  sound = subst (λ s. IsDatabase (record { schema = s; trees = old.now.trees })) register.schema_is register.sound

  peer_is : (r : Row) → Has (old.now.trees 8) r → eval_all peer_places (params ∷ r ∷ []) ≡ stored_peer (peer_in r)
  peer_is r here =
      let number = register.written.peers.numbers_are r here in
      let id = number 0 (inl refl) in
      let network = number 2 (inr (inl refl)) in
      let until = number 5 (inr (inr (inl refl))) in
      let keepalive = number 6 (inr (inr (inr (inl refl)))) in
      let key : column r 3 ≡ Blob (bytes_at r 3) = blob_at (schema_with register.others) old.now.trees sound (peer_table_at 8) (inr (inr (inr (inr (inl refl))))) r here 2 _ refl refl refl refl refl in
      let label : column r 4 ≡ Text (bytes_at r 4) = text_at (schema_with register.others) old.now.trees sound (peer_table_at 8) (inr (inr (inr (inr (inl refl))))) r here 3 _ refl refl refl refl refl in
      let status = status_shown r (register.written.statuses r here) in
      λ k. id k ∷ Null ∷ network k ∷ key k ∷ label k ∷ until k ∷ keepalive k ∷ status k

  pub peers_stored : Shown peers_text params old new rows → AreStored stored_peer peer_in rows
  peers_stored shown = stored_rows old new register peers_text params 8 (of_network 2) peer_places (rising 0 ∷ []) _ (peers_asks register.others) rows shown peer_in (λ r. refl) stored_peer peer_is

  pub peers_rise : Shown peers_text params old new rows → AreRising (λ p. p.id) peer_in rows
  peers_rise shown = rising_rows old new register peers_text params 8 (of_network 2) peer_places (rising 0 ∷ []) _ (peers_asks register.others) rows shown peer_in (λ r. refl) (λ p. p.id) 0 refl (λ r here. register.written.peers.numbers_are r here 0 (inl refl))

  allowed_is : (r : Row) → Has (old.now.trees 10) r → eval_all allowed_places (params ∷ r ∷ []) ≡ stored_allowed (allowed_in r)
  allowed_is r here =
      let good = register.written.allowed in
      let network = good.numbers_are r here 1 (inl refl) in
      let family : column r 2 ≡ Int (pos (family_number (family_of (number_at r 2)))) = good.numbers_are r here 2 (inr (inl refl)) ∙ ap (λ m. Int (pos m)) (good.families_are r here 2 (inl refl)) in
      let lo = good.addresses_are r here 3 (inl refl) in
      let long = good.numbers_are r here 4 (inr (inr (inl refl))) in
      let hi = good.addresses_are r here 5 (inr (inl refl)) in
      let peer = good.numbers_are r here 6 (inr (inr (inr (inl refl)))) in
      let kind = kind_shown r (register.written.kinds r here) in
      λ k. Null ∷ network k ∷ family k ∷ lo k ∷ long k ∷ hi k ∷ peer k ∷ kind k ∷ []

  pub addresses_stored : Shown addresses_text params old new rows → AreStored stored_allowed allowed_in rows
  addresses_stored shown = stored_rows old new register addresses_text params 10 of_addresses allowed_places [] _ (addresses_asks register.others) rows shown allowed_in (λ r. refl) stored_allowed allowed_is

  pub routes_stored : Shown routes_text params old new rows → AreStored stored_allowed allowed_in rows
  routes_stored shown = stored_rows old new register routes_text params 10 of_routes allowed_places (rising 2 ∷ rising 3 ∷ rising 4 ∷ []) _ (routes_asks register.others) rows shown allowed_in (λ r. refl) stored_allowed allowed_is

  pub network_is : (r : Row) → Has (old.now.trees 5) r → eval_all network_places (params ∷ r ∷ []) ≡ stored_network (network_in r)
  network_is r here =
      let good = register.written.networks in
      let number = good.numbers_are r here in
      let id = number 0 (inl refl) in
      let tenant = number 2 (inr (inl refl)) in
      let family : column r 4 ≡ Int (pos (family_number (family_of (number_at r 4)))) = number 4 (inr (inr (inl refl))) ∙ ap (λ m. Int (pos m)) (good.families_are r here 4 (inl refl)) in
      let lo = good.addresses_are r here 5 (inl refl) in
      let long = number 6 (inr (inr (inr (inl refl)))) in
      let port = number 8 (inr (inr (inr (inr (inl refl))))) in
      let capacity = number 10 (inr (inr (inr (inr (inr (inl refl)))))) in
      let next = number 11 (inr (inr (inr (inr (inr (inr (inl refl))))))) in
      let name : column r 3 ≡ Text (bytes_at r 3) = text_at (schema_with register.others) old.now.trees sound (network_table_at 5) (inr (inr (inr (inl refl)))) r here 2 _ refl refl refl refl refl in
      let host : column r 7 ≡ Text (bytes_at r 7) = text_at (schema_with register.others) old.now.trees sound (network_table_at 5) (inr (inr (inr (inl refl)))) r here 6 _ refl refl refl refl refl in
      let server : column r 9 ≡ Blob (bytes_at r 9) = blob_at (schema_with register.others) old.now.trees sound (network_table_at 5) (inr (inr (inr (inl refl)))) r here 8 _ refl refl refl refl refl in
      λ k. id k ∷ Null ∷ tenant k ∷ name k ∷ family k ∷ lo k ∷ long k ∷ host k ∷ port k ∷ server k ∷ capacity k ∷ next k ∷ []

  pub network_stored : Shown network_text params old new rows → AreStored stored_network network_in rows
  network_stored shown = stored_rows old new register network_text params 5 by_id network_places [] _ (network_asks register.others) rows shown network_in (λ r. refl) stored_network network_is
