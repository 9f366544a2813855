-- What the queries of a network's rows show.
use Rattle.std.proofs.Common.{◌≡◌, ℕ, pos, List, [], ◌∷◌, map, filter, nat_eq, bytes_eq, Bool, true, false, not, ◌&&◌, IsPermutation, refl, sym, ap, ap₂, subst, ◌∙◌, inl, inr}
use Rattle.std.specs.List.{list_all}
use Rattle.std.proofs.lemmas.List.Sorted.{IsPermutation-map}
use Rattle.sqlite.specs.declared.types.Value.TheVariants.{Int, Text}
use Rattle.sqlite.specs.Order.{Row}
use Rattle.sqlite_value.specs.Order.{column}
use Rattle.sqlite_value.specs.declared.keys.Key.{Key}
use Rattle.sqlite.specs.Collation.TheVariants.{Binary}
use Rattle.sqlite.specs.Command.TheVariants.{Select}
use Rattle.sqlite.specs.Ops.{binary, is_true}
use Rattle.sqlite_sql.specs.declared.ops.BinaryOp.TheVariants.{Compare}
use Rattle.sqlite_sql.specs.declared.ops.CompareOp.TheVariants.{Eq, Ne}
use Rattle.sqlite.specs.Term.{Term, eval_all, holds}
use Rattle.sqlite.specs.Effect.{IsDatabase}
use Rattle.sqlite.specs.State.{State, Shown}
use Rattle.sqlite.proofs.Callers.{reads_as}
use Rattle.sqlite_rules.specs.Lists.{Has}
use Rattle.wgr_sql.specs.Effects.{passing, plain_query}
use Rattle.wgr_sql.proofs.Answers.{answers, map-both}
use Rattle.wgr_sql.proofs.RowLemmas.{equal_nats, map_filter}
use Rattle.wgr_sql.proofs.TextLemmas.{text_at, equal_texts, differ_texts}
use Rattle.wgr_sql.proofs.Values.{and_true}
use Rattle.wgr_columns.specs.Layout.{schema_with, allowed_table_at}
use Rattle.wgr_tables.specs.Loads.{ShowAddresses, ShowNetwork, ShowPeers, ShowRoutes}
use Rattle.wgr_columns.specs.Decode.{IsRegister, tables_of, network_in, peer_in, allowed_in, number_at, bytes_at, route_kind}
use Rattle.wgr_tables.specs.TableSteps.{HasNoRoute}
use Rattle.wgr_tables.proofs.FirstRow.{none_passes}
use Rattle.wgr_tables.proofs.Meanings.{peers_text, peers_asks, peer_places, of_network, addresses_text, addresses_asks, allowed_places, of_addresses, routes_text, routes_asks, of_routes, first_route_text, first_route_asks, route_place, network_text, network_asks, by_id}
use Rattle.wgr_columns.proofs.Statements.{Asks, network_places, rising}

-- a query that shows all places of the rows that pass
module _ (old new : State) (register : IsRegister old.now) (text : List ℕ) (params : Row) (tree : ℕ) (terms places : List Term) (order : List (Term × Key)) (names : List (List ℕ))
    (asks : Asks register.others text (Select (record { lets = []; body = plain_query tree terms places order }) names)) (rows : List Row) (shown : Shown text params old new rows) where
  pub listed : {T : Type 0} (in_ : Row → T) (q : T → Bool) → ((r : Row) → in_ (eval_all places (params ∷ r ∷ [])) ≡ in_ r) → ((r : Row) → Has (old.now.trees tree) r → list_all (holds (params ∷ r ∷ [])) terms ≡ q (in_ r))
      → IsPermutation (filter q (map in_ (old.now.trees tree))) (map in_ rows)
  listed in_ q same passes =
      let table = old.now.trees tree in
      let read = reads_as text params old new (schema_with register.others) register.schema_is _ asks.means.command_is asks.means.plain asks.unlisted rows shown in
      let l = answers tree terms places order old.now.trees params rows read.answer in
      let all : map in_ rows ≡ map in_ l.chosen = ap (map in_) l.shown ∙ map-both (λ r. eval_all places (params ∷ r ∷ [])) in_ l.chosen ∙ (λ k. map (λ r. same r k) l.chosen) in
      let typed : map in_ (passing terms params table) ≡ filter q (map in_ table) = map_filter in_ (λ r. list_all (holds (params ∷ r ∷ [])) terms) q table passes in
      subst (IsPermutation (filter q (map in_ table))) (sym all) (subst (λ x. IsPermutation x (map in_ l.chosen)) typed (IsPermutation-map in_ _ _ l.same))

module _ (old new : State) (register : IsRegister old.now) (n : ℕ) (rows : List Row) where
  abbrev params : Row
  params = Int (pos n) ∷ []

  pub peers_listed : Shown peers_text params old new rows → ShowPeers n (tables_of old.now) rows
  peers_listed shown =
      listed old new register peers_text params 8 (of_network 2) peer_places (rising 0 ∷ []) _ (peers_asks register.others) rows shown peer_in (λ p. nat_eq p.network n) (λ r. refl)
      (λ r here. ap (λ v. is_true (binary (Compare Eq Binary) v (Int (pos n))) && true) (register.written.peers.numbers_are r here 2 (inr (inl refl))) ∙ and_true _ ∙ equal_nats (number_at r 2) n)

  pub network_listed : Shown network_text params old new rows → ShowNetwork n (tables_of old.now) rows
  network_listed shown =
      listed old new register network_text params 5 by_id network_places [] _ (network_asks register.others) rows shown network_in (λ w. nat_eq w.id n) (λ r. refl)
      (λ r here. ap (λ v. is_true (binary (Compare Eq Binary) v (Int (pos n))) && true) (register.written.networks.numbers_are r here 0 (inl refl)) ∙ and_true _ ∙ equal_nats (number_at r 0) n)

  sound : IsDatabase (record { schema = schema_with register.others; trees = old.now.trees })
  sound = subst (λ s. IsDatabase (record { schema = s; trees = old.now.trees })) register.schema_is register.sound

  owner_is : (r : Row) → Has (old.now.trees 10) r → is_true (binary (Compare Eq Binary) (column r 1) (Int (pos n))) ≡ nat_eq (number_at r 1) n
  owner_is r here = ap (λ v. is_true (binary (Compare Eq Binary) v (Int (pos n)))) (register.written.allowed.numbers_are r here 1 (inl refl)) ∙ equal_nats (number_at r 1) n

  kind_at : (r : Row) → Has (old.now.trees 10) r → column r 7 ≡ Text (bytes_at r 7)
  kind_at r here = text_at (schema_with register.others) old.now.trees sound (allowed_table_at 10) (inr (inr (inr (inr (inr (inl refl)))))) r here 6 _ refl refl refl refl refl

  pub addresses_listed : Shown addresses_text params old new rows → ShowAddresses n (tables_of old.now) rows
  addresses_listed shown =
      listed old new register addresses_text params 10 of_addresses allowed_places [] _ (addresses_asks register.others) rows shown allowed_in (λ a. nat_eq a.network n && not a.is_route) (λ r. refl)
      (λ r here. ap₂ (λ x y. x && y) (owner_is r here) (and_true _ ∙ ap (λ v. is_true (binary (Compare Ne Binary) v (Text route_kind))) (kind_at r here) ∙ differ_texts (bytes_at r 7) route_kind))

  and_turns : (a b : Bool) → (a && b) ≡ (b && a)
  and_turns true true = refl
  and_turns true false = refl
  and_turns false true = refl
  and_turns false false = refl

  route_passes : (r : Row) → Has (old.now.trees 10) r → list_all (holds (params ∷ r ∷ [])) of_routes ≡ (bytes_eq (bytes_at r 7) route_kind && nat_eq (number_at r 1) n)
  route_passes r here =
      ap₂ (λ x y. x && y) (owner_is r here) (and_true _ ∙ ap (λ v. is_true (binary (Compare Eq Binary) v (Text route_kind))) (kind_at r here) ∙ equal_texts (bytes_at r 7) route_kind)
      ∙ and_turns (nat_eq (number_at r 1) n) (bytes_eq (bytes_at r 7) route_kind)

  pub routes_listed : Shown routes_text params old new rows → ShowRoutes n (tables_of old.now) rows
  routes_listed shown =
      listed old new register routes_text params 10 of_routes allowed_places (rising 2 ∷ rising 3 ∷ rising 4 ∷ []) _ (routes_asks register.others) rows shown allowed_in (λ a. a.is_route && nat_eq a.network n) (λ r. refl) route_passes

  -- the query for one route shows none
  pub no_route_listed : Shown first_route_text params old new [] → HasNoRoute n (tables_of old.now)
  no_route_listed shown =
      let asks = first_route_asks register.others in
      let read = reads_as first_route_text params old new (schema_with register.others) register.schema_is _ asks.means.command_is asks.means.plain asks.unlisted [] shown in
      let none = none_passes 10 of_routes route_place old.now.trees params read.answer in
      sym (map_filter allowed_in (λ r. list_all (holds (params ∷ r ∷ [])) of_routes) (λ a. a.is_route && nat_eq a.network n) (old.now.trees 10) route_passes) ∙ ap (map allowed_in) none
