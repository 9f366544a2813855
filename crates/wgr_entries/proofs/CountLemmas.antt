-- How many rows the queries for a network's peers and routes show.
use Rattle.std.proofs.Common.{◌≡◌, ℕ, pos, List, [], ◌∷◌, length, map, filter, nat_eq, bytes_eq, codes, Bool, true, false, ◌&&◌, refl, sym, ap, ap₂, subst, ◌∙◌, inl, inr, arith}
use Rattle.std.specs.List.{list_all}
use Rattle.std.proofs.lemmas.List.{length-map}
use Rattle.std.proofs.lemmas.List.Sorted.{length_permutation}
use Rattle.sqlite.specs.declared.types.Value.TheVariants.{Int, Text}
use Rattle.sqlite.specs.Order.{Row}
use Rattle.sqlite.specs.Collation.TheVariants.{Binary}
use Rattle.sqlite.specs.Command.TheVariants.{Select}
use Rattle.sqlite.specs.Effect.{IsDatabase}
use Rattle.sqlite.specs.Listing.{understood}
use Rattle.sqlite.specs.Ops.{binary, is_true}
use Rattle.sqlite.specs.State.{State, Shown}
use Rattle.sqlite.specs.Term.{Term, col, eval_all, holds}
use Rattle.sqlite.proofs.Callers.{reads_as}
use Rattle.sqlite_rules.specs.Lists.{Has}
use Rattle.sqlite_sql.specs.declared.ops.BinaryOp.TheVariants.{Compare}
use Rattle.sqlite_sql.specs.declared.ops.CompareOp.TheVariants.{Eq}
use Rattle.sqlite_tied.specs.Compute.{everything}
use Rattle.wgr_sql.specs.Causes.{IsAnswered}
use Rattle.wgr_sql.specs.Effects.{passing, plain_query}
use Rattle.wgr_sql.proofs.Answers.{answers}
use Rattle.wgr_sql.proofs.RowLemmas.{equal_nats, map_filter}
use Rattle.wgr_sql.proofs.TextLemmas.{equal_texts, text_at}
use Rattle.wgr_sql.proofs.Values.{and_true}
use Rattle.wgr_columns.specs.Decode.{IsRegister, allowed_in, bytes_at, number_at, peer_in, route_kind, tables_of}
use Rattle.wgr_columns.specs.Layout.{Others, allowed_table_at, schema_with}
use Rattle.wgr_columns.proofs.Statements.{Asks, never_refused}
use Rattle.wgr_tables.proofs.Meanings.{of_network, of_routes, route_place}
use Rattle.wgr_entries.specs.Lookups.{peer_count, route_count}

abbrev pub peers_text : List ℕ
peers_text = codes "SELECT id FROM peer WHERE network = ?1"

abbrev pub peer_place : List Term
peer_place = col 1 0 ∷ []

abbrev pub routes_text : List ℕ
routes_text = codes "SELECT peer FROM allowed WHERE network = ?1 AND kind = 'route'"

module _ (others : Others) where
  pub peers_asks : Asks others peers_text (Select (record { lets = []; body = plain_query 8 (of_network 2) peer_place [] }) (codes "id" ∷ []))
  unfolding understood everything
  peers_asks = record { means = record { command_is = refl; plain = (refl, refl) }; unlisted = refl }

  pub routes_asks : Asks others routes_text (Select (record { lets = []; body = plain_query 10 of_routes route_place [] }) (codes "peer" ∷ []))
  unfolding understood everything
  routes_asks = record { means = record { command_is = refl; plain = (refl, refl) }; unlisted = refl }

  pub peers_answered : (id : ℕ) → IsAnswered (schema_with others) peers_text (Int (pos id) ∷ [])
  unfolding understood everything
  peers_answered id = record { given = (refl, refl, omega arith, refl); unlisted = refl; plain = λ limit trees e refused. never_refused _ refl limit (trees 8) refused }

  pub routes_answered : (id : ℕ) → IsAnswered (schema_with others) routes_text (Int (pos id) ∷ [])
  unfolding understood everything
  routes_answered id = record { given = (refl, refl, omega arith, refl); unlisted = refl; plain = λ limit trees e refused. never_refused _ refl limit (trees 10) refused }

-- a query shows as many rows as pass
module _ (old new : State) (register : IsRegister old.now) (text : List ℕ) (params : Row) (tree : ℕ) (terms places : List Term) (names : List (List ℕ))
    (asks : Asks register.others text (Select (record { lets = []; body = plain_query tree terms places [] }) names)) (rows : List Row) (shown : Shown text params old new rows) where
  counted : {T : Type 0} (in_ : Row → T) (q : T → Bool) → ((r : Row) → Has (old.now.trees tree) r → list_all (holds (params ∷ r ∷ [])) terms ≡ q (in_ r)) → length rows ≡ length (filter q (map in_ (old.now.trees tree)))
  counted in_ q passes =
      let table = old.now.trees tree in
      let read = reads_as text params old new (schema_with register.others) register.schema_is _ asks.means.command_is asks.means.plain asks.unlisted rows shown in
      let l = answers tree terms places [] old.now.trees params rows read.answer in
      ap length l.shown ∙ length-map l.chosen (λ r. eval_all places (params ∷ r ∷ [])) ∙ length_permutation (passing terms params table) l.chosen l.same
      ∙ sym (length-map (passing terms params table) in_) ∙ ap length (map_filter in_ (λ r. list_all (holds (params ∷ r ∷ [])) terms) q table passes)

module _ (old new : State) (register : IsRegister old.now) (n : ℕ) (rows : List Row) where
  abbrev params : Row
  params = Int (pos n) ∷ []

  pub peers_counted : Shown peers_text params old new rows → length rows ≡ peer_count (tables_of old.now) n
  peers_counted shown =
      counted old new register peers_text params 8 (of_network 2) peer_place _ (peers_asks register.others) rows shown peer_in (λ p. nat_eq p.network n)
      (λ r here. ap (λ v. is_true (binary (Compare Eq Binary) v (Int (pos n))) && true) (register.written.peers.numbers_are r here 2 (inr (inl refl))) ∙ and_true _ ∙ equal_nats (number_at r 2) n)

  sound : IsDatabase (record { schema = schema_with register.others; trees = old.now.trees })
  sound = subst (λ s. IsDatabase (record { schema = s; trees = old.now.trees })) register.schema_is register.sound

  and_turns : (a b : Bool) → (a && b) ≡ (b && a)
  and_turns true true = refl
  and_turns true false = refl
  and_turns false true = refl
  and_turns false false = refl

  route_passes : (r : Row) → Has (old.now.trees 10) r → list_all (holds (params ∷ r ∷ [])) of_routes ≡ (bytes_eq (bytes_at r 7) route_kind && nat_eq (number_at r 1) n)
  route_passes r here =
      ap₂ (λ x y. x && y)
      (ap (λ v. is_true (binary (Compare Eq Binary) v (Int (pos n)))) (register.written.allowed.numbers_are r here 1 (inl refl)) ∙ equal_nats (number_at r 1) n)
      (and_true _ ∙ ap (λ v. is_true (binary (Compare Eq Binary) v (Text route_kind))) (text_at (schema_with register.others) old.now.trees sound (allowed_table_at 10) (inr (inr (inr (inr (inr (inl refl)))))) r here 6 _ refl refl refl refl refl) ∙ equal_texts (bytes_at r 7) route_kind)
      ∙ and_turns (nat_eq (number_at r 1) n) (bytes_eq (bytes_at r 7) route_kind)

  pub routes_counted : Shown routes_text params old new rows → length rows ≡ route_count (tables_of old.now) n
  routes_counted shown =
      counted old new register routes_text params 10 of_routes route_place _ (routes_asks register.others) rows shown allowed_in (λ a. a.is_route && nat_eq a.network n) route_passes
