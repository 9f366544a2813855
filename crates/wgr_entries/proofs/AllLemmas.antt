-- What the queries of whole tables show.
use Rattle.std.proofs.Common.{◌≡◌, ℕ, List, [], ◌∷◌, map, filter, length, true, codes, IsPermutation, inl, inr, refl, sym, ap, subst, ◌∙◌, arith}
use Rattle.std.proofs.lemmas.List.{length-map}
use Rattle.std.proofs.lemmas.List.Sorted.{IsPermutation-map, length_permutation}
use Rattle.sqlite.specs.declared.types.Value.TheVariants.{Null, Text, Blob}
use Rattle.sqlite.specs.Order.{Row}
use Rattle.sqlite_value.specs.Order.{column}
use Rattle.sqlite.specs.Term.{eval_all}
use Rattle.sqlite.specs.Effect.{IsDatabase}
use Rattle.sqlite.specs.Command.TheVariants.{Select}
use Rattle.sqlite.specs.Listing.{understood}
use Rattle.sqlite.specs.State.{State, Shown}
use Rattle.sqlite_rules.specs.Lists.{Has}
use Rattle.sqlite_tied.specs.Compute.{everything}
use Rattle.wgr_sql.proofs.TextLemmas.{text_at}
use Rattle.wgr_sql.proofs.Values.{blob_at}
use Rattle.wgr_sql.specs.Effects.{plain_query}
use Rattle.wgr_model.specs.Register.{NetworkEntry, Tenant, Token}
use Rattle.wgr_model.specs.Rows.{NetworkRow, Tables}
use Rattle.wgr_model.proofs.GatherLemmas.{map_map}
use Rattle.wgr_columns.specs.Decode.{IsRegister, bytes_at, network_in, number_at, tables_of, tenant_in, token_in}
use Rattle.wgr_sql.specs.Causes.{IsAnswered}
use Rattle.wgr_columns.specs.Layout.{Others, schema_with, tenant_table_at, token_table_at}
use Rattle.wgr_columns.specs.Stored.{AreStored, stored_network, stored_tenant}
use Rattle.wgr_tables.proofs.StoredLemmas.{network_is, stored_rows}
use Rattle.wgr_tables.proofs.ListedLemmas.{listed}
use Rattle.wgr_entries.proofs.LookupTexts.{tenant_places, token_places}
use Rattle.wgr_columns.specs.Texts.{select_networks}
use Rattle.wgr_columns.proofs.Statements.{Asks, network_names, network_places, never_refused}
use Rattle.wgr_entries.specs.Kept.{stored_token}
use Rattle.wgr_entries.specs.Lookups.{settled}

abbrev pub tokens_text : List ℕ
tokens_text = codes "SELECT NULL, digest, tenant FROM token"

abbrev pub tenants_text : List ℕ
tenants_text = codes "SELECT id, NULL, name FROM tenant"

abbrev pub networks_text : List ℕ
networks_text = select_networks []

module _ (others : Others) where
  pub tokens_asks : Asks others tokens_text (Select (record { lets = []; body = plain_query 3 [] token_places [] }) (codes "NULL" ∷ codes "digest" ∷ codes "tenant" ∷ []))
  unfolding understood everything
  tokens_asks = record { means = record { command_is = refl; plain = (refl, refl) }; unlisted = refl }

  pub tenants_asks : Asks others tenants_text (Select (record { lets = []; body = plain_query 1 [] tenant_places [] }) (codes "id" ∷ codes "NULL" ∷ codes "name" ∷ []))
  unfolding understood everything
  tenants_asks = record { means = record { command_is = refl; plain = (refl, refl) }; unlisted = refl }

  pub networks_asks : Asks others networks_text (Select (record { lets = []; body = plain_query 5 [] network_places [] }) network_names)
  unfolding understood everything
  networks_asks = record { means = record { command_is = refl; plain = (refl, refl) }; unlisted = refl }

  pub tokens_answered : IsAnswered (schema_with others) tokens_text []
  unfolding understood everything
  tokens_answered = record { given = (refl, refl, omega arith, refl); unlisted = refl; plain = λ limit trees e refused. never_refused _ refl limit (trees 3) refused }

  pub tenants_answered : IsAnswered (schema_with others) tenants_text []
  unfolding understood everything
  tenants_answered = record { given = (refl, refl, omega arith, refl); unlisted = refl; plain = λ limit trees e refused. never_refused _ refl limit (trees 1) refused }

  pub networks_answered : IsAnswered (schema_with others) networks_text []
  unfolding understood everything
  networks_answered = record { given = (refl, refl, omega arith, refl); unlisted = refl; plain = λ limit trees e refused. never_refused _ refl limit (trees 5) refused }

all_pass : {A : Type 0} (xs : List A) → filter (λ _. true) xs ≡ xs
all_pass [] = refl
all_pass (x ∷ xs) = ap (λ ys. x ∷ ys) (all_pass xs)

-- the rows are those of all tokens, of all tenants, of all networks
abbrev pub ShowTokens : Tables → List Row → Type 0
ShowTokens t rows = IsPermutation t.tokens (map token_in rows)

abbrev pub ShowTenants : Tables → List Row → Type 0
ShowTenants t rows = IsPermutation t.tenants (map tenant_in rows)

abbrev pub ShowNetworks : Tables → List Row → Type 0
ShowNetworks t rows = IsPermutation t.networks (map network_in rows)

module _ (old new : State) (register : IsRegister old.now) (rows : List Row) where
  pub tokens_listed : Shown tokens_text [] old new rows → ShowTokens (tables_of old.now) rows
  tokens_listed shown =
      subst (λ xs. IsPermutation xs (map token_in rows)) (all_pass (tables_of old.now).tokens)
      (listed old new register tokens_text [] 3 [] token_places [] _ (tokens_asks register.others) rows shown token_in (λ _. true) (λ r. refl) (λ r here. refl))

  pub tenants_listed : Shown tenants_text [] old new rows → ShowTenants (tables_of old.now) rows
  tenants_listed shown =
      subst (λ xs. IsPermutation xs (map tenant_in rows)) (all_pass (tables_of old.now).tenants)
      (listed old new register tenants_text [] 1 [] tenant_places [] _ (tenants_asks register.others) rows shown tenant_in (λ _. true) (λ r. refl) (λ r here. refl))

  pub networks_listed : Shown networks_text [] old new rows → ShowNetworks (tables_of old.now) rows
  networks_listed shown =
      subst (λ xs. IsPermutation xs (map network_in rows)) (all_pass (tables_of old.now).networks)
      (listed old new register networks_text [] 5 [] network_places [] _ (networks_asks register.others) rows shown network_in (λ _. true) (λ r. refl) (λ r here. refl))

  sound : IsDatabase (record { schema = schema_with register.others; trees = old.now.trees })
  sound = subst (λ s. IsDatabase (record { schema = s; trees = old.now.trees })) register.schema_is register.sound

  tenant_is : (r : Row) → Has (old.now.trees 1) r → eval_all tenant_places ([] ∷ r ∷ []) ≡ stored_tenant (tenant_in r)
  tenant_is r here =
      let id = register.written.tenants.numbers_are r here 0 (inl refl) in
      let name : column r 2 ≡ Text (bytes_at r 2) = text_at (schema_with register.others) old.now.trees sound (tenant_table_at 1) (inr (inl refl)) r here 1 _ refl refl refl refl refl in
      λ k. id k ∷ Null ∷ name k ∷ []

  token_is : (r : Row) → Has (old.now.trees 3) r → eval_all token_places ([] ∷ r ∷ []) ≡ stored_token (token_in r)
  token_is r here =
      let tenant = register.written.tokens.numbers_are r here 2 (inl refl) in
      let digest : column r 1 ≡ Blob (bytes_at r 1) = blob_at (schema_with register.others) old.now.trees sound (token_table_at 3) (inr (inr (inl refl))) r here 0 _ refl refl refl refl refl in
      λ k. Null ∷ digest k ∷ tenant k ∷ []

  pub tokens_stored : Shown tokens_text [] old new rows → AreStored stored_token token_in rows
  tokens_stored shown = stored_rows old new register tokens_text [] 3 [] token_places [] _ (tokens_asks register.others) rows shown token_in (λ r. refl) stored_token token_is

  pub tenants_stored : Shown tenants_text [] old new rows → AreStored stored_tenant tenant_in rows
  tenants_stored shown = stored_rows old new register tenants_text [] 1 [] tenant_places [] _ (tenants_asks register.others) rows shown tenant_in (λ r. refl) stored_tenant tenant_is

  pub networks_stored : Shown networks_text [] old new rows → AreStored stored_network network_in rows
  networks_stored shown = stored_rows old new register networks_text [] 5 [] network_places [] _ (networks_asks register.others) rows shown network_in (λ r. refl) stored_network (network_is old new register 0 rows)

pub counted : (t : Tables) (rows : List Row) → ShowTokens t rows → length rows ≡ length t.tokens
counted t rows is = sym (length-map rows token_in) ∙ length_permutation t.tokens (map token_in rows) is

pub ids_listed : (t : Tables) (rows : List Row) (ids : List ℕ) → ShowTenants t rows → ids ≡ map (λ r. number_at r 0) rows → IsPermutation (map (λ x. x.id) t.tenants) ids
ids_listed t rows ids is same = subst (IsPermutation (map (λ x. x.id) t.tenants)) (map_map tenant_in (λ x. x.id) rows ∙ sym same) (IsPermutation-map (λ x. x.id) t.tenants (map tenant_in rows) is)

pub tenants_read : (t : Tables) (rows : List Row) (tenants : List Tenant) → ShowTenants t rows → tenants ≡ map tenant_in rows → IsPermutation t.tenants tenants
tenants_read t rows tenants is same = subst (IsPermutation t.tenants) (sym same) is

pub tokens_read : (t : Tables) (rows : List Row) (tokens : List Token) → ShowTokens t rows → tokens ≡ map token_in rows → IsPermutation t.tokens tokens
tokens_read t rows tokens is same = subst (IsPermutation t.tokens) (sym same) is

pub networks_read : (t : Tables) (rows : List Row) (networks : List NetworkEntry) → ShowNetworks t rows → networks ≡ map (λ r. settled (network_in r)) rows
    → (read : List NetworkRow) × IsPermutation t.networks read × (networks ≡ map settled read)
networks_read t rows networks is same = (map network_in rows, is, same ∙ sym (map_map network_in settled rows))
