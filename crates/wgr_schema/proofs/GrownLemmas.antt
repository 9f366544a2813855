-- The register after a table was made behind its own.
use Rattle.std.proofs.Common.{◌≡◌, ◌≤◌, ◌+◌, ℕ, List, true, false, [], ◌∷◌, ◌++◌, codes, map, nat_le, slice_get, option_map, refl, sym, ap, subst, ◌∙◌, arith, inl, inr}
use Rattle.std.specs.Prelude.{option_and_then}
use Rattle.std.specs.List.{AllByRecursion, list_all}
use Rattle.std.proofs.lemmas.Bool.Decides.{nat_tests}
use Rattle.sqlite.specs.Table.{Table}
use Rattle.sqlite.specs.Schema.{Schema}
use Rattle.sqlite.specs.Effect.{Database}
use Rattle.sqlite_schema.specs.Names.{same_name}
use Rattle.sqlite_catalog.specs.Change.{KeepsRows, automatics, is_used, next_tree}
use Rattle.sqlite_catalog.proofs.StepLemmas.{index_below}
use Rattle.sqlite_rules.specs.Lists.{Has}
use Rattle.wgr_model.specs.Rows.{Tables, third_version}
use Rattle.wgr_sql.specs.Effects.{CreatesTable}
use Rattle.wgr_sql.specs.Named.{HasTable, rows_in, rows_named}
use Rattle.wgr_sql.proofs.Creates.{no_table}
use Rattle.wgr_sql.proofs.GrowLemmas.{all_append, kept_rows, made, made_low, rows_grown, table_kept, table_new}
use Rattle.wgr_columns.specs.Layout.{Others, index_of, is_apart, is_past, refers_to_no_later, register_tables, schema_with, meta_table_at, tenant_table_at, token_table_at, network_table_at, peer_table_at, allowed_table_at}
use Rattle.wgr_columns.specs.Decode.{AreWritten, AreTenants, AreTokens, AreNetworks, ArePeers, AreAllowed, HaveStatuses, HaveKinds, IsRegister, tables_of, meta_in, tenant_in, token_in, network_in, peer_in, allowed_in, reader_in, second_in}

pub nothing_named : (db : Database) (name : List ℕ) → is_used db.schema name ≡ false → rows_named db name ≡ []
nothing_named db name free = ap (λ o. rows_in db.trees (option_map (λ (t : Table). t.tree) (option_and_then (slice_get db.schema.tables) o))) (no_table db.schema name free)

module _ (table : Table) (old new : Database) (register : IsRegister old) (grows : CreatesTable old.schema table old new) where
  abbrev tables_then : KeepsRows (schema_with register.others).tables old.trees new.trees
  tables_then = subst (λ (s : Schema). KeepsRows s.tables old.trees new.trees) register.schema_is grows.others

  past_all : 13 ≤ next_tree old.schema
  past_all =
      let last : Has old.schema.indexes (index_of (codes "allowed_peer") 12 10 (1 ∷ 6 ∷ []) false) = subst (λ (s : Schema). Has s.indexes (index_of (codes "allowed_peer") 12 10 (1 ∷ 6 ∷ []) false)) (sym register.schema_is) (inr (inr (inr (inr (inr (inr (inl refl))))))) in
      omega (arith, index_below old.schema (index_of (codes "allowed_peer") 12 10 (1 ∷ 6 ∷ []) false) last)

  stays : (t : Table) → Has register_tables t → new.trees t.tree ≡ old.trees t.tree
  stays t here = kept_rows register_tables old.trees new.trees t (first_six register_tables register.others.tables tables_then) here
    where
      first_six : (xs ys : List Table) → AllByRecursion (λ (t : Table). new.trees t.tree ≡ old.trees t.tree) (xs ++ ys) → AllByRecursion (λ (t : Table). new.trees t.tree ≡ old.trees t.tree) xs
      first_six [] ys all = tt
      first_six (x ∷ xs) ys all = (all.0, first_six xs ys all.1)

  meta_stays : new.trees 0 ≡ old.trees 0
  meta_stays = stays (meta_table_at 0) (inl refl)

  tenant_stays : new.trees 1 ≡ old.trees 1
  tenant_stays = stays (tenant_table_at 1) (inr (inl refl))

  token_stays : new.trees 3 ≡ old.trees 3
  token_stays = stays (token_table_at 3) (inr (inr (inl refl)))

  network_stays : new.trees 5 ≡ old.trees 5
  network_stays = stays (network_table_at 5) (inr (inr (inr (inl refl))))

  peer_stays : new.trees 8 ≡ old.trees 8
  peer_stays = stays (peer_table_at 8) (inr (inr (inr (inr (inl refl)))))

  allowed_stays : new.trees 10 ≡ old.trees 10
  allowed_stays = stays (allowed_table_at 10) (inr (inr (inr (inr (inr (inl refl))))))

  pub tables_grown : tables_of new ≡ tables_of old
  tables_grown =
      let seconds = rows_grown old new table grows (codes "second") in
      let readers = rows_grown old new table grows (codes "reader") in
      λ k. record {
        meta = map meta_in (meta_stays k);
        tenants = map tenant_in (tenant_stays k);
        tokens = map token_in (token_stays k);
        networks = map network_in (network_stays k);
        seconds = map second_in (seconds k);
        readers = map reader_in (readers k);
        peers = map peer_in (peer_stays k);
        allowed = map allowed_in (allowed_stays k);
      }

  -- the table that came
  pub came : (name : List ℕ) (form : ℕ → Table) → ((tree : ℕ) → (form tree).tree ≡ tree) → ((tree : ℕ) → (form tree).name ≡ name) → same_name name name ≡ true → table ≡ form 0 → ((tree : ℕ) → record (form 0) { tree = tree } ≡ form tree)
      → is_used old.schema name ≡ false → HasTable 13 name form new.schema
  came name form tree_so named_so itself is shape free =
      subst (HasTable 13 name form) (sym grows.schema_is) (table_new old.schema table 13 name form tree_so named_so itself is shape free past_all (made_low old.schema table old new grows))

  pub stayed : (name : List ℕ) (form : ℕ → Table) → ((tree : ℕ) → (form tree).tree ≡ tree) → HasTable 13 name form old.schema → HasTable 13 name form new.schema
  stayed name form tree_so h = subst (HasTable 13 name form) (sym grows.schema_is) (table_kept old.schema table 13 name form tree_so h)

  module _ (unreferring : table.references ≡ []) (older : (tables_of old).meta ≡ third_version → ⊥) where
    others_then : Others
    others_then = record {
      tables = register.others.tables ++ made old.schema table ∷ [];
      indexes = register.others.indexes ++ automatics (made old.schema table) 0 (next_tree old.schema + 1) table.uniques;
      views = register.others.views;
    }

    past_from : (at tree : ℕ) (keys : List (List ℕ)) → 13 ≤ tree → list_all is_past (automatics (made old.schema table) at tree keys) ≡ true
    past_from at tree [] high = refl
    past_from at tree (key ∷ keys) high = let first : nat_le 13 tree ≡ true = grind (arith, nat_tests) in rw (first, past_from (at + 1) (tree + 1) keys (omega arith))

    pub register_grown : IsRegister new
    unfolding others_then
    register_grown =
        let written = register.written in
        let high = past_all in
        let first : nat_le 13 (next_tree old.schema) ≡ true = grind (arith, nat_tests) in
        record {
          others = others_then;
          schema_is = grows.schema_is ∙ ap (λ (s : Schema). record { tables = s.tables ++ made old.schema table ∷ []; indexes = s.indexes ++ automatics (made old.schema table) 0 (next_tree old.schema + 1) table.uniques; views = s.views }) register.schema_is;
          apart = record {
            tables = all_append (is_apart register_tables) register.others.tables (made old.schema table ∷ []) register.apart.tables (rw (first, unreferring));
            unreferred = all_append refers_to_no_later register.others.tables (made old.schema table ∷ []) register.apart.unreferred (rw unreferring);
            indexes = all_append is_past register.others.indexes (automatics (made old.schema table) 0 (next_tree old.schema + 1) table.uniques) register.apart.indexes (past_from 0 (next_tree old.schema + 1) table.uniques (omega (arith, high)));
          };
          sound = grows.sound;
          written = record {
            meta = subst (AreWritten (0 ∷ []) [] []) (sym meta_stays) written.meta;
            tenants = subst AreTenants (sym tenant_stays) written.tenants;
            tokens = subst AreTokens (sym token_stays) written.tokens;
            networks = subst AreNetworks (sym network_stays) written.networks;
            peers = subst ArePeers (sym peer_stays) written.peers;
            allowed = subst AreAllowed (sym allowed_stays) written.allowed;
            statuses = subst HaveStatuses (sym peer_stays) written.statuses;
            kinds = subst HaveKinds (sym allowed_stays) written.kinds;
          };
          later = λ is. absurd (older (sym (ap (λ (t : Tables). t.meta) tables_grown) ∙ is));
        }
