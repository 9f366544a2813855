-- The register after an edit of one of its tables.
use Rattle.std.proofs.Common.{◌≡◌, ◌≢◌, codes, ℕ, ◌==◌, Bool, true, false, not, nat_le, if◌then◌else◌, List, map, refl, sym, ap, subst, ◌∙◌, arith}
use Rattle.std.specs.List.{list_all, list_any}
use Rattle.std.proofs.lemmas.Bool.Decides.{nat_tests}
use Rattle.sqlite.specs.Order.{Row}
use Rattle.sqlite_trees.specs.Tree.{with_tree}
use Rattle.sqlite.specs.Effect.{Database, IsDatabase}
use Rattle.sqlite.specs.Schema.{Schema}
use Rattle.sqlite.specs.Table.{Table}
use Rattle.sqlite_rules.specs.Lists.{Has}
use Rattle.sqlite_schema.specs.Names.{same_name}
use Rattle.wgr_model.specs.Rows.{third_version}
use Rattle.wgr_sql.specs.Effects.{Edits}
use Rattle.wgr_sql.specs.Named.{rows_named}
use Rattle.wgr_sql.proofs.NamedLemmas.{named_stays}
use Rattle.wgr_columns.specs.Layout.{HasReader, HasSecond, register_indexes, register_tables, schema_with}
use Rattle.wgr_columns.specs.Decode.{AreTrees, AreWritten, AreTenants, AreTokens, AreNetworks, ArePeers, AreAllowed, AreReaders, AreSeconds, HasLater, HaveStatuses, HaveKinds, IsRegister, tables_in, tables_of, meta_in, tenant_in, token_in, network_in, peer_in, allowed_in, reader_in, second_in}
use Rattle.wgr_tables.proofs.LayoutLemmas.{is_no_index, past_tree}

module _ (old new : Database) (register : IsRegister old) (tree : ℕ) (after : List Row) (e : Edits (schema_with register.others) tree after old new) where
  stays : (t : ℕ) → nat_le 13 t ≡ false → list_all (λ i. not (i.tree == t)) register_indexes ≡ true → new.trees t ≡ with_tree old.trees tree after t
  stays t low ours = go (t == tree) refl
    where
      go : (b : Bool) → (t == tree) ≡ b → new.trees t ≡ (if b then after else old.trees t)
      go true is = let same : t ≡ tree = grind (arith, nat_tests, is) in ap new.trees same ∙ e.rows
      go false is = e.others t (λ same. absurd (let z : t ≡ tree = same in grind (arith, nat_tests, is))) (is_no_index register.others register.apart t low ours)

  same_schema : new.schema ≡ old.schema
  same_schema = e.schema_is ∙ sym register.schema_is

  -- the edit, as one of the old database's schema
  edits : Edits old.schema tree after old new
  edits = subst (λ s. Edits s tree after old new) (sym register.schema_is) e

  module _ (low : nat_le 13 tree ≡ false) where
    -- a table of another name than the first six has another tree
    beside : (name : List ℕ) → list_any (λ t. same_name t.name name) register_tables ≡ false → (t : Table) → Has old.schema.tables t → same_name t.name name ≡ true → t.tree ≢ tree
    beside name other t here named same =
        let past = past_tree name other register.others.tables register.apart.tables t (subst (λ (s : Schema). Has s.tables t) register.schema_is here) named in
        absurd (let z : t.tree ≡ tree = same in grind (arith, nat_tests))

    seconds_stay : rows_named new (codes "second") ≡ rows_named old (codes "second")
    unfolding same_name
    seconds_stay = named_stays (codes "second") old new tree after edits (beside (codes "second") refl)

    readers_stay : rows_named new (codes "reader") ≡ rows_named old (codes "reader")
    unfolding same_name
    readers_stay = named_stays (codes "reader") old new tree after edits (beside (codes "reader") refl)

    pub tables_after : tables_of new ≡ record (tables_in old.schema (with_tree old.trees tree after)) { seconds = (tables_of old).seconds; readers = (tables_of old).readers }
    tables_after =
        let meta = stays 0 refl refl in
        let tenants = stays 1 refl refl in
        let tokens = stays 3 refl refl in
        let networks = stays 5 refl refl in
        let seconds = seconds_stay in
        let readers = readers_stay in
        let peers = stays 8 refl refl in
        let allowed = stays 10 refl refl in
        λ k. record {
          meta = map meta_in (meta k);
          tenants = map tenant_in (tenants k);
          tokens = map token_in (tokens k);
          networks = map network_in (networks k);
          seconds = map second_in (seconds k);
          readers = map reader_in (readers k);
          peers = map peer_in (peers k);
          allowed = map allowed_in (allowed k);
        }

    later_after : with_tree old.trees tree after 0 ≡ old.trees 0 → (tables_of new).meta ≡ third_version → HasLater new
    later_after same is =
        let was = register.later (ap (map meta_in) (sym (stays 0 refl refl ∙ same)) ∙ is) in
        record {
          second = subst HasSecond (sym same_schema) was.second;
          reader = subst HasReader (sym same_schema) was.reader;
          seconds = subst AreSeconds (sym seconds_stay) was.seconds;
          readers = subst AreReaders (sym readers_stay) was.readers;
        }

    pub register_after : IsDatabase new → with_tree old.trees tree after 0 ≡ old.trees 0 → AreTrees (with_tree old.trees tree after) → IsRegister new
    register_after sound same written = record {
      others = register.others;
      schema_is = e.schema_is;
      apart = register.apart;
      sound = sound;
      written = record {
        meta = subst (AreWritten _ _ _) (sym (stays 0 refl refl)) written.meta;
        tenants = subst (AreWritten _ _ _) (sym (stays 1 refl refl)) written.tenants;
        tokens = subst (AreWritten _ _ _) (sym (stays 3 refl refl)) written.tokens;
        networks = subst AreNetworks (sym (stays 5 refl refl)) written.networks;
        peers = subst ArePeers (sym (stays 8 refl refl)) written.peers;
        allowed = subst AreAllowed (sym (stays 10 refl refl)) written.allowed;
        statuses = subst HaveStatuses (sym (stays 8 refl refl)) written.statuses;
        kinds = subst HaveKinds (sym (stays 10 refl refl)) written.kinds;
      };
      later = later_after same;
    }

-- ---- the rows of one table change

module _ (old new : Database) (after : List Row) (register : IsRegister old) (sound : IsDatabase new) where
  abbrev good : AreTrees old.trees
  good = register.written

  module _ (e : Edits (schema_with register.others) 1 after old new) where
    pub tenants_after : tables_of new ≡ record (tables_of old) { tenants = map tenant_in after }
    tenants_after = tables_after old new register 1 after e refl

    pub register_tenants : AreTenants after → IsRegister new
    register_tenants tenants = register_after old new register 1 after e refl sound refl (record { meta = good.meta; tenants = tenants; tokens = good.tokens; networks = good.networks; peers = good.peers; allowed = good.allowed; statuses = good.statuses; kinds = good.kinds })

  module _ (e : Edits (schema_with register.others) 3 after old new) where
    pub tokens_after : tables_of new ≡ record (tables_of old) { tokens = map token_in after }
    tokens_after = tables_after old new register 3 after e refl

    pub register_tokens : AreTokens after → IsRegister new
    register_tokens tokens = register_after old new register 3 after e refl sound refl (record { meta = good.meta; tenants = good.tenants; tokens = tokens; networks = good.networks; peers = good.peers; allowed = good.allowed; statuses = good.statuses; kinds = good.kinds })

  module _ (e : Edits (schema_with register.others) 5 after old new) where
    pub networks_after : tables_of new ≡ record (tables_of old) { networks = map network_in after }
    networks_after = tables_after old new register 5 after e refl

    pub register_networks : AreNetworks after → IsRegister new
    register_networks networks = register_after old new register 5 after e refl sound refl (record { meta = good.meta; tenants = good.tenants; tokens = good.tokens; networks = networks; peers = good.peers; allowed = good.allowed; statuses = good.statuses; kinds = good.kinds })

  module _ (e : Edits (schema_with register.others) 8 after old new) where
    pub peers_after : tables_of new ≡ record (tables_of old) { peers = map peer_in after }
    peers_after = tables_after old new register 8 after e refl

    pub register_peers : ArePeers after → HaveStatuses after → IsRegister new
    register_peers peers statuses = register_after old new register 8 after e refl sound refl (record { meta = good.meta; tenants = good.tenants; tokens = good.tokens; networks = good.networks; peers = peers; allowed = good.allowed; statuses = statuses; kinds = good.kinds })

  module _ (e : Edits (schema_with register.others) 10 after old new) where
    pub allowed_after : tables_of new ≡ record (tables_of old) { allowed = map allowed_in after }
    allowed_after = tables_after old new register 10 after e refl

    pub register_allowed : AreAllowed after → HaveKinds after → IsRegister new
    register_allowed allowed kinds = register_after old new register 10 after e refl sound refl (record { meta = good.meta; tenants = good.tenants; tokens = good.tokens; networks = good.networks; peers = good.peers; allowed = allowed; statuses = good.statuses; kinds = kinds })
