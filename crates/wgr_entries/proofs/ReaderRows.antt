-- The register after an edit of the table `reader`.
use Rattle.std.proofs.Common.{◌≡◌, ◌≢◌, ◌==◌, ◌||◌, not, ℕ, Bool, true, false, List, [], ◌∷◌, codes, nat_le, map, refl, sym, ap, subst, ◌∙◌, arith, inl, inr}
use Rattle.std.specs.List.{list_all, list_any}
use Rattle.std.proofs.lemmas.Bool.{and_parts}
use Rattle.std.proofs.lemmas.Bool.Decides.{nat_tests}
use Rattle.sqlite.specs.Order.{Row}
use Rattle.sqlite.specs.Table.{Table}
use Rattle.sqlite.specs.Effect.{Database, IsDatabase}
use Rattle.sqlite_schema.specs.Names.{same_name}
use Rattle.sqlite_schema.specs.declared.schema.Reference.{Reference}
use Rattle.sqlite_rules.specs.Lists.{Has}
use Rattle.wgr_sql.specs.Effects.{Edits}
use Rattle.wgr_sql.specs.Named.{is_alone, rows_in, rows_named, tree_named}
use Rattle.wgr_sql.proofs.Creates.{neither}
use Rattle.wgr_sql.proofs.NamedLemmas.{has_at, no_index, tree_is}
use Rattle.wgr_sql.proofs.UnreferredLemmas.{is_unreferred}
use Rattle.wgr_columns.specs.Layout.{HasReader, HasSecond, first_free_tree, reader_table_at, refers_to_no_later, schema_with, second_table_at}
use Rattle.wgr_columns.specs.Decode.{AreWritten, AreTenants, AreTokens, AreNetworks, ArePeers, AreAllowed, AreReaders, AreSeconds, HasLater, HaveStatuses, HaveKinds, IsRegister, tables_of, meta_in, tenant_in, token_in, network_in, peer_in, allowed_in, reader_in, second_in}
use Rattle.wgr_entries.specs.ThirdVersion.{IsThirdRegister}

pub second_tree : (tree : ℕ) → (second_table_at tree).tree ≡ tree
second_tree tree = refl

pub reader_tree : (tree : ℕ) → (reader_table_at tree).tree ≡ tree
reader_tree tree = refl

-- ---- no table refers to `reader`

no_reader_named : (refs : List Reference) → list_any (λ (r : Reference). same_name (codes "second") r.parent || same_name (codes "reader") r.parent) refs ≡ false → list_any (λ (r : Reference). same_name (codes "reader") r.parent) refs ≡ false
no_reader_named [] none = refl
no_reader_named (r ∷ refs) none =
    let parts = neither (same_name (codes "second") r.parent || same_name (codes "reader") r.parent) _ none in
    rw ((neither (same_name (codes "second") r.parent) _ parts.0).1, no_reader_named refs parts.1)

none_refers : (ts : List Table) → list_all refers_to_no_later ts ≡ true → list_all (λ (t : Table). not (list_any (λ (r : Reference). same_name (codes "reader") r.parent) t.references)) ts ≡ true
none_refers [] all = refl
none_refers (t ∷ ts) all =
    let parts = and_parts (refers_to_no_later t) _ all in
    rw (no_reader_named t.references (is_false _ parts.0), none_refers ts parts.1)
  where
    is_false : (b : Bool) → not b ≡ true → b ≡ false
    is_false false h = refl
    is_false true h = absurd cc

pub unreferred : (db : Database) → IsRegister db → is_unreferred (codes "reader") db.schema ≡ true
unreferred db register = subst (λ s. is_unreferred (codes "reader") s ≡ true) (sym register.schema_is) (none_refers register.others.tables register.apart.unreferred)

-- ---- what stays

pub reader_of : (db : Database) → IsThirdRegister db → HasReader db.schema
reader_of db h = (h.register.later h.third).reader

pub rows_are : (db : Database) (h : HasReader db.schema) → rows_named db (codes "reader") ≡ db.trees h.tree
rows_are db h = ap (rows_in db.trees) (tree_is first_free_tree (codes "reader") reader_table_at reader_tree db.schema h)

all_true : (p : Table → Bool) (ts : List Table) (t : Table) → list_all p ts ≡ true → Has ts t → p t ≡ true
all_true p [] t all h = absurd h
all_true p (y ∷ ts) t all (inl same) = ap p same ∙ (and_parts _ _ all).0
all_true p (y ∷ ts) t all (inr later) = all_true p ts t (and_parts _ _ all).1 later

module _ (old new : Database) (start : IsThirdRegister old) (after : List Row) where
  abbrev register : IsRegister old
  register = start.register

  abbrev later : HasLater old
  later = start.register.later start.third

  abbrev h : HasReader old.schema
  h = (start.register.later start.third).reader

  module _ (e : Edits old.schema h.tree after old new) where
    -- the edit, as one of the schema that has the register's tables first
    six : Edits (schema_with register.others) h.tree after old new
    six = subst (λ s. Edits s h.tree after old new) register.schema_is e

    other : (tree : ℕ) → nat_le 13 tree ≡ false → tree ≢ h.tree
    other tree low same = absurd (let past : nat_le 13 h.tree ≡ true = h.past in let z : tree ≡ h.tree = same in grind (arith, nat_tests))

    meta_stays : new.trees 0 ≡ old.trees 0
    meta_stays = six.tables.0 (other 0 refl)

    tenants_stay : new.trees 1 ≡ old.trees 1
    tenants_stay = six.tables.1.0 (other 1 refl)

    tokens_stay : new.trees 3 ≡ old.trees 3
    tokens_stay = six.tables.1.1.0 (other 3 refl)

    networks_stay : new.trees 5 ≡ old.trees 5
    networks_stay = six.tables.1.1.1.0 (other 5 refl)

    peers_stay : new.trees 8 ≡ old.trees 8
    peers_stay = six.tables.1.1.1.1.0 (other 8 refl)

    allowed_stays : new.trees 10 ≡ old.trees 10
    allowed_stays = six.tables.1.1.1.1.1.0 (other 10 refl)

    -- `second` has another tree
    trees_differ : later.second.tree ≢ h.tree
    unfolding same_name
    trees_differ same =
        let k = later.second in
        let alone : (false || not (k.tree == h.tree)) ≡ true = all_true (is_alone (codes "reader") h.tree) old.schema.tables (second_table_at k.tree) h.alone (has_at old.schema.tables k.at (second_table_at k.tree) k.there) in
        absurd (let z : k.tree ≡ h.tree = same in grind (arith, nat_tests))

    seconds_stay : rows_named new (codes "second") ≡ rows_named old (codes "second")
    seconds_stay =
        let k = later.second in
        let is = tree_is first_free_tree (codes "second") second_table_at second_tree old.schema k in
        ap (λ s. rows_in new.trees (tree_named s (codes "second"))) e.schema_is ∙ ap (rows_in new.trees) is ∙ e.others k.tree trees_differ (no_index first_free_tree (codes "second") second_table_at second_tree old.schema k) ∙ sym (ap (rows_in old.trees) is)

    readers_after : rows_named new (codes "reader") ≡ after
    readers_after = ap (λ s. rows_in new.trees (tree_named s (codes "reader"))) e.schema_is ∙ ap (rows_in new.trees) (tree_is first_free_tree (codes "reader") reader_table_at reader_tree old.schema h) ∙ e.rows

    pub tables_after : tables_of new ≡ record (tables_of old) { readers = map reader_in after }
    tables_after =
        let meta = meta_stays in
        let tenants = tenants_stay in
        let tokens = tokens_stay in
        let networks = networks_stay in
        let seconds = seconds_stay in
        let readers = readers_after in
        let peers = peers_stay in
        let allowed = allowed_stays in
        λ k. record {
          meta = map meta_in (meta k);
          tenants = map tenant_in (tenants k);
          tokens = map token_in (tokens k);
          networks = map network_in (networks k);
          seconds = map second_in (seconds k);
          readers = map reader_in (readers k);
          peers = map peer_in (peers k);
          allowed = map allowed_in (allowed k);
        }

    pub register_after : IsDatabase new → AreReaders after → IsThirdRegister new
    register_after sound readers =
        let was = register.written in
        record {
          register = record {
            others = register.others;
            schema_is = six.schema_is;
            apart = register.apart;
            sound = sound;
            written = record {
              meta = subst (AreWritten _ _ _) (sym meta_stays) was.meta;
              tenants = subst AreTenants (sym tenants_stay) was.tenants;
              tokens = subst AreTokens (sym tokens_stay) was.tokens;
              networks = subst AreNetworks (sym networks_stay) was.networks;
              peers = subst ArePeers (sym peers_stay) was.peers;
              allowed = subst AreAllowed (sym allowed_stays) was.allowed;
              statuses = subst HaveStatuses (sym peers_stay) was.statuses;
              kinds = subst HaveKinds (sym allowed_stays) was.kinds;
            };
            later = λ _. record {
              second = subst HasSecond (sym e.schema_is) later.second;
              reader = subst HasReader (sym e.schema_is) h;
              seconds = subst AreSeconds (sym seconds_stay) later.seconds;
              readers = subst AreReaders (sym readers_after) readers;
            };
          };
          third = ap (map meta_in) meta_stays ∙ start.third;
        }
