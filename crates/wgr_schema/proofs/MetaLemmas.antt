-- The register after an edit of the row of its version.
use Rattle.std.proofs.Common.{◌≡◌, ◌≢◌, ℕ, suc, Bool, true, false, List, [], ◌∷◌, ◌++◌, nat_le, map, refl, sym, ap, subst, ◌∙◌, arith, inl, inr, true≢false}
use Rattle.std.specs.List.{list_all}
use Rattle.std.proofs.lemmas.Bool.{and_parts}
use Rattle.std.proofs.lemmas.Bool.Decides.{nat_tests}
use Rattle.std.specs.Prelude.{codes}
use Rattle.sqlite.specs.Order.{Row}
use Rattle.sqlite.specs.Table.{Table}
use Rattle.sqlite.specs.Schema.{Schema}
use Rattle.sqlite.specs.Effect.{Database, IsDatabase}
use Rattle.sqlite_schema.specs.Names.{same_name}
use Rattle.sqlite_rules.specs.Lists.{Has}
use Rattle.wgr_model.specs.Rows.{third_version}
use Rattle.wgr_sql.specs.Effects.{Edits}
use Rattle.wgr_sql.specs.Named.{rows_named}
use Rattle.wgr_sql.proofs.NamedLemmas.{named_stays}
use Rattle.wgr_columns.specs.Layout.{is_apart, register_tables, schema_with}
use Rattle.wgr_columns.specs.Decode.{AreWritten, AreTenants, AreTokens, AreNetworks, ArePeers, AreAllowed, HasLater, HaveStatuses, HaveKinds, IsRegister, tables_of, meta_in}
use Rattle.wgr_tables.proofs.EditLemmas.{tables_after}

all_true : (p : Table → Bool) (ts : List Table) (t : Table) → list_all p ts ≡ true → Has ts t → p t ≡ true
all_true p [] t all h = absurd h
all_true p (y ∷ ts) t all (inl same) = ap p same ∙ (and_parts _ _ all).0
all_true p (y ∷ ts) t all (inr later) = all_true p ts t (and_parts _ _ all).1 later

other_tree : (t u : Table) (n : ℕ) → t ≡ u → u.tree ≡ suc n → t.tree ≢ 0
other_tree t u n same is zero = absurd (let e : t.tree ≡ suc n = ap (λ (x : Table). x.tree) same ∙ is in omega (arith, e, zero))

-- a table of another name than `meta` has another tree
beside_meta : (name : List ℕ) → same_name (codes "meta") name ≡ false → (more : List Table) → list_all (is_apart register_tables) more ≡ true → (t : Table) → Has (register_tables ++ more) t → same_name t.name name ≡ true → t.tree ≢ 0
beside_meta name other more apart t (inl same) named zero = true≢false (sym named ∙ ap (λ (x : Table). same_name x.name name) same ∙ other)
beside_meta name other more apart t (inr (inl same)) named zero = other_tree t _ 0 same refl zero
beside_meta name other more apart t (inr (inr (inl same))) named zero = other_tree t _ 2 same refl zero
beside_meta name other more apart t (inr (inr (inr (inl same)))) named zero = other_tree t _ 4 same refl zero
beside_meta name other more apart t (inr (inr (inr (inr (inl same))))) named zero = other_tree t _ 7 same refl zero
beside_meta name other more apart t (inr (inr (inr (inr (inr (inl same)))))) named zero = other_tree t _ 9 same refl zero
beside_meta name other more apart t (inr (inr (inr (inr (inr (inr here)))))) named zero =
    let past : nat_le 13 t.tree ≡ true = (and_parts _ _ (all_true (is_apart register_tables) more t apart here)).0 in
    absurd (grind (arith, nat_tests, zero))

module _ (old new : Database) (register : IsRegister old) (after : List Row) (e : Edits (schema_with register.others) 0 after old new) where
  -- the edit, as one of the old database's schema
  edits : Edits old.schema 0 after old new
  edits = subst (λ s. Edits s 0 after old new) (sym register.schema_is) e

  pub schema_after : new.schema ≡ old.schema
  schema_after = edits.schema_is

  pub meta_after : tables_of new ≡ record (tables_of old) { meta = map meta_in after }
  meta_after = tables_after old new register 0 after e refl

  pub named_after : (name : List ℕ) → same_name (codes "meta") name ≡ false → rows_named new name ≡ rows_named old name
  named_after name other =
      named_stays name old new 0 after edits (λ t here named. beside_meta name other register.others.tables register.apart.tables t (subst (λ (s : Schema). Has s.tables t) register.schema_is here) named)

  pub register_meta : IsDatabase new → AreWritten (0 ∷ []) [] [] after → ((tables_of new).meta ≡ third_version → HasLater new) → IsRegister new
  register_meta sound written later =
      let was = register.written in
      let tenants : new.trees 1 ≡ old.trees 1 = e.tables.1.0 (λ same. absurd cc) in
      let tokens : new.trees 3 ≡ old.trees 3 = e.tables.1.1.0 (λ same. absurd cc) in
      let networks : new.trees 5 ≡ old.trees 5 = e.tables.1.1.1.0 (λ same. absurd cc) in
      let peers : new.trees 8 ≡ old.trees 8 = e.tables.1.1.1.1.0 (λ same. absurd cc) in
      let allowed : new.trees 10 ≡ old.trees 10 = e.tables.1.1.1.1.1.0 (λ same. absurd cc) in
      record {
        others = register.others;
        schema_is = e.schema_is;
        apart = register.apart;
        sound = sound;
        written = record {
          meta = subst (AreWritten (0 ∷ []) [] []) (sym e.rows) written;
          tenants = subst AreTenants (sym tenants) was.tenants;
          tokens = subst AreTokens (sym tokens) was.tokens;
          networks = subst AreNetworks (sym networks) was.networks;
          peers = subst ArePeers (sym peers) was.peers;
          allowed = subst AreAllowed (sym allowed) was.allowed;
          statuses = subst HaveStatuses (sym peers) was.statuses;
          kinds = subst HaveKinds (sym allowed) was.kinds;
        };
        later = later;
      }
