-- One reading after another, and what all of them tell.
use Rattle.std.proofs.Common.{◌≡◌, ◌≤◌, ℕ, codes, pos, Bool, true, false, ◌||◌, IsTrue, Ok, Err, Result, IfErr, List, [], ◌∷◌, length, map, nat_eq, refl, sym, ap, subst, ◌∙◌, inl, inr, unsigned_abs, arith, true≢false}
use Rattle.std.specs.List.{AllByRecursion, IsDistinct, list_any}
use Rattle.std.proofs.Math.ListN.{length-map}
use Rattle.std.proofs.lemmas.List.Sorted.{IsPermutation-sym, length_permutation}
use Rattle.sqlite.specs.Order.{Row}
use Rattle.sqlite_value.specs.Order.{column}
use Rattle.sqlite.specs.declared.types.Value.{Value}
use Rattle.sqlite.specs.declared.types.Value.TheVariants.{Int, Null}
use Rattle.sqlite.specs.Effect.{Database, IsDatabase}
use Rattle.sqlite.specs.State.{State, HasCleanDisk, Survives}
use Rattle.sqlite.specs.Store.{Ghosts}
use Rattle.sqlite.specs.Held.{Held, state}
use Rattle.sqlite.specs.Tree.{Trees}
use Rattle.sqlite_rules.specs.Edit.{id_in}
use Rattle.sqlite_rules.specs.Lists as rules
use Rattle.wgr_pool.proofs.PrefixLemmas.{nat_eq_is}
use Rattle.wgr_model.specs.Laws.{Has}
use Rattle.wgr_model.specs.RowLaws.{AreConsistent}
use Rattle.wgr_model.specs.Rows.{AllowedRow, MetaRow, NetworkRow, PeerRow, Tables, third_version}
use Rattle.wgr_model.proofs.CollectLemmas.{from_map, has_map}
use Rattle.wgr_model.proofs.SameLemmas.{at_has, has_permutation}
use Rattle.wgr_sql.specs.Calls.{IsKept}
use Rattle.wgr_sql.specs.Causes.{HasCause}
use Rattle.wgr_sql.specs.declared.fault.Fault.{Fault}
use Rattle.wgr_sql.specs.declared.fault.Fault.TheVariants.{NoMemory, Store}
use Rattle.wgr_sql.proofs.Answers.{map-both}
use Rattle.wgr_sql.proofs.StandingLemmas.{stands_kept, stands_open}
use Rattle.wgr_schema.specs.Versions.{IsOfVersion, SaysVersion, version_number}
use Rattle.wgr_schema.specs.declared.version.Version.{Version}
use Rattle.wgr_schema.specs.declared.version.Version.TheVariants.{One, Two, Three}
use Rattle.wgr_schema.proofs.FreshLemmas.{none_written}
use Rattle.wgr_schema.proofs.VersionLemmas.{meta_read}
use Rattle.wgr_columns.specs.LaidOut.{IsLaidOut}
use Rattle.wgr_columns.specs.Decode.{AreAllowed, ArePeers, AreSeconds, AreWritten, HasLater, HaveKinds, HaveStatuses, IsRegister, allowed_in, network_in, number_at, peer_in, second_in, tables_of, tenant_in}
use Rattle.wgr_tables.specs.Standing.{Stands}
use Rattle.wgr_tables.specs.Writes.{Writes}
use Rattle.wgr_checks.specs.Sorted.{AreAmong}
use Rattle.wgr_columns.specs.LaidOut.{Laid}
use Rattle.wgr_sql.specs.Named.{rows_named}
use Rattle.wgr_checks.specs.Laws.{AreConsistentNetworks, AreConsistentReaders, AreConsistentTenants, AreConsistentTokens, HasGoodValues}
use Rattle.wgr_checks.specs.TenantRows.{AreIdsOf}
use Rattle.wgr_checks.proofs.TenantLaws.{good_is}
use Rattle.wgr_checks.proofs.NetworkLaws.{good_networks_are}
use Rattle.wgr_checks.proofs.TokenLaws.{good_tokens_are}
use Rattle.wgr_checks.proofs.ReaderLaws.{good_are}
use Rattle.wgr_checks.proofs.MemberLaws.{allowed_are, peers_are}
use Rattle.wgr_opening.specs.Good.{HasAll, HasEntries, HasTables, IsGood, IsReady, HasSoundRows, StoresNetwork, as_third}
use Rattle.wgr_opening.specs.Whole.{AreWhole, IsNamed, IsThere}
use Rattle.wgr_opening.proofs.GoodLemmas.{stored_third}
use Rattle.wgr_opening.proofs.WholeLemmas.{whole_is_consistent}

pub cause_if_clean : {X : Type 0} (old new : State) (r : Result X Fault) → (HasCleanDisk new → IfErr r (HasCause old new)) → IfErr r (HasCause old new)
cause_if_clean old new (Ok x) h = tt
cause_if_clean old new (Err NoMemory) h = tt
cause_if_clean old new (Err (Store w)) h = λ clean. h clean clean

-- what was laid out is so after a reading
pub laid_still : (old new : State) → HasCleanDisk new → Laid old → IsKept old new → Laid new
laid_still old new clean laid kept live = let is = kept clean live in subst (λ (d : Database). IsLaidOut d.schema) (sym is.1) (laid is.0)

-- two readings, one after the other
pub kept_next : (a b d : State) → Survives b d (λ _. ⊥) → ((HasCleanDisk b → Laid a) → IsKept a b) → ((HasCleanDisk d → Laid b) → IsKept b d) → (HasCleanDisk d → Laid a) → IsKept a d
kept_next a b d t one two laid clean live =
    let before : HasCleanDisk b = omega (arith, t.clean, clean) in
    let first = one (λ _. laid clean) in
    let second = two (λ _. laid_still a b before (laid clean) first) clean live in
    let back = first before second.0 in
    (back.0, second.1 ∙ back.1)

pub ids_apart : (db : Database) (ids : List ℕ) → HasTables db.trees ids → IsDistinct nat_eq (map (λ w. w.id) (tables_of db).networks)
ids_apart db ids has = subst (IsDistinct nat_eq) (sym (map-both network_in (λ (w : NetworkRow). w.id) (db.trees 5))) has.there.apart.ids

-- as many ids, as many rows
pub few_rows : (rows : List Row) (ids : List ℕ) → AreIdsOf rows ids → length ids ≤ 65536 → length rows ≤ 65536
few_rows rows ids are few = subst (λ n. n ≤ 65536) (length_permutation (map (λ r. number_at r 0) rows) ids are.same ∙ length-map rows (λ r. number_at r 0)) few

pub few_ids : (rows : List Row) (ids : List ℕ) → AreIdsOf rows ids → length rows ≤ 65536 → length ids ≤ 65536
few_ids rows ids are few = subst (λ n. n ≤ 65536) (sym (length_permutation (map (λ r. number_at r 0) rows) ids are.same ∙ length-map rows (λ r. number_at r 0))) few

-- ---- elements

all_weaker : {X : Type 0} (P Q : X → Type 0) → ((x : X) → P x → Q x) → (xs : List X) → AllByRecursion P xs → AllByRecursion Q xs
all_weaker P Q f [] all = tt
all_weaker P Q f (x ∷ xs) all = (f x all.0, all_weaker P Q f xs all.1)

any_has : {X : Type 0} (p : X → Bool) (xs : List X) → list_any p xs ≡ true → (x : X) × Has xs x × (p x ≡ true)
any_has p [] some = absurd cc
any_has p (x ∷ xs) some = go (p x) refl some (λ later. any_has p xs later) where
  go : (b : Bool) → p x ≡ b → (b || list_any p xs) ≡ true → (list_any p xs ≡ true → (y : _) × Has xs y × (p y ≡ true)) → (y : _) × Has (x ∷ xs) y × (p y ≡ true)
  go true is some rest = (x, inl refl, is)
  go false is some rest = let h = rest some in (h.0, inr h.1, h.2)

-- ---- the register

-- the rows of `meta` tell the third version from any other
pub other_version : (n : ℕ) → nat_eq n 3 ≡ false → (record { version = n } ∷ []) ≡ third_version → ⊥
other_version n other same = true≢false (sym (ap is_third same) ∙ other)
  where
    is_third : List MetaRow → Bool
    is_third [] = true
    is_third (m ∷ rows) = nat_eq m.version 3

version_written : (version : Version) (rows : List Row) → SaysVersion version rows → AreWritten (0 ∷ []) [] [] rows
version_written version [] first = absurd cc
version_written version (r ∷ s ∷ rows) first = absurd cc
version_written version (r ∷ []) first =
    let is : column r 0 ≡ Int (pos (version_number version)) = λ i. unwrap_head (first i) in
    record {
      keyed = record {
        ints = λ x here. elim here [ inl same ↦ subst (λ y. column y 0 ≡ Int (id_in (column y 0))) (sym same) (is ∙ sym (ap (λ v. Int (id_in v)) is)) | inr none ↦ absurd none ];
        once = λ x y here there same. only here ∙ sym (only there);
      };
      numbers_are = λ x here p place. elim place [ inl e ↦ subst (λ n. column x n ≡ Int (pos (number_at x n))) (sym e) (subst (λ y. column y 0 ≡ Int (pos (number_at y 0))) (sym (only here)) (is ∙ sym (ap (λ v. Int (pos (unsigned_abs (id_in v)))) is))) | inr none ↦ absurd none ];
      addresses_are = λ x here p none. absurd none;
      families_are = λ x here p none. absurd none;
    }
  where
    unwrap_head : List Value → Value
    unwrap_head [] = Null
    unwrap_head (v ∷ vs) = v

    only : {x : Row} → rules.Has (r ∷ []) x → x ≡ r
    only {x = x} here = elim here [ inl same ↦ same | inr none ↦ absurd none ]

module _ (db : Database) (version : Version) (ready : IsReady version db) (database : IsDatabase db) (ids : List ℕ) (all : HasAll db ids) where
  abbrev t : Tables
  t = tables_of db

  abbrev laid : IsLaidOut db.schema
  laid = ready.0.0

  abbrev tables : HasTables db.trees ids
  tables = all.tables

  entries : HasEntries db.trees tables.there.owners
  entries = tables.there.entries

  tenants : AreConsistentTenants (db.trees 1)
  tenants = (good_is db laid database).0 entries.apart

  tokens : AreConsistentTokens (db.trees 1) (db.trees 3)
  tokens = (good_tokens_are db laid database entries.apart tables.there.owners entries.ids).0 entries.tokens

  networks : AreConsistentNetworks (db.trees 1) (db.trees 5)
  networks = (good_networks_are db laid database entries.apart tables.there.owners entries.ids).0 tables.there.apart

  peers : ArePeers (db.trees 8) × HaveStatuses (db.trees 8) × AreAmong (map (λ p. p.network) (map peer_in (db.trees 8))) ids
  peers = peers_are ids (db.trees 8) tables.peers

  allowed : AreAllowed (db.trees 10) × HaveKinds (db.trees 10) × AreAmong (map (λ a. a.network) (map allowed_in (db.trees 10))) ids
  allowed = allowed_are ids (db.trees 10) tables.allowed

  readers : AreConsistentReaders (db.trees 3) (rows_named db (codes "reader"))
  readers = good_are (db.trees 3) (rows_named db (codes "reader")) all.later.readers

  -- that of the third version has the tables which that has
  later_there : (v : Version) → IsOfVersion v db → t.meta ≡ third_version → HasLater db
  later_there One of third = absurd (other_version 1 refl (sym (meta_read One db of.1) ∙ third))
  later_there Two of third = absurd (other_version 2 refl (sym (meta_read Two db of.1) ∙ third))
  later_there Three of third = record {
    second = of.2.0;
    reader = of.2.1;
    seconds = subst AreSeconds (sym all.later.seconds) (none_written _ _ _);
    readers = readers.written;
  }

  pub register : IsRegister db
  register = record {
    others = laid.others;
    schema_is = laid.schema_is;
    apart = laid.apart;
    sound = database;
    written = record { meta = version_written version (db.trees 0) ready.0.1; tenants = tenants.written; tokens = tokens.written; networks = networks.written; peers = peers.0; allowed = allowed.0; statuses = peers.1; kinds = allowed.1 };
    later = later_there version ready.0;
  }

  has_id : (w : NetworkRow) → Has t.networks w → Has ids w.id
  has_id w here =
      let row = from_map network_in (db.trees 5) w here in
      has_permutation (map (λ r. number_at r 0) (db.trees 5)) ids w.id tables.there.ids.same
      (subst (Has (map (λ r. number_at r 0) (db.trees 5))) (ap (λ (x : NetworkRow). x.id) row.2) (has_map (λ (r : Row). number_at r 0) (db.trees 5) row.0 row.1))

  there : (owner : ℕ) → list_any (λ id. nat_eq owner id) ids ≡ true → IsThere t owner
  there owner among =
      let id = any_has (λ i. nat_eq owner i) ids among in
      let listed = has_permutation ids (map (λ r. number_at r 0) (db.trees 5)) id.0 (IsPermutation-sym (map (λ r. number_at r 0) (db.trees 5)) ids tables.there.ids.same) id.1 in
      let row = from_map (λ (r : Row). number_at r 0) (db.trees 5) id.0 listed in
      (network_in row.0, has_map network_in (db.trees 5) row.0 row.1, row.2 ∙ sym (nat_eq_is owner id.0 id.2))

  whole : AllByRecursion (StoresNetwork t) ids → AreWhole (as_third t)
  whole told = record {
    meta = refl;
    tenants = record { each = tenants.each; ids = tenants.ids; names = tenants.names; few = subst (λ n. n ≤ 65536) (sym (length-map (db.trees 1) tenant_in)) entries.few };
    tokens = record { each = tokens.each; digests = tokens.digests; owners = tokens.owners; few = tokens.few };
    networks = record {
      each = all_weaker HasGoodValues IsNamed (λ w is. record { id = is.id; name = is.name; host = is.host }) t.networks networks.each;
      ids = networks.ids;
      slots = networks.slots;
      endpoints = networks.endpoints;
      pools = networks.pools;
      owners = networks.owners;
      few = networks.few;
    };
    seconds = ap (map second_in) all.later.seconds;
    readers = record { digests = readers.apart; tokens = readers.among };
    stored = λ w here. let it = at_has (StoresNetwork t) ids w.id told (has_id w here) in (it.0, stored_third t w.id it.0 it.1);
    peers = λ p here. there p.network (at_has (λ owner. list_any (λ id. nat_eq owner id) ids ≡ true) (map (λ (x : PeerRow). x.network) t.peers) p.network peers.2 (has_map (λ (x : PeerRow). x.network) t.peers p here));
    allowed = λ a here. there a.network (at_has (λ owner. list_any (λ id. nat_eq owner id) ids ≡ true) (map (λ (x : AllowedRow). x.network) t.allowed) a.network allowed.2 (has_map (λ (x : AllowedRow). x.network) t.allowed a here));
  }

  pub is_sound : AllByRecursion (StoresNetwork t) ids → HasSoundRows db
  is_sound told = record { register = register; consistent = whole_is_consistent (as_third t) (whole told) }

-- the register that an open connection showed stands after a reading where it stood
pub stands_read : {S : Type 0} (g : Ghosts S) (old mid : Held S) → old.in_transaction ≡ false → mid.in_transaction ≡ false → IsTrue (state g old).is_open → IsRegister (state g old).now
    → (IsTrue (state g old).is_open → (state g old).now ≡ (state g old).committed) → ((trees : Trees) → IsTrue (state g old).is_open → (state g old).may_leave trees → trees ≡ (state g old).committed.trees)
    → IsKept (state g old) (state g mid) → Survives (state g old) (state g mid) (λ _. ⊥) → Stands g mid (state g old).now []
stands_read g old mid idle still live is settled law kept survives = stands_kept IsRegister Writes g old mid (state g old).now [] (stands_open IsRegister Writes g old idle live is settled law) kept still survives

-- a sound register of the third version is good, and a good one is sound
pub good_of : (db : Database) → IsOfVersion Three db → HasSoundRows db → IsGood db
good_of db of is = record { register = is.register; consistent = subst AreConsistent (sym (ap (λ m. record (tables_of db) { meta = m }) (meta_read Three db of.1))) is.consistent }

pub sound_of : (db : Database) → IsGood db → HasSoundRows db
sound_of db is = record { register = is.register; consistent = subst AreConsistent (ap (λ m. record (tables_of db) { meta = m }) is.consistent.rows.meta) is.consistent }
