-- What a query for holding rows leaves, where the register stands.
use Rattle.std.proofs.Common.{◌≡◌, ℕ, pos, List, [], ◌∷◌, Err, false, ◌⊎◌, inl, inr, sym, subst, ◌∙◌, arith}
use Rattle.std.specs.Prelude.{Bool, ◌≤◌, ◌-◌, IfOk, MatchOption, None, Option, Result, Some, if◌then◌else◌, nat_lt, true}
use Rattle.wgr_pool.specs.Pool.{IsPool}
use Rattle.wgr_pool.specs.Spans.{IsFull, IsLowestFree}
use Rattle.sqlite.specs.declared.error.Error.{Error}
use Rattle.sqlite.specs.declared.types.Value.TheVariants.{Int, Blob}
use Rattle.sqlite.specs.Order.{Row}
use Rattle.sqlite.specs.Effect.{Database}
use Rattle.sqlite.specs.Given.{HasBegun}
use Rattle.sqlite.specs.Held.{Held, state}
use Rattle.sqlite.specs.State.{State, HasCleanDisk, CommitsShowing, FailsToQuery, IsUnchanged, Survives}
use Rattle.sqlite.specs.Store.{Ghosts}
use Rattle.wgr_sql.proofs.QueryLemmas.{fails_same, query_open}
use Rattle.wgr_sql.proofs.StandingLemmas.{plain_at, stands_kept}
use Rattle.wgr_text.specs.Prefix.{AddrValue, PrefixValue, IsEndsOf, rank}
use Rattle.wgr_core.specs.Network.{NetworkValue}
use Rattle.wgr_outline.specs.Outline.{IsFloor}
use Rattle.wgr_outline.proofs.FloorLemmas.{from_pool}
use Rattle.wgr_model.specs.Laws.{Has}
use Rattle.wgr_model.specs.RowLaws.{AreConsistent}
use Rattle.wgr_model.specs.Rows.{AreKeyed, NetworkRow, family_number}
use Rattle.wgr_columns.specs.Layout.{schema_with}
use Rattle.wgr_columns.specs.Decode.{IsRegister, bytes_of, tables_of}
use Rattle.wgr_tables.specs.Writes.{Written, Writes}
use Rattle.wgr_tables.specs.Standing.{OnlyReads, Stands}
use Rattle.wgr_rows.specs.HeldRows.{below, coming, hold_params, holds_text, last_number}
use Rattle.wgr_rows.specs.Staying.{IsQuiet, Stays}
use Rattle.wgr_rows.specs.Stopping.{HavePool, IsSound}
use Rattle.wgr_rows.specs.Telling.{ShowsGoodRows, begin_of}
use Rattle.wgr_rows.proofs.Meaning.{holds_ask}
use Rattle.wgr_rows.proofs.SelectLemmas.{begun, commits_nothing}

pub params_are : (network : ℕ) (p : PrefixValue) (start : ℕ) (lo hi : AddrValue) → IsEndsOf p lo hi
    → Int (pos network) ∷ Int (pos (family_number lo.family)) ∷ Blob (bytes_of start) ∷ Blob (bytes_of hi.number) ∷ Int (pos p.length) ∷ [] ≡ hold_params network p start
params_are network p start lo hi ends =
    let last : hi.number ≡ last_number p = let e = ends.last in omega (arith, e) in
    λ k. Int (pos network) ∷ Int (pos (family_number (ends.first k).family)) ∷ Blob (bytes_of start) ∷ Blob (bytes_of (last k)) ∷ Int (pos p.length) ∷ []

module _ {S : Type 0} (g : Ghosts S) (old : Held S) (db : Database) (pending : List Written) (stood : Stands g old db pending) where
  -- a query that doesn't begin
  failed_stands : (shows_peers : Bool) (new : Held S) (params : Row) (quiet : IsQuiet (state g old)) → Survives (state g old) (state g new) (CommitsShowing (holds_text shows_peers) params (state g old)) → new.in_transaction ≡ false
      → (HasCleanDisk (state g new) → (e : Error) × FailsToQuery (holds_text shows_peers) params (state g old) (state g new) e) → Stands g new db pending
  failed_stands shows_peers new params quiet survives idle failed =
      stands_kept IsRegister Writes g old new db pending stood (λ clean live.
      let f = failed clean in
      let before : HasCleanDisk (state g old) = omega (arith, survives.clean, clean) in
      let text = holds_text shows_peers in
      let was = query_open text params (state g old) (state g new) (λ (rows : List Row). rows) (Err f.0) tt (inl f.1) live in
      let plain = plain_at IsRegister Writes g old db pending (schema_with stood.sound.others) text stood.sound.schema_is stood before was (holds_ask stood.sound.others shows_peers).means.plain in
      (was, fails_same text params (state g old) (state g new) plain quiet f.0 f.1 live)) idle (commits_nothing shows_peers params (state g old) (state g new) survives)

  -- what stays stands
  pub stays_stands : (new : Held S) → IsQuiet (state g old) → Stays g old new → Stands g new db pending
  stays_stands new quiet stays = stands_kept IsRegister Writes g old new db pending stood (λ clean live. let it = stays.2 quiet clean live in (it.0, it.1)) (stays.0 stood.idle) stays.1

  -- and shows good rows
  pub stands_good : AreKeyed (tables_of db) → HasCleanDisk (state g old) → ShowsGoodRows (state g old)
  stands_good keyed clean = (clean, λ live. subst (λ (d : Database). IsRegister d × AreKeyed (tables_of d)) (sym (stood.shows clean live)) (stood.sound, keyed))

module _ {S : Type 0} (g : Ghosts S) (old : Held S) where
  -- a query that doesn't begin only reads
  pub failed_reads : (shows_peers : Bool) (new : Held S) (params : Row) (quiet : IsQuiet (state g old)) → Survives (state g old) (state g new) (CommitsShowing (holds_text shows_peers) params (state g old)) → new.in_transaction ≡ false
      → (HasCleanDisk (state g new) → (e : Error) × FailsToQuery (holds_text shows_peers) params (state g old) (state g new) e) → OnlyReads g old new
  failed_reads shows_peers new params quiet survives idle failed = record {
    idle = idle;
    clean = λ clean. omega (arith, survives.clean, clean);
    stands = λ db pending stood. failed_stands g old db pending stood shows_peers new params quiet survives idle failed;
    survives = commits_nothing shows_peers params (state g old) (state g new) survives;
  }

  -- what stays only reads
  pub stays_reads : (new : Held S) → old.in_transaction ≡ false → IsQuiet (state g old) → Stays g old new → OnlyReads g old new
  stays_reads new idle quiet stays = record {
    idle = stays.0 idle;
    clean = λ clean. let survives = stays.1 in omega (arith, survives.clean, clean);
    stands = λ db pending stood. stays_stands g old db pending stood new quiet stays;
    survives = stays.1;
  }

-- a query that begins
pub begun_stays : {S : Type 0} (g : Ghosts S) (shows_peers : Bool) (text : List ℕ) → text ≡ holds_text shows_peers → (old new : Held S) (params : Row) → (old.in_transaction ≡ false → new.in_transaction ≡ false) → Survives (state g old) (state g new) (CommitsShowing text params (state g old))
    → (HasCleanDisk (state g new) → HasBegun g text params old new) → Stays g old new
begun_stays g shows_peers text is old new params mode survives started = (
  mode,
  commits_nothing shows_peers params (state g old) (state g new) (subst (λ t. Survives (state g old) (state g new) (CommitsShowing t params (state g old))) is survives),
  (λ quiet clean live. let it = (begun shows_peers g params old new (subst (λ t. HasBegun g t params old new) is (started clean))).1.0 in (it.was_open, it.now_is, it.committed_is)),
)

-- what was found by the rows that the connection shows was found by those of the register
pub found_in : {E : Type 0} (shows_peers : Bool) (pool : PrefixValue) (start : AddrValue) (expired : ℕ → Bool) (shown db : Database) (network : ℕ) (r : Result (Option AddrValue) E) → shown ≡ db
    → IfOk r (λ found. MatchOption found (IsFull pool (coming shows_peers expired (tables_of shown) network pool start)) (IsLowestFree pool (coming shows_peers expired (tables_of shown) network pool start)))
    → IfOk r (λ found. MatchOption found (IsFull pool (coming shows_peers expired (tables_of db) network pool start)) (IsLowestFree pool (coming shows_peers expired (tables_of db) network pool start)))
found_in shows_peers pool start expired shown db network r is =
    subst (λ (d : Database). IfOk r (λ found. MatchOption found (IsFull pool (coming shows_peers expired (tables_of d) network pool start)) (IsLowestFree pool (coming shows_peers expired (tables_of d) network pool start)))) is

-- the floor of a network, or its pool's first address
pub floor_from : (n : NetworkValue) → IsPool n.pool → (start floor : ℕ) → (start ≡ n.pool.address.number) ⊎ (start ≡ floor) → IsFloor n floor → IsFloor n start
floor_from n is start floor one known = elim one [
  | inl first ↦ subst (IsFloor n) (sym first) (from_pool n is)
  | inr same ↦ subst (IsFloor n) (sym same) known
]

-- where the register stands, the rows are sound
pub stands_sound : {S : Type 0} (g : Ghosts S) (old : Held S) (db : Database) (pending : List Written) → Stands g old db pending → (network : ℕ) (pool : PrefixValue) (w : NetworkRow) → AreConsistent (tables_of db) → Has (tables_of db).networks w → w.id ≡ network → w.pool ≡ pool → IsQuiet (state g old)
    → HasCleanDisk (state g old) → IsSound network pool (state g old)
stands_sound g old db pending stood network pool w is here id same quiet clean = (
  quiet,
  (λ live. subst (λ (d : Database). IsRegister d × HavePool (tables_of d) network pool) (sym (stood.shows clean live)) (stood.sound, record { consistent = is; row = w; there = here; id_is = id; pool_is = same })),
)

-- and stay so where nothing changed
pub shown_sound : (network : ℕ) (pool : PrefixValue) (old new : State) → IsUnchanged old new → IsSound network pool old → IsSound network pool new
shown_sound network pool old new same sound = (
  (λ live. same.0.now_is ∙ sound.0 same.0.was_open ∙ sym same.0.committed_is),
  (λ live. subst (λ (d : Database). IsRegister d × HavePool (tables_of d) network pool) (sym same.0.now_is) (sound.1 same.0.was_open)),
)

-- what is held below the start begins at the pool's first address
pub below_begins : (pool : PrefixValue) (start : AddrValue) → begin_of (below pool start) ≤ rank pool.address
below_begins pool start = go (nat_lt pool.address.number start.number)
  where
    go : (some : Bool) → begin_of (if some then Some (record { lo = pool.address; hi = record start { number = start.number - 1 } }) else None) ≤ rank pool.address
    go true = omega arith
    go false = omega arith
