-- Where a connection is after the tables were taken to the third version, or weren't.
use Rattle.std.proofs.Common.{◌≡◌, ℕ, true, false, IsTrue, IfErr, Ok, Err, Result, OnErr, is_ok, [], inl, inr, refl, sym, ap, subst, ◌∙◌, arith, true≢false}
use Rattle.sqlite.specs.Tree.{Trees}
use Rattle.sqlite.specs.Effect.{Database}
use Rattle.sqlite.specs.declared.error.Error.{Error}
use Rattle.sqlite.specs.Steps.{FailsToCommit}
use Rattle.sqlite.specs.State.{HasCleanDisk, IsRolledBack, KeepsCommit, Shows, State, Survives}
use Rattle.sqlite.specs.Store.{Ghosts}
use Rattle.sqlite.specs.Held.{Held, state}
use Rattle.sqlite.proofs.StateLemmas.{survives_then}
use Rattle.sqlite.proofs.Callers.{survives_begin}
use Rattle.wgr_sql.specs.Calls.{IsKept}
use Rattle.wgr_sql.specs.declared.fault.Fault.{Fault}
use Rattle.wgr_sql.proofs.StandingLemmas.{stands_open}
use Rattle.wgr_columns.specs.Decode.{IsRegister, tables_of}
use Rattle.wgr_tables.specs.Standing.{Stands}
use Rattle.wgr_tables.specs.Writes.{Writes}
use Rattle.wgr_schema.specs.Fresh.{Lays}
use Rattle.wgr_schema.specs.Versions.{IsOfVersion}
use Rattle.wgr_schema.specs.Upgrade.{Begins, IsUpgraded, LeavesUpgraded, MayUpgrade}
use Rattle.wgr_schema.specs.declared.version.Version.{Version}
use Rattle.wgr_schema.specs.declared.version.Version.TheVariants.{Three}
use Rattle.wgr_schema.proofs.VersionLemmas.{meta_read}

pub clean_before : {P : Trees → Type 0} (a b : State) → Survives a b P → HasCleanDisk b → HasCleanDisk a
clean_before a b s clean = omega (arith, s.clean, clean)

-- a register of the third version is one already
pub present : (from : Version) (db : Database) → from ≡ Three → MayUpgrade from db → IsUpgraded db db
present from db is may =
    let version = subst (λ v. IsOfVersion v db) is may.version in
    record { register = may.register; version = version; rows = ap (λ m. record (tables_of db) { meta = m }) (meta_read Three db version.1); others = λ name other. refl }

-- The connection is `old` at the call, `mid` after the steps, and `end` at the exit.
module _ {S : Type 0} (g : Ghosts S) (old mid end : Held S) where
  abbrev start : Held S
  start = record old { in_transaction = true }

  module _ (settled : IsTrue (state g old).is_open → (state g old).now ≡ (state g old).committed) where
    -- the transaction was rolled back
    pub undone_kept : (HasCleanDisk (state g end) → KeepsCommit (state g start) (state g mid)) → (HasCleanDisk (state g end) → IsRolledBack (state g mid) (state g end)) → IsKept (state g old) (state g end)
    undone_kept keeps back clean live =
        let undone = back clean in
        let kept = keeps clean in
        let open_mid = undone.was_open live in
        let open_old = kept.was_open open_mid in
        (open_old, (undone.undone live).0 ∙ kept.committed open_mid ∙ sym (settled open_old))

    -- the commit failed
    pub commit_kept : {X Y : Type 0} (r : Result X Error) (s : Result Y Fault) → is_ok s ≡ is_ok r → (HasCleanDisk (state g end) → KeepsCommit (state g start) (state g mid) × ((state g mid).in_transaction ≡ true))
        → (HasCleanDisk (state g end) → IfErr r (FailsToCommit (state g mid) (state g end))) → OnErr s (IsKept (state g old) (state g end))
    commit_kept (Ok x) (Ok y) same keeps fails = tt
    commit_kept (Ok x) (Err f) same keeps fails = absurd cc
    commit_kept (Err e) (Ok y) same keeps fails = tt
    commit_kept (Err e) (Err f) same keeps fails = undone_kept (λ clean. (keeps clean).0) (λ clean. rolled (fails clean) (keeps clean).1)
      where
        rolled : FailsToCommit (state g mid) (state g end) e → (state g mid).in_transaction ≡ true → IsRolledBack (state g mid) (state g end)
        rolled (inl failed) inside = failed.3
        rolled (inr late) inside = absurd (true≢false (sym inside ∙ late.1))

  module _ (from : Version) (older : from ≡ Three → ⊥) (x : ℕ) (step : HasCleanDisk (state g mid) → (db : Database) → Lays {E = Fault} (Begins from db) (IsUpgraded db) (state g start) (state g mid) (Ok x)) where
    -- the steps were made
    pub written : HasCleanDisk (state g mid) → MayUpgrade from (state g old).now → IsUpgraded (state g old).now (state g mid).now
    written clean may = (step clean (state g old).now refl (λ _. record { same = refl; may = may; older = older })).1.0

    -- and then the store was open
    open_written : HasCleanDisk (state g mid) → (IsTrue (state g old).is_open → MayUpgrade from (state g old).now) → IsTrue (state g old).is_open × IsUpgraded (state g old).now (state g mid).now
    open_written clean may =
        let it = (step clean (state g old).now refl (λ live. record { same = refl; may = may live; older = older })).1 in
        (it.1.was_open, it.0)

    -- a stop leaves what was there before, or all of it
    pub survives_written : Survives (state g start) (state g mid) (λ _. ⊥) → Survives (state g mid) (state g end) (λ trees. trees ≡ (state g mid).now.trees)
        → Survives (state g old) (state g end) (λ trees. (IsTrue (state g old).is_open → MayUpgrade from (state g old).now) → IsTrue (state g old).is_open × LeavesUpgraded (state g old).now trees)
    survives_written begun ended =
        survives_then (state g old) (state g mid) (state g end) (λ _. ⊥) (λ trees. trees ≡ (state g mid).now.trees) (λ trees. (IsTrue (state g old).is_open → MayUpgrade from (state g old).now) → IsTrue (state g old).is_open × LeavesUpgraded (state g old).now trees) (λ _ trees none. absurd none)
        (λ clean trees is may. let before : HasCleanDisk (state g mid) = omega (arith, ended.clean, clean) in let all = open_written before may in (all.0, ((state g mid).now, all.1, is))) (survives_begin g old (state g mid) (λ _. ⊥) begun) ended

  module _ (idle : end.in_transaction ≡ false) (shows : Shows (state g mid) (state g end) (state g mid).now (state g mid).now false) where
    pub stands_written : IsRegister (state g mid).now → ((trees : Trees) → IsTrue (state g end).is_open → (state g end).may_leave trees → trees ≡ (state g end).committed.trees) → Stands g end (state g end).now []
    stands_written register law = stands_open IsRegister Writes g end idle shows.is_open (subst IsRegister (sym shows.now_is) register) (λ _. shows.now_is ∙ sym shows.committed_is) law
