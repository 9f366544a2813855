-- What rows tell, if they tell it.
use Rattle.std.proofs.Common.{◌≡◌, ◌<◌, ℕ, Result, Ok, Err, Option, IfErr, IfOk, IfSome, IfNone, IsErrAnd, refl, subst, arith}
use Rattle.wgr_pool.specs.Pool.{IsPool}
use Rattle.wgr_peers.specs.Host.{IsHost}
use Rattle.wgr_peers.specs.Limits.{IsCapacity, IsPort}
use Rattle.wgr_core.specs.Forms.{IsKey}
use Rattle.wgr_core.specs.Network.{NetworkValue}
use Rattle.wgr_model.specs.Rows.{Tables}
use Rattle.wgr_sql.proofs.ResultLemmas.{if_ok, if_some, if_none}
use Rattle.wgr_columns.specs.Stored.{AreSettings}
use Rattle.wgr_tables.specs.Stored.{IsStored}

pub told_as : {X E : Type 0} (read : Result X E) (r : Result (Option X) E) (P : X → Type 0) → IfOk read P → IfOk r (λ found. IfSome found (λ x. read ≡ Ok x)) → IfOk r (λ found. IfSome found P)
told_as read r P given told =
    if_ok r (λ found. IfSome found (λ x. read ≡ Ok x)) (λ found. IfSome found P) (λ found h. if_some found (λ x. read ≡ Ok x) P (λ x e. subst (λ o. IfOk o P) e given) h) told

pub err_as : {X E : Type 0} (r : Result X E) (P Q : E → Type 0) → ((e : E) → P e → Q e) → IfErr r P → IfErr r Q
err_as (Ok x) P Q f h = tt
err_as (Err e) P Q f h = f e h

-- what an error of this kind says
pub only_if : {X E : Type 0} (read : Result X E) (P : E → Type 0) (Q : Type 0) → IfErr read (λ e. P e → Q) → IsErrAnd read P → Q
only_if (Ok x) P Q only is = absurd is
only_if (Err e) P Q only is = only is

pub none_as : {X E : Type 0} (read : Result X E) (r : Result (Option X) E) (P : E → Type 0) (Q : Type 0) → IfErr read (λ e. P e → Q) → IfOk r (λ found. IfNone found (IsErrAnd read P)) → IfOk r (λ found. IfNone found Q)
none_as read r P Q only told = if_ok r (λ found. IfNone found (IsErrAnd read P)) (λ found. IfNone found Q) (λ found h. if_none found (IsErrAnd read P) Q (only_if read P Q only) h) told

-- the settings of a network that its rows tell are of their forms
pub told_settings : (t : Tables) (id : ℕ) (n : NetworkValue) (told : IsStored t id n) → AreSettings told.row
told_settings t id n told = record {
  pool = subst IsPool (λ k. (told.value k).pool) told.rules.pool;
  host = subst IsHost (λ k. (told.value k).host) told.host;
  port = subst IsPort (λ k. (told.value k).port) told.rules.port;
  server = subst IsKey (λ k. (told.value k).server) told.forms.0;
  capacity = subst IsCapacity (λ k. (told.value k).capacity) told.rules.capacity;
  next = subst (λ m. m < 4294967296) (λ k. (told.value k).next) (omega (arith, told.rules.next.1));
}
