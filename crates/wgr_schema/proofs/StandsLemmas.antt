-- Where a connection stands once a register was made.
use Rattle.std.proofs.Common.{◌≡◌, false, IsTrue, [], inl, ap, ◌∙◌}
use Rattle.sqlite.specs.Tree.{Trees}
use Rattle.sqlite.specs.Effect.{Database}
use Rattle.sqlite.specs.State.{Shows}
use Rattle.sqlite.specs.Store.{Ghosts}
use Rattle.sqlite.specs.Held.{Held, state}
use Rattle.wgr_tables.specs.Standing.{Stands}
use Rattle.wgr_schema.specs.Fresh.{IsFresh}

-- it was made, then committed; the law of the store says what a stop leaves
pub stands_fresh : {S : Type 0} (g : Ghosts S) (mid end : Held S) → end.in_transaction ≡ false → IsFresh (state g mid).now → Shows (state g mid) (state g end) (state g mid).now (state g mid).now false
    → ((trees : Trees) → IsTrue (state g end).is_open → (state g end).may_leave trees → trees ≡ (state g end).committed.trees) → (db : Database) × IsFresh db × Stands g end db []
stands_fresh g mid end idle fresh shows law = (
  (state g mid).now,
  fresh,
  record {
    idle = idle;
    sound = fresh.register;
    shows = λ _ live. shows.now_is;
    leaves = λ _ trees may. inl (law trees shows.is_open may ∙ ap (λ (d : Database). d.trees) shows.committed_is);
  },
)
