use Rattle.std.proofs.Common.{◌<◌, ℕ, List, slice_index_or}
use Rattle.sqlite.specs.Effect.{Database}
use Rattle.sqlite.specs.State.{HasCleanDisk}
use Rattle.sqlite.specs.Held.{state}
use Rattle.wgr_columns.specs.Decode.{tables_of}
use Rattle.wgr_tables.specs.Standing.{OnlyReads, Stands}
use Rattle.wgr_tables.specs.Writes.{Written}
use Rattle.wgr_opening.specs.Good.{StoresNetwork}
use Rattle.wgr_opening.specs.Outlines.{AreStoredOutlines, outline_in}
use Rattle.wgr_opening.proofs.stored.stored_outlines.Given as goal

abbrev pub invariant-loop-network : goal.invariant-loop-network
invariant-loop-network g l = record {
  reads : OnlyReads g.S.Store l.initial.conn l.conn;
  stored : (db : Database) (pending : List Written) → Stands g.S.Store l.initial.conn db pending → HasCleanDisk (state g.S.Store l.conn) → (k : ℕ) → k < l.network-index → StoresNetwork (tables_of db) (slice_index_or l.networks k 0);
  outlines : (db : Database) (pending : List Written) → Stands g.S.Store l.initial.conn db pending → HasCleanDisk (state g.S.Store l.conn) → AreStoredOutlines (outline_in l.outlines) (tables_of db);
}
