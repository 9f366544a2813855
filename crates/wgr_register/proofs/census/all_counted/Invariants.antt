use Rattle.std.proofs.Common.{◌≡◌, ◌++◌, List, map}
use Rattle.sqlite.specs.Effect.{Database}
use Rattle.sqlite.specs.State.{HasCleanDisk}
use Rattle.sqlite.specs.Held.{state}
use Rattle.wgr_columns.specs.Decode.{tables_of}
use Rattle.wgr_tables.specs.Standing.{OnlyReads, Stands}
use Rattle.wgr_tables.specs.Writes.{Written}
use Rattle.wgr_register.specs.Census.{with_counts}
use Rattle.wgr_register.proofs.census.all_counted.Given as goal

-- those that were counted, and those that are left
abbrev pub invariant-loop-network_entry : goal.invariant-loop-network_entry
invariant-loop-network_entry g l = record {
  reads : OnlyReads g.S.Store l.initial.conn l.conn;
  counted : (db : Database) (pending : List Written) → Stands g.S.Store l.initial.conn db pending → HasCleanDisk (state g.S.Store l.conn)
      → map (with_counts (tables_of db)) l.fn.network_entries.items ≡ l.networks.items ++ map (with_counts (tables_of db)) l.network_entry-iterator.rest.items;
}
