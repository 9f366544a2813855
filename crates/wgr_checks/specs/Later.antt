-- The tables that are found by their names.
use Rattle.std.specs.Prelude.{IsTrue}
use Rattle.sqlite.specs.Effect.{Database}
use Rattle.sqlite.specs.State.{State}
use Rattle.wgr_columns.specs.LaidOut.{IsLaidOut}
use Rattle.wgr_columns.specs.Layout.{HasReader, HasSecond}

-- the database has the table, if the store is open
abbrev pub MayShowSeconds : State → Type 0
MayShowSeconds s = IsTrue s.is_open → HasSecond s.now.schema

-- the database has the register's tables, and that of tokens that only read
abbrev pub HasReadersToo : Database → Type 0
HasReadersToo db = IsLaidOut db.schema × HasReader db.schema

abbrev pub MayShowReaders : State → Type 0
MayShowReaders s = IsTrue s.is_open → HasReadersToo s.now
