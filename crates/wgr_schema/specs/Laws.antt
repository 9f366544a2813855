-- What follows from the definitions.
use Rattle.std.specs.Prelude.{◌≡◌, ◌↔◌}
use Rattle.sqlite.specs.Effect.{Database}
use Rattle.wgr_model.specs.Rows.{third_version}
use Rattle.wgr_model.specs.RowLaws.{AreConsistent}
use Rattle.wgr_columns.specs.Decode.{IsRegister, tables_of}
use Rattle.wgr_schema.specs.Fresh.{IsFresh}
use Rattle.wgr_schema.specs.Versions.{IsOfVersion}
use Rattle.wgr_schema.specs.declared.version.Version.TheVariants.{Three}

-- a register that was just made passes each test of an opening
abbrev pub FreshIsConsistent : Type 0
FreshIsConsistent = (db : Database) → IsFresh db → IsOfVersion Three db × AreConsistent (tables_of db)

-- the version that is required is the one that the rows of `wgr_model` have
abbrev pub VersionIsRead : Type 0
VersionIsRead = (db : Database) → IsRegister db → IsOfVersion Three db ↔ ((tables_of db).meta ≡ third_version)
