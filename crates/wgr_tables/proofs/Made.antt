-- What a statement makes of the rows.
use Rattle.sqlite.specs.Effect.{Database}
use Rattle.wgr_model.specs.Rows.{Tables}
use Rattle.wgr_sql.specs.Steps.{Makes}
use Rattle.wgr_columns.specs.Decode.{IsRegister, tables_of}

abbrev pub Made : (Tables → Tables → Type 0) → Database → Database → Type 0
Made P = Makes IsRegister tables_of P
