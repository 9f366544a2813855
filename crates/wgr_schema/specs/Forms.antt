-- What a form means.
use Rattle.std.specs.Prelude.{◌≡◌, false, [], map}
use Rattle.sqlite_schema.specs.declared.schema.Column.{Column}
use Rattle.sqlite.specs.Table.{Table}
use Rattle.wgr_columns.specs.Layout.{column_of, table_of}
use Rattle.wgr_schema.specs.declared.form.ColumnForm.{ColumnForm}
use Rattle.wgr_schema.specs.declared.form.TableForm.{TableForm}

abbrev pub column_as : ColumnForm → Column
column_as f = column_of f.0.now f.1 f.2

abbrev pub table_as : TableForm → Table
table_as f = table_of f.name.now f.tree f.key f.primary.now (map (λ p. p.now) f.uniques.now) (map column_as f.columns.now)

pub record IsTableHead (table : Table) (f : TableForm) : Type 0 where
  pub name : table.name ≡ f.name.now
  pub tree : table.tree ≡ f.tree
  pub key : table.key ≡ f.key
  pub primary : table.primary ≡ f.primary.now

pub record IsBare (table : Table) : Type 0 where
  pub checks : table.checks ≡ []
  pub references : table.references ≡ []
  pub computed : table.computed ≡ []
  pub uncounted : table.is_counted ≡ false
