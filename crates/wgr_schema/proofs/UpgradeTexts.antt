-- What the texts mean that take a register's tables to the third version.
use Rattle.std.proofs.Common.{◌≡◌, pos, List, [], ◌∷◌, codes, false, Ok, refl, arith}
use Rattle.sqlite.specs.declared.types.Value.TheVariants.{Null, Int}
use Rattle.sqlite.specs.Command.TheVariants.{CreateTable, Delete, Insert}
use Rattle.sqlite.specs.Compile.{table_defined_by}
use Rattle.sqlite.specs.Listing.{understood}
use Rattle.sqlite.specs.Schema.{Schema}
use Rattle.sqlite.specs.Source.TheVariants.{Values}
use Rattle.sqlite.specs.Term.{Term, col, lit}
use Rattle.sqlite_catalog.specs.Change.{is_used}
use Rattle.sqlite_tied.specs.Compute.{everything}
use Rattle.sqlite_resolve.specs.Compile.{first}
use Rattle.wgr_sql.specs.Causes.{IsWriting}
use Rattle.wgr_sql.specs.Effects.{plain_query}
use Rattle.wgr_sql.proofs.Compiles.{Compiles, compiled_is, got, held, writes}
use Rattle.wgr_sql.proofs.Creates.{create_is, makes_in}
use Rattle.wgr_columns.specs.Layout.{Others, reader_table_at, schema_with, second_table_at}
use Rattle.wgr_columns.proofs.Statements.{Means}
use Rattle.wgr_schema.specs.Upgrade.{clear_text, reader_text, say_text, second_text}

pub later_defined : (table_defined_by second_text ≡ Ok (second_table_at 0)) × (table_defined_by reader_text ≡ Ok (reader_table_at 0))
unfolding everything
later_defined = (refl, refl)

module _ (schema : Schema) where
  pub second_compiles : is_used schema (codes "second") ≡ false → Compiles schema second_text CreateTable 0
  unfolding everything got held
  second_compiles free =
      let p = got (first second_text) refl in
      record {
        parsed = p;
        is = compiled_is schema second_text p CreateTable refl refl refl (create_is schema [] (held (makes_in p.statement) refl) free refl (second_table_at 0) refl refl);
        whole = omega arith;
        names = refl;
        text_is = refl;
      }

  pub reader_compiles : is_used schema (codes "reader") ≡ false → Compiles schema reader_text CreateTable 0
  unfolding everything got held
  reader_compiles free =
      let p = got (first reader_text) refl in
      record {
        parsed = p;
        is = compiled_is schema reader_text p CreateTable refl refl refl (create_is schema [] (held (makes_in p.statement) refl) free refl (reader_table_at 0) refl refl);
        whole = omega arith;
        names = refl;
        text_is = refl;
      }

  pub second_writes : is_used schema (codes "second") ≡ false → IsWriting schema second_text []
  second_writes free = writes schema second_text CreateTable 0 (second_compiles free) tt refl [] refl

  pub reader_writes : is_used schema (codes "reader") ≡ false → IsWriting schema reader_text []
  reader_writes free = writes schema reader_text CreateTable 0 (reader_compiles free) tt refl [] refl

abbrev pub say_values : List Term
say_values = lit (Int (pos 3)) ∷ lit Null ∷ []

module _ (others : Others) where
  pub clear_means : Means others clear_text (Delete 0 (record { lets = []; body = plain_query 0 [] (col 1 0 ∷ []) [] }))
  unfolding understood everything
  clear_means = record { command_is = refl; plain = (refl, refl) }

  pub say_means : Means others say_text (Insert 0 (Values say_values 2))
  unfolding understood everything
  say_means = record { command_is = refl; plain = (refl, refl) }

  pub clear_writes : IsWriting (schema_with others) clear_text []
  unfolding understood everything
  clear_writes = record { given = (refl, refl, omega arith, refl); plain = (tt, refl) }

  pub say_writes : IsWriting (schema_with others) say_text []
  unfolding understood everything
  say_writes = record { given = (refl, refl, omega arith, refl); plain = (tt, refl) }
