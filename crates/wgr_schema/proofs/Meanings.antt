-- What the texts that make a register mean, each where those before it were run.
use Rattle.std.proofs.Common.{◌≡◌, List, ℕ, pos, [], ◌∷◌, codes, Ok, refl, arith}
use Rattle.std.specs.Fmt.{digits}
use Rattle.sqlite.specs.Schema.{Schema}
use Rattle.sqlite_resolve.specs.Compile.{index_defined_by}
use Rattle.sqlite.specs.declared.types.Value.TheVariants.{Null, Int}
use Rattle.sqlite.specs.Term.{Term, lit}
use Rattle.sqlite.specs.Source.TheVariants.{Values}
use Rattle.sqlite.specs.Command.{Command}
use Rattle.sqlite.specs.Command.TheVariants.{Insert, CreateTable, CreateIndex}
use Rattle.sqlite_tied.specs.Compute.{everything}
use Rattle.sqlite.specs.Listing.{understood}
use Rattle.sqlite.proofs.Callers.{IsPlain, command_of, statement_of}
use Rattle.wgr_sql.specs.Causes.{IsWriting}
use Rattle.wgr_columns.specs.Layout.{schema_with, allowed_table_at, reader_table_at, second_table_at}
use Rattle.wgr_columns.specs.Texts.{meta_text, tenant_text, token_text, network_text, peer_text, allowed_text, allowed_peer_text}
use Rattle.wgr_schema.specs.Fresh.{later_tables, no_schema, meta_schema, tenant_schema, entries_schema, network_schema, peer_schema, tables_schema, whole_schema, second_schema, reader_schema, peer_index}
use Rattle.wgr_schema.specs.Upgrade.{reader_text, say_text, second_text}
use Rattle.wgr_schema.proofs.UpgradeTexts.{say_values}

-- a statement that begins no transaction and ends none, and is run as it is written
pub record Means (schema : Schema) (text : List ℕ) (command : Command) : Type 0 where
  pub command_is : command_of (understood schema text) ≡ command
  pub text_is : statement_of text (understood schema text) ≡ text
  pub plain : IsPlain (understood schema text)

pub meta_means : Means no_schema meta_text CreateTable
unfolding understood everything
meta_means = record { command_is = refl; text_is = refl; plain = (refl, refl) }

pub tenant_means : Means meta_schema tenant_text CreateTable
unfolding understood everything
tenant_means = record { command_is = refl; text_is = refl; plain = (refl, refl) }

pub token_means : Means tenant_schema token_text CreateTable
unfolding understood everything
token_means = record { command_is = refl; text_is = refl; plain = (refl, refl) }

pub network_means : Means entries_schema network_text CreateTable
unfolding understood everything
network_means = record { command_is = refl; text_is = refl; plain = (refl, refl) }

pub peer_means : Means network_schema peer_text CreateTable
unfolding understood everything
peer_means = record { command_is = refl; text_is = refl; plain = (refl, refl) }

pub allowed_means : Means peer_schema allowed_text CreateTable
unfolding understood everything
allowed_means = record { command_is = refl; text_is = refl; plain = (refl, refl) }

pub index_means : Means tables_schema allowed_peer_text (CreateIndex 5)
unfolding understood everything
index_means = record { command_is = refl; text_is = refl; plain = (refl, refl) }

pub index_defined : index_defined_by (allowed_table_at 10) allowed_peer_text ≡ Ok peer_index
unfolding everything
index_defined = refl

pub second_means : Means whole_schema second_text CreateTable
unfolding understood everything
second_means = record { command_is = refl; text_is = refl; plain = (refl, refl) }

pub reader_means : Means second_schema reader_text CreateTable
unfolding understood everything
reader_means = record { command_is = refl; text_is = refl; plain = (refl, refl) }

pub version_means : Means (schema_with later_tables) say_text (Insert 0 (Values say_values 2))
unfolding understood everything
version_means = record { command_is = refl; text_is = refl; plain = (refl, refl) }

-- the names of the keys' indexes have numbers in them
pub reader_is : reader_schema ≡ schema_with later_tables
unfolding digits
reader_is = refl

-- ---- each is one statement that writes

pub meta_writes : IsWriting no_schema meta_text []
unfolding understood everything
meta_writes = record { given = (refl, refl, omega arith, refl); plain = (tt, refl) }

pub tenant_writes : IsWriting meta_schema tenant_text []
unfolding understood everything
tenant_writes = record { given = (refl, refl, omega arith, refl); plain = (tt, refl) }

pub token_writes : IsWriting tenant_schema token_text []
unfolding understood everything
token_writes = record { given = (refl, refl, omega arith, refl); plain = (tt, refl) }

pub network_writes : IsWriting entries_schema network_text []
unfolding understood everything
network_writes = record { given = (refl, refl, omega arith, refl); plain = (tt, refl) }

pub peer_writes : IsWriting network_schema peer_text []
unfolding understood everything
peer_writes = record { given = (refl, refl, omega arith, refl); plain = (tt, refl) }

pub allowed_writes : IsWriting peer_schema allowed_text []
unfolding understood everything
allowed_writes = record { given = (refl, refl, omega arith, refl); plain = (tt, refl) }

pub index_writes : IsWriting tables_schema allowed_peer_text []
unfolding understood everything
index_writes = record { given = (refl, refl, omega arith, refl); plain = (tt, refl) }

pub second_writes : IsWriting whole_schema second_text []
unfolding understood everything
second_writes = record { given = (refl, refl, omega arith, refl); plain = (tt, refl) }

pub reader_writes : IsWriting second_schema reader_text []
unfolding understood everything
reader_writes = record { given = (refl, refl, omega arith, refl); plain = (tt, refl) }

pub version_writes : IsWriting (schema_with later_tables) say_text []
unfolding understood everything
version_writes = record { given = (refl, refl, omega arith, refl); plain = (tt, refl) }
