-- What a text compiles to, and what follows for those who run it.
use Rattle.std.proofs.Common.{◌≡◌, ◌≤◌, ℕ, ◌+◌, List, true, false, [], length, Option, Some, None, Ok, Err, refl, sym, ap, subst, ◌∙◌}
use Rattle.std.specs.Prelude.{is_ok, is_some, slice_range}
use Rattle.sqlite.specs.Schema.{Schema}
use Rattle.sqlite.specs.Order.{Row}
use Rattle.sqlite.specs.Command.{Command}
use Rattle.sqlite.specs.Calls.{IsWrite}
use Rattle.sqlite.specs.Listing.{understood, reads_listing}
use Rattle.sqlite.specs.State.{shows_rows}
use Rattle.sqlite.proofs.Callers.{IsPlain, command_of, statement_of}
use Rattle.sqlite_syntax.specs.declared.statement.Parsed.{Parsed}
use Rattle.sqlite_resolve.specs.declared.compiled.Compiled.{Compiled}
use Rattle.sqlite_resolve.specs.Lowering.{Checked}
use Rattle.sqlite_resolve.specs.Compile.{compiled, planned, meaning, first, timed, returning, command, with_command, small, read}
use Rattle.sqlite_ast.specs.declared.Select.{Select as Query}
use Rattle.sqlite_ast.specs.declared.Statement.TheVariants as written
use Rattle.wgr_sql.specs.Causes.{IsOneStatement, IsWriting, WritesPlainly}

-- the statement that a text has
unfoldable pub got : (r : Checked Parsed) → is_ok r ≡ true → Parsed
got (Ok p) h = p
got (Err e) h = absurd cc

-- what an option has
unfoldable pub held : {A : Type 0} (o : Option A) → is_some o ≡ true → A
held (Some a) h = a
held None h = absurd cc

abbrev pub compiled_as : Parsed → Command → Compiled
compiled_as p c = with_command p ([], (c, None))

-- a text with as many parameters means this command, and returns no rows
pub record Compiles (schema : Schema) (text : List ℕ) (c : Command) (count : ℕ) : Type 0 where
  pub parsed : Parsed
  pub is : compiled schema text ≡ Ok (compiled_as parsed c)
  pub whole : length text ≤ parsed.tail
  pub names : length parsed.names ≡ count
  pub text_is : slice_range text parsed.start parsed.end ≡ text

pub compiled_is : (schema : Schema) (text : List ℕ) (p : Parsed) (c : Command) → first text ≡ Ok p → timed schema p.formats p.statement ≡ [] → returning schema (small p.names + 0) p.statement ≡ Ok None
    → command schema p.formats (small p.names + 0) p.statement ≡ Ok c → compiled schema text ≡ Ok (compiled_as p c)
unfolding compiled planned meaning
compiled_is schema text p c read untimed quiet does = rw (read, untimed, quiet, does)

-- a query
pub select_is : (schema : Schema) (text : List ℕ) (p : Parsed) (q : Query) (c : Command) → first text ≡ Ok p → p.statement ≡ written.Select q → p.formats ≡ [] → read schema q ≡ Ok c → compiled schema text ≡ Ok (compiled_as p c)
unfolding compiled planned meaning timed returning command
select_is schema text p q c is select untimed does = rw (is, select, untimed, does)

module _ (schema : Schema) (text : List ℕ) (c : Command) (count : ℕ) (h : Compiles schema text c count) where
  pub unlisted : reads_listing schema text ≡ false
  unlisted = rw h.is

  pub understood_is : understood schema text ≡ Ok (compiled_as h.parsed c)
  unfolding understood
  understood_is = rw h.is

  pub command_is : command_of (understood schema text) ≡ c
  command_is = ap command_of understood_is

  pub plain : IsPlain (understood schema text)
  plain = subst IsPlain (sym understood_is) (refl, refl)

  pub statement_is : statement_of text (understood schema text) ≡ text
  statement_is = ap (statement_of text) understood_is ∙ h.text_is

  pub given : (params : Row) → length params ≡ count → IsOneStatement text params (understood schema text)
  given params many = subst (IsOneStatement text params) (sym understood_is) (refl, refl, h.whole, many ∙ sym h.names)

  pub writes : IsWrite c → shows_rows false (compiled_as h.parsed c) ≡ false → (params : Row) → length params ≡ count → IsWriting schema text params
  writes write hides params many = record { given = given params many; plain = subst WritesPlainly (sym understood_is) (write, hides) }
