-- A SELECT over one table that is found by its name, whatever it shows.
use Rattle.std.proofs.Common.{◌≡◌, ℕ, negsuc, pos, ◌==◌, ◌&&◌, List, true, false, [], ◌∷◌, length, map, Some, None, Ok, refl}
use Rattle.sqlite.specs.Command.TheVariants.{Select}
use Rattle.sqlite.specs.Schema.{Schema}
use Rattle.sqlite.specs.Table.{Table}
use Rattle.sqlite.specs.Term.{Term, lit}
use Rattle.sqlite.specs.declared.types.Value.TheVariants.{Int}
use Rattle.sqlite_value.specs.declared.keys.Key.{Key}
use Rattle.sqlite_ast.specs.declared.Core.{Core, out-Core}
use Rattle.sqlite_ast.specs.declared.Origin.TheVariants as origin
use Rattle.sqlite_ast.specs.declared.Select as written_select
use Rattle.sqlite_ast.specs.declared.Source.{Source, out-Source}
use Rattle.sqlite_draft.specs.declared.join.Step.TheVariants.{Inner}
use Rattle.sqlite_draft.specs.declared.query.Draft.{Draft}
use Rattle.sqlite_draft.specs.Join.{chain}
use Rattle.sqlite_typing.specs.Types.{accepts_after, is_count}
use Rattle.sqlite_resolve.specs.declared.state.State.{State}
use Rattle.sqlite_resolve.specs.declared.scope.Bound.{Bound}
use Rattle.sqlite_resolve.specs.declared.scope.Output.{Output}
use Rattle.sqlite_resolve.specs.Lowering.{fresh, max_budget}
use Rattle.sqlite_resolve.specs.Body as at_body
use Rattle.sqlite_resolve.specs.Expr.{lower}
use Rattle.sqlite_resolve.specs.Order as at_order
use Rattle.sqlite_resolve.specs.Program as at_program
use Rattle.sqlite_resolve.specs.Select.{assembled, inside, named, outermost, ungrouped}
use Rattle.sqlite_resolve.specs.Compile.{read}
use Rattle.wgr_sql.specs.Effects.{plain_query}
use Rattle.wgr_sql.specs.Named.{Holds}
use Rattle.wgr_sql.proofs.Comparisons.{accepts_is, program_is, slots_of}
use Rattle.wgr_sql.proofs.NamedColumns.{bound_as, level_as, over}
use Rattle.wgr_sql.proofs.NamedSelects.{body_is, bounds_are, named_is, no_limit, parts_are, query_is, read_is}

-- a SELECT of columns from this table, with no more than WHERE and ORDER BY
pub record IsSimple (name : List ℕ) (q : written_select.Select) (core : Core) (src : Source) : Type 0 where
  pub first : (written_select.out-Select q).first ≡ core
  pub with : (written_select.out-Select q).with ≡ []
  pub others : (written_select.out-Select q).others ≡ []
  pub limit : (written_select.out-Select q).limit ≡ None
  pub offset : (written_select.out-Select q).offset ≡ None
  pub from : (out-Core core).from ≡ src ∷ []
  pub group : (out-Core core).group ≡ []
  pub having : (out-Core core).having ≡ None
  pub distinct : (out-Core core).distinct ≡ false
  pub table_is : (out-Source src).origin ≡ origin.Table name
  pub alias : (out-Source src).alias ≡ None
  pub using : (out-Source src).using ≡ []
  pub inner : (out-Source src).is_left ≡ false
  pub on : (out-Source src).on ≡ None

abbrev pub start : State
start = record (fresh 1 max_budget) { next = 2 }

module _ (schema : Schema) (name : List ℕ) (at : ℕ) (table : Table) (h : Holds schema name at table) (q : written_select.Select) (core : Core) (src : Source) (simple : IsSimple name q core src) where
  abbrev pub tables : List Bound
  tables = bound_as schema name at table h name ∷ []

  module _ (shown : List Output) (terms : List Term) (order : List (Term × Key)) (s1 s2 s3 : State) where
    abbrev pub draft_as : Draft
    draft_as = record { from = chain (Inner table.tree ∷ []); filter = terms; group = None; project = map (λ (o : Output). o.term) shown; distinct = false; collations = []; order = order; limit = lit (Int (negsuc 0)); offset = lit (Int (pos 0)) }

    pub simple_read : at_body.outputs lower (over schema name at table h name [] true) tables (out-Core core).shown start ≡ Ok (shown, s1)
        → at_body.matching lower (outermost schema) (level_as schema name at table h name shown) core s1 ≡ Ok (record { steps = Inner table.tree ∷ []; filter = terms }, s2)
        → (length s2.aggregates == 0) ≡ true → (length s2.steps == 0) ≡ true → (length s3.steps == 0) ≡ true
        → at_order.sorts lower (inside schema (level_as schema name at table h name shown) false) shown (written_select.out-Select q).order s2 ≡ Ok (order, s3)
        → (let p = plain_query table.tree terms (map (λ (o : Output). o.term) shown) order in
        (accepts_after [] p (Some (slots_of schema name at table h)) && (is_count [] p.limit && is_count [] p.offset)) ≡ true)
        → s3.steps ≡ [] → read schema q ≡ Ok (Select (record { lets = []; body = plain_query table.tree terms (map (λ (o : Output). o.term) shown) order }) (map (λ (o : Output). o.name) shown))
    unfolding assembled ungrouped
    simple_read outputs matching none few few' sorted typed stepless =
        let bounds = bounds_are schema name at table h src simple.table_is simple.alias simple.using (fresh 1 max_budget) refl in
        let body = body_is schema name at table h core src (fresh 1 max_budget) start s1 s2 shown (record { steps = Inner table.tree ∷ []; filter = terms }) simple.from bounds outputs matching in
        let clauses = parts_are schema core (written_select.out-Select q).order _ s2 s3 order body none simple.group simple.having sorted in
        let all : at_program.Shown = (draft_as, map (λ (o : Output). o.name) shown, map (λ (o : Output). o.carried.collation) shown) in
        let is_named : named schema core (written_select.out-Select q).order no_limit ≡ Ok all = named_is schema core (written_select.out-Select q).order no_limit _ s3 draft_as clauses (rw (simple.distinct, stepless)) in
        read_is schema q all (record { lets = []; body = plain_query table.tree terms (map (λ (o : Output). o.term) shown) order })
        (query_is schema q src name all simple.with simple.others simple.limit simple.offset (rw simple.first simple.from) simple.table_is (rw simple.first is_named))
        (program_is schema draft_as (accepts_is schema name at table h terms (map (λ (o : Output). o.term) shown) order [] typed))
