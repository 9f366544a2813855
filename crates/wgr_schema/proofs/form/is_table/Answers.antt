use Rattle.std.proofs.Common.{rules, ◌≡◌, map, refl, ap}
use Rattle.sqlite_value.specs.Keys.{plain}
use Rattle.sqlite.specs.Table.{Table}
use Rattle.wgr_schema.specs.Forms.{column_as}
use Rattle.wgr_schema.proofs.FormLemmas.{table_is, head_of, bare_of, orders_of}
use Rattle.wgr_schema.proofs.form.is_table.Goals as goal

pub returns-clause-is : goal.returns-clause-is
returns-clause-is c so =
    let columns : c.args.table.now.columns ≡ map column_as c.args.form.now.columns.now = search rules in
    let uniques : c.args.table.now.uniques ≡ map (λ p. p.now) c.args.form.now.uniques.now = search rules in
    let orders : c.args.table.now.orders ≡ map (λ _. plain) c.args.form.now.uniques.now = search rules in
    table_is c.args.table.now c.args.form.now (c.if-not-is_head.ensures.is refl) (c.if-not-is_bare.ensures.is refl) (c.if-not-is_timeless.ensures.is refl) columns uniques orders

pub returns-then-not-is_head-clause-only : goal.returns-then-not-is_head-clause-only
returns-then-not-is_head-clause-only c e = c.if-not-is_head.ensures.only (head_of c.args.table.now c.args.form.now e)

pub returns-then-not-is_bare-clause-only : goal.returns-then-not-is_bare-clause-only
returns-then-not-is_bare-clause-only c e = c.if-not-is_bare.ensures.only (bare_of c.args.table.now c.args.form.now e)

pub returns-then-not-is_timeless-clause-only : goal.returns-then-not-is_timeless-clause-only
returns-then-not-is_timeless-clause-only c e = c.if-not-is_timeless.ensures.only (ap (λ (x : Table). x.stamps) e)

pub returns-clause-only : goal.returns-clause-only
returns-clause-only c e = let h = orders_of c.args.table.now c.args.form.now e in search (rules, h)
