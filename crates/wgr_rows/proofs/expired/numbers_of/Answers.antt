use Rattle.std.proofs.Common.{rules, IfNone, subst, sym}
use Rattle.std.specs.List.{All}
use Rattle.sqlite.specs.Order.{Row}
use Rattle.wgr_columns.specs.Fields.{IsPeerIdAt}
use Rattle.wgr_rows.proofs.expired.numbers_of.Goals as goal

pub returns-in_default-clause-only : goal.returns-in_default-clause-only
returns-in_default-clause-only c =
    let none : IsPeerIdAt c.row-item.result 0 c.args.network → ⊥ = subst (λ o. IfNone o (IsPeerIdAt c.row-item.result 0 c.args.network → ⊥)) c.in_default.is c.peer_number_at.ensures.none in
    let never : All (λ r. IsPeerIdAt r 0 c.args.network) c.args.rows.now → ⊥ = (λ all. none (subst (λ (r : Row). IsPeerIdAt r 0 c.args.network) (sym c.row-item.is) (all c.loop-row.row-index c.row-item.result c.loop-row-test.true))) in
    search (rules, never)
