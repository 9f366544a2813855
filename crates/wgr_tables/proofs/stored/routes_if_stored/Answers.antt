use Rattle.std.proofs.Common.{map, filter, nat_eq, ◌&&◌, sym, ap, ◌∙◌, subst, IsPermutation}
use Rattle.wgr_sql.proofs.ResultLemmas.{if_ok}
use Rattle.wgr_core.specs.Network.{NetworkValue}
use Rattle.wgr_model.specs.Rows.{route_row}
use Rattle.wgr_sql.specs.Faults.{IsStore}
use Rattle.wgr_columns.specs.Decode.{tables_of, allowed_in}
use Rattle.wgr_columns.specs.Stored.{stored_allowed}
use Rattle.wgr_tables.specs.Stored.{IsStored}
use Rattle.wgr_tables.proofs.ArrangeLemmas.{arranged_routes}
use Rattle.wgr_tables.proofs.ToldLemmas.{err_as, none_as, told_as}
use Rattle.sqlite.specs.Held.{state}
use Rattle.wgr_sql.specs.Causes.{HasCause}
use Rattle.wgr_sql.proofs.CauseLemmas.{handed}
use Rattle.wgr_tables.proofs.stored.routes_if_stored.Goals as goal

pub returns-clause-rows : goal.returns-clause-rows
returns-clause-rows g c db pending stood clean =
    let rows = c.in_ok-rows.ensures.listed db pending stood clean in
    told_as c.routes_of.result c.if_stored.result (λ routes. IsPermutation (filter (λ a. a.is_route && nat_eq a.network c.args.network) (tables_of db).allowed) (map (route_row c.args.network) routes.items))
    (if_ok c.routes_of.result _ _ (λ routes p. subst (IsPermutation (filter (λ a. a.is_route && nat_eq a.network c.args.network) (tables_of db).allowed)) (sym (p ∙ ap (map allowed_in) c.as_slice.ensures.value)) rows) c.routes_of.ensures.value)
    c.if_stored.ensures.some

pub returns-clause-none : goal.returns-clause-none
returns-clause-none g c db pending stood clean =
    let id = c.args.network in
    let t = tables_of db in
    none_as c.routes_of.result c.if_stored.result IsStore ((n : NetworkValue) → IsStored t id n → ⊥)
    (err_as c.routes_of.result _ _ (λ e only is n if_stored.
    let found = arranged_routes id n if_stored.rules (map allowed_in c.in_ok-rows.rows.items) (filter (λ a. a.is_route && nat_eq a.network id) t.allowed) if_stored.routes (c.in_ok-rows.ensures.listed db pending stood clean) in
    only is found.0 found.1 (c.as_slice.ensures.value ∙ c.in_ok-rows.ensures.stored db pending stood clean ∙ ap (map stored_allowed) found.2)) c.routes_of.ensures.only)
    c.if_stored.ensures.none

pub returns-in_err-rows-clause-cause : goal.returns-in_err-rows-clause-cause
returns-in_err-rows-clause-cause g c db pending stood = handed (HasCause (state g.S.Store c.args.conn.now) (state g.S.Store c.route_rows.new.conn)) c.from_residual.result c.in_err-rows.field-0.0 c.from_residual.ensures.1 (c.in_err-rows.ensures.cause db pending stood)
