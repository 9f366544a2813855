use Rattle.sqlite.specs.Held.{state}
use Rattle.wgr_sql.proofs.ResultLemmas.{if_ok, if_some, if_none}
use Rattle.wgr_checks.proofs.NetworkLemmas.{good_there, good_back, ids_are, ids_sorted}
use Rattle.wgr_sql.specs.Causes.{HasCause}
use Rattle.wgr_sql.proofs.CauseLemmas.{handed}
use Rattle.wgr_checks.proofs.CauseLemmas.{all_of_memory}
use Rattle.wgr_checks.proofs.networks.read_networks.Goals as goal

pub returns-clause-some : goal.returns-clause-some
returns-clause-some g c clean laid =
    let table = (state g.S.Store c.args.conn.now).now.trees 5 in
    let rows = c.in_ok-rows.rows.items in
    let listed = c.in_ok-rows.ensures.listed clean laid in
    if_ok c.good_ids.result _ _ (λ found. if_some found _ _ (λ ids some. (listed.0, good_there table rows listed.1 c.args.tenants.now some.0, ids_are table rows listed.1 c.args.tenants.now some.0 ids.items some.1)))
    (rw c.as_slice.ensures.value at c.good_ids.ensures.some)

pub returns-clause-none : goal.returns-clause-none
returns-clause-none g c clean laid rise =
    let table = (state g.S.Store c.args.conn.now).now.trees 5 in
    let rows = c.in_ok-rows.rows.items in
    let listed = c.in_ok-rows.ensures.listed clean laid in
    if_ok c.good_ids.result _ _ (λ found. if_none found _ _ (λ none. (listed.0, λ good. let back = good_back table rows listed.1 c.args.tenants.now good in none rise (ids_sorted table rows listed.1 c.args.tenants.now back) back)))
    (rw c.as_slice.ensures.value at c.good_ids.ensures.none)

pub returns-in_err-rows-clause-cause : goal.returns-in_err-rows-clause-cause
returns-in_err-rows-clause-cause g c laid =
    handed (HasCause (state g.S.Store c.args.conn.now) (state g.S.Store c.rows_by_id.new.conn)) c.from_residual.result c.in_err-rows.field-0.0 c.from_residual.ensures.1 (c.in_err-rows.ensures.cause laid)

pub returns-clause-cause : goal.returns-clause-cause
returns-clause-cause g c laid = all_of_memory (state g.S.Store c.args.conn.now) (state g.S.Store c.rows_by_id.new.conn) c.good_ids.result c.good_ids.ensures.memory
