use Rattle.std.proofs.Common.{map, ap, sym, ◌∙◌}
use Rattle.wgr_sql.proofs.ResultLemmas.{if_ok}
use Rattle.wgr_model.proofs.GatherLemmas.{map_map}
use Rattle.wgr_columns.specs.Decode.{network_in, tables_of}
use Rattle.wgr_entries.specs.Lookups.{settled}
use Rattle.wgr_register.specs.Listing.{by_name}
use Rattle.wgr_register.proofs.ListLemmas.{networks_added}
use Rattle.sqlite.specs.Held.{state}
use Rattle.wgr_sql.specs.Causes.{HasCause}
use Rattle.wgr_sql.proofs.CauseLemmas.{handed, never_stores}
use Rattle.wgr_register.proofs.CauseLemmas.{rows_kept}
use Rattle.wgr_register.proofs.list.added_networks.Goals as goal

pub returns-clause-listed : goal.returns-clause-listed
returns-clause-listed g c db pending stood good clean =
    let shows = c.in_ok-rows.ensures.listed db pending stood clean in
    let rows = c.in_ok-rows.rows.items in
    if_ok c.entries_in.result _ _ (λ networks is. is ∙ ap by_name (sym (map_map network_in settled rows)) ∙ networks_added (tables_of db) good c.args.tenant (map network_in rows) shows) (rw c.as_slice.ensures.value at c.entries_in.ensures.entries)

pub returns-in_err-rows-clause-cause : goal.returns-in_err-rows-clause-cause
returns-in_err-rows-clause-cause g c db pending stood good = handed (HasCause (state g.S.Store c.args.conn.now) (state g.S.Store c.networks_of_tenant.new.conn)) c.from_residual.result c.in_err-rows.field-0.0 c.from_residual.ensures.1 (c.in_err-rows.ensures.cause db pending stood)

pub returns-clause-cause : goal.returns-clause-cause
returns-clause-cause g c db pending stood good = never_stores _ (state g.S.Store c.args.conn.now) (state g.S.Store c.networks_of_tenant.new.conn) c.entries_in.result (rw c.as_slice.ensures.value at c.entries_in.ensures.only)
    (λ clean only. only (rows_kept (tables_of db) good c.args.tenant c.in_ok-rows.rows.items (c.in_ok-rows.ensures.listed db pending stood clean) (c.in_ok-rows.ensures.stored db pending stood clean)))
