use Rattle.std.proofs.Common.{map, filter, nat_eq, not, ◌&&◌}
use Rattle.std.proofs.lemmas.List.Sorted.{IsPermutation-map, IsPermutation-trans}
use Rattle.wgr_columns.specs.Decode.{tables_of, allowed_in}
use Rattle.wgr_columns.specs.Stored.{stored_allowed}
use Rattle.wgr_tables.proofs.SortedRows.{sorted_stored}
use Rattle.sqlite.specs.Held.{state}
use Rattle.wgr_sql.specs.Causes.{HasCause}
use Rattle.wgr_sql.proofs.CauseLemmas.{handed}
use Rattle.wgr_tables.proofs.load.address_rows.Goals as goal

pub returns-clause-listed : goal.returns-clause-listed
returns-clause-listed g c db pending stood clean =
    IsPermutation-trans (filter (λ a. nat_eq a.network c.args.network && not a.is_route) (tables_of db).allowed) (map allowed_in c.in_ok-rows.rows.items) _
    (c.in_ok-rows.ensures.listed db pending stood clean) (IsPermutation-map allowed_in _ _ c.sort_by_peer.ensures.same)

pub returns-clause-stored : goal.returns-clause-stored
returns-clause-stored g c db pending stood clean = sorted_stored stored_allowed allowed_in _ _ c.sort_by_peer.ensures.same (c.in_ok-rows.ensures.stored db pending stood clean)

pub returns-in_err-rows-clause-cause : goal.returns-in_err-rows-clause-cause
returns-in_err-rows-clause-cause g c db pending stood = handed (HasCause (state g.S.Store c.args.conn.now) (state g.S.Store c.unsorted_addresses.new.conn)) c.from_residual.result c.in_err-rows.field-0.0 c.from_residual.ensures.1 (c.in_err-rows.ensures.cause db pending stood)
