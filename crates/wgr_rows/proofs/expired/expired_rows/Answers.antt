use Rattle.std.proofs.Common.{map, ap, subst, sym, ◌∙◌}
use Rattle.std.specs.List.{All}
use Rattle.sqlite.specs.Held.{state}
use Rattle.sqlite.specs.Order.{Row}
use Rattle.wgr_model.specs.Rows.{peer_id}
use Rattle.wgr_sql.specs.Causes.{HasCause}
use Rattle.wgr_sql.proofs.CauseLemmas.{handed, never_stores}
use Rattle.wgr_sql.proofs.ResultLemmas.{if_ok}
use Rattle.wgr_columns.specs.Decode.{number_at, tables_of}
use Rattle.wgr_columns.specs.Fields.{IsPeerIdAt}
use Rattle.wgr_rows.specs.Owned.{ShowOwned, is_over}
use Rattle.wgr_rows.proofs.OwnedLemmas.{ids_there, numbers_are}
use Rattle.wgr_peers.proofs.TableLemmas.{none_expired}
use Rattle.wgr_tables.proofs.ReadLemmas.{reads_still}
use Rattle.wgr_rows.proofs.expired.expired_rows.Goals as goal

pub returns-clause-found : goal.returns-clause-found
returns-clause-found g c db pending w stood is here id clean ends =
    let rows = c.in_ok-rows.rows.items in
    let shows = subst (λ n. ShowOwned n (is_over c.args.now) (tables_of db) rows) (sym id) (c.in_ok-rows.ensures.listed db pending stood clean) in
    if_ok c.numbers_of.result _ _ (λ numbers read. numbers_are (tables_of db) is w here c.args.now rows numbers.items shows (c.in_ok-rows.ensures.rising db pending stood clean) (ap (λ n. map (peer_id n) numbers.items) id ∙ read ∙ ap (map (λ r. number_at r 0)) c.as_slice.ensures.value)) c.numbers_of.ensures.value

pub returns-in_err-rows-clause-cause : goal.returns-in_err-rows-clause-cause
returns-in_err-rows-clause-cause g c db pending w stood is here id = handed (HasCause (state g.S.Store c.args.conn.now) (state g.S.Store c.over_rows.new.conn)) c.from_residual.result c.in_err-rows.field-0.0 c.from_residual.ensures.1 (c.in_err-rows.ensures.cause db pending stood)

pub returns-clause-cause : goal.returns-clause-cause
returns-clause-cause g c db pending w stood is here id = never_stores _ (state g.S.Store c.args.conn.now) (state g.S.Store c.over_rows.new.conn) c.numbers_of.result c.numbers_of.ensures.only (λ clean never.
    let rows = c.in_ok-rows.rows.items in
    let shows = subst (λ n. ShowOwned n (is_over c.args.now) (tables_of db) rows) (sym id) (c.in_ok-rows.ensures.listed db pending stood clean) in
    never (subst (λ l. All (λ (r : Row). IsPeerIdAt r 0 c.args.network) l) (sym c.as_slice.ensures.value) (subst (λ n. All (λ (r : Row). IsPeerIdAt r 0 n) rows) id (ids_there (tables_of db) is w here c.args.now rows shows (c.in_ok-rows.ensures.numbers db pending stood clean)))))

pub returns-then-now-soonest-clause-found : goal.returns-then-now-soonest-clause-found
returns-then-now-soonest-clause-found g c db pending w stood is here id clean ends = c.new.ensures.items ∙ sym (none_expired c.args.soonest c.args.now _ c.if-now-soonest.true ends).0

pub returns-then-now-soonest-clause-reads : goal.returns-then-now-soonest-clause-reads
returns-then-now-soonest-clause-reads g c = reads_still g.S.Store c.args.conn.now c.requires.idle
